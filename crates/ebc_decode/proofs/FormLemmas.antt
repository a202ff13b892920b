-- Each lawful instruction is made of two bytes that are accepted, and of the fields that follow.
use Rattle.std.proofs.Common.{◌≡◌, ℕ, ◌+◌, ◌*◌, ◌/◌, ◌%◌, ◌^◌, ◌<◌, Bool, true, false, not, ◌&&◌, ◌||◌, if◌then◌else◌, nat_lt, nat_le, ◌==◌, Option, Some, None, refl, sym, ap, ◌∙◌, subst, arith}
use Rattle.std.proofs.lemmas.Bool.{and_from, true_from_ne_false}
use Rattle.mm_base.specs.declared.operation.CmpOp.{CmpOp}
use Rattle.ebc_decode.specs.declared.choices.BreakCode.{BreakCode}
use Rattle.ebc_decode.specs.declared.choices.BreakCode.TheVariants.{Runaway, Version, Breakpoint, SystemCall, Thunk, CompilerVersion}
use Rattle.ebc_decode.specs.declared.choices.Condition.{Condition}
use Rattle.ebc_decode.specs.declared.choices.Condition.TheVariants.{Always, CarryClear, CarrySet}
use Rattle.ebc_decode.specs.declared.choices.Special.{Special}
use Rattle.ebc_decode.specs.declared.choices.Special.TheVariants.{Flags, NextAddress}
use Rattle.ebc_decode.specs.declared.operand.Width.{Width}
use Rattle.ebc_decode.specs.declared.operand.Width.TheVariants.{Byte, Word, Double, Quad}
use Rattle.ebc_decode.specs.declared.operand.FieldWidth.{FieldWidth}
use Rattle.ebc_decode.specs.declared.operand.FieldWidth.TheVariants.{Bits16, Bits32, Bits64}
use Rattle.ebc_decode.specs.declared.operand.Field.{Field}
use Rattle.ebc_decode.specs.declared.operand.Place.{Place}
use Rattle.ebc_decode.specs.declared.operand.Operand.{Operand}
use Rattle.ebc_decode.specs.declared.operand.Target.{Target}
use Rattle.ebc_decode.specs.declared.operand.Target.TheVariants as targets
use Rattle.ebc_decode.specs.declared.ins.Ins.{Ins}
use Rattle.ebc_decode.specs.declared.ins.Ins.TheVariants as ins
use Rattle.ebc_decode.specs.declared.opcode.Opcode.{Opcode}
use Rattle.ebc_decode.specs.declared.opcode.Opcode.TheVariants as opcodes
use Rattle.ebc_decode.specs.Spelling.{bit, bytes_in, place_bits, is_conditional, wanted_carry, width_number, immediate_six, immediate_seven}
use Rattle.ebc_decode.specs.Lawful.{FitsIn, IsShort, IsTarget, IsField, IsJumpTarget, IsLawful}
use Rattle.ebc_decode.specs.ReadingInside.{opcode_number, IsListed, place_in, has_no_bits, has_jump_bits, is_break, may_index, accepts, break_with, condition_with, width_with, operand_with, width_if, widths, bytes_if, built}
use Rattle.ebc_decode.proofs.HeadLemmas.{with_fields, place_bits-place_in}

-- What an instruction is made of.
pub record Form (instruction : Ins) : Type 0 where
  pub opcode : Opcode
  pub six : Bool
  pub seven : Bool
  pub first : Place
  pub second : Place
  pub f : ℕ
  pub g : ℕ
  pub listed : IsListed opcode
  pub first_small : first.register < 8
  pub second_small : second.register < 8
  pub accepted : accepts opcode (with_fields (opcode_number opcode) six seven first second) ≡ true
  pub one : f < 256 ^ bytes_if (widths opcode (with_fields (opcode_number opcode) six seven first second)).first
  pub other : g < 256 ^ bytes_if (widths opcode (with_fields (opcode_number opcode) six seven first second)).second
  pub made : built opcode (with_fields (opcode_number opcode) six seven first second) f g ≡ instruction

-- four bits of which none is set, and three bits
abbrev zero_bits : Place
zero_bits = record { register = 0; indirect = false }

abbrev three : ℕ → Place
three register = record { register = register; indirect = false }

-- ---- operands

-- A field, as a bit that says whether it is there, and its number.
record Present (width : FieldWidth) (field : Option ℕ) : Type 0 where
  pub there : Bool
  pub raw : ℕ
  pub fits : raw < 256 ^ bytes_if (width_if there width)
  pub is : (if there then Some raw else None) ≡ field

present : (width : FieldWidth) (field : Option ℕ) → FitsIn (bytes_in width) field → Present width field
present width None h = record { there = false; raw = 0; fits = omega arith; is = refl }
present width (Some raw) h = record { there = true; raw = raw; fits = h; is = refl }

-- an operand 1 may have the index that it has
may : (there indirect : Bool) (raw : ℕ) (field : Option ℕ)
    → (if there then Some raw else None) ≡ field
    → (indirect ≡ false → field ≡ None)
    → (not there || indirect) ≡ true
may false indirect raw field e h = refl
may true indirect raw field e h = true_from_ne_false indirect (λ direct. let none = h direct in cc)

may_be : {n : ℕ} (width : FieldWidth) (operand : Operand) (field : Present width operand.field)
    → IsTarget n operand
    → may_index field.there operand.place ≡ true
may_be width operand field is = may field.there operand.place.indirect field.raw operand.field field.is is.indirect

-- ---- targets

record Aimed (target : Target) : Type 0 where
  pub six : Bool
  pub seven : Bool
  pub first : Place
  pub raw : ℕ
  pub small : first.register < 8
  pub names : (not six || (seven && has_no_bits first)) ≡ true
  pub fits : raw < 256 ^ bytes_if (if six then Some Bits64 else width_if seven Bits32)
  pub is : (if six then targets.Immediate raw else targets.Operand (operand_with first seven raw)) ≡ target

aimed : (target : Target) → IsJumpTarget target → Aimed target
aimed (targets.Immediate raw) h =
    record { six = true; seven = true; first = zero_bits; raw = raw; small = omega arith; names = refl; fits = h; is = refl }
aimed (targets.Operand to) h =
    let x = present Bits32 to.field h.field in
    record {
      six = false;
      seven = x.there;
      first = to.place;
      raw = x.raw;
      small = h.register;
      names = refl;
      fits = x.fits;
      is = λ i. targets.Operand (record { place = to.place; field = x.is i });
    }

-- ---- bits that are read back

-- the high bits of byte 1 of a jump
abbrev jumping : Condition → Bool → Place
jumping when relative = record { register = bit relative + 4 * bit (wanted_carry when); indirect = is_conditional when }

record Jumps (when : Condition) (relative : Bool) : Type 0 where
  pub small : (jumping when relative).register < 8
  pub bits : has_jump_bits (jumping when relative) ≡ true
  pub condition : condition_with (jumping when relative).indirect (nat_le 4 (jumping when relative).register) ≡ when
  pub is_relative : ((jumping when relative).register % 2 == 1) ≡ relative

jumps : (when : Condition) (relative : Bool) → Jumps when relative
jumps Always true = record { small = omega arith; bits = refl; condition = refl; is_relative = refl }
jumps Always false = record { small = omega arith; bits = refl; condition = refl; is_relative = refl }
jumps CarryClear true = record { small = omega arith; bits = refl; condition = refl; is_relative = refl }
jumps CarryClear false = record { small = omega arith; bits = refl; condition = refl; is_relative = refl }
jumps CarrySet true = record { small = omega arith; bits = refl; condition = refl; is_relative = refl }
jumps CarrySet false = record { small = omega arith; bits = refl; condition = refl; is_relative = refl }

-- and of a call
abbrev calling : Bool → Bool → ℕ
calling native relative = bit relative + 2 * bit native

record Calls (native relative : Bool) : Type 0 where
  pub small : calling native relative < 8
  pub few : nat_lt (calling native relative) 4 ≡ true
  pub is_native : nat_le 2 (calling native relative) ≡ native
  pub is_relative : (calling native relative % 2 == 1) ≡ relative

calls : (native relative : Bool) → Calls native relative
calls true true = record { small = omega arith; few = refl; is_native = refl; is_relative = refl }
calls true false = record { small = omega arith; few = refl; is_native = refl; is_relative = refl }
calls false true = record { small = omega arith; few = refl; is_native = refl; is_relative = refl }
calls false false = record { small = omega arith; few = refl; is_native = refl; is_relative = refl }

-- b7 and b6 of a short jump
short_back : (when : Condition)
    → ((is_conditional when || not (wanted_carry when)) ≡ true)
    × (condition_with (is_conditional when) (wanted_carry when) ≡ when)
short_back Always = (refl, refl)
short_back CarryClear = (refl, refl)
short_back CarrySet = (refl, refl)

bit-back : (b : Bool) → (bit b == 1) ≡ b
bit-back true = refl
bit-back false = refl

bit-small : (b : Bool) → bit b < 8
bit-small true = omega arith
bit-small false = omega arith

bit-below : (b : Bool) → nat_lt (bit b) 2 ≡ true
bit-below true = refl
bit-below false = refl

-- the high bits of byte 1 of a move of an immediate
abbrev moving : Width → Bool → ℕ
moving moved there = width_number moved + 4 * bit there

record Moves (moved : Width) (there : Bool) : Type 0 where
  pub small : moving moved there < 8
  pub is_moved : width_with (moving moved there % 4) ≡ moved
  pub has_index : nat_le 4 (moving moved there) ≡ there

moves : (moved : Width) (there : Bool) → Moves moved there
moves Byte true = record { small = omega arith; is_moved = refl; has_index = refl }
moves Byte false = record { small = omega arith; is_moved = refl; has_index = refl }
moves Word true = record { small = omega arith; is_moved = refl; has_index = refl }
moves Word false = record { small = omega arith; is_moved = refl; has_index = refl }
moves Double true = record { small = omega arith; is_moved = refl; has_index = refl }
moves Double false = record { small = omega arith; is_moved = refl; has_index = refl }
moves Quad true = record { small = omega arith; is_moved = refl; has_index = refl }
moves Quad false = record { small = omega arith; is_moved = refl; has_index = refl }

byte_moves : (there : Bool) → (moving Byte there % 4 == 0) ≡ true
byte_moves true = refl
byte_moves false = refl

-- b7 and b6 of an immediate
immediate_back : (width : FieldWidth)
    → ((immediate_six width || immediate_seven width) ≡ true)
    × ((if immediate_seven width then (if immediate_six width then Bits64 else Bits32) else Bits16) ≡ width)
immediate_back Bits16 = (refl, refl)
immediate_back Bits32 = (refl, refl)
immediate_back Bits64 = (refl, refl)

compared_back : (width : FieldWidth) → IsShort width → (if immediate_seven width then Bits32 else Bits16) ≡ width
compared_back Bits16 h = refl
compared_back Bits32 h = refl
compared_back Bits64 h = absurd h

-- ---- the rows

break_form : (n : ℕ) (code : BreakCode)
    → n < 8
    → is_break (three n) ≡ true
    → break_with n ≡ code
    → Form (ins.Break code)
break_form n code small accepted e =
    record {
      opcode = opcodes.Break;
      six = false;
      seven = false;
      first = three n;
      second = zero_bits;
      f = 0;
      g = 0;
      listed = tt;
      first_small = small;
      second_small = omega arith;
      accepted = ap (λ (b : Bool). b && true) accepted;
      one = omega arith;
      other = omega arith;
      made = λ i. ins.Break (e i);
    }

special_form : (register : ℕ) (from : Special) → register < 8 → Form (ins.StoreSpecial register from)
special_form register Flags h =
    record {
      opcode = opcodes.StoreSpecial;
      six = false;
      seven = false;
      first = three register;
      second = three 0;
      f = 0;
      g = 0;
      listed = tt;
      first_small = h;
      second_small = omega arith;
      accepted = refl;
      one = omega arith;
      other = omega arith;
      made = refl;
    }
special_form register NextAddress h =
    record {
      opcode = opcodes.StoreSpecial;
      six = false;
      seven = false;
      first = three register;
      second = three 1;
      f = 0;
      g = 0;
      listed = tt;
      first_small = h;
      second_small = omega arith;
      accepted = refl;
      one = omega arith;
      other = omega arith;
      made = refl;
    }

-- an index that is there by a bit that was read back
index_fits : {there bit_read : Bool} {raw : ℕ}
    → bit_read ≡ there
    → raw < 256 ^ bytes_if (width_if there Bits16)
    → raw < 256 ^ bytes_if (width_if bit_read Bits16)
index_fits {raw = raw} e h = let P : Bool → Type 0 = λ b. raw < 256 ^ bytes_if (width_if b Bits16) in subst P (sym e) h

index_is : {field : Option ℕ} (there bit_read : Bool) (raw : ℕ)
    → bit_read ≡ there
    → (if there then Some raw else None) ≡ field
    → (if bit_read then Some raw else None) ≡ field
index_is there bit_read raw e is = ap (λ (b : Bool). if b then Some raw else None) e ∙ is

may_read : (there bit_read : Bool) (place : Place)
    → bit_read ≡ there
    → may_index there place ≡ true
    → may_index bit_read place ≡ true
may_read there bit_read place e h = ap (λ (b : Bool). may_index b place) e ∙ h

compared_form : (op : CmpOp) (wide : Bool) (first : Operand) (immediate : Field)
    → IsTarget 2 first
    → IsShort immediate.width
    → IsField immediate
    → Form (ins.CompareImmediate op wide first immediate)
compared_form op wide first immediate target short fits =
    let x = present Bits16 first.field target.field in
    let back = bit-back x.there in
    let w = compared_back immediate.width short in
    let P : FieldWidth → Type 0 = λ width. immediate.raw < 256 ^ bytes_in width in
    record {
      opcode = opcodes.CompareImmediate op;
      six = wide;
      seven = immediate_seven immediate.width;
      first = first.place;
      second = three (bit x.there);
      f = x.raw;
      g = immediate.raw;
      listed = tt;
      first_small = target.register;
      second_small = bit-small x.there;
      accepted = and_from _ _ (bit-below x.there) (may_read x.there _ first.place back (may_be Bits16 first x target));
      one = index_fits back x.fits;
      other = subst P (sym w) fits;
      made =
          λ i. ins.CompareImmediate op wide (record { place = first.place; field = index_is x.there _ x.raw back x.is i })
          (record { width = w i; raw = immediate.raw });
    }

-- moves of an immediate
moved_accepted : (moved : Width) (first : Operand) (immediate : Field) (x : Present Bits16 first.field)
    → IsTarget 2 first
    → ((not false && (immediate_six immediate.width || immediate_seven immediate.width))
    && may_index (nat_le 4 (moving moved x.there)) first.place) ≡ true
moved_accepted moved first immediate x target =
    and_from _ _ (immediate_back immediate.width).0
    (may_read x.there _ first.place (moves moved x.there).has_index (may_be Bits16 first x target))

moved_fits : {field : Option ℕ} (moved : Width) (x : Present Bits16 field)
    → x.raw < 256 ^ bytes_if (width_if (nat_le 4 (moving moved x.there)) Bits16)
moved_fits moved x = index_fits (moves moved x.there).has_index x.fits

moved_first : (moved : Width) (first : Operand) (x : Present Bits16 first.field)
    → operand_with first.place (nat_le 4 (moving moved x.there)) x.raw ≡ first
moved_first moved first x =
    λ i. record { place = first.place; field = index_is x.there _ x.raw (moves moved x.there).has_index x.is i }

immediate_fits : (immediate : Field)
    → IsField immediate
    → immediate.raw
    < 256 ^ bytes_in (if immediate_seven immediate.width then (if immediate_six immediate.width then Bits64 else Bits32) else Bits16)
immediate_fits immediate h =
    let P : FieldWidth → Type 0 = λ width. immediate.raw < 256 ^ bytes_in width in
    subst P (sym (immediate_back immediate.width).1) h

pub form : (instruction : Ins) → IsLawful instruction → Form instruction
form (ins.Break Runaway) h = break_form 0 Runaway (omega arith) refl refl
form (ins.Break Version) h = break_form 1 Version (omega arith) refl refl
form (ins.Break Breakpoint) h = break_form 3 Breakpoint (omega arith) refl refl
form (ins.Break SystemCall) h = break_form 4 SystemCall (omega arith) refl refl
form (ins.Break Thunk) h = break_form 5 Thunk (omega arith) refl refl
form (ins.Break CompilerVersion) h = break_form 6 CompilerVersion (omega arith) refl refl
form (ins.Jump when relative target) h =
    let t = aimed target h in
    let b = jumps when relative in
    record {
      opcode = opcodes.Jump;
      six = t.six;
      seven = t.seven;
      first = t.first;
      second = jumping when relative;
      f = t.raw;
      g = 0;
      listed = tt;
      first_small = t.small;
      second_small = b.small;
      accepted = and_from _ _ t.names b.bits;
      one = t.fits;
      other = omega arith;
      made = λ i. ins.Jump (b.condition i) (b.is_relative i) (t.is i);
    }
form (ins.ShortJump when distance) h =
    let b = short_back when in
    let low = place_bits-place_in (distance % 16) (omega arith) in
    let high = place_bits-place_in (distance / 16) (omega arith) in
    let byte : place_bits (place_in (distance % 16)) + 16 * place_bits (place_in (distance / 16)) ≡ distance = omega arith in
    record {
      opcode = opcodes.ShortJump;
      six = wanted_carry when;
      seven = is_conditional when;
      first = place_in (distance % 16);
      second = place_in (distance / 16);
      f = 0;
      g = 0;
      listed = tt;
      first_small = omega arith;
      second_small = omega arith;
      accepted = b.0;
      one = omega arith;
      other = omega arith;
      made = λ i. ins.ShortJump (b.1 i) (byte i);
    }
form (ins.Call native relative target) h =
    let t = aimed target h in
    let b = calls native relative in
    record {
      opcode = opcodes.Call;
      six = t.six;
      seven = t.seven;
      first = t.first;
      second = three (calling native relative);
      f = t.raw;
      g = 0;
      listed = tt;
      first_small = t.small;
      second_small = b.small;
      accepted = and_from _ _ t.names b.few;
      one = t.fits;
      other = omega arith;
      made = λ i. ins.Call (b.is_native i) (b.is_relative i) (t.is i);
    }
form ins.Return h =
    record {
      opcode = opcodes.Return;
      six = false;
      seven = false;
      first = zero_bits;
      second = zero_bits;
      f = 0;
      g = 0;
      listed = tt;
      first_small = omega arith;
      second_small = omega arith;
      accepted = refl;
      one = omega arith;
      other = omega arith;
      made = refl;
    }
form (ins.Compare op wide first second) h =
    let x = present Bits16 second.field h.1.field in
    record {
      opcode = opcodes.Compare op;
      six = wide;
      seven = x.there;
      first = three first;
      second = second.place;
      f = x.raw;
      g = 0;
      listed = tt;
      first_small = h.0;
      second_small = h.1.register;
      accepted = refl;
      one = x.fits;
      other = omega arith;
      made = λ i. ins.Compare op wide first (record { place = second.place; field = x.is i });
    }
form (ins.Compute op wide first second) h =
    let x = present Bits16 second.field h.1.field in
    record {
      opcode = opcodes.Compute op;
      six = wide;
      seven = x.there;
      first = first;
      second = second.place;
      f = x.raw;
      g = 0;
      listed = tt;
      first_small = h.0;
      second_small = h.1.register;
      accepted = refl;
      one = x.fits;
      other = omega arith;
      made = λ i. ins.Compute op wide first (record { place = second.place; field = x.is i });
    }
form (ins.Move moved index first second) h =
    let x = present index first.field h.1.field in
    let y = present index second.field h.2.field in
    record {
      opcode = opcodes.Move moved index;
      six = y.there;
      seven = x.there;
      first = first.place;
      second = second.place;
      f = x.raw;
      g = y.raw;
      listed = h.0;
      first_small = h.1.register;
      second_small = h.2.register;
      accepted = may_be index first x h.1;
      one = x.fits;
      other = y.fits;
      made = λ i. ins.Move moved index (record { place = first.place; field = x.is i }) (record { place = second.place; field = y.is i });
    }
form (ins.MoveSigned index first second) h =
    let x = present index first.field h.1.field in
    let y = present index second.field h.2.field in
    record {
      opcode = opcodes.MoveSigned index;
      six = y.there;
      seven = x.there;
      first = first.place;
      second = second.place;
      f = x.raw;
      g = y.raw;
      listed = h.0;
      first_small = h.1.register;
      second_small = h.2.register;
      accepted = may_be index first x h.1;
      one = x.fits;
      other = y.fits;
      made = λ i. ins.MoveSigned index (record { place = first.place; field = x.is i }) (record { place = second.place; field = y.is i });
    }
form (ins.MoveNatural index first second) h =
    let x = present index first.field h.1.field in
    let y = present index second.field h.2.field in
    record {
      opcode = opcodes.MoveNatural index;
      six = y.there;
      seven = x.there;
      first = first.place;
      second = second.place;
      f = x.raw;
      g = y.raw;
      listed = h.0;
      first_small = h.1.register;
      second_small = h.2.register;
      accepted = may_be index first x h.1;
      one = x.fits;
      other = y.fits;
      made = λ i. ins.MoveNatural index (record { place = first.place; field = x.is i }) (record { place = second.place; field = y.is i });
    }
form (ins.LoadFlags register) h =
    record {
      opcode = opcodes.LoadFlags;
      six = false;
      seven = false;
      first = zero_bits;
      second = three register;
      f = 0;
      g = 0;
      listed = tt;
      first_small = omega arith;
      second_small = h;
      accepted = refl;
      one = omega arith;
      other = omega arith;
      made = refl;
    }
form (ins.StoreSpecial register from) h = special_form register from h
form (ins.Stack op wide operand) h =
    let x = present Bits16 operand.field h.field in
    record {
      opcode = opcodes.Stack op;
      six = wide;
      seven = x.there;
      first = operand.place;
      second = zero_bits;
      f = x.raw;
      g = 0;
      listed = tt;
      first_small = h.register;
      second_small = omega arith;
      accepted = refl;
      one = x.fits;
      other = omega arith;
      made = λ i. ins.Stack op wide (record { place = operand.place; field = x.is i });
    }
form (ins.StackNatural op operand) h =
    let x = present Bits16 operand.field h.field in
    record {
      opcode = opcodes.StackNatural op;
      six = false;
      seven = x.there;
      first = operand.place;
      second = zero_bits;
      f = x.raw;
      g = 0;
      listed = tt;
      first_small = h.register;
      second_small = omega arith;
      accepted = refl;
      one = x.fits;
      other = omega arith;
      made = λ i. ins.StackNatural op (record { place = operand.place; field = x.is i });
    }
form (ins.CompareImmediate op wide first immediate) h = compared_form op wide first immediate h.0 h.1 h.2
form (ins.MoveImmediate moved first immediate) h =
    let x = present Bits16 first.field h.0.field in
    let m = moves moved x.there in
    let w = immediate_back immediate.width in
    record {
      opcode = opcodes.MoveImmediate;
      six = immediate_six immediate.width;
      seven = immediate_seven immediate.width;
      first = first.place;
      second = three (moving moved x.there);
      f = x.raw;
      g = immediate.raw;
      listed = tt;
      first_small = h.0.register;
      second_small = m.small;
      accepted = moved_accepted moved first immediate x h.0;
      one = moved_fits moved x;
      other = immediate_fits immediate h.1;
      made = λ i. ins.MoveImmediate (m.is_moved i) (moved_first moved first x i) (record { width = w.1 i; raw = immediate.raw });
    }
form (ins.MoveIndex first index) h =
    let x = present Bits16 first.field h.0.field in
    let m = moves Byte x.there in
    let w = immediate_back index.width in
    record {
      opcode = opcodes.MoveIndex;
      six = immediate_six index.width;
      seven = immediate_seven index.width;
      first = first.place;
      second = three (moving Byte x.there);
      f = x.raw;
      g = index.raw;
      listed = tt;
      first_small = h.0.register;
      second_small = m.small;
      accepted = and_from _ _ (moved_accepted Byte first index x h.0) (byte_moves x.there);
      one = moved_fits Byte x;
      other = immediate_fits index h.1;
      made = λ i. ins.MoveIndex (moved_first Byte first x i) (record { width = w.1 i; raw = index.raw });
    }
form (ins.MoveRelative first immediate) h =
    let x = present Bits16 first.field h.0.field in
    let m = moves Byte x.there in
    let w = immediate_back immediate.width in
    record {
      opcode = opcodes.MoveRelative;
      six = immediate_six immediate.width;
      seven = immediate_seven immediate.width;
      first = first.place;
      second = three (moving Byte x.there);
      f = x.raw;
      g = immediate.raw;
      listed = tt;
      first_small = h.0.register;
      second_small = m.small;
      accepted = and_from _ _ (moved_accepted Byte first immediate x h.0) (byte_moves x.there);
      one = moved_fits Byte x;
      other = immediate_fits immediate h.1;
      made = λ i. ins.MoveRelative (moved_first Byte first x i) (record { width = w.1 i; raw = immediate.raw });
    }
