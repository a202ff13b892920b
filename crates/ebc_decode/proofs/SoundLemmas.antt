-- What is made of two bytes that are accepted, and of the fields that follow, is spelled by them.
use Rattle.std.proofs.Common.{◌≡◌, ℕ, ◌+◌, ◌*◌, ◌%◌, ◌^◌, ◌<◌, Bool, true, false, not, ◌&&◌, ◌||◌, if◌then◌else◌, nat_lt, nat_le, ◌==◌, List, ◌∷◌, ◌++◌, Some, refl, sym, ap, ◌∙◌, arith}
use Rattle.std.proofs.lemmas.Bool.{false≢true, and_parts, ltb-true}
use Rattle.ebc_decode.specs.declared.operand.FieldWidth.{FieldWidth}
use Rattle.ebc_decode.specs.declared.operand.FieldWidth.TheVariants.{Bits16, Bits32, Bits64}
use Rattle.ebc_decode.specs.declared.operand.Place.{Place}
use Rattle.ebc_decode.specs.declared.head.Head.{Head}
use Rattle.ebc_decode.specs.declared.opcode.Opcode.{Opcode}
use Rattle.ebc_decode.specs.declared.opcode.Opcode.TheVariants as opcodes
use Rattle.ebc_decode.specs.Bytes.{little}
use Rattle.ebc_decode.specs.Spelling.{bit, bytes_in, place_bits, is_conditional, wanted_carry, with_target, with_immediate, immediate_six, immediate_seven, spelling_of}
use Rattle.ebc_decode.specs.Lawful.{IsShort, IsOperand, IsTarget, IsJumpTarget, IsLawful}
use Rattle.ebc_decode.specs.ReadingInside.{opcode_number, IsListed, has_no_bits, is_bare, may_index, names_target, has_immediate, accepts, condition_with, indexed, immediate_with, width_if, target_width, immediate_width, compared_width, widths, bytes_if, operand_with, target_with, built}
use Rattle.ebc_decode.proofs.RowLemmas.{bit-false, zero_place, index_taken, some-if, bytes-if, fits-if, alone, neither, break_bits, jump_bits, call_bits, special_bits, moved_bits, index_bits, bit-test}
use Rattle.ebc_decode.proofs.HeadLemmas.{IsHead, place_bits-lt}

-- the bytes of an opcode, the first two bytes' fields and the fields that follow
abbrev pub bytes_with : Opcode → Head → ℕ → ℕ → List ℕ
bytes_with opcode head f g =
    (opcode_number opcode + 64 * bit head.six + 128 * bit head.seven) ∷ head.byte
    ∷ (little (bytes_if (widths opcode head).first) f ++ little (bytes_if (widths opcode head).second) g)

pub record Sound (opcode : Opcode) (head : Head) (f g : ℕ) : Type 0 where
  pub lawful : IsLawful (built opcode head f g)
  pub spelled : spelling_of (built opcode head f g) ≡ bytes_with opcode head f g

-- two bytes and what follows them
same : {a b c d : ℕ} {xs ys : List ℕ} → a ≡ c → b ≡ d → xs ≡ ys → (a ∷ b ∷ xs) ≡ (c ∷ d ∷ ys)
same one other rest = λ i. one i ∷ other i ∷ rest i

record IsBare (head : Head) : Type 0 where
  pub six : bit head.six ≡ 0
  pub seven : bit head.seven ≡ 0

bare : (head : Head) → is_bare head ≡ true → IsBare head
bare head h =
    let both = and_parts (not head.six) (not head.seven) h in
    record { six = bit-false head.six both.0; seven = bit-false head.seven both.1 }

-- an operand with a field of some width
operand_fits : (place : Place) (there : Bool) (width : FieldWidth) (raw : ℕ)
    → place.register < 8
    → raw < 256 ^ bytes_if (width_if there width)
    → IsOperand (bytes_in width) (operand_with place there raw)
operand_fits place there width raw small fits = record { register = small; field = fits-if there width raw fits }

-- an operand 1 with an index of some width
target_fits : (place : Place) (there : Bool) (width : FieldWidth) (raw : ℕ)
    → place.register < 8
    → may_index there place ≡ true
    → raw < 256 ^ bytes_if (width_if there width)
    → IsTarget (bytes_in width) (operand_with place there raw)
target_fits place there width raw small may fits =
    record { register = small; field = fits-if there width raw fits; indirect = index_taken there place.indirect raw may }

-- ---- jumps and calls

jump_target_fits : (head : Head) (raw : ℕ)
    → head.first.register < 8
    → raw < 256 ^ bytes_if (target_width head)
    → IsJumpTarget (target_with head raw)
jump_target_fits head raw small = by_six head.six head.seven
  where
    by_six : (six seven : Bool)
        → raw < 256 ^ bytes_if (if six then Some Bits64 else width_if seven Bits32)
        → IsJumpTarget (target_with (record head { six = six; seven = seven }) raw)
    by_six true seven fits = fits
    by_six false seven fits = operand_fits head.first seven Bits32 raw small fits

-- the bytes of a target
target_spelled : (opcode high : ℕ) (head : Head) (raw other : ℕ)
    → names_target head ≡ true
    → with_target opcode (target_with head raw) high
    ≡ (opcode + 64 * bit head.six + 128 * bit head.seven) ∷ (place_bits head.first + 16 * high)
    ∷ (little (bytes_if (target_width head)) raw ++ little 0 other)
target_spelled opcode high head raw other = by_bits head.six head.seven
  where
    by_bits : (six seven : Bool)
        → (not six || (seven && has_no_bits head.first)) ≡ true
        → with_target opcode (target_with (record head { six = six; seven = seven }) raw) high
        ≡ (opcode + 64 * bit six + 128 * bit seven) ∷ (place_bits head.first + 16 * high)
        ∷ (little (bytes_if (if six then Some Bits64 else width_if seven Bits32)) raw ++ little 0 other)
    by_bits true true h = let z = zero_place head.first h in same refl (omega arith) (alone (little 8 raw) other)
    by_bits true false h = absurd (false≢true h)
    by_bits false seven h =
        same (let e = ap (λ (b : Bool). bit b) (some-if seven raw) in omega arith) refl
        (bytes-if seven Bits32 raw ∙ alone (little (bytes_if (width_if seven Bits32)) raw) other)

-- ---- immediates of moves

-- b7 b6 tell the width, which tells b7 and b6
immediate_bits : (six seven : Bool)
    → (six || seven) ≡ true
    → let width = if seven then (if six then Bits64 else Bits32) else Bits16 in
    (immediate_six width ≡ six) × (immediate_seven width ≡ seven)
immediate_bits true true h = (refl, refl)
immediate_bits true false h = (refl, refl)
immediate_bits false true h = (refl, refl)
immediate_bits false false h = absurd (false≢true h)

compared_bits : (seven : Bool) → immediate_seven (if seven then Bits32 else Bits16) ≡ seven
compared_bits true = refl
compared_bits false = refl

compared_short : (seven : Bool) → IsShort (if seven then Bits32 else Bits16)
compared_short true = tt
compared_short false = tt

-- what b7 and b6 of a short jump are read as is spelled by them
short_bits : (six seven : Bool)
    → (seven || not six) ≡ true
    → 64 * bit (wanted_carry (condition_with seven six)) + 128 * bit (is_conditional (condition_with seven six))
    ≡ 64 * bit six + 128 * bit seven
short_bits true true h = refl
short_bits true false h = absurd (false≢true h)
short_bits false true h = refl
short_bits false false h = refl

-- the bytes of a move of an immediate, where the bits of byte 1 that are given and that of the index are its high bits
moved_spelled : (opcode given : ℕ) (head : Head) (f g : ℕ)
    → IsHead head
    → has_immediate head ≡ true
    → given + 4 * bit (nat_le 4 head.second.register) ≡ head.second.register
    → with_immediate opcode (indexed head f) given (immediate_with head g)
    ≡ (opcode + 64 * bit head.six + 128 * bit head.seven) ∷ head.byte
    ∷ (little (bytes_if (width_if (nat_le 4 head.second.register) Bits16)) f ++ little (bytes_in (immediate_width head)) g)
moved_spelled opcode given head f g is h bits =
    let parts = and_parts (not head.second.indirect && (head.six || head.seven)) _ h in
    let inner = and_parts (not head.second.indirect) (head.six || head.seven) parts.0 in
    let z = bit-false head.second.indirect inner.0 in
    let widths = immediate_bits head.six head.seven inner.1 in
    let six = ap (λ (b : Bool). bit b) widths.0 in
    let seven = ap (λ (b : Bool). bit b) widths.1 in
    let some = ap (λ (b : Bool). bit b) (some-if (nat_le 4 head.second.register) f) in
    same (omega arith) (omega (arith, is.byte))
    (λ i. bytes-if (nat_le 4 head.second.register) Bits16 f i ++ little (bytes_in (immediate_width head)) g)

moved_fits : (head : Head) (f : ℕ)
    → IsHead head
    → has_immediate head ≡ true
    → f < 256 ^ bytes_if (width_if (nat_le 4 head.second.register) Bits16)
    → IsTarget 2 (indexed head f)
moved_fits head f is h fits =
    let parts = and_parts (not head.second.indirect && (head.six || head.seven)) _ h in
    target_fits head.first (nat_le 4 head.second.register) Bits16 f is.first parts.1 fits

-- ---- the rows

pub sound : (opcode : Opcode) (head : Head) (f g : ℕ)
    → IsListed opcode
    → IsHead head
    → accepts opcode head ≡ true
    → f < 256 ^ bytes_if (widths opcode head).first
    → g < 256 ^ bytes_if (widths opcode head).second
    → Sound opcode head f g
unfolding spelling_of
sound opcodes.Break head f g listed is h one other =
    let parts = and_parts _ (has_no_bits head.second) h in
    let inner = and_parts (is_bare head) _ parts.0 in
    let b = bare head inner.0 in
    let code = break_bits head.first is.first inner.1 in
    let z = zero_place head.second parts.1 in
    record { lawful = tt; spelled = same (omega arith) (omega (arith, is.byte)) (neither f g) }
sound opcodes.Jump head f g listed is h one other =
    let parts = and_parts (names_target head) _ h in
    let bits = jump_bits head.second.register head.second.indirect is.second parts.1 in
    record {
      lawful = jump_target_fits head f is.first one;
      spelled = target_spelled 0x01 _ head f g parts.0 ∙ same refl (omega (arith, is.byte)) refl;
    }
sound opcodes.ShortJump head f g listed is h one other =
    let bits = short_bits head.six head.seven h in
    let low = place_bits-lt head.first is.first in
    let high = place_bits-lt head.second is.second in
    record { lawful = omega (arith, is.byte); spelled = same (omega arith) refl (neither f g) }
sound opcodes.Call head f g listed is h one other =
    let parts = and_parts (names_target head) _ h in
    let inner = and_parts (not head.second.indirect) (nat_lt head.second.register 4) parts.1 in
    let bits = call_bits head.second.register (ltb-true head.second.register 4 inner.1) in
    let z = bit-false head.second.indirect inner.0 in
    record {
      lawful = jump_target_fits head f is.first one;
      spelled = target_spelled 0x03 _ head f g parts.0 ∙ same refl (omega (arith, is.byte)) refl;
    }
sound opcodes.Return head f g listed is h one other =
    let parts = and_parts _ (has_no_bits head.second) h in
    let inner = and_parts (is_bare head) (has_no_bits head.first) parts.0 in
    let b = bare head inner.0 in
    let y = zero_place head.first inner.1 in
    let z = zero_place head.second parts.1 in
    record { lawful = tt; spelled = same (omega arith) (omega (arith, is.byte)) (neither f g) }
sound (opcodes.Compare op) head f g listed is h one other =
    let z = bit-false head.first.indirect h in
    let some = ap (λ (b : Bool). bit b) (some-if head.seven f) in
    record {
      lawful = (is.first, operand_fits head.second head.seven Bits16 f is.second one);
      spelled = same (omega arith) (omega (arith, is.byte)) (bytes-if head.seven Bits16 f ∙ alone _ g);
    }
sound (opcodes.Compute op) head f g listed is h one other =
    let some = ap (λ (b : Bool). bit b) (some-if head.seven f) in
    record {
      lawful = (is.first, operand_fits head.second head.seven Bits16 f is.second one);
      spelled = same (omega arith) (sym is.byte) (bytes-if head.seven Bits16 f ∙ alone _ g);
    }
sound (opcodes.Move moved index) head f g listed is h one other =
    let some = ap (λ (b : Bool). bit b) (some-if head.seven f) in
    let also = ap (λ (b : Bool). bit b) (some-if head.six g) in
    record {
      lawful = (
        listed,
        target_fits head.first head.seven index f is.first h one,
        operand_fits head.second head.six index g is.second other,
      );
      spelled = same (omega arith) (sym is.byte) (λ i. bytes-if head.seven index f i ++ bytes-if head.six index g i);
    }
sound (opcodes.MoveSigned index) head f g listed is h one other =
    let some = ap (λ (b : Bool). bit b) (some-if head.seven f) in
    let also = ap (λ (b : Bool). bit b) (some-if head.six g) in
    record {
      lawful = (
        listed,
        target_fits head.first head.seven index f is.first h one,
        operand_fits head.second head.six index g is.second other,
      );
      spelled = same (omega arith) (sym is.byte) (λ i. bytes-if head.seven index f i ++ bytes-if head.six index g i);
    }
sound (opcodes.MoveNatural index) head f g listed is h one other =
    let some = ap (λ (b : Bool). bit b) (some-if head.seven f) in
    let also = ap (λ (b : Bool). bit b) (some-if head.six g) in
    record {
      lawful = (
        listed,
        target_fits head.first head.seven index f is.first h one,
        operand_fits head.second head.six index g is.second other,
      );
      spelled = same (omega arith) (sym is.byte) (λ i. bytes-if head.seven index f i ++ bytes-if head.six index g i);
    }
sound opcodes.LoadFlags head f g listed is h one other =
    let parts = and_parts _ (not head.second.indirect) h in
    let inner = and_parts (is_bare head) (has_no_bits head.first) parts.0 in
    let b = bare head inner.0 in
    let y = zero_place head.first inner.1 in
    let z = bit-false head.second.indirect parts.1 in
    record { lawful = is.second; spelled = same (omega arith) (omega (arith, is.byte)) (neither f g) }
sound opcodes.StoreSpecial head f g listed is h one other =
    let parts = and_parts _ (not head.second.indirect && nat_lt head.second.register 2) h in
    let inner = and_parts (is_bare head) (not head.first.indirect) parts.0 in
    let last = and_parts (not head.second.indirect) (nat_lt head.second.register 2) parts.1 in
    let b = bare head inner.0 in
    let y = bit-false head.first.indirect inner.1 in
    let z = bit-false head.second.indirect last.0 in
    let special = special_bits head.second.register (ltb-true head.second.register 2 last.1) in
    record { lawful = is.first; spelled = same (omega arith) (omega (arith, is.byte)) (neither f g) }
sound (opcodes.Stack op) head f g listed is h one other =
    let z = zero_place head.second h in
    let some = ap (λ (b : Bool). bit b) (some-if head.seven f) in
    record {
      lawful = operand_fits head.first head.seven Bits16 f is.first one;
      spelled = same (omega arith) (omega (arith, is.byte)) (bytes-if head.seven Bits16 f ∙ alone _ g);
    }
sound (opcodes.StackNatural op) head f g listed is h one other =
    let parts = and_parts (not head.six) (has_no_bits head.second) h in
    let y = bit-false head.six parts.0 in
    let z = zero_place head.second parts.1 in
    let some = ap (λ (b : Bool). bit b) (some-if head.seven f) in
    record {
      lawful = operand_fits head.first head.seven Bits16 f is.first one;
      spelled = same (omega arith) (omega (arith, is.byte)) (bytes-if head.seven Bits16 f ∙ alone _ g);
    }
sound (opcodes.CompareImmediate op) head f g listed is h one other =
    let parts = and_parts (not head.second.indirect && nat_lt head.second.register 2) _ h in
    let inner = and_parts (not head.second.indirect) (nat_lt head.second.register 2) parts.0 in
    let z = bit-false head.second.indirect inner.0 in
    let one_bit = bit-test head.second.register (ltb-true head.second.register 2 inner.1) in
    let some = ap (λ (b : Bool). bit b) (some-if (head.second.register == 1) f) in
    let seven = ap (λ (b : Bool). bit b) (compared_bits head.seven) in
    record {
      lawful = (
        target_fits head.first (head.second.register == 1) Bits16 f is.first parts.1 one,
        compared_short head.seven,
        other,
      );
      spelled =
          same (omega arith) (omega (arith, is.byte))
          (λ i. bytes-if (head.second.register == 1) Bits16 f i ++ little (bytes_in (compared_width head)) g);
    }
sound opcodes.MoveImmediate head f g listed is h one other =
    record {
      lawful = (moved_fits head f is h one, other);
      spelled = moved_spelled 0x37 _ head f g is h (moved_bits head.second.register is.second);
    }
sound opcodes.MoveIndex head f g listed is h one other =
    let parts = and_parts (has_immediate head) (head.second.register % 4 == 0) h in
    let bits = index_bits head.second.register is.second parts.1 in
    record {
      lawful = (moved_fits head f is parts.0 one, other);
      spelled = moved_spelled 0x38 0 head f g is parts.0 (omega arith);
    }
sound opcodes.MoveRelative head f g listed is h one other =
    let parts = and_parts (has_immediate head) (head.second.register % 4 == 0) h in
    let bits = index_bits head.second.register is.second parts.1 in
    record {
      lawful = (moved_fits head f is parts.0 one, other);
      spelled = moved_spelled 0x39 0 head f g is parts.0 (omega arith);
    }
