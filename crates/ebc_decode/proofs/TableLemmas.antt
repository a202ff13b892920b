-- The table of opcodes.
use Rattle.std.proofs.Common.{◌≡◌, ℕ, zero, suc, ◌+◌, ◌<◌, ◌≤◌, inl, inr, Bool, true, false, ◌&&◌, ◌==◌, List, [], ◌∷◌, get_or, Option, Some, None, IfSome, refl, sym, ap, ◌∙◌, subst, arith}
use Rattle.std.proofs.lemmas.Bool.{false≢true, and_parts, eqb-true, cases_lt}
use Rattle.std.proofs.lemmas.List.{get_or_past}
use Rattle.mm_base.specs.declared.operation.AluOp.{AluOp}
use Rattle.mm_base.specs.declared.operation.AluOp.TheVariants as alu
use Rattle.mm_base.specs.declared.operation.CmpOp.{CmpOp}
use Rattle.mm_base.specs.declared.operation.CmpOp.TheVariants as cmp
use Rattle.ebc_decode.specs.declared.choices.StackOp.{StackOp}
use Rattle.ebc_decode.specs.declared.choices.StackOp.TheVariants.{Push, Pop}
use Rattle.ebc_decode.specs.declared.operand.Width.{Width}
use Rattle.ebc_decode.specs.declared.operand.Width.TheVariants.{Byte, Word, Double, Quad}
use Rattle.ebc_decode.specs.declared.operand.FieldWidth.{FieldWidth}
use Rattle.ebc_decode.specs.declared.operand.FieldWidth.TheVariants.{Bits16, Bits32, Bits64}
use Rattle.ebc_decode.specs.declared.opcode.Opcode.{Opcode}
use Rattle.ebc_decode.specs.declared.opcode.Opcode.TheVariants as opcodes
use Rattle.ebc_decode.specs.declared.opcode.TheConstants.{OPCODES}
use Rattle.ebc_decode.specs.Spelling.{compare_number, compute_opcode, move_opcode, index_number, stack_number}
use Rattle.ebc_decode.specs.Lawful.{HasIndex, IsShort}
use Rattle.ebc_decode.specs.ReadingInside.{opcode_number, IsListed, IsOpcode, TellsOpcode}

-- what the table has at a number
abbrev pub at_number : ℕ → Option Opcode
at_number number = get_or OPCODES number None

-- ---- each opcode stands at its number

compared : (op : CmpOp) → at_number (0x05 + compare_number op) ≡ Some (opcodes.Compare op)
compared cmp.Equal = refl
compared cmp.LessOrEqual = refl
compared cmp.GreaterOrEqual = refl
compared cmp.UnsignedLessOrEqual = refl
compared cmp.UnsignedGreaterOrEqual = refl

compared_with : (op : CmpOp) → at_number (0x2d + compare_number op) ≡ Some (opcodes.CompareImmediate op)
compared_with cmp.Equal = refl
compared_with cmp.LessOrEqual = refl
compared_with cmp.GreaterOrEqual = refl
compared_with cmp.UnsignedLessOrEqual = refl
compared_with cmp.UnsignedGreaterOrEqual = refl

computed : (op : AluOp) → at_number (compute_opcode op) ≡ Some (opcodes.Compute op)
computed alu.Not = refl
computed alu.Neg = refl
computed alu.Add = refl
computed alu.Sub = refl
computed alu.Mul = refl
computed alu.Mulu = refl
computed alu.Div = refl
computed alu.Divu = refl
computed alu.Mod = refl
computed alu.Modu = refl
computed alu.And = refl
computed alu.Or = refl
computed alu.Xor = refl
computed alu.Shl = refl
computed alu.Shr = refl
computed alu.Ashr = refl
computed alu.ExtendByte = refl
computed alu.ExtendWord = refl
computed alu.ExtendDouble = refl

moved : (width : Width) (index : FieldWidth) → HasIndex width index
    → at_number (move_opcode width index) ≡ Some (opcodes.Move width index)
moved Byte Bits16 h = refl
moved Word Bits16 h = refl
moved Double Bits16 h = refl
moved Quad Bits16 h = refl
moved Byte Bits32 h = refl
moved Word Bits32 h = refl
moved Double Bits32 h = refl
moved Quad Bits32 h = refl
moved Quad Bits64 h = refl
moved Byte Bits64 h = cc
moved Word Bits64 h = cc
moved Double Bits64 h = cc

moved_signed : (index : FieldWidth) → IsShort index → at_number (0x25 + index_number index) ≡ Some (opcodes.MoveSigned index)
moved_signed Bits16 h = refl
moved_signed Bits32 h = refl
moved_signed Bits64 h = absurd h

moved_natural : (index : FieldWidth) → IsShort index → at_number (0x32 + index_number index) ≡ Some (opcodes.MoveNatural index)
moved_natural Bits16 h = refl
moved_natural Bits32 h = refl
moved_natural Bits64 h = absurd h

stacked : (op : StackOp) → at_number (0x2b + stack_number op) ≡ Some (opcodes.Stack op)
stacked Push = refl
stacked Pop = refl

stacked_natural : (op : StackOp) → at_number (0x35 + stack_number op) ≡ Some (opcodes.StackNatural op)
stacked_natural Push = refl
stacked_natural Pop = refl

pub at_number-of : (opcode : Opcode) → IsListed opcode → at_number (opcode_number opcode) ≡ Some opcode
at_number-of opcodes.Break h = refl
at_number-of opcodes.Jump h = refl
at_number-of opcodes.ShortJump h = refl
at_number-of opcodes.Call h = refl
at_number-of opcodes.Return h = refl
at_number-of (opcodes.Compare op) h = compared op
at_number-of (opcodes.Compute op) h = computed op
at_number-of (opcodes.Move width index) h = moved width index h
at_number-of (opcodes.MoveSigned index) h = moved_signed index h
at_number-of (opcodes.MoveNatural index) h = moved_natural index h
at_number-of opcodes.LoadFlags h = refl
at_number-of opcodes.StoreSpecial h = refl
at_number-of (opcodes.Stack op) h = stacked op
at_number-of (opcodes.StackNatural op) h = stacked_natural op
at_number-of (opcodes.CompareImmediate op) h = compared_with op
at_number-of opcodes.MoveImmediate h = refl
at_number-of opcodes.MoveIndex h = refl
at_number-of opcodes.MoveRelative h = refl

-- so an opcode is known by its number
pub same_opcode : (one other : Opcode) → IsListed one → IsListed other → opcode_number one ≡ opcode_number other → one ≡ other
same_opcode one other h k e =
    let both : Some one ≡ Some other = sym (at_number-of one h) ∙ ap (λ (n : ℕ). at_number n) e ∙ at_number-of other k in
    cc

-- ---- what stands in the table is listed there

abbrev is_quad : Width → Bool
is_quad Byte = false
is_quad Word = false
is_quad Double = false
is_quad Quad = true

abbrev short : FieldWidth → Bool
short Bits16 = true
short Bits32 = true
short Bits64 = false

is_short : (index : FieldWidth) → short index ≡ true → IsShort index
is_short Bits16 h = tt
is_short Bits32 h = tt
is_short Bits64 h = absurd (false≢true h)

abbrev has_index : Width → FieldWidth → Bool
has_index width Bits16 = true
has_index width Bits32 = true
has_index width Bits64 = is_quad width

quad : (width : Width) → is_quad width ≡ true → width ≡ Quad
quad Byte h = absurd (false≢true h)
quad Word h = absurd (false≢true h)
quad Double h = absurd (false≢true h)
quad Quad h = refl

indexed_by : (width : Width) (index : FieldWidth) → has_index width index ≡ true → HasIndex width index
indexed_by width Bits16 h = tt
indexed_by width Bits32 h = tt
indexed_by width Bits64 h = quad width h

abbrev pub listed : Opcode → Bool
listed opcodes.Break = true
listed opcodes.Jump = true
listed opcodes.ShortJump = true
listed opcodes.Call = true
listed opcodes.Return = true
listed (opcodes.Compare op) = true
listed (opcodes.Compute op) = true
listed (opcodes.Move width index) = has_index width index
listed (opcodes.MoveSigned index) = short index
listed (opcodes.MoveNatural index) = short index
listed opcodes.LoadFlags = true
listed opcodes.StoreSpecial = true
listed (opcodes.Stack op) = true
listed (opcodes.StackNatural op) = true
listed (opcodes.CompareImmediate op) = true
listed opcodes.MoveImmediate = true
listed opcodes.MoveIndex = true
listed opcodes.MoveRelative = true

pub is_listed : (opcode : Opcode) → listed opcode ≡ true → IsListed opcode
is_listed opcodes.Break h = tt
is_listed opcodes.Jump h = tt
is_listed opcodes.ShortJump h = tt
is_listed opcodes.Call h = tt
is_listed opcodes.Return h = tt
is_listed (opcodes.Compare op) h = tt
is_listed (opcodes.Compute op) h = tt
is_listed (opcodes.Move width index) h = indexed_by width index h
is_listed (opcodes.MoveSigned index) h = is_short index h
is_listed (opcodes.MoveNatural index) h = is_short index h
is_listed opcodes.LoadFlags h = tt
is_listed opcodes.StoreSpecial h = tt
is_listed (opcodes.Stack op) h = tt
is_listed (opcodes.StackNatural op) h = tt
is_listed (opcodes.CompareImmediate op) h = tt
is_listed opcodes.MoveImmediate h = tt
is_listed opcodes.MoveIndex h = tt
is_listed opcodes.MoveRelative h = tt

-- a list of opcodes by their numbers, from one on
abbrev in_order : ℕ → List (Option Opcode) → Bool
in_order number [] = true
in_order number (None ∷ rest) = in_order (suc number) rest
in_order number (Some opcode ∷ rest) = ((opcode_number opcode == number) && listed opcode) && in_order (suc number) rest

found_in : (number : ℕ) (table : List (Option Opcode)) (k : ℕ) (opcode : Opcode)
    → in_order number table ≡ true
    → get_or table k None ≡ Some opcode
    → IsOpcode (number + k) opcode
found_in number [] k opcode ordered e = cc
found_in number (None ∷ rest) zero opcode ordered e = cc
found_in number (None ∷ rest) (suc k) opcode ordered e =
    let there = found_in (suc number) rest k opcode ordered e in
    (there.0, let h = there.1 in omega arith)
found_in number (Some first ∷ rest) zero opcode ordered e =
    let parts = and_parts _ (in_order (suc number) rest) ordered in
    let here = and_parts (opcode_number first == number) (listed first) parts.0 in
    let h = eqb-true (opcode_number first) number here.0 in
    let same : first ≡ opcode = cc in
    let P : Opcode → Type 0 = λ o. IsOpcode (number + 0) o in
    subst P same (is_listed first here.1, omega arith)
found_in number (Some first ∷ rest) (suc k) opcode ordered e =
    let parts = and_parts _ (in_order (suc number) rest) ordered in
    let there = found_in (suc number) rest k opcode parts.1 e in
    (there.0, let h = there.1 in omega arith)

pub found_at : (number : ℕ) (opcode : Opcode) → at_number number ≡ Some opcode → IsOpcode number opcode
found_at number opcode e =
    let there = found_in 0 OPCODES number opcode refl e in
    (there.0, let h = there.1 in omega arith)

-- what the table has at a number tells each opcode with it
pub told_at : (number : ℕ) → TellsOpcode number (at_number number)
told_at number opcode is = ap (λ (n : ℕ). at_number n) (sym is.1) ∙ at_number-of opcode is.0

-- and it ends there
pub number_below : (opcode : Opcode) → IsListed opcode → opcode_number opcode < 64
number_below opcode h = elim (cases_lt (opcode_number opcode) 64) [ inl below ↦ below | inr past ↦ absurd (outside past) ]
  where
    outside : 64 ≤ opcode_number opcode → ⊥
    outside past =
        let none = get_or_past OPCODES (opcode_number opcode) None past in
        let some = at_number-of opcode h in
        cc

pub found_some : (number : ℕ) (told : Option Opcode) → told ≡ at_number number → IfSome told (λ (opcode : Opcode). IsOpcode number opcode)
found_some number None e = tt
found_some number (Some opcode) e = found_at number opcode (sym e)
