-- The instruction that bytes begin with, as a function of the bytes, for definitions of what byte code does. What it must be is said by
-- the spellings alone: the laws `decoding` say, both ways, that it is the one instruction with whose spelling the bytes begin. So
-- nobody needs to read how it is found: among the opcodes of the table, by the number in the first byte and the bits that a row allows.
use Rattle.std.specs.Prelude.{◌≡◌, ℕ, ◌/◌, ◌%◌, ◌^◌, ◌<◌, ◌==◌, nat_le, if◌then◌else◌}
use Rattle.std.specs.Prelude.{List, [], ◌∷◌, length, get_or, Option, Some, None, Result, Ok, Err}
use Rattle.mm_base.specs.declared.operation.AluOp.TheVariants as alu
use Rattle.mm_base.specs.declared.operation.CmpOp.TheVariants as cmp
use Rattle.ebc_decode.specs.declared.choices.StackOp.TheVariants.{Push, Pop}
use Rattle.ebc_decode.specs.declared.operand.Width.TheVariants.{Byte, Word, Double, Quad}
use Rattle.ebc_decode.specs.declared.operand.FieldWidth.TheVariants.{Bits16, Bits32, Bits64}
use Rattle.ebc_decode.specs.declared.head.Head.{Head}
use Rattle.ebc_decode.specs.declared.ins.Ins.{Ins}
use Rattle.ebc_decode.specs.declared.opcode.Opcode.{Opcode}
use Rattle.ebc_decode.specs.declared.opcode.Opcode.TheVariants as opcodes
use Rattle.ebc_decode.specs.declared.reading.EncodingFault.{EncodingFault}
use Rattle.ebc_decode.specs.ReadingInside.{head_in, opcode_number, accepts, widths, bytes_if, layout_length, built, number_of}

-- each number is a byte
abbrev pub AreBytes : List ℕ → Type 0
AreBytes bytes = (i : ℕ) → get_or bytes i 0 < 256

-- the opcodes of the table
unfoldable pub all_opcodes : List Opcode
all_opcodes =
    opcodes.Break ∷ opcodes.Jump ∷ opcodes.ShortJump ∷ opcodes.Call ∷ opcodes.Return
    ∷ opcodes.Compare cmp.Equal ∷ opcodes.Compare cmp.LessOrEqual ∷ opcodes.Compare cmp.GreaterOrEqual
    ∷ opcodes.Compare cmp.UnsignedLessOrEqual ∷ opcodes.Compare cmp.UnsignedGreaterOrEqual
    ∷ opcodes.Compute alu.Not ∷ opcodes.Compute alu.Neg ∷ opcodes.Compute alu.Add ∷ opcodes.Compute alu.Sub
    ∷ opcodes.Compute alu.Mul ∷ opcodes.Compute alu.Mulu ∷ opcodes.Compute alu.Div ∷ opcodes.Compute alu.Divu
    ∷ opcodes.Compute alu.Mod ∷ opcodes.Compute alu.Modu ∷ opcodes.Compute alu.And ∷ opcodes.Compute alu.Or
    ∷ opcodes.Compute alu.Xor ∷ opcodes.Compute alu.Shl ∷ opcodes.Compute alu.Shr ∷ opcodes.Compute alu.Ashr
    ∷ opcodes.Compute alu.ExtendByte ∷ opcodes.Compute alu.ExtendWord ∷ opcodes.Compute alu.ExtendDouble
    ∷ opcodes.Move Byte Bits16 ∷ opcodes.Move Word Bits16 ∷ opcodes.Move Double Bits16 ∷ opcodes.Move Quad Bits16
    ∷ opcodes.Move Byte Bits32 ∷ opcodes.Move Word Bits32 ∷ opcodes.Move Double Bits32 ∷ opcodes.Move Quad Bits32
    ∷ opcodes.MoveSigned Bits16 ∷ opcodes.MoveSigned Bits32 ∷ opcodes.Move Quad Bits64
    ∷ opcodes.LoadFlags ∷ opcodes.StoreSpecial ∷ opcodes.Stack Push ∷ opcodes.Stack Pop
    ∷ opcodes.CompareImmediate cmp.Equal ∷ opcodes.CompareImmediate cmp.LessOrEqual
    ∷ opcodes.CompareImmediate cmp.GreaterOrEqual ∷ opcodes.CompareImmediate cmp.UnsignedLessOrEqual
    ∷ opcodes.CompareImmediate cmp.UnsignedGreaterOrEqual
    ∷ opcodes.MoveNatural Bits16 ∷ opcodes.MoveNatural Bits32 ∷ opcodes.StackNatural Push ∷ opcodes.StackNatural Pop
    ∷ opcodes.MoveImmediate ∷ opcodes.MoveIndex ∷ opcodes.MoveRelative ∷ []

-- the first opcode of a list that has this number
abbrev pub opcode_among : List Opcode → ℕ → Option Opcode
opcode_among [] number = None
opcode_among (opcode ∷ rest) number = if opcode_number opcode == number then Some opcode else opcode_among rest number

-- an opcode, where the first two bytes are ones that it allows
abbrev pub allowed : Head → Option Opcode → Option Opcode
allowed head None = None
allowed head (Some opcode) = if accepts opcode head then Some opcode else None

-- the opcode of the first two bytes
unfoldable pub opcode_in : Head → Option Opcode
opcode_in head = allowed head (opcode_among all_opcodes head.opcode)

-- the first two bytes of a number, and the number after them
abbrev pub head_of : ℕ → Head
head_of number = head_in (number % 256) (number / 256 % 256)

abbrev pub tail_of : ℕ → ℕ
tail_of number = number / 256 / 256

-- the fields that follow the first two bytes, in the number after them
abbrev pub first_of : Opcode → Head → ℕ → ℕ
first_of opcode head number = number % 256 ^ bytes_if (widths opcode head).first

abbrev pub second_of : Opcode → Head → ℕ → ℕ
second_of opcode head number = number / 256 ^ bytes_if (widths opcode head).first % 256 ^ bytes_if (widths opcode head).second

-- what is made of two bytes and the number after them
abbrev pub made_of : Opcode → Head → ℕ → Ins
made_of opcode head number = built opcode head (first_of opcode head number) (second_of opcode head number)

-- how many bytes the instruction has that begins with these two
abbrev pub bytes_with : Head → Option Opcode → Option ℕ
bytes_with head None = None
bytes_with head (Some opcode) = Some (layout_length (widths opcode head))

-- The length of the instruction that two bytes begin, if they begin one.
unfoldable pub length_begun : ℕ → ℕ → Option ℕ
length_begun first second = bytes_with (head_in first second) (opcode_in (head_in first second))

-- the instruction in the first n bytes of a number, and its length, if all its bytes are there
abbrev pub whole_in : ℕ → ℕ → Option Opcode → Option (Ins × ℕ)
whole_in n number None = None
whole_in n number (Some opcode) =
    if nat_le (layout_length (widths opcode (head_of number))) n
    then Some (made_of opcode (head_of number) (tail_of number), layout_length (widths opcode (head_of number)))
    else None

-- The instruction that bytes begin with, and its length, if they begin with one.
unfoldable pub instruction_begun : List ℕ → Option (Ins × ℕ)
instruction_begun bytes = whole_in (length bytes) (number_of bytes) (opcode_in (head_of (number_of bytes)))

-- what is answered is this, or a fault where it is none
abbrev pub Tells : {A : Type 0} → Result A EncodingFault → Option A → Type 0
Tells (Ok answer) there = there ≡ Some answer
Tells (Err fault) there = there ≡ None
