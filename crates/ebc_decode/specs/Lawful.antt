-- Which instructions have a spelling: those whose fields fit the bits that the table of opcodes has for them.
use Rattle.std.specs.Prelude.{◌≡◌, ℕ, ◌^◌, ◌<◌, false, Option, Some, None}
use Rattle.ebc_decode.specs.declared.operand.Width.{Width}
use Rattle.ebc_decode.specs.declared.operand.Width.TheVariants.{Quad}
use Rattle.ebc_decode.specs.declared.operand.FieldWidth.{FieldWidth}
use Rattle.ebc_decode.specs.declared.operand.FieldWidth.TheVariants.{Bits16, Bits32, Bits64}
use Rattle.ebc_decode.specs.declared.operand.Field.{Field}
use Rattle.ebc_decode.specs.declared.operand.Operand.{Operand}
use Rattle.ebc_decode.specs.declared.operand.Target.{Target}
use Rattle.ebc_decode.specs.declared.operand.Target.TheVariants as targets
use Rattle.ebc_decode.specs.declared.ins.Ins.{Ins}
use Rattle.ebc_decode.specs.declared.ins.Ins.TheVariants as ins
use Rattle.ebc_decode.specs.Spelling.{bytes_in}

-- There are eight registers.
abbrev pub IsRegister : ℕ → Type 0
IsRegister register = register < 8

-- A field fits its n bytes.
abbrev pub FitsIn : ℕ → Option ℕ → Type 0
FitsIn n None = Unit {0}
FitsIn n (Some raw) = raw < 256 ^ n

abbrev pub IsField : Field → Type 0
IsField field = field.raw < 256 ^ bytes_in field.width

-- An operand whose field has n bytes.
pub record IsOperand (n : ℕ) (operand : Operand) : Type 0 where
  pub register : IsRegister operand.place.register
  pub field : FitsIn n operand.field

-- An operand 1 whose index has n bytes: a direct one has no index.
pub record IsTarget (n : ℕ) (operand : Operand) : Type 0 where
  pub register : IsRegister operand.place.register
  pub field : FitsIn n operand.field
  pub indirect : operand.place.indirect ≡ false → operand.field ≡ None

-- Where a jump or a call goes: its field has 32 bits.
abbrev pub IsJumpTarget : Target → Type 0
IsJumpTarget (targets.Immediate raw) = raw < 2 ^ 64
IsJumpTarget (targets.Operand to) = IsOperand 4 to

-- Indexes of 64 bits come with moves of 8 bytes alone.
abbrev pub HasIndex : Width → FieldWidth → Type 0
HasIndex moved Bits16 = Unit {0}
HasIndex moved Bits32 = Unit {0}
HasIndex moved Bits64 = moved ≡ Quad

-- A field of 16 or 32 bits.
abbrev pub IsShort : FieldWidth → Type 0
IsShort Bits16 = Unit {0}
IsShort Bits32 = Unit {0}
IsShort Bits64 = ⊥

-- The table gives the fields of the instruction a spelling.
abbrev pub IsLawful : Ins → Type 0
IsLawful (ins.Break code) = Unit {0}
IsLawful (ins.Jump when relative target) = IsJumpTarget target
IsLawful (ins.ShortJump when distance) = distance < 256
IsLawful (ins.Call native relative target) = IsJumpTarget target
IsLawful ins.Return = Unit {0}
IsLawful (ins.Compare op wide first second) = IsRegister first × IsOperand 2 second
IsLawful (ins.Compute op wide first second) = IsRegister first.register × IsOperand 2 second
IsLawful (ins.Move moved index first second) =
    HasIndex moved index × IsTarget (bytes_in index) first × IsOperand (bytes_in index) second
IsLawful (ins.MoveSigned index first second) =
    IsShort index × IsTarget (bytes_in index) first × IsOperand (bytes_in index) second
IsLawful (ins.MoveNatural index first second) =
    IsShort index × IsTarget (bytes_in index) first × IsOperand (bytes_in index) second
IsLawful (ins.LoadFlags register) = IsRegister register
IsLawful (ins.StoreSpecial register from) = IsRegister register
IsLawful (ins.Stack op wide operand) = IsOperand 2 operand
IsLawful (ins.StackNatural op operand) = IsOperand 2 operand
IsLawful (ins.CompareImmediate op wide first immediate) = IsTarget 2 first × IsShort immediate.width × IsField immediate
IsLawful (ins.MoveImmediate moved first immediate) = IsTarget 2 first × IsField immediate
IsLawful (ins.MoveIndex first index) = IsTarget 2 first × IsField index
IsLawful (ins.MoveRelative first immediate) = IsTarget 2 first × IsField immediate
