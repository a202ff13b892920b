-- No public clause cites this file.
-- The first two bytes as fields, which of them begin an instruction, and what they make of the fields that follow.
use Rattle.std.specs.Prelude.{◌≡◌, ℕ, ◌+◌, ◌*◌, ◌/◌, ◌%◌, ◌^◌, Bool, true, not, ◌&&◌, ◌||◌, ◌==◌, nat_lt, nat_le}
use Rattle.std.specs.Prelude.{if◌then◌else◌, List, [], ◌∷◌, Option, Some, None, Result, Ok}
use Rattle.ebc_decode.specs.declared.choices.BreakCode.{BreakCode}
use Rattle.ebc_decode.specs.declared.choices.BreakCode.TheVariants.{Runaway, Version, Breakpoint, SystemCall, Thunk}
use Rattle.ebc_decode.specs.declared.choices.BreakCode.TheVariants.{CompilerVersion}
use Rattle.ebc_decode.specs.declared.choices.Condition.{Condition}
use Rattle.ebc_decode.specs.declared.choices.Condition.TheVariants.{Always, CarryClear, CarrySet}
use Rattle.ebc_decode.specs.declared.choices.Special.{Special}
use Rattle.ebc_decode.specs.declared.choices.Special.TheVariants.{Flags, NextAddress}
use Rattle.ebc_decode.specs.declared.operand.Width.{Width}
use Rattle.ebc_decode.specs.declared.operand.Width.TheVariants.{Byte, Word, Double, Quad}
use Rattle.ebc_decode.specs.declared.operand.FieldWidth.{FieldWidth}
use Rattle.ebc_decode.specs.declared.operand.FieldWidth.TheVariants.{Bits16, Bits32, Bits64}
use Rattle.ebc_decode.specs.declared.operand.Field.{Field}
use Rattle.ebc_decode.specs.declared.operand.Place.{Place}
use Rattle.ebc_decode.specs.declared.operand.Operand.{Operand}
use Rattle.ebc_decode.specs.declared.operand.Target.{Target}
use Rattle.ebc_decode.specs.declared.operand.Target.TheVariants as targets
use Rattle.ebc_decode.specs.declared.ins.Ins.{Ins}
use Rattle.ebc_decode.specs.declared.ins.Ins.TheVariants as ins
use Rattle.ebc_decode.specs.declared.head.Head.{Head}
use Rattle.ebc_decode.specs.declared.opcode.Opcode.{Opcode}
use Rattle.ebc_decode.specs.declared.opcode.Opcode.TheVariants as opcodes
use Rattle.ebc_decode.specs.declared.layout.Layout.{Layout}
use Rattle.ebc_decode.specs.declared.tail.Tail.{Tail}
use Rattle.ebc_decode.specs.declared.reading.EncodingFault.{EncodingFault}
use Rattle.ebc_decode.specs.Spelling.{bytes_in, compare_number, compute_opcode, move_opcode, index_number, stack_number}
use Rattle.ebc_decode.specs.Lawful.{HasIndex, IsShort}

-- ---- opcodes

-- the number of an opcode
abbrev pub opcode_number : Opcode → ℕ
opcode_number opcodes.Break = 0x00
opcode_number opcodes.Jump = 0x01
opcode_number opcodes.ShortJump = 0x02
opcode_number opcodes.Call = 0x03
opcode_number opcodes.Return = 0x04
opcode_number (opcodes.Compare op) = 0x05 + compare_number op
opcode_number (opcodes.Compute op) = compute_opcode op
opcode_number (opcodes.Move moved index) = move_opcode moved index
opcode_number (opcodes.MoveSigned index) = 0x25 + index_number index
opcode_number (opcodes.MoveNatural index) = 0x32 + index_number index
opcode_number opcodes.LoadFlags = 0x29
opcode_number opcodes.StoreSpecial = 0x2a
opcode_number (opcodes.Stack op) = 0x2b + stack_number op
opcode_number (opcodes.StackNatural op) = 0x35 + stack_number op
opcode_number (opcodes.CompareImmediate op) = 0x2d + compare_number op
opcode_number opcodes.MoveImmediate = 0x37
opcode_number opcodes.MoveIndex = 0x38
opcode_number opcodes.MoveRelative = 0x39

-- The table has the opcode.
abbrev pub IsListed : Opcode → Type 0
IsListed opcodes.Break = Unit {0}
IsListed opcodes.Jump = Unit {0}
IsListed opcodes.ShortJump = Unit {0}
IsListed opcodes.Call = Unit {0}
IsListed opcodes.Return = Unit {0}
IsListed (opcodes.Compare op) = Unit {0}
IsListed (opcodes.Compute op) = Unit {0}
IsListed (opcodes.Move moved index) = HasIndex moved index
IsListed (opcodes.MoveSigned index) = IsShort index
IsListed (opcodes.MoveNatural index) = IsShort index
IsListed opcodes.LoadFlags = Unit {0}
IsListed opcodes.StoreSpecial = Unit {0}
IsListed (opcodes.Stack op) = Unit {0}
IsListed (opcodes.StackNatural op) = Unit {0}
IsListed (opcodes.CompareImmediate op) = Unit {0}
IsListed opcodes.MoveImmediate = Unit {0}
IsListed opcodes.MoveIndex = Unit {0}
IsListed opcodes.MoveRelative = Unit {0}

-- The table has an opcode with this number.
abbrev pub IsOpcode : ℕ → Opcode → Type 0
IsOpcode number opcode = IsListed opcode × (opcode_number opcode ≡ number)

-- Each such opcode is what is told.
abbrev pub TellsOpcode : ℕ → Option Opcode → Type 0
TellsOpcode number told = (opcode : Opcode) → IsOpcode number opcode → told ≡ Some opcode

-- ---- the first two bytes

-- the place that four bits are
abbrev pub place_in : ℕ → Place
place_in bits = record { register = bits % 8; indirect = bits / 8 == 1 }

-- the fields of two bytes
abbrev pub head_in : ℕ → ℕ → Head
head_in first second =
    record {
      opcode = first % 64;
      six = first / 64 % 2 == 1;
      seven = first / 128 == 1;
      first = place_in (second % 16);
      second = place_in (second / 16);
      byte = second;
    }

-- ---- which of them begin an instruction

-- no bit of a place is set
abbrev pub has_no_bits : Place → Bool
has_no_bits place = not place.indirect && (place.register == 0)

-- neither b6 nor b7 is set
abbrev pub is_bare : Head → Bool
is_bare head = not head.six && not head.seven

-- an operand 1 that has an index is indirect
abbrev pub may_index : Bool → Place → Bool
may_index index place = not index || place.indirect

-- b6, b7 and operand 1 name a target
abbrev pub names_target : Head → Bool
names_target head = not head.six || (head.seven && has_no_bits head.first)

-- the high bits of byte 1 are those of a jump: bit 5 is 0, and a jump that asks for no C wants 0
abbrev pub has_jump_bits : Place → Bool
has_jump_bits bits = (bits.register / 2 % 2 == 0) && (nat_lt bits.register 4 || bits.indirect)

-- a code that BREAK has
abbrev pub is_break : Place → Bool
is_break bits = not bits.indirect && (nat_lt bits.register 7 && not (bits.register == 2))

-- the high bits of byte 1 are one bit, an index of operand 1
abbrev pub has_index_bit : Head → Bool
has_index_bit head =
    (not head.second.indirect && nat_lt head.second.register 2) && may_index (head.second.register == 1) head.first

-- bit 7 of byte 1 is 0, bit 6 an index of operand 1, and b7 b6 is no 0
abbrev pub has_immediate : Head → Bool
has_immediate head =
    (not head.second.indirect && (head.six || head.seven)) && may_index (nat_le 4 head.second.register) head.first

abbrev pub accepts : Opcode → Head → Bool
accepts opcodes.Break head = (is_bare head && is_break head.first) && has_no_bits head.second
accepts opcodes.Jump head = names_target head && has_jump_bits head.second
accepts opcodes.ShortJump head = head.seven || not head.six
accepts opcodes.Call head = names_target head && (not head.second.indirect && nat_lt head.second.register 4)
accepts opcodes.Return head = (is_bare head && has_no_bits head.first) && has_no_bits head.second
accepts (opcodes.Compare op) head = not head.first.indirect
accepts (opcodes.Compute op) head = true
accepts (opcodes.Move moved index) head = may_index head.seven head.first
accepts (opcodes.MoveSigned index) head = may_index head.seven head.first
accepts (opcodes.MoveNatural index) head = may_index head.seven head.first
accepts opcodes.LoadFlags head = (is_bare head && has_no_bits head.first) && not head.second.indirect
accepts opcodes.StoreSpecial head =
    (is_bare head && not head.first.indirect) && (not head.second.indirect && nat_lt head.second.register 2)
accepts (opcodes.Stack op) head = has_no_bits head.second
accepts (opcodes.StackNatural op) head = not head.six && has_no_bits head.second
accepts (opcodes.CompareImmediate op) head = has_index_bit head
accepts opcodes.MoveImmediate head = has_immediate head
accepts opcodes.MoveIndex head = has_immediate head && (head.second.register % 4 == 0)
accepts opcodes.MoveRelative head = has_immediate head && (head.second.register % 4 == 0)

-- ---- the fields that follow

-- a field that is there has this width
abbrev pub width_if : Bool → FieldWidth → Option FieldWidth
width_if there width = if there then Some width else None

-- the field of a jump or a call
abbrev pub target_width : Head → Option FieldWidth
target_width head = if head.six then Some Bits64 else width_if head.seven Bits32

-- the width that b7 b6 tell
abbrev pub immediate_width : Head → FieldWidth
immediate_width head = if head.seven then (if head.six then Bits64 else Bits32) else Bits16

-- the width that b7 tells of a comparison's immediate
abbrev pub compared_width : Head → FieldWidth
compared_width head = if head.seven then Bits32 else Bits16

abbrev pub widths : Opcode → Head → Layout
widths opcodes.Break head = record { first = None; second = None }
widths opcodes.Jump head = record { first = target_width head; second = None }
widths opcodes.ShortJump head = record { first = None; second = None }
widths opcodes.Call head = record { first = target_width head; second = None }
widths opcodes.Return head = record { first = None; second = None }
widths (opcodes.Compare op) head = record { first = width_if head.seven Bits16; second = None }
widths (opcodes.Compute op) head = record { first = width_if head.seven Bits16; second = None }
widths (opcodes.Move moved index) head = record { first = width_if head.seven index; second = width_if head.six index }
widths (opcodes.MoveSigned index) head = record { first = width_if head.seven index; second = width_if head.six index }
widths (opcodes.MoveNatural index) head = record { first = width_if head.seven index; second = width_if head.six index }
widths opcodes.LoadFlags head = record { first = None; second = None }
widths opcodes.StoreSpecial head = record { first = None; second = None }
widths (opcodes.Stack op) head = record { first = width_if head.seven Bits16; second = None }
widths (opcodes.StackNatural op) head = record { first = width_if head.seven Bits16; second = None }
widths (opcodes.CompareImmediate op) head =
    record { first = width_if (head.second.register == 1) Bits16; second = Some (compared_width head) }
widths opcodes.MoveImmediate head =
    record { first = width_if (nat_le 4 head.second.register) Bits16; second = Some (immediate_width head) }
widths opcodes.MoveIndex head =
    record { first = width_if (nat_le 4 head.second.register) Bits16; second = Some (immediate_width head) }
widths opcodes.MoveRelative head =
    record { first = width_if (nat_le 4 head.second.register) Bits16; second = Some (immediate_width head) }

-- how many bytes a field has, if it is there
abbrev pub bytes_if : Option FieldWidth → ℕ
bytes_if None = 0
bytes_if (Some width) = bytes_in width

-- how many bytes the instruction has
abbrev pub layout_length : Layout → ℕ
layout_length layout = 2 + bytes_if layout.first + bytes_if layout.second

-- ---- the instruction

abbrev pub break_with : ℕ → BreakCode
break_with number =
    if number == 0 then Runaway
    else if number == 1 then Version
    else if number == 3 then Breakpoint
    else if number == 4 then SystemCall
    else if number == 5 then Thunk
    else CompilerVersion

abbrev pub width_with : ℕ → Width
width_with number = if number == 0 then Byte else if number == 1 then Word else if number == 2 then Double else Quad

abbrev pub condition_with : Bool → Bool → Condition
condition_with conditional wanted = if conditional then (if wanted then CarrySet else CarryClear) else Always

abbrev pub special_with : ℕ → Special
special_with number = if number == 0 then Flags else NextAddress

-- an operand whose field, if it is there, is this number
abbrev pub operand_with : Place → Bool → ℕ → Operand
operand_with place there raw = record { place = place; field = if there then Some raw else None }

abbrev pub target_with : Head → ℕ → Target
target_with head raw =
    if head.six then targets.Immediate raw else targets.Operand (operand_with head.first head.seven raw)

-- an operand 1 with an index of 16 bits where bit 6 of byte 1 says so
abbrev pub indexed : Head → ℕ → Operand
indexed head raw = operand_with head.first (nat_le 4 head.second.register) raw

abbrev pub immediate_with : Head → ℕ → Field
immediate_with head raw = record { width = immediate_width head; raw = raw }

-- the instruction of an opcode, the first two bytes and the fields that follow
abbrev pub built : Opcode → Head → ℕ → ℕ → Ins
built opcodes.Break head first second = ins.Break (break_with head.first.register)
built opcodes.Jump head first second =
    ins.Jump (condition_with head.second.indirect (nat_le 4 head.second.register))
    (head.second.register % 2 == 1) (target_with head first)
built opcodes.ShortJump head first second = ins.ShortJump (condition_with head.seven head.six) head.byte
built opcodes.Call head first second =
    ins.Call (nat_le 2 head.second.register) (head.second.register % 2 == 1) (target_with head first)
built opcodes.Return head first second = ins.Return
built (opcodes.Compare op) head first second =
    ins.Compare op head.six head.first.register (operand_with head.second head.seven first)
built (opcodes.Compute op) head first second =
    ins.Compute op head.six head.first (operand_with head.second head.seven first)
built (opcodes.Move moved index) head first second =
    ins.Move moved index (operand_with head.first head.seven first) (operand_with head.second head.six second)
built (opcodes.MoveSigned index) head first second =
    ins.MoveSigned index (operand_with head.first head.seven first) (operand_with head.second head.six second)
built (opcodes.MoveNatural index) head first second =
    ins.MoveNatural index (operand_with head.first head.seven first) (operand_with head.second head.six second)
built opcodes.LoadFlags head first second = ins.LoadFlags head.second.register
built opcodes.StoreSpecial head first second =
    ins.StoreSpecial head.first.register (special_with head.second.register)
built (opcodes.Stack op) head first second = ins.Stack op head.six (operand_with head.first head.seven first)
built (opcodes.StackNatural op) head first second = ins.StackNatural op (operand_with head.first head.seven first)
built (opcodes.CompareImmediate op) head first second =
    ins.CompareImmediate op head.six (operand_with head.first (head.second.register == 1) first)
    (record { width = compared_width head; raw = second })
built opcodes.MoveImmediate head first second =
    ins.MoveImmediate (width_with (head.second.register % 4)) (indexed head first) (immediate_with head second)
built opcodes.MoveIndex head first second = ins.MoveIndex (indexed head first) (immediate_with head second)
built opcodes.MoveRelative head first second = ins.MoveRelative (indexed head first) (immediate_with head second)

-- ---- the number after the first two bytes

abbrev pub tail_number : Tail → ℕ
tail_number tail = tail.low + 2 ^ 64 * tail.high

-- the number in the first n of sixteen bytes and two
abbrev pub number_in : ℕ → ℕ → ℕ → ℕ
number_in first second third = first + 2 ^ 64 * second + 2 ^ 128 * third

-- ---- what two bytes begin

-- The table has an opcode for the first two bytes, and accepts them.
pub record Begins (head : Head) (opcode : Opcode) : Type 0 where
  pub listed : IsListed opcode
  pub number : opcode_number opcode ≡ head.opcode
  pub accepted : accepts opcode head ≡ true

-- Each opcode that the table has for them, and that accepts them, is what is told, with the fields that follow.
abbrev pub BeginsOnly : Head → Result (Opcode × Layout) EncodingFault → Type 0
BeginsOnly head told = (opcode : Opcode) → Begins head opcode → told ≡ Ok (opcode, widths opcode head)

-- the number that bytes spell, the lowest byte first
abbrev pub number_of : List ℕ → ℕ
number_of [] = 0
number_of (byte ∷ bytes) = byte + 256 * number_of bytes
