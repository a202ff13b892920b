-- The spelling of each instruction, field by field: UEFI 2.10, chapter 22. Byte 0 has the opcode in bits 0 to 5, then
-- b6 and b7. Byte 1 has operand 1 in bits 0 to 3 and operand 2 in bits 4 to 7, unless it is said otherwise. Bits that a
-- row doesn't name are 0, where the standard has an exception for some that are set and leaves others open.
use Rattle.std.specs.Prelude.{ℕ, ◌+◌, ◌*◌, Bool, true, false, List, [], ◌∷◌, ◌++◌, is_some}
use Rattle.mm_base.specs.declared.operation.AluOp.{AluOp}
use Rattle.mm_base.specs.declared.operation.AluOp.TheVariants as alu
use Rattle.mm_base.specs.declared.operation.CmpOp.{CmpOp}
use Rattle.mm_base.specs.declared.operation.CmpOp.TheVariants as cmp
use Rattle.ebc_decode.specs.declared.choices.BreakCode.{BreakCode}
use Rattle.ebc_decode.specs.declared.choices.BreakCode.TheVariants.{Runaway, Version, Breakpoint, SystemCall, Thunk}
use Rattle.ebc_decode.specs.declared.choices.BreakCode.TheVariants.{CompilerVersion}
use Rattle.ebc_decode.specs.declared.choices.Condition.{Condition}
use Rattle.ebc_decode.specs.declared.choices.Condition.TheVariants.{Always, CarryClear, CarrySet}
use Rattle.ebc_decode.specs.declared.choices.Special.{Special}
use Rattle.ebc_decode.specs.declared.choices.Special.TheVariants.{Flags, NextAddress}
use Rattle.ebc_decode.specs.declared.choices.StackOp.{StackOp}
use Rattle.ebc_decode.specs.declared.choices.StackOp.TheVariants.{Push, Pop}
use Rattle.ebc_decode.specs.declared.operand.Width.{Width}
use Rattle.ebc_decode.specs.declared.operand.Width.TheVariants.{Byte, Word, Double, Quad}
use Rattle.ebc_decode.specs.declared.operand.FieldWidth.{FieldWidth}
use Rattle.ebc_decode.specs.declared.operand.FieldWidth.TheVariants.{Bits16, Bits32, Bits64}
use Rattle.ebc_decode.specs.declared.operand.Field.{Field}
use Rattle.ebc_decode.specs.declared.operand.Place.{Place}
use Rattle.ebc_decode.specs.declared.operand.Operand.{Operand}
use Rattle.ebc_decode.specs.declared.operand.Target.{Target}
use Rattle.ebc_decode.specs.declared.operand.Target.TheVariants as targets
use Rattle.ebc_decode.specs.declared.ins.Ins.{Ins}
use Rattle.ebc_decode.specs.declared.ins.Ins.TheVariants as ins
use Rattle.ebc_decode.specs.Bytes.{little, field_bytes}

-- a bit as a number
abbrev pub bit : Bool → ℕ
bit false = 0
bit true = 1

-- how many bytes a move moves
abbrev pub bytes_moved : Width → ℕ
bytes_moved Byte = 1
bytes_moved Word = 2
bytes_moved Double = 4
bytes_moved Quad = 8

-- how many bytes a field has
abbrev pub bytes_in : FieldWidth → ℕ
bytes_in Bits16 = 2
bytes_in Bits32 = 4
bytes_in Bits64 = 8

-- the first two bytes: the opcode, b6, b7, and the four low and the four high bits of byte 1
abbrev pub head : ℕ → Bool → Bool → ℕ → ℕ → List ℕ
head opcode six seven low high = (opcode + 64 * bit six + 128 * bit seven) ∷ (low + 16 * high) ∷ []

-- an operand's four bits: its register, and whether it is indirect
abbrev pub place_bits : Place → ℕ
place_bits place = place.register + 8 * bit place.indirect

-- ---- BREAK (22.8, BREAK). The codes 0, 1, 3, 4, 5 and 6 alone are read; the standard reserves the others.

abbrev pub break_number : BreakCode → ℕ
break_number Runaway = 0
break_number Version = 1
break_number Breakpoint = 3
break_number SystemCall = 4
break_number Thunk = 5
break_number CompilerVersion = 6

-- ---- JMP, JMP8, CALL, RET (22.8). In CALL bit 5 of byte 1 is the native call. Other than in the standard, a JMP or
-- CALL with an immediate of 64 bits names no register, and the C that an unconditional jump wants is 0.

-- whether a jump asks for C, and which C it wants
abbrev pub is_conditional : Condition → Bool
is_conditional Always = false
is_conditional CarryClear = true
is_conditional CarrySet = true

abbrev pub wanted_carry : Condition → Bool
wanted_carry Always = false
wanted_carry CarryClear = false
wanted_carry CarrySet = true

-- b6 is an immediate of 64 bits in place of a register, and then b7 is 1; else b7 is a field of 32 bits.
abbrev pub with_target : ℕ → Target → ℕ → List ℕ
with_target opcode (targets.Immediate raw) high = head opcode true true 0 high ++ little 8 raw
with_target opcode (targets.Operand to) high =
    head opcode false (is_some to.field) (place_bits to.place) high ++ field_bytes 4 to.field

-- ---- CMP, CMPI (22.8, CMP and CMPI): b6 is the comparison of 64 bits

-- the place of a comparison among the five opcodes of a row
abbrev pub compare_number : CmpOp → ℕ
compare_number cmp.Equal = 0
compare_number cmp.LessOrEqual = 1
compare_number cmp.GreaterOrEqual = 2
compare_number cmp.UnsignedLessOrEqual = 3
compare_number cmp.UnsignedGreaterOrEqual = 4

-- ---- NOT to EXTNDD (22.8): b6 is the operation on 64 bits, b7 a field of 16 bits for operand 2

abbrev pub compute_opcode : AluOp → ℕ
compute_opcode alu.Not = 0x0a
compute_opcode alu.Neg = 0x0b
compute_opcode alu.Add = 0x0c
compute_opcode alu.Sub = 0x0d
compute_opcode alu.Mul = 0x0e
compute_opcode alu.Mulu = 0x0f
compute_opcode alu.Div = 0x10
compute_opcode alu.Divu = 0x11
compute_opcode alu.Mod = 0x12
compute_opcode alu.Modu = 0x13
compute_opcode alu.And = 0x14
compute_opcode alu.Or = 0x15
compute_opcode alu.Xor = 0x16
compute_opcode alu.Shl = 0x17
compute_opcode alu.Shr = 0x18
compute_opcode alu.Ashr = 0x19
compute_opcode alu.ExtendByte = 0x1a
compute_opcode alu.ExtendWord = 0x1b
compute_opcode alu.ExtendDouble = 0x1c

-- CMP and these: b6 is given, and b7 is a field of 16 bits for operand 2
abbrev pub with_second : ℕ → Bool → ℕ → Operand → List ℕ
with_second opcode six low second =
    head opcode six (is_some second.field) low (place_bits second.place) ++ field_bytes 2 second.field

-- ---- MOV, MOVN, MOVSN (22.8): b7 is an index of operand 1, b6 one of operand 2, of the opcode's width

-- b, w, d and q in this order
abbrev pub width_number : Width → ℕ
width_number Byte = 0
width_number Word = 1
width_number Double = 2
width_number Quad = 3

-- MOVQQ alone has indexes of 64 bits
abbrev pub move_opcode : Width → FieldWidth → ℕ
move_opcode moved Bits16 = 0x1d + width_number moved
move_opcode moved Bits32 = 0x21 + width_number moved
move_opcode moved Bits64 = 0x28

-- the second of two opcodes has indexes of 32 bits
abbrev pub index_number : FieldWidth → ℕ
index_number Bits16 = 0
index_number Bits32 = 1
index_number Bits64 = 1

abbrev pub with_indexes : ℕ → FieldWidth → Operand → Operand → List ℕ
with_indexes opcode index first second =
    head opcode (is_some second.field) (is_some first.field) (place_bits first.place) (place_bits second.place)
    ++ field_bytes (bytes_in index) first.field
    ++ field_bytes (bytes_in index) second.field

-- ---- PUSH, POP, PUSHN, POPN (22.8): b7 is a field of 16 bits

-- POP's opcode is the next one
abbrev pub stack_number : StackOp → ℕ
stack_number Push = 0
stack_number Pop = 1

abbrev pub with_operand : ℕ → Bool → Operand → List ℕ
with_operand opcode six operand =
    head opcode six (is_some operand.field) (place_bits operand.place) 0 ++ field_bytes 2 operand.field

-- ---- MOVI, MOVIN, MOVREL (22.8): bit 6 of byte 1 is an index of 16 bits, and b7 b6 are 1, 2 or 3 for an immediate of
-- 16, 32 or 64 bits

abbrev pub immediate_six : FieldWidth → Bool
immediate_six Bits16 = true
immediate_six Bits32 = false
immediate_six Bits64 = true

abbrev pub immediate_seven : FieldWidth → Bool
immediate_seven Bits16 = false
immediate_seven Bits32 = true
immediate_seven Bits64 = true

-- bits 4 and 5 of byte 1 are given
abbrev pub with_immediate : ℕ → Operand → ℕ → Field → List ℕ
with_immediate opcode first given immediate =
    head opcode (immediate_six immediate.width) (immediate_seven immediate.width) (place_bits first.place)
    (given + 4 * bit (is_some first.field))
    ++ field_bytes 2 first.field
    ++ little (bytes_in immediate.width) immediate.raw

-- ---- LOADSP, STORESP (22.8): the dedicated registers are the flags, 0, and the next address, 1, which is stored alone

abbrev pub special_number : Special → ℕ
special_number Flags = 0
special_number NextAddress = 1

-- the bytes of an instruction
unfoldable pub spelling_of : Ins → List ℕ
spelling_of (ins.Break code) = head 0x00 false false (break_number code) 0
spelling_of (ins.Jump when relative target) =
    with_target 0x01 target (bit relative + 4 * bit (wanted_carry when) + 8 * bit (is_conditional when))
spelling_of (ins.ShortJump when distance) =
    (0x02 + 64 * bit (wanted_carry when) + 128 * bit (is_conditional when)) ∷ distance ∷ []
spelling_of (ins.Call native relative target) = with_target 0x03 target (bit relative + 2 * bit native)
spelling_of ins.Return = head 0x04 false false 0 0
spelling_of (ins.Compare op wide first second) = with_second (0x05 + compare_number op) wide first second
spelling_of (ins.Compute op wide first second) = with_second (compute_opcode op) wide (place_bits first) second
spelling_of (ins.Move moved index first second) = with_indexes (move_opcode moved index) index first second
spelling_of (ins.MoveSigned index first second) = with_indexes (0x25 + index_number index) index first second
spelling_of (ins.MoveNatural index first second) = with_indexes (0x32 + index_number index) index first second
spelling_of (ins.LoadFlags register) = head 0x29 false false 0 register
spelling_of (ins.StoreSpecial register from) = head 0x2a false false register (special_number from)
spelling_of (ins.Stack op wide operand) = with_operand (0x2b + stack_number op) wide operand
spelling_of (ins.StackNatural op operand) = with_operand (0x35 + stack_number op) false operand
-- bit 4 of byte 1 is an index of 16 bits, b7 an immediate of 32 bits in place of 16
spelling_of (ins.CompareImmediate op wide first immediate) =
    head (0x2d + compare_number op) wide (immediate_seven immediate.width) (place_bits first.place)
    (bit (is_some first.field))
    ++ field_bytes 2 first.field
    ++ little (bytes_in immediate.width) immediate.raw
spelling_of (ins.MoveImmediate moved first immediate) = with_immediate 0x37 first (width_number moved) immediate
spelling_of (ins.MoveIndex first index) = with_immediate 0x38 first 0 index
spelling_of (ins.MoveRelative first immediate) = with_immediate 0x39 first 0 immediate
