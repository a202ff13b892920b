-- What each instruction does (UEFI 2.10, section 22.8, in this project's profile), one row an instruction. `next` is the address of the
-- instruction after it. Operand 2 is taken before operand 1, and what ends in a fault writes nothing.
use Rattle.std.specs.Prelude.{ℕ, ◌+◌, ◌*◌, ◌%◌, ◌^◌, ◌==◌, Bool, true, false, ◌&&◌, not, if◌then◌else◌}
use Rattle.mm_base.specs.declared.bus.Target.{Target}
use Rattle.mm_base.specs.declared.bus.Target.TheVariants as found
use Rattle.mm_base.specs.declared.invocation.FaultKind.{FaultKind}
use Rattle.mm_base.specs.declared.invocation.FaultKind.TheVariants as faults
use Rattle.mm_base.specs.declared.operation.AluOp.{AluOp}
use Rattle.mm_base.specs.declared.operation.AluOp.TheVariants as alu
use Rattle.mm_base.specs.declared.operation.CmpOp.{CmpOp}
use Rattle.ebc_decode.specs.declared.choices.BreakCode.{BreakCode}
use Rattle.ebc_decode.specs.declared.choices.BreakCode.TheVariants.{Runaway, Version, Breakpoint, SystemCall, Thunk}
use Rattle.ebc_decode.specs.declared.choices.BreakCode.TheVariants.{CompilerVersion}
use Rattle.ebc_decode.specs.declared.choices.Condition.{Condition}
use Rattle.ebc_decode.specs.declared.choices.Condition.TheVariants.{Always, CarryClear, CarrySet}
use Rattle.ebc_decode.specs.declared.choices.Special.{Special}
use Rattle.ebc_decode.specs.declared.choices.Special.TheVariants.{Flags, NextAddress}
use Rattle.ebc_decode.specs.declared.choices.StackOp.{StackOp}
use Rattle.ebc_decode.specs.declared.choices.StackOp.TheVariants.{Push, Pop}
use Rattle.ebc_decode.specs.declared.operand.Width.{Width}
use Rattle.ebc_decode.specs.declared.operand.FieldWidth.{FieldWidth}
use Rattle.ebc_decode.specs.declared.operand.Field.{Field}
use Rattle.ebc_decode.specs.declared.operand.Operand.{Operand}
use Rattle.ebc_decode.specs.declared.operand.Place.{Place}
use Rattle.ebc_decode.specs.declared.operand.Target.{Target as Jump}
use Rattle.ebc_decode.specs.declared.ins.Ins.{Ins}
use Rattle.ebc_decode.specs.declared.ins.Ins.TheVariants as ins
use Rattle.ebc_decode.specs.Spelling.{bit, bytes_in, bytes_moved}
use Rattle.ebc_alu.specs.Index.{offset_of, immediate_of}
use Rattle.ebc_alu.specs.Reading.{width, low_bits}
use Rattle.ebc_alu.specs.Results.{result_of}
use Rattle.ebc_alu.specs.Tests.{test_of}
use Rattle.ebc_machine.specs.declared.place.Source.TheVariants.{At}
use Rattle.ebc_machine.specs.declared.regs.Regs.{Regs}
use Rattle.ebc_machine.specs.Operands.{register_in, with_register, at_address, lowered, raised, is_odd, immediate_in, indexed, by_immediate, by_index, by_place, destination, place_destination, by_jump}
use Rattle.ebc_machine.specs.Rows.{Goes, Serves, Returns, Faults, Row, Takes, Asks, Puts, Comes, low, puts}

-- how many bytes an operand has: 8 in an operation of 64 bits, else 4
abbrev pub data_bytes : Bool → ℕ
data_bytes true = 8
data_bytes false = 4

-- only the next instruction comes
abbrev pub goes_on : ℕ → Regs → Row
goes_on next regs = Comes (Goes (at_address next regs))

-- a register gets a value
abbrev pub sets : ℕ → ℕ → ℕ → Regs → Row
sets register value next regs = Comes (Goes (at_address next (with_register register value regs)))

-- ---- BREAK: 0 is a fault; 1 tells the version 1.0 in R7; 5 makes the 8 bytes at R7 into R7 + 4 and the signed 32 bits there; the
-- others do nothing

abbrev pub breaks : BreakCode → ℕ → Regs → Row
breaks Runaway next regs = Comes (Faults faults.Break)
breaks Version next regs = sets 7 0x10000 next regs
breaks Breakpoint next regs = goes_on next regs
breaks SystemCall next regs = goes_on next regs
breaks Thunk next regs =
    Takes (At (register_in 7 regs)) 4 (λ value.
    Puts (register_in 7 regs) 8 ((register_in 7 regs + 4 + immediate_of 4 value) % 2 ^ 64) (Goes (at_address next regs)))
breaks CompilerVersion next regs = goes_on next regs

-- ---- JMP, JMP8: a jump that isn't taken takes nothing; an odd target is a fault

abbrev pub is_taken : Condition → Bool → Bool
is_taken Always carry = true
is_taken CarryClear carry = not carry
is_taken CarrySet carry = carry

-- where a jump or a call goes: relative to the next instruction, or not
abbrev pub jump_target : Bool → ℕ → ℕ → ℕ
jump_target relative next value = if relative then (value + next) % 2 ^ 64 else value

abbrev pub lands : ℕ → Regs → Row
lands at regs = if is_odd at then Comes (Faults faults.Alignment) else Comes (Goes (at_address at regs))

abbrev pub jumps : Condition → Bool → Jump → ℕ → Regs → Row
jumps when relative target next regs =
    if is_taken when regs.carry
    then Takes (by_jump target regs) 8 (λ value. lands (jump_target relative next value) regs)
    else goes_on next regs

-- byte 1 counts two bytes each, with its sign
abbrev pub short_jumps : Condition → ℕ → ℕ → Regs → Row
short_jumps when distance next regs =
    if is_taken when regs.carry then lands ((next + 2 * immediate_of 1 distance) % 2 ^ 64) regs else goes_on next regs

-- ---- CALL, RET: the return address stands in the 8 bytes at R0, which is lowered by 16 first. The target is judged before it is
-- written. A native call is one of a service, of code, or a fault.

abbrev pub enters : ℕ → ℕ → Regs → Row
enters at next regs = Puts (lowered 16 regs) 8 next (Goes (at_address at (with_register 0 (lowered 16 regs) regs)))

abbrev pub enters_code : FaultKind → ℕ → ℕ → Regs → Row
enters_code fault at next regs = if is_odd at then Comes (Faults fault) else enters at next regs

abbrev pub enters_native : Target → ℕ → ℕ → Regs → Row
enters_native (found.Service number) at next regs = Comes (Serves number next)
enters_native found.Code at next regs = enters_code faults.NativeCall at next regs
enters_native found.Other at next regs = Comes (Faults faults.NativeCall)

abbrev pub calls_at : Bool → ℕ → ℕ → Regs → Row
calls_at true at next regs = Asks at (λ there. enters_native there at next regs)
calls_at false at next regs = enters_code faults.Alignment at next regs

abbrev pub calls : Bool → Bool → Jump → ℕ → Regs → Row
calls native relative target next regs =
    Takes (by_jump target regs) 8 (λ value. calls_at native (jump_target relative next value) next regs)

-- to 0 the invocation returns, with the status in R7
abbrev pub returns_to : ℕ → Regs → Row
returns_to at regs =
    if at == 0 then Comes (Returns (register_in 7 regs)) else lands at (with_register 0 (raised 16 regs) regs)

abbrev pub returns : Regs → Row
returns regs = Takes (At (register_in 0 regs)) 8 (λ at. returns_to at regs)

-- ---- CMP, CMPI: C is the test

abbrev pub flags : Bool → ℕ → Regs → Row
flags carry next regs = Comes (Goes (record regs { carry = carry; ip = next }))

abbrev pub compares : CmpOp → Bool → ℕ → Operand → ℕ → Regs → Row
compares op wide first second next regs =
    Takes (by_immediate 2 second regs) (data_bytes wide) (λ value. flags (test_of op wide (register_in first regs) value) next regs)

abbrev pub compares_immediate : CmpOp → Bool → Operand → Field → ℕ → Regs → Row
compares_immediate op wide first immediate next regs =
    Takes (by_index 2 first regs) (data_bytes wide) (λ value.
    flags (test_of op wide value (immediate_of (bytes_in immediate.width) immediate.raw)) next regs)

-- ---- NOT to EXTNDD: NOT, NEG and EXTND take operand 2 alone

abbrev pub takes_second_alone : AluOp → Bool
takes_second_alone alu.Not = true
takes_second_alone alu.Neg = true
takes_second_alone alu.ExtendByte = true
takes_second_alone alu.ExtendWord = true
takes_second_alone alu.ExtendDouble = true
takes_second_alone _ = false

abbrev pub is_division : AluOp → Bool
is_division alu.Div = true
is_division alu.Divu = true
is_division alu.Mod = true
is_division alu.Modu = true
is_division _ = false

-- a divisor is 0, in the bits that the operation works on
abbrev pub divides_by_zero : AluOp → Bool → ℕ → Bool
divides_by_zero op wide second = is_division op && (low_bits (width wide) second == 0)

abbrev pub puts_result : AluOp → Bool → Place → ℕ → ℕ → ℕ → Regs → Row
puts_result op wide place first second next regs =
    if divides_by_zero op wide second
    then Comes (Faults faults.Divide)
    else puts (place_destination place regs) (data_bytes wide) (result_of op wide first second) next regs

abbrev pub computes : AluOp → Bool → Place → Operand → ℕ → Regs → Row
computes op wide first second next regs =
    Takes (by_immediate 2 second regs) (data_bytes wide) (λ b.
    if takes_second_alone op
    then puts_result op wide first 0 b next regs
    else Takes (by_place first regs) (data_bytes wide) (λ a. puts_result op wide first a b next regs))

-- ---- MOV, MOVN, MOVSN, MOVI, MOVIN, MOVREL

abbrev pub moves : Width → FieldWidth → Operand → Operand → ℕ → Regs → Row
moves moved index first second next regs =
    Takes (by_index (bytes_in index) second regs) (bytes_moved moved) (λ value.
    puts (destination (bytes_in index) first regs) (bytes_moved moved) value next regs)

abbrev pub moves_signed : FieldWidth → Operand → Operand → ℕ → Regs → Row
moves_signed index first second next regs =
    Takes (by_immediate (bytes_in index) second regs) 8 (λ value.
    puts (destination (bytes_in index) first regs) 8 value next regs)

abbrev pub moves_natural : FieldWidth → Operand → Operand → ℕ → Regs → Row
moves_natural index first second next regs =
    Takes (by_index (bytes_in index) second regs) 8 (λ value.
    puts (destination (bytes_in index) first regs) 8 value next regs)

abbrev pub moves_immediate : Width → Operand → Field → ℕ → Regs → Row
moves_immediate moved first immediate next regs =
    puts (destination 2 first regs) (bytes_moved moved) (immediate_of (bytes_in immediate.width) immediate.raw) next regs

abbrev pub moves_index : Operand → Field → ℕ → Regs → Row
moves_index first index next regs = puts (destination 2 first regs) 8 (offset_of (bytes_in index.width) index.raw) next regs

abbrev pub moves_relative : Operand → Field → ℕ → Regs → Row
moves_relative first immediate next regs =
    puts (destination 2 first regs) 8 ((next + immediate_of (bytes_in immediate.width) immediate.raw) % 2 ^ 64) next regs

-- ---- LOADSP, STORESP: the flags are C in bit 0

abbrev pub loads_flags : ℕ → ℕ → Regs → Row
loads_flags register next regs = flags (is_odd (register_in register regs)) next regs

abbrev pub special_value : Special → ℕ → Regs → ℕ
special_value Flags next regs = bit regs.carry
special_value NextAddress next regs = next

abbrev pub stores_special : ℕ → Special → ℕ → Regs → Row
stores_special register from next regs = sets register (special_value from next regs) next regs

-- ---- PUSH, POP, PUSHN, POPN: PUSH takes its value, then lowers R0 and writes there; POP reads at R0, then raises it

abbrev pub pushes : ℕ → Operand → ℕ → Regs → Row
pushes n operand next regs =
    Takes (by_immediate 2 operand regs) n (λ value.
    Puts (lowered n regs) n (low n value) (Goes (at_address next (with_register 0 (lowered n regs) regs))))

-- a direct POP adds its immediate to the n bytes, with their sign
abbrev pub popped : ℕ → Operand → ℕ → ℕ → Regs → Row
popped n operand value next regs =
    if operand.place.indirect
    then Puts (indexed 2 operand regs) n (low n value) (Goes (at_address next regs))
    else sets operand.place.register
    ((immediate_of n value + immediate_in 2 operand.field) % 2 ^ 64) next regs

abbrev pub pops : ℕ → Operand → ℕ → Regs → Row
pops n operand next regs =
    Takes (At (register_in 0 regs)) n (λ value. popped n operand value next (with_register 0 (raised n regs) regs))

abbrev pub stacks : StackOp → ℕ → Operand → ℕ → Regs → Row
stacks Push n operand next regs = pushes n operand next regs
stacks Pop n operand next regs = pops n operand next regs

-- ---- all of them

unfoldable pub row_of : Ins → ℕ → Regs → Row
row_of (ins.Break code) next regs = breaks code next regs
row_of (ins.Jump when relative target) next regs = jumps when relative target next regs
row_of (ins.ShortJump when distance) next regs = short_jumps when distance next regs
row_of (ins.Call native relative target) next regs = calls native relative target next regs
row_of ins.Return next regs = returns regs
row_of (ins.Compare op wide first second) next regs = compares op wide first second next regs
row_of (ins.Compute op wide first second) next regs = computes op wide first second next regs
row_of (ins.Move moved index first second) next regs = moves moved index first second next regs
row_of (ins.MoveSigned index first second) next regs = moves_signed index first second next regs
row_of (ins.MoveNatural index first second) next regs = moves_natural index first second next regs
row_of (ins.LoadFlags register) next regs = loads_flags register next regs
row_of (ins.StoreSpecial register from) next regs = stores_special register from next regs
row_of (ins.Stack op wide operand) next regs = stacks op (data_bytes wide) operand next regs
row_of (ins.StackNatural op operand) next regs = stacks op 8 operand next regs
row_of (ins.CompareImmediate op wide first immediate) next regs = compares_immediate op wide first immediate next regs
row_of (ins.MoveImmediate moved first immediate) next regs = moves_immediate moved first immediate next regs
row_of (ins.MoveIndex first index) next regs = moves_index first index next regs
row_of (ins.MoveRelative first immediate) next regs = moves_relative first immediate next regs
