-- Each instruction takes at most two values, and one that ends in a fault writes nothing.
use Rattle.std.proofs.Common.{ℕ, ◌+◌, ◌*◌, ◌%◌, ◌^◌, ◌==◌, Bool, true, false, if◌then◌else◌}
use Rattle.mm_base.specs.declared.bus.Target.{Target}
use Rattle.mm_base.specs.declared.bus.Target.TheVariants as found
use Rattle.mm_base.specs.declared.invocation.FaultKind.{FaultKind}
use Rattle.mm_base.specs.declared.invocation.FaultKind.TheVariants as faults
use Rattle.mm_base.specs.declared.operation.AluOp.{AluOp}
use Rattle.ebc_decode.specs.declared.choices.BreakCode.{BreakCode}
use Rattle.ebc_decode.specs.declared.choices.BreakCode.TheVariants.{Runaway, Version, Breakpoint, SystemCall, Thunk}
use Rattle.ebc_decode.specs.declared.choices.BreakCode.TheVariants.{CompilerVersion}
use Rattle.ebc_decode.specs.declared.choices.StackOp.{StackOp}
use Rattle.ebc_decode.specs.declared.choices.StackOp.TheVariants.{Push, Pop}
use Rattle.ebc_decode.specs.declared.operand.Operand.{Operand}
use Rattle.ebc_decode.specs.declared.operand.Place.{Place}
use Rattle.ebc_decode.specs.declared.ins.Ins.{Ins}
use Rattle.ebc_decode.specs.declared.ins.Ins.TheVariants as ins
use Rattle.ebc_decode.specs.Spelling.{bytes_in, bytes_moved}
use Rattle.ebc_alu.specs.Index.{immediate_of}
use Rattle.ebc_alu.specs.Results.{result_of}
use Rattle.ebc_machine.specs.declared.place.Destination.{Destination}
use Rattle.ebc_machine.specs.declared.place.Destination.TheVariants.{Register, Memory}
use Rattle.ebc_machine.specs.declared.regs.Regs.{Regs}
use Rattle.ebc_machine.specs.Operands.{with_register, raised, is_odd, destination, place_destination}
use Rattle.ebc_machine.specs.Rows.{Row, puts}
use Rattle.ebc_machine.specs.Instructions.{data_bytes, breaks, is_taken, jump_target, lands, enters_code, enters_native, calls_at, returns_to, takes_second_alone, divides_by_zero, puts_result, popped, stacks, row_of}
use Rattle.ebc_machine.specs.Laws.{IsShort}

one_of : (first : Bool) (one other : Row) (most : ℕ) → IsShort one most → IsShort other most → IsShort (if first then one else other) most
one_of true one other most h k = h
one_of false one other most h k = k

puts_short : (to : Destination) (n value next : ℕ) (regs : Regs) (most : ℕ) → IsShort (puts to n value next regs) most
puts_short (Register register) n value next regs most = tt
puts_short (Memory at) n value next regs most = tt

lands_short : (at : ℕ) (regs : Regs) (most : ℕ) → IsShort (lands at regs) most
lands_short at regs most = one_of (is_odd at) _ _ most tt tt

enters_short : (fault : FaultKind) (at next : ℕ) (regs : Regs) (most : ℕ) → IsShort (enters_code fault at next regs) most
enters_short fault at next regs most = one_of (is_odd at) _ _ most tt tt

native_short : (there : Target) (at next : ℕ) (regs : Regs) (most : ℕ) → IsShort (enters_native there at next regs) most
native_short (found.Service number) at next regs most = tt
native_short found.Code at next regs most = enters_short faults.NativeCall at next regs most
native_short found.Other at next regs most = tt

calls_short : (native : Bool) (at next : ℕ) (regs : Regs) (most : ℕ) → IsShort (calls_at native at next regs) most
calls_short true at next regs most = λ there. native_short there at next regs most
calls_short false at next regs most = enters_short faults.Alignment at next regs most

returns_short : (at : ℕ) (regs : Regs) (most : ℕ) → IsShort (returns_to at regs) most
returns_short at regs most = one_of (at == 0) _ _ most tt (lands_short at (with_register 0 (raised 16 regs) regs) most)

breaks_short : (code : BreakCode) (next : ℕ) (regs : Regs) → IsShort (breaks code next regs) 2
breaks_short Runaway next regs = tt
breaks_short Version next regs = tt
breaks_short Breakpoint next regs = tt
breaks_short SystemCall next regs = tt
breaks_short Thunk next regs = λ value. tt
breaks_short CompilerVersion next regs = tt

result_short : (op : AluOp) (wide : Bool) (place : Place) (first second next : ℕ) (regs : Regs) (most : ℕ)
    → IsShort (puts_result op wide place first second next regs) most
result_short op wide place first second next regs most =
    one_of (divides_by_zero op wide second) _ _ most tt
    (puts_short (place_destination place regs) (data_bytes wide) (result_of op wide first second) next regs most)

popped_short : (n : ℕ) (operand : Operand) (value next : ℕ) (regs : Regs) (most : ℕ)
    → IsShort (popped n operand value next regs) most
popped_short n operand value next regs most = one_of operand.place.indirect _ _ most tt tt

stacks_short : (op : StackOp) (n : ℕ) (operand : Operand) (next : ℕ) (regs : Regs) → IsShort (stacks op n operand next regs) 2
stacks_short Push n operand next regs = λ value. tt
stacks_short Pop n operand next regs =
    λ value. popped_short n operand value next (with_register 0 (raised n regs) regs) 1

pub rows_are_short : (ins : Ins) (next : ℕ) (regs : Regs) → IsShort (row_of ins next regs) 2
unfolding row_of
rows_are_short (ins.Break code) next regs = breaks_short code next regs
rows_are_short (ins.Jump when relative target) next regs =
    one_of (is_taken when regs.carry) _ _ 2 (λ value. lands_short (jump_target relative next value) regs 1) tt
rows_are_short (ins.ShortJump when distance) next regs =
    one_of (is_taken when regs.carry) _ _ 2 (lands_short ((next + 2 * immediate_of 1 distance) % 2 ^ 64) regs 2) tt
rows_are_short (ins.Call native relative target) next regs =
    λ value. calls_short native (jump_target relative next value) next regs 1
rows_are_short ins.Return next regs = λ at. returns_short at regs 1
rows_are_short (ins.Compare op wide first second) next regs = λ value. tt
rows_are_short (ins.Compute op wide first second) next regs =
    λ b. one_of (takes_second_alone op) _ _ 1 (result_short op wide first 0 b next regs 1)
    (λ a. result_short op wide first a b next regs 0)
rows_are_short (ins.Move moved index first second) next regs =
    λ value. puts_short (destination (bytes_in index) first regs) (bytes_moved moved) value next regs 1
rows_are_short (ins.MoveSigned index first second) next regs =
    λ value. puts_short (destination (bytes_in index) first regs) 8 value next regs 1
rows_are_short (ins.MoveNatural index first second) next regs =
    λ value. puts_short (destination (bytes_in index) first regs) 8 value next regs 1
rows_are_short (ins.LoadFlags register) next regs = tt
rows_are_short (ins.StoreSpecial register from) next regs = tt
rows_are_short (ins.Stack op wide operand) next regs = stacks_short op (data_bytes wide) operand next regs
rows_are_short (ins.StackNatural op operand) next regs = stacks_short op 8 operand next regs
rows_are_short (ins.CompareImmediate op wide first immediate) next regs = λ value. tt
rows_are_short (ins.MoveImmediate moved first immediate) next regs = puts_short (destination 2 first regs) _ _ next regs 2
rows_are_short (ins.MoveIndex first index) next regs = puts_short (destination 2 first regs) _ _ next regs 2
rows_are_short (ins.MoveRelative first immediate) next regs = puts_short (destination 2 first regs) _ _ next regs 2
