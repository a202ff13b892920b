-- One instruction over a bus: two bytes are fetched, then all of it, and it does what its row says.
use Rattle.std.specs.Prelude.{ℕ, ◌+◌, ◌%◌, ◌^◌, take, get_or, Option, Some, None}
use Rattle.mm_base.specs.Bus.{Meaning}
use Rattle.mm_base.specs.declared.invocation.FaultKind.TheVariants.{Encoding}
use Rattle.ebc_decode.specs.declared.ins.Ins.{Ins}
use Rattle.ebc_decode.specs.Decoding.{length_begun, instruction_begun}
use Rattle.ebc_machine.specs.declared.regs.Regs.{Regs}
use Rattle.ebc_machine.specs.Rows.{Outcome, Faults, going_on, performed}
use Rattle.ebc_machine.specs.Instructions.{row_of}

-- what the instruction does that the bytes begin with, if they begin with one
abbrev pub executed : {B : Type 0} → Meaning B → Regs → Option (Ins × ℕ) → B → Outcome × B
executed m regs None bus = (Faults Encoding, bus)
executed m regs (Some (ins, n)) bus = performed m (row_of ins ((regs.ip + n) % 2 ^ 64) regs) bus

-- the whole instruction is fetched, if two bytes begin one
abbrev pub fetched_whole : {B : Type 0} → Meaning B → Regs → Option ℕ → B → Outcome × B
fetched_whole m regs None bus = (Faults Encoding, bus)
fetched_whole m regs (Some n) bus =
    going_on (λ bytes left. executed m regs (instruction_begun (take n bytes)) left) (m.fetches bus regs.ip n)

-- What the instruction at ip comes to, and the bus after it.
unfoldable pub stepped : {B : Type 0} → Meaning B → Regs → B → Outcome × B
stepped m regs bus =
    going_on (λ two left. fetched_whole m regs (length_begun (get_or two 0 0) (get_or two 1 0)) left) (m.fetches bus regs.ip 2)
