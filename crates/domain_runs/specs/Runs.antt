-- An invocation from its frame on.
use Rattle.std.specs.Prelude.{ℕ, Result, Ok, Err}
use Rattle.ebc_machine.specs.Invocation.{invoked}
use Rattle.ebc_machine.specs.declared.regs.Regs.{Regs}
use Rattle.mm_base.specs.Bus.{Meaning}
use Rattle.mm_base.specs.declared.access.Denial.{Denial}
use Rattle.mm_base.specs.declared.invocation.Ended.{Ended}
use Rattle.mm_base.specs.declared.invocation.Ended.TheVariants.{Denied}

-- how an invocation ends that begins with these registers, or whose frame was denied
abbrev pub ending : {B : Type 0} → Meaning B → ℕ → Result Regs Denial × B → Ended × B
ending m fuel (Ok regs, bus) = ((invoked m fuel regs bus).0.ended, (invoked m fuel regs bus).1)
ending m fuel (Err denial, bus) = (Denied denial.why denial.at, bus)
