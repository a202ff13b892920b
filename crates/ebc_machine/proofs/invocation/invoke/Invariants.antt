use Rattle.std.proofs.Common.{◌≡◌, None}
use Rattle.ebc_machine.specs.Invocation.{turns, invoked}
use Rattle.ebc_machine.proofs.invocation.invoke.Given as goal

-- What is left of the fuel makes of this what all of it makes of the start.
abbrev pub invariant-loop-left : goal.invariant-loop-left
invariant-loop-left g l =
    turns g.B.Bus.meaning l.left None l.regs l.bus ≡ invoked g.B.Bus.meaning l.fn.fuel l.fn.regs l.fn.bus

abbrev pub decreases-loop-left : goal.decreases-loop-left
decreases-loop-left g l = l.left
