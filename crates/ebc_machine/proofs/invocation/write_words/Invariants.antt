use Rattle.std.proofs.Common.{◌≡◌, ◌+◌, ◌*◌, drop}
use Rattle.ebc_machine.specs.Invocation.{written}
use Rattle.ebc_machine.proofs.invocation.write_words.Given as goal

-- Writing the words that are left comes to what writing all of them does.
abbrev pub invariant-loop-i : goal.invariant-loop-i
invariant-loop-i g l =
    written g.B.Bus.meaning (l.fn.at + 8 * l.i) (drop l.i l.fn.words) l.bus
    ≡ written g.B.Bus.meaning l.fn.at l.fn.words l.fn.bus
