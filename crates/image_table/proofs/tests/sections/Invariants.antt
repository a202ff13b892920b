use Rattle.std.proofs.Common.{◌+◌, ◌-◌, ◌*◌}
use Rattle.image_table.proofs.TestLemmas.{Halfway}
use Rattle.image_table.proofs.tests.sections.Given as goal

abbrev pub invariant-loop-k : goal.invariant-loop-k
invariant-loop-k l = Halfway (512 + 16 * l.count) l.k (l.count - l.k) l.low l.high l.parts
