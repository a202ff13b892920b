use Rattle.std.proofs.Common.{◌≡◌, ◌-◌, length}
use Rattle.depex.proofs.WalkLemmas.{Walked}
use Rattle.depex.proofs.reading.read_items.Given as goal

abbrev pub invariant-loop-item : goal.invariant-loop-item
invariant-loop-item l = record {
  bytes : l.walk.bytes ≡ l.bytes;
  walked : Walked l.items l.walk;
}

abbrev pub decreases-loop-item : goal.decreases-loop-item
decreases-loop-item l = length l.walk.bytes - l.walk.at
