use Rattle.std.proofs.Common.{◌≡◌, ◌-◌, length}
use Rattle.depex.proofs.WalkLemmas.{Underway}
use Rattle.depex.proofs.reading.judge_items.Given as goal

abbrev pub invariant-loop : goal.invariant-loop
invariant-loop l = record {
  bytes : l.walk.bytes ≡ l.bytes;
  under : Underway l.walk;
}

abbrev pub decreases-loop : goal.decreases-loop
decreases-loop l = length l.walk.bytes - l.walk.at
