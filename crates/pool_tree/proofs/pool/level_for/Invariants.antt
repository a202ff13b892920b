use Rattle.std.proofs.Common.{◌≡◌, ◌⊎◌, ◌-◌, ◌<◌, ◌≤◌}
use Rattle.pool_tree.specs.TreeInside.{part_bytes}
use Rattle.pool_tree.proofs.pool.level_for.Given as goal

abbrev pub invariant-loop-level : goal.invariant-loop-level
invariant-loop-level l = record {
  low : 1 ≤ l.level;
  high : l.level ≤ 12;
  short : (l.level ≡ 1) ⊎ (part_bytes (l.level - 1) < l.n);
}

abbrev pub decreases-loop-level : goal.decreases-loop-level
decreases-loop-level l = 12 - l.level
