use Rattle.std.proofs.Common.{◌≡◌, ◌+◌, length, map, take}
use Rattle.std.specs.List.{All}
use Rattle.mm_run.proofs.lanes.words_of_lanes.Given as goal

-- the words of the lanes so far
abbrev pub invariant-loop-lane : goal.invariant-loop-lane
invariant-loop-lane g l = record {
  values : l.lanes ≡ map (λ seen. seen.values) (take l.lane l.world.lanes);
  sizes : All (λ lane. length lane ≡ l.world.words + 2) l.lanes;
}
