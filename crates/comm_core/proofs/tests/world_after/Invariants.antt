use Rattle.std.proofs.Common.{◌≡◌, length}
use Rattle.comm_core.proofs.tests.world_after.Given as goal

-- the world keeps its lanes and their data words
abbrev pub invariant-loop-event : goal.invariant-loop-event
invariant-loop-event g l = (l.world.words ≡ l.fn.words) × (length l.world.lanes ≡ l.fn.lanes)
