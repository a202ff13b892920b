use Rattle.std.proofs.Common.{◌+◌, ◌*◌}
use Rattle.pool_tree.proofs.tree.+take.Given as goal

abbrev pub decreases-take : goal.decreases-take
decreases-take l = 2 * l.level

abbrev pub decreases-take_below : goal.decreases-take_below
decreases-take_below l = 2 * l.level + 1
