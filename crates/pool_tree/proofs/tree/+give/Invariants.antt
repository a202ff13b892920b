use Rattle.std.proofs.Common.{◌+◌, ◌*◌}
use Rattle.pool_tree.proofs.tree.+give.Given as goal

abbrev pub decreases-give : goal.decreases-give
decreases-give l = 2 * l.level

abbrev pub decreases-give_below : goal.decreases-give_below
decreases-give_below l = 2 * l.level + 1
