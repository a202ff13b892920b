use Rattle.std.proofs.Common.{subst}
use Rattle.pool_tree.specs.Pool.{IsArena}
use Rattle.pool_tree.proofs.ArenaLemmas.{pool_is_arena}
use Rattle.pool_tree.proofs.pool.PoolTree.lies_apart.Goals as goal

pub returns : goal.returns
returns c = subst IsArena c.self.view_is (pool_is_arena c.self.inside.nodes.items)
