use Rattle.pool_tree.proofs.ArenaLemmas.{kept_free, pool_free}
use Rattle.pool_tree.proofs.pool.PoolTree.new.Goals as goal

pub invariant_of-result : goal.invariant_of-result
invariant_of-result c = record {
  count = c.in_ok-nodes.ensures.count;
  kept = kept_free 12 c.in_ok-nodes.nodes.items c.in_ok-nodes.ensures.free;
}

pub returns : goal.returns
returns c = pool_free c.in_ok-nodes.nodes.items c.in_ok-nodes.ensures.free
