use Rattle.pool_tree.proofs.ArenaLemmas.{freed_is_a_place}
use Rattle.pool_tree.proofs.laws.freed_blocks.Goals as goal

pub returns : goal.returns
returns c = freed_is_a_place
