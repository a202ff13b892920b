use Rattle.pool_tree.proofs.SizeLemmas.{size_exists, size_unique}
use Rattle.pool_tree.proofs.laws.block_sizes.Goals as goal

pub returns-clause-each : goal.returns-clause-each
returns-clause-each c = size_exists

pub returns-clause-one : goal.returns-clause-one
returns-clause-one c = size_unique
