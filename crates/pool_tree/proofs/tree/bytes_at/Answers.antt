use Rattle.pool_tree.proofs.SizeLemmas.{bytes_shifted}
use Rattle.pool_tree.proofs.tree.bytes_at.Goals as goal

pub returns : goal.returns
returns c = bytes_shifted c.args.level c.requires
