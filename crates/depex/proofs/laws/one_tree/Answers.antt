use Rattle.depex.proofs.CourseLemmas.{one_tree}
use Rattle.depex.proofs.laws.one_tree.Goals as goal

pub returns : goal.returns
returns c = one_tree
