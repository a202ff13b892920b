use Rattle.image_groups.proofs.WorkLemmas.{invocations_go_along}
use Rattle.image_groups.proofs.laws.invocations_go_along.Goals as goal

pub returns : goal.returns
returns c = invocations_go_along
