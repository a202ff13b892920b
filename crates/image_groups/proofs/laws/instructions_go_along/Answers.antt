use Rattle.image_groups.proofs.WorkLemmas.{instructions_go_along}
use Rattle.image_groups.proofs.laws.instructions_go_along.Goals as goal

pub returns : goal.returns
returns c = instructions_go_along
