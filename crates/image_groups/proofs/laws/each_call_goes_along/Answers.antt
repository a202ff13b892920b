use Rattle.image_groups.proofs.WorkLemmas.{each_call_goes_along}
use Rattle.image_groups.proofs.laws.each_call_goes_along.Goals as goal

pub returns : goal.returns
returns c = each_call_goes_along
