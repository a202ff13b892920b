use Rattle.image_groups.proofs.WorkLemmas.{each_call_outside_leaves_nothing}
use Rattle.image_groups.proofs.laws.each_call_outside_leaves_nothing.Goals as goal

pub returns : goal.returns
returns c = each_call_outside_leaves_nothing
