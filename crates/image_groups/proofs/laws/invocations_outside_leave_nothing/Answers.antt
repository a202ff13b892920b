use Rattle.image_groups.proofs.WorkLemmas.{invocations_outside_leave_nothing}
use Rattle.image_groups.proofs.laws.invocations_outside_leave_nothing.Goals as goal

pub returns : goal.returns
returns c = invocations_outside_leave_nothing
