use Rattle.image_groups.proofs.WorkLemmas.{instructions_outside_leave_nothing}
use Rattle.image_groups.proofs.laws.instructions_outside_leave_nothing.Goals as goal

pub returns : goal.returns
returns c = instructions_outside_leave_nothing
