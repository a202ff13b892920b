use Rattle.mm_groups.proofs.ChainLawLemmas.{chains_outside_leave_nothing}
use Rattle.mm_groups.proofs.laws.chains_outside_leave_nothing.Goals as goal

pub returns : goal.returns
returns c = chains_outside_leave_nothing
