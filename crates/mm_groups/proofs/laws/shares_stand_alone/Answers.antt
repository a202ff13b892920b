use Rattle.mm_groups.proofs.ReplayLemmas.{shares_stand_alone}
use Rattle.mm_groups.proofs.laws.shares_stand_alone.Goals as goal

pub returns : goal.returns
returns c = shares_stand_alone
