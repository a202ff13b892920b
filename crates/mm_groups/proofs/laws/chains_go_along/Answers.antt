use Rattle.mm_groups.proofs.ChainLawLemmas.{chains_go_along}
use Rattle.mm_groups.proofs.laws.chains_go_along.Goals as goal

pub returns : goal.returns
returns c = chains_go_along
