use Rattle.mm_groups.proofs.ChainLawLemmas.{root_pass_shares_alike}
use Rattle.mm_groups.proofs.laws.root_pass_shares_alike.Goals as goal

pub returns : goal.returns
returns c = root_pass_shares_alike
