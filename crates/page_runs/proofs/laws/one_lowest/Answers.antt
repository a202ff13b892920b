use Rattle.page_runs.proofs.ChangeLemmas.{one_is_lowest}
use Rattle.page_runs.proofs.laws.one_lowest.Goals as goal

pub returns : goal.returns
returns c = one_is_lowest
