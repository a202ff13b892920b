use Rattle.page_runs.proofs.ChangeLemmas.{share_no_page}
use Rattle.page_runs.proofs.laws.apart.Goals as goal

pub returns : goal.returns
returns c = share_no_page
