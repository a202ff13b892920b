use Rattle.page_runs.proofs.ChangeLemmas.{changes_these_alone}
use Rattle.page_runs.proofs.laws.page_by_page.Goals as goal

pub returns : goal.returns
returns c = changes_these_alone
