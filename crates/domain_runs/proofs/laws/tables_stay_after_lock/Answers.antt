use Rattle.domain_runs.proofs.CallLemmas as lemmas
use Rattle.domain_runs.proofs.laws.tables_stay_after_lock.Goals as goal

pub returns : goal.returns
returns c = lemmas.tables_stay_after_lock
