use Rattle.domain_runs.proofs.CallLemmas as lemmas
use Rattle.domain_runs.proofs.laws.records_stay_few.Goals as goal

pub returns : goal.returns
returns c = lemmas.records_stay_few
