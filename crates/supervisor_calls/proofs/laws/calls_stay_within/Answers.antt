use Rattle.supervisor_calls.proofs.WithinServices as lemmas
use Rattle.supervisor_calls.proofs.laws.calls_stay_within.Goals as goal

pub returns : goal.returns
returns c = lemmas.calls_stay_within
