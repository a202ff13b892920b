use Rattle.supervisor_calls.proofs.LawLemmas as lemmas
use Rattle.supervisor_calls.proofs.laws.own_pages_pass.Goals as goal

pub returns : goal.returns
returns c = lemmas.own_pages_pass
