use Rattle.mm_core.proofs.LawLemmas.{root_always_runs}
use Rattle.mm_core.proofs.laws.root_always_runs.Goals as goal

pub returns : goal.returns
returns c = root_always_runs
