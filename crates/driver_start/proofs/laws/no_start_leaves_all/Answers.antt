use Rattle.driver_start.proofs.LawLemmas.{no_start_leaves_all}
use Rattle.driver_start.proofs.laws.no_start_leaves_all.Goals as goal

pub returns : goal.returns
returns c = no_start_leaves_all
