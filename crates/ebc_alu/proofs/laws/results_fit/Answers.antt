use Rattle.ebc_alu.proofs.LawLemmas.{results_fit}
use Rattle.ebc_alu.proofs.laws.results_fit.Goals as goal

pub returns : goal.returns
returns c = results_fit
