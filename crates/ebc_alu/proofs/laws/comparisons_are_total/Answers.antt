use Rattle.ebc_alu.proofs.LawLemmas.{comparisons_are_total}
use Rattle.ebc_alu.proofs.laws.comparisons_are_total.Goals as goal

pub returns : goal.returns
returns c = comparisons_are_total
