use Rattle.ebc_alu.proofs.LawLemmas.{least_by_minus_one}
use Rattle.ebc_alu.proofs.laws.least_by_minus_one.Goals as goal

pub returns : goal.returns
returns c = least_by_minus_one
