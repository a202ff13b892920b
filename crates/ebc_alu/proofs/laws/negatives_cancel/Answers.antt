use Rattle.ebc_alu.proofs.LawLemmas.{negatives_cancel}
use Rattle.ebc_alu.proofs.laws.negatives_cancel.Goals as goal

pub returns : goal.returns
returns c = negatives_cancel
