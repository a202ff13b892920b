use Rattle.ebc_alu.proofs.LawLemmas.{signs_cancel}
use Rattle.ebc_alu.proofs.laws.signs_cancel.Goals as goal

pub returns : goal.returns
returns c = signs_cancel
