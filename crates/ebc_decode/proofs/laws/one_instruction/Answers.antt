use Rattle.ebc_decode.proofs.LawLemmas.{one_instruction}
use Rattle.ebc_decode.proofs.laws.one_instruction.Goals as goal

pub returns : goal.returns
returns c = one_instruction
