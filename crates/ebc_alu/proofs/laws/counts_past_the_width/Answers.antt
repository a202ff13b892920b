use Rattle.ebc_alu.proofs.LawLemmas.{counts_past_the_width}
use Rattle.ebc_alu.proofs.laws.counts_past_the_width.Goals as goal

pub returns : goal.returns
returns c = counts_past_the_width
