use Rattle.std.proofs.Common.{◌∙◌}
use Rattle.ebc_alu.proofs.SumLemmas.{sum-low}
use Rattle.ebc_alu.proofs.sums.add.Goals as goal

pub returns : goal.returns
returns c = c.operand.ensures ∙ sum-low c.args.wide c.args.a c.args.b
