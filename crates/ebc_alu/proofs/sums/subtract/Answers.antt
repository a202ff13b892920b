use Rattle.std.proofs.Common.{◌∙◌}
use Rattle.ebc_alu.proofs.SumLemmas.{difference-low}
use Rattle.ebc_alu.proofs.sums.subtract.Goals as goal

pub returns : goal.returns
returns c = c.operand.ensures ∙ difference-low c.args.wide c.args.a c.args.b c.ranges.b.fits
