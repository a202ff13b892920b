use Rattle.std.proofs.Common.{◌∙◌}
use Rattle.ebc_alu.proofs.SumLemmas.{product-low, product-signed}
use Rattle.ebc_alu.proofs.sums.multiply.Goals as goal

pub returns-clause-unsigned : goal.returns-clause-unsigned
returns-clause-unsigned c = c.operand.ensures ∙ product-low c.args.wide c.args.a c.args.b

pub returns-clause-signed : goal.returns-clause-signed
returns-clause-signed c =
    c.operand.ensures
    ∙ product-low c.args.wide c.args.a c.args.b
    ∙ product-signed c.args.wide c.args.a c.args.b c.requires.a c.requires.b
