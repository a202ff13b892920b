use Rattle.std.proofs.Common.{sym, ap}
use Rattle.ebc_alu.specs.Reading.{width}
use Rattle.ebc_alu.specs.Results.{complement}
use Rattle.ebc_alu.proofs.bits.invert.Goals as goal

pub returns-then-wide : goal.returns-then-wide
unfolding complement
returns-then-wide c = ap (λ wide. complement (width wide) c.args.b) (sym c.if-wide.true)

pub returns-else-wide : goal.returns-else-wide
unfolding complement
returns-else-wide c = ap (λ wide. complement (width wide) c.args.b) (sym c.if-wide.false)
