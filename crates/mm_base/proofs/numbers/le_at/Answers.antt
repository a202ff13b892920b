use Rattle.std.proofs.Common.{arith}
use Rattle.mm_base.proofs.NumberLemmas.{little_number-number_of}
use Rattle.mm_base.proofs.numbers.le_at.Goals as goal

pub returns-clause-value : goal.returns-clause-value
returns-clause-value c = grind (arith, little_number-number_of)
