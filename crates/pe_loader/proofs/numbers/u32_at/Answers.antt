use Rattle.std.proofs.Common.{arith}
use Rattle.pe_loader.proofs.NumberLemmas.{small_4}
use Rattle.pe_loader.proofs.numbers.u32_at.Goals as goal

pub overflow_cast-result : goal.overflow_cast-result
overflow_cast-result c = omega (arith, small_4 c.args.bytes.now c.args.at (λ k. omega (arith, c.type_inv.bytes k)) c.requires, c.number_at.ensures)
