use Rattle.std.proofs.Common.{◌/◌, ◌^◌, ap, arith}
use Rattle.ebc_alu.proofs.IndexLemmas.{fields-fit}
use Rattle.ebc_alu.proofs.index.sum_of_fields.Goals as goal

pub overflow_mul-result : goal.overflow_mul-result
overflow_mul-result c =
    let fit = fields-fit c.args.raw c.args.end c.args.natural c.requires.within c.requires.small in
    omega (arith, c.keep_low-2.ensures)

pub overflow_add-result : goal.overflow_add-result
overflow_add-result c =
    let fit = fields-fit c.args.raw c.args.end c.args.natural c.requires.within c.requires.small in
    let constant = ap (λ n. n / 2 ^ c.args.natural) c.keep_low.ensures in
    omega (arith, c.keep_low-2.ensures)
