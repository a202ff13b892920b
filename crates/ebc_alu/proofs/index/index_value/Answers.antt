use Rattle.std.proofs.Common.{◌≡◌, ◌+◌, ◌-◌, ◌*◌, ◌/◌, ◌%◌, ◌^◌, min, ◌∙◌, ap, arith}
use Rattle.ebc_alu.proofs.IndexLemmas.{few_bytes, plus-is, minus-is}
use Rattle.ebc_alu.proofs.index.index_value.Goals as goal

pub returns-then-head-lt8 : goal.returns-then-head-lt8
returns-then-head-lt8 c =
    let few = few_bytes c.args.bytes c.requires.width in
    let end = 8 * c.from.result - 4 in
    let ends : end + 4 ≡ 8 * c.args.bytes = omega (arith, c.from.ensures) in
    let count = ap (λ b. min (b * (c.args.raw / 2 ^ end % 8)) end) c.from-2.ensures in
    plus-is c.args.bytes c.args.raw end c.min-natural.result ends (omega arith) c.requires.fits
    (c.min-natural.ensures ∙ count) c.sum_of_fields-distance.result c.sum_of_fields-distance.ensures.value c.if-head-lt8.true

pub returns-else-head-lt8 : goal.returns-else-head-lt8
returns-else-head-lt8 c =
    let few = few_bytes c.args.bytes c.requires.width in
    let end = 8 * c.from.result - 4 in
    let ends : end + 4 ≡ 8 * c.args.bytes = omega (arith, c.from.ensures) in
    let count = ap (λ b. min (b * (c.args.raw / 2 ^ end % 8)) end) c.from-2.ensures in
    minus-is c.args.bytes c.args.raw end c.min-natural.result ends (omega arith) c.requires.fits
    (c.min-natural.ensures ∙ count) c.sum_of_fields-distance.result c.sum_of_fields-distance.ensures.value c.if-head-lt8.false
