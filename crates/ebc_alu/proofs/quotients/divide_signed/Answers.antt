use Rattle.std.proofs.Common.{refl, sym, ◌∙◌, ap, subst, w64}
use Rattle.std.specs.Int.{IsNonZero, int_wrapping_div}
use Rattle.ebc_alu.specs.Reading.{width, reduced}
use Rattle.ebc_alu.proofs.ReadingLemmas.{passed}
use Rattle.ebc_alu.proofs.QuotientLemmas.{divisor-is, quotient-is}
use Rattle.ebc_alu.proofs.quotients.divide_signed.Goals as goal

pub wrapping_div-requires : goal.wrapping_div-requires
wrapping_div-requires c =
    let divisor = passed w64 c.to_signed-2.result _ c.to_signed-2.type_inv c.to_signed-2.ensures in
    subst (IsNonZero w64) (sym divisor)
    (divisor-is c.args.wide c.args.a c.args.b c.requires.a c.requires.b c.requires.divisor)

pub returns : goal.returns
returns c =
    let z = c.wrapping_div.result in
    let dividend = passed w64 c.to_signed.result _ c.to_signed.type_inv c.to_signed.ensures in
    let divisor = passed w64 c.to_signed-2.result _ c.to_signed-2.type_inv c.to_signed-2.ensures in
    c.from_signed.ensures
    ∙ ap (reduced (width c.args.wide)) (passed w64 z z c.wrapping_div.type_inv refl)
    ∙ quotient-is c.args.wide c.args.a c.args.b c.requires.a c.requires.b z
    (c.wrapping_div.ensures ∙ (λ i. int_wrapping_div w64 (dividend i) (divisor i)))
