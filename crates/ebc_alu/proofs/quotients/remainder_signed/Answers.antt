use Rattle.std.proofs.Common.{int_rem, refl, sym, ◌∙◌, ap, subst, w64}
use Rattle.std.specs.Int.{IsNonZero}
use Rattle.ebc_alu.specs.Reading.{width, reduced}
use Rattle.ebc_alu.proofs.ReadingLemmas.{passed}
use Rattle.ebc_alu.proofs.QuotientLemmas.{divisor-is, remainder-is}
use Rattle.ebc_alu.proofs.quotients.remainder_signed.Goals as goal

pub wrapping_rem-requires : goal.wrapping_rem-requires
wrapping_rem-requires c =
    let divisor = passed w64 c.to_signed-2.result _ c.to_signed-2.type_inv c.to_signed-2.ensures in
    subst (IsNonZero w64) (sym divisor)
    (divisor-is c.args.wide c.args.a c.args.b c.requires.a c.requires.b c.requires.divisor)

pub returns : goal.returns
returns c =
    let z = c.wrapping_rem.result in
    let dividend = passed w64 c.to_signed.result _ c.to_signed.type_inv c.to_signed.ensures in
    let divisor = passed w64 c.to_signed-2.result _ c.to_signed-2.type_inv c.to_signed-2.ensures in
    c.from_signed.ensures
    ∙ ap (reduced (width c.args.wide)) (passed w64 z z c.wrapping_rem.type_inv refl)
    ∙ remainder-is c.args.wide c.args.a c.args.b c.requires.a c.requires.b z
    (c.wrapping_rem.ensures ∙ (λ i. int_rem (dividend i) (divisor i)))
