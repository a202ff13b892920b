use Rattle.std.proofs.Common.{min, refl, ◌∙◌, ap, w64}
use Rattle.std.specs.Int.{int_shr}
use Rattle.ebc_alu.specs.Reading.{width, reduced}
use Rattle.ebc_alu.proofs.ReadingLemmas.{passed}
use Rattle.ebc_alu.proofs.ShiftLemmas.{signed_right-is}
use Rattle.ebc_alu.proofs.shifts.shift_right_signed.Goals as goal

pub returns : goal.returns
returns c =
    let z = c.unbounded_shr.result in
    let number = passed w64 c.to_signed.result _ c.to_signed.type_inv c.to_signed.ensures in
    c.from_signed.ensures
    ∙ ap (reduced (width c.args.wide)) (passed w64 z z c.unbounded_shr.type_inv refl)
    ∙ signed_right-is c.args.wide c.args.a c.args.b c.shift_count.result c.requires c.shift_count.ensures z
    (c.unbounded_shr.ensures ∙ ap (λ x. int_shr x (min c.shift_count.result 63)) number)
