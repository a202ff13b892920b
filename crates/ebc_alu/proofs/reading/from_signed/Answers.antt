use Rattle.std.proofs.Common.{◌∙◌, ap, w64}
use Rattle.std.specs.Int.{cast_unsigned}
use Rattle.std.proofs.lemmas.Int.{to_z-of_z}
use Rattle.ebc_alu.specs.Reading.{width, low_bits}
use Rattle.ebc_alu.proofs.ReadingLemmas.{low-cast_fits}
use Rattle.ebc_alu.proofs.reading.from_signed.Goals as goal

pub returns : goal.returns
returns c =
    c.operand.ensures
    ∙ ap (low_bits (width c.args.wide)) (c.cast_unsigned.ensures ∙ ap (cast_unsigned w64) (to_z-of_z w64 c.args.z c.ranges.z))
    ∙ low-cast_fits c.args.wide c.args.z c.ranges.z
