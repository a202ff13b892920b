use Rattle.std.proofs.Common.{◌∙◌, ap, w64}
use Rattle.ebc_alu.specs.Reading.{width, signed, reduced}
use Rattle.ebc_alu.specs.Results.{extension}
use Rattle.ebc_alu.proofs.ReadingLemmas.{passed}
use Rattle.ebc_alu.proofs.extensions.extend_double.Goals as goal

pub returns : goal.returns
unfolding extension
returns c =
    let read = c.to_signed.ensures ∙ ap (signed 32) c.operand.ensures in
    c.from_signed.ensures ∙ ap (reduced (width c.args.wide)) (passed w64 c.to_signed.result _ c.to_signed.type_inv read)
