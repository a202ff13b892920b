use Rattle.std.proofs.Common.{◌^◌, ◌%◌, ◌∙◌, ap, sym, mod-lt, pow_pos, w8, w64}
use Rattle.ebc_alu.specs.Reading.{width, reduced}
use Rattle.ebc_alu.specs.Results.{extension}
use Rattle.ebc_alu.proofs.ReadingLemmas.{signed-cast, passed}
use Rattle.ebc_alu.proofs.extensions.extend_byte.Goals as goal

pub returns : goal.returns
unfolding extension
returns c =
    let read = sym (signed-cast w8 (c.args.b % 2 ^ 8) (mod-lt c.args.b (pow_pos 8))) in
    let byte = passed w8 c.cast_signed.result _ c.cast_signed.type_inv (c.cast_signed.ensures ∙ read) in
    c.from_signed.ensures
    ∙ ap (reduced (width c.args.wide)) (passed w64 c.from.result _ c.from.type_inv (c.from.ensures ∙ byte))
