use Rattle.std.proofs.Common.{◌∙◌, sym, w32, w64}
use Rattle.ebc_alu.proofs.ReadingLemmas.{signed-wide, signed-narrow, passed}
use Rattle.ebc_alu.proofs.reading.to_signed.Goals as goal

pub returns-then-wide : goal.returns-then-wide
returns-then-wide c =
    passed w64 c.cast_signed.result _ c.cast_signed.type_inv c.cast_signed.ensures
    ∙ sym (signed-wide c.args.wide c.args.n c.if-wide.true c.requires)

pub returns-else-wide : goal.returns-else-wide
returns-else-wide c =
    let read = c.cast_signed-else-wide in
    passed w64 c.from.result _ c.from.type_inv (c.from.ensures ∙ passed w32 read.result _ read.type_inv read.ensures)
    ∙ sym (signed-narrow c.args.wide c.args.n c.if-wide.false c.requires)
