use Rattle.std.proofs.Common.{◌+◌, ◌*◌, ◌∙◌, ap, arith}
use Rattle.pe_loader.specs.Sections.{part_from}
use Rattle.pe_loader.proofs.ImageLemmas.{laid_out_of, parts_of, table_of}
use Rattle.pe_loader.proofs.inspecting.part.Goals as goal

pub part_from-requires : goal.part_from-requires
part_from-requires c =
    let table = (laid_out_of c.args.bytes.now c.requires.image.1.passes).table.table in
    omega (arith, table, parts_of c.args.bytes.now c.args.image.now c.requires.image.1.says, table_of c.args.bytes.now c.args.image.now c.requires.image.1.says)

pub returns : goal.returns
returns c =
    c.part_from.ensures
    ∙ ap (λ table. part_from c.args.bytes.now (table + 40 * c.args.k)) (table_of c.args.bytes.now c.args.image.now c.requires.image.1.says)
