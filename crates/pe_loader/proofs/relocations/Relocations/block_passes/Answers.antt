use Rattle.std.proofs.Common.{◌&&◌, ◌∙◌, ◌+◌, ◌-◌, ◌/◌, sym, ap, arith}
use Rattle.std.specs.List.{list_all}
use Rattle.std.proofs.lemmas.Bool.{leb-true}
use Rattle.pe_loader.specs.Fixups.{fixup_passes, fixups_from}
use Rattle.pe_loader.specs.ReadingInside.{form_in}
use Rattle.pe_loader.proofs.BlockLemmas.{block_room, passes_by_head, sized_by}
use Rattle.pe_loader.proofs.relocations.Relocations.block_passes.Goals as goal

pub size_fits-requires-clause-near : goal.size_fits-requires-clause-near
size_fits-requires-clause-near c =
    omega (arith, block_room (form_in c.args.bytes.now c.args.self.now.layout) c.args.self.now.directory c.args.at c.requires.head.there, leb-true _ _ c.requires.fits, c.requires.laid_out.table.most)

pub returns-then-not-size_fits-clause-passes : goal.returns-then-not-size_fits-clause-passes
returns-then-not-size_fits-clause-passes c =
    let form = form_in c.args.bytes.now c.args.self.now.layout in
    let self = c.args.self.now in
    let head = c.args.head.now in
    let sized = sized_by c.args.at head.size _ _ _ _ c.end.ensures c.size_fits.ensures c.if-not-size_fits.true in
    sym (passes_by_head form self.layout.size self.directory c.args.at head c.requires.head
    ∙ ap (λ fits. fits && list_all (fixup_passes self.layout.size self.directory) (fixups_from form head.page (c.args.at + 8) ((head.size - 8) / 2))) sized)

pub returns-clause-passes : goal.returns-clause-passes
returns-clause-passes c =
    let form = form_in c.args.bytes.now c.args.self.now.layout in
    let self = c.args.self.now in
    let head = c.args.head.now in
    let sized = sized_by c.args.at head.size _ _ _ _ c.end.ensures c.size_fits.ensures c.if-not-size_fits.false in
    c.entries_pass.ensures.passes
    ∙ sym (passes_by_head form self.layout.size self.directory c.args.at head c.requires.head
    ∙ ap (λ fits. fits && list_all (fixup_passes self.layout.size self.directory) (fixups_from form head.page (c.args.at + 8) ((head.size - 8) / 2))) sized)
