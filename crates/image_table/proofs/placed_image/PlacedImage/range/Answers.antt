use Rattle.std.proofs.Common.{rules}
use Rattle.image_table.proofs.HomeLemmas.{range_of_page, range_of_section}
use Rattle.image_table.proofs.placed_image.PlacedImage.range.Goals as goal

pub returns-then-place-sections : goal.returns-then-place-sections
returns-then-place-sections c =
    range_of_section c.args.self.now c.args.k _ _ _ c.if-k-eq0.false c.as_slice-sections.ensures c.if-place-sections.true
    c.section_range.ensures

pub returns : goal.returns
returns c =
    range_of_page c.args.self.now c.args.k _ _ c.if-k-eq0.false c.as_slice-sections.ensures c.if-place-sections.false (search rules)
