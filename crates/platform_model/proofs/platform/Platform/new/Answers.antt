use Rattle.std.proofs.Common.{List, All, sym, ◌∙◌, subst}
use Rattle.mm_base.specs.Cells.{IsOpeningCell}
use Rattle.mm_base.specs.declared.cells.CellWrite.{CellWrite}
use Rattle.platform_model.proofs.OpeningLemmas.{no_lines, more_lines}
use Rattle.platform_model.proofs.platform.Platform.new.Goals as goal

pub loop-cell-init : goal.loop-cell-init
loop-cell-init c = c.in_ok-platform.ensures ∙ no_lines

pub loop-cell-preserved : goal.loop-cell-preserved
loop-cell-preserved c =
    let P : List CellWrite → Type 0 = λ lines. All IsOpeningCell lines in
    more_lines c.as_slice-cell-items.result.now c.loop-cell.cell-index _ _ _ c.loop-cell-test.true
    (subst P (sym c.as_slice-cell-items.ensures) c.requires) c.loop-cell.invariant c.put.ensures
