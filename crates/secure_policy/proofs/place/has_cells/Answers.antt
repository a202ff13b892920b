use Rattle.std.proofs.Common.{◌∙◌, ap, sym, arith}
use Rattle.mm_base.specs.declared.access.Kind.{Kind}
use Rattle.secure_policy.specs.Places.{have_cells}
use Rattle.secure_policy.proofs.PlaceLemmas.{memory_cells, port_cells, msr_cells, saved_cells, first_window, second_window}
use Rattle.secure_policy.proofs.place.has_cells.Goals as goal

pub returns-in-Memory : goal.returns-in-Memory
returns-in-Memory c =
    let access = c.args.access.now in
    c.covers.ensures ∙ sym (memory_cells access.base access.length (omega arith))
    ∙ ap (λ (kind : Kind). have_cells kind access.base access.length) (sym c.in-Memory.is)

pub returns-in-Io : goal.returns-in-Io
returns-in-Io c =
    let access = c.args.access.now in
    c.covers-in-Io.ensures ∙ sym (port_cells access.base access.length (omega arith))
    ∙ ap (λ (kind : Kind). have_cells kind access.base access.length) (sym c.in-Io.is)

pub returns-then-covers : goal.returns-then-covers
returns-then-covers c =
    let access = c.args.access.now in
    let all = msr_cells access.base access.length (omega arith) in
    first_window c.args.kind access.base access.length c.covers-in-Msr.result c.in-Msr.is c.covers-in-Msr.ensures c.if-covers.true all

pub returns-else-covers : goal.returns-else-covers
returns-else-covers c =
    let access = c.args.access.now in
    let all = msr_cells access.base access.length (omega arith) in
    second_window c.args.kind access.base access.length c.covers-in-Msr.result c.covers-else-covers.result c.in-Msr.is
    c.covers-in-Msr.ensures c.if-covers.false c.covers-else-covers.ensures all

pub returns-in-Saved : goal.returns-in-Saved
returns-in-Saved c =
    let access = c.args.access.now in
    c.covers-in-Saved.ensures ∙ sym (saved_cells access.base access.length (omega arith))
    ∙ ap (λ (kind : Kind). have_cells kind access.base access.length) (sym c.in-Saved.is)
