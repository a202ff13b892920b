use Rattle.std.proofs.Common.{ap, codes, ◌∙◌}
use Rattle.mm_text.proofs.PageLemmas.{◌▸◌, as_known}
use Rattle.mm_text.specs.BootLines.{start_lines}
use Rattle.mm_text.specs.RecordLines.{record_lines}
use Rattle.mm_text.proofs.boot_text.put_start.Goals as goal

pub returns : goal.returns
unfolding start_lines
returns c =
    c.in_ok-put_start_line.ensures
    ▸ as_known _ c.in_ok-put_records.ensures
    (ap (λ denials. record_lines (codes "  ") denials c.as_slice-2.result.now) c.as_slice.ensures
    ∙ ap (record_lines (codes "  ") c.args.start.now.denials) c.as_slice-2.ensures)
