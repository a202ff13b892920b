use Rattle.std.proofs.Common.{ap, codes, ◌∙◌}
use Rattle.mm_text.specs.RecordLines.{record_lines, invocation_lines}
use Rattle.mm_text.proofs.PageLemmas.{◌▸◌, as_known}
use Rattle.mm_text.proofs.record_text.put_invocation.Goals as goal

pub returns : goal.returns
unfolding invocation_lines
returns c =
    c.in_ok-put_end_line.ensures
    ▸ as_known _ c.in_ok-put_records.ensures
    (ap (λ denials. record_lines (codes "    ") denials c.as_slice-2.result.now) c.as_slice.ensures
    ∙ ap (record_lines (codes "    ") c.args.invocation.now.denials) c.as_slice-2.ensures)
