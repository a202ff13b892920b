use Rattle.std.proofs.Common.{ap, codes}
use Rattle.std.specs.List.{flat_map}
use Rattle.mm_text.specs.RecordLines.{invocation_lines}
use Rattle.mm_text.specs.Report.{reply_line}
use Rattle.mm_text.proofs.PageLemmas.{◌▸◌, as_known}
use Rattle.mm_text.specs.Report.{outcome_lines}
use Rattle.mm_text.proofs.entry_text.put_outcome.Goals as goal

pub returns : goal.returns
unfolding outcome_lines
returns c =
    c.in_ok-put_shape.ensures
    ▸ as_known _ c.in_ok-put_invocations.ensures (ap (flat_map (invocation_lines (codes "handler"))) c.as_slice.ensures)
    ▸ as_known _ c.in_ok-put_reply.ensures (ap reply_line c.as_slice-2.ensures)
    ▸ as_known _ c.in_ok-put_invocations-2.ensures (ap (flat_map (invocation_lines (codes "root"))) c.as_slice-3.ensures)
