use Rattle.std.proofs.Common.{ap}
use Rattle.std.specs.Fmt.{decimal}
use Rattle.mm_text.proofs.PageLemmas.{◌▸◌, as_known}
use Rattle.mm_text.specs.RecordLines.{end_line}
use Rattle.mm_text.proofs.record_text.put_end_line.Goals as goal

pub returns : goal.returns
unfolding end_line
returns c =
    c.in_ok-put.ensures ▸ c.in_ok-put-2.ensures ▸ c.in_ok-put-3.ensures ▸ as_known _ c.in_ok-put_decimal.ensures (ap decimal c.from.ensures) ▸ c.in_ok-put-4.ensures
    ▸ c.in_ok-put_end.ensures ▸ c.in_ok-put-5.ensures
