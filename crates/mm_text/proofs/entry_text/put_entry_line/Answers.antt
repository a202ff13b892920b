use Rattle.std.proofs.Common.{ap}
use Rattle.std.specs.Fmt.{decimal}
use Rattle.mm_text.proofs.PageLemmas.{◌▸◌, as_known}
use Rattle.mm_text.specs.Report.{entry_line}
use Rattle.mm_text.proofs.entry_text.put_entry_line.Goals as goal

pub returns : goal.returns
unfolding entry_line
returns c =
    c.in_ok-put.ensures ▸ c.in_ok-put_decimal.ensures ▸ c.in_ok-put-2.ensures ▸ as_known _ c.in_ok-put_decimal-2.ensures (ap decimal c.from.ensures)
    ▸ c.in_ok-put-3.ensures ▸ as_known _ c.in_ok-put_decimal-3.ensures (ap decimal c.loads.ensures) ▸ c.in_ok-put-4.ensures
    ▸ c.in_ok-put_x16.ensures ▸ c.in_ok-put-5.ensures
