use Rattle.std.proofs.Common.{ap}
use Rattle.std.specs.Fmt.{decimal}
use Rattle.mm_text.proofs.PageLemmas.{◌▸◌, as_known}
use Rattle.mm_text.specs.BootLines.{start_line}
use Rattle.mm_text.proofs.boot_text.put_start_line.Goals as goal

pub returns : goal.returns
unfolding start_line
returns c =
    c.in_ok-put.ensures ▸ as_known _ c.in_ok-put-2.ensures c.text.ensures ▸ c.in_ok-put-3.ensures
    ▸ as_known _ c.in_ok-put_decimal.ensures (ap decimal c.from.ensures) ▸ c.in_ok-put-4.ensures ▸ c.in_ok-put_start_end.ensures
    ▸ c.in_ok-put-5.ensures
