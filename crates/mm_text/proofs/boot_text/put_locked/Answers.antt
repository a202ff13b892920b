use Rattle.std.proofs.Common.{ap}
use Rattle.std.specs.Fmt.{decimal}
use Rattle.mm_text.proofs.PageLemmas.{◌▸◌, as_known}
use Rattle.mm_text.specs.BootLines.{locked_line}
use Rattle.mm_text.proofs.boot_text.put_locked.Goals as goal

pub returns : goal.returns
unfolding locked_line
returns c =
    c.in_ok-put.ensures ▸ as_known _ c.in_ok-put_decimal.ensures (ap decimal c.len.ensures) ▸ c.in_ok-put-2.ensures
    ▸ as_known _ c.in_ok-put_decimal-2.ensures (ap decimal c.from.ensures) ▸ c.in_ok-put-3.ensures
    ▸ as_known _ c.in_ok-put_decimal-3.ensures (ap decimal c.from-2.ensures) ▸ c.in_ok-put-4.ensures
