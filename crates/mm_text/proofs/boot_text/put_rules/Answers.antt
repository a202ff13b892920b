use Rattle.std.proofs.Common.{ap}
use Rattle.std.specs.Fmt.{decimal}
use Rattle.mm_text.proofs.PageLemmas.{◌▸◌, as_known}
use Rattle.mm_text.specs.BootLines.{policy_words}
use Rattle.mm_text.proofs.boot_text.put_rules.Goals as goal

pub returns : goal.returns
unfolding policy_words
returns c =
    c.in_ok-put.ensures ▸ as_known _ c.in_ok-put_decimal.ensures (ap decimal c.len.ensures) ▸ c.in_ok-put-2.ensures
    ▸ as_known _ c.in_ok-put_decimal-2.ensures (ap decimal c.from.ensures)
