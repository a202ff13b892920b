use Rattle.std.proofs.Common.{ap}
use Rattle.std.specs.Fmt.{decimal}
use Rattle.mm_text.proofs.PageLemmas.{◌▸◌, as_known}
use Rattle.mm_text.specs.RecordLines.{why_words}
use Rattle.mm_text.proofs.record_text.put_rule.Goals as goal

pub returns : goal.returns
unfolding why_words
returns c = c.in_ok-put.ensures ▸ as_known _ c.in_ok-put_decimal.ensures (ap decimal c.from.ensures)
