use Rattle.std.proofs.Common.{ap}
use Rattle.std.specs.Fmt.{decimal}
use Rattle.mm_text.proofs.PageLemmas.{◌▸◌, as_known}
use Rattle.mm_text.specs.RecordLines.{denial_line}
use Rattle.mm_text.proofs.record_text.put_denial.Goals as goal

pub returns : goal.returns
unfolding denial_line
returns c =
    c.in_ok-put.ensures ▸ c.in_ok-put-2.ensures ▸ as_known _ c.in_ok-put_text.ensures c.word_of_kind.ensures ▸ c.in_ok-put-3.ensures
    ▸ as_known _ c.in_ok-put_text-2.ensures c.word_of_right.ensures ▸ c.in_ok-put-4.ensures ▸ c.in_ok-put_x16.ensures
    ▸ c.in_ok-put-5.ensures ▸ as_known _ c.in_ok-put_decimal.ensures (ap decimal c.from.ensures) ▸ c.in_ok-put-6.ensures
    ▸ c.in_ok-put_why.ensures ▸ c.in_ok-put-7.ensures
