use Rattle.std.proofs.Common.{ap}
use Rattle.mm_base.specs.Numbers.{bytes_of_words}
use Rattle.mm_text.proofs.PageLemmas.{◌▸◌, as_known}
use Rattle.mm_text.specs.Report.{bytes_text, lane_line}
use Rattle.mm_text.proofs.report_text.put_lane.Goals as goal

pub returns : goal.returns
unfolding lane_line
returns c =
    c.in_ok-put.ensures ▸ c.in_ok-put_decimal.ensures ▸ c.in_ok-put-2.ensures ▸ c.in_ok-put_x16.ensures ▸ c.in_ok-put-3.ensures
    ▸ c.in_ok-put_x16-2.ensures ▸ c.in_ok-put-4.ensures
    ▸ as_known _ c.in_ok-put_words.ensures (ap (λ words. bytes_text (bytes_of_words words)) c.split_at.ensures.back) ▸ c.in_ok-put-5.ensures
