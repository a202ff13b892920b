use Rattle.mm_text.proofs.PageLemmas.{◌▸◌}
use Rattle.mm_text.specs.Report.{reply_line}
use Rattle.mm_text.proofs.entry_text.put_reply.Goals as goal

pub returns : goal.returns
unfolding reply_line
returns c = c.in_ok-put.ensures ▸ c.in_ok-put_bytes.ensures ▸ c.in_ok-put-2.ensures
