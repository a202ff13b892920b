use Rattle.mm_text.proofs.PageLemmas.{◌▸◌}
use Rattle.mm_text.specs.RecordLines.{end_words}
use Rattle.mm_text.proofs.record_text.put_denied.Goals as goal

pub returns : goal.returns
unfolding end_words
returns c = c.in_ok-put.ensures ▸ c.in_ok-put_why.ensures ▸ c.in_ok-put-2.ensures ▸ c.in_ok-put_x16.ensures
