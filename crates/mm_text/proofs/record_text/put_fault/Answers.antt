use Rattle.mm_text.proofs.PageLemmas.{◌▸◌, as_known}
use Rattle.mm_text.specs.RecordLines.{end_words}
use Rattle.mm_text.proofs.record_text.put_fault.Goals as goal

pub returns : goal.returns
unfolding end_words
returns c =
    c.in_ok-put.ensures ▸ as_known _ c.in_ok-put_text.ensures c.word_of_fault.ensures ▸ c.in_ok-put-2.ensures ▸ c.in_ok-put_x16.ensures
