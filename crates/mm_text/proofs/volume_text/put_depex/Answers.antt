use Rattle.mm_text.proofs.PageLemmas.{◌▸◌, as_known}
use Rattle.mm_text.specs.VolumeLines.{cause_words}
use Rattle.mm_text.proofs.volume_text.put_depex.Goals as goal

pub returns : goal.returns
unfolding cause_words
returns c = c.in_ok-put.ensures ▸ as_known _ c.in_ok-put_text.ensures c.word_of_depex.ensures
