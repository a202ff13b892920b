use Rattle.mm_text.proofs.PageLemmas.{◌▸◌}
use Rattle.mm_text.specs.VolumeLines.{file_words}
use Rattle.mm_text.proofs.volume_text.put_refused.Goals as goal

pub returns : goal.returns
unfolding file_words
returns c = c.in_ok-put.ensures ▸ c.in_ok-put_cause.ensures
