use Rattle.mm_text.proofs.PageLemmas.{◌▸◌, as_known}
use Rattle.mm_text.specs.VolumeLines.{file_line}
use Rattle.mm_text.proofs.volume_text.put_file.Goals as goal

pub returns : goal.returns
unfolding file_line
returns c =
    c.in_ok-put.ensures ▸ c.in_ok-put_x8.ensures ▸ c.in_ok-put-2.ensures ▸ as_known _ c.in_ok-put-3.ensures c.text.ensures ▸ c.in_ok-put-4.ensures
    ▸ c.in_ok-put_hex.ensures ▸ c.in_ok-put-5.ensures ▸ c.in_ok-put_x8-2.ensures ▸ c.in_ok-put-6.ensures ▸ c.in_ok-put_word.ensures ▸ c.in_ok-put-7.ensures
