use Rattle.mm_text.proofs.PageLemmas.{◌▸◌, as_known}
use Rattle.mm_text.specs.BootLines.{image_line}
use Rattle.mm_text.proofs.boot_text.put_image.Goals as goal

pub returns : goal.returns
unfolding image_line
returns c =
    c.in_ok-put.ensures ▸ c.in_ok-put_decimal.ensures ▸ c.in_ok-put-2.ensures ▸ as_known _ c.in_ok-put-3.ensures c.text.ensures
    ▸ c.in_ok-put-4.ensures ▸ as_known _ c.in_ok-put_text.ensures c.word_of_group.ensures ▸ c.in_ok-put-5.ensures
