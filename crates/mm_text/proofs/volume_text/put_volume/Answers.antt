use Rattle.std.proofs.Common.{ap}
use Rattle.std.specs.Fmt.{decimal}
use Rattle.mm_text.proofs.PageLemmas.{◌▸◌, as_known}
use Rattle.mm_text.specs.VolumeLines.{volume_line}
use Rattle.mm_text.proofs.volume_text.put_volume.Goals as goal

pub returns : goal.returns
unfolding volume_line
returns c =
    c.in_ok-put.ensures ▸ c.in_ok-put_x8.ensures ▸ c.in_ok-put-2.ensures ▸ as_known _ c.in_ok-put_text.ensures c.word_of_system.ensures
    ▸ c.in_ok-put-3.ensures ▸ as_known _ c.in_ok-put_decimal.ensures (ap decimal c.len.ensures) ▸ c.in_ok-put-4.ensures
