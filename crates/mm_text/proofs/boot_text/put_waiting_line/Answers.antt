use Rattle.mm_text.proofs.PageLemmas.{◌▸◌, as_known}
use Rattle.mm_text.specs.BootLines.{waiting_line}
use Rattle.mm_text.proofs.boot_text.put_waiting_line.Goals as goal

pub returns : goal.returns
unfolding waiting_line
returns c = c.in_ok-put.ensures ▸ as_known _ c.in_ok-put-2.ensures c.text.ensures ▸ c.in_ok-put-3.ensures
