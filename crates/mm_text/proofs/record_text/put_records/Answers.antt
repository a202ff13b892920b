use Rattle.mm_text.proofs.PageLemmas.{◌▸◌}
use Rattle.mm_text.specs.RecordLines.{record_lines}
use Rattle.mm_text.proofs.record_text.put_records.Goals as goal

pub returns : goal.returns
unfolding record_lines
returns c = c.in_ok-put_denials.ensures ▸ c.in_ok-put_writes.ensures
