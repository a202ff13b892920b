use Rattle.mm_text.proofs.PageLemmas.{◌▸◌}
use Rattle.mm_text.specs.Report.{entry_lines}
use Rattle.mm_text.proofs.entry_text.put_entry.Goals as goal

pub returns : goal.returns
unfolding entry_lines
returns c =
    c.in_ok-put_entry_line.ensures ▸ c.in_ok-put_request.ensures ▸ c.in_ok-put_registers.ensures ▸ c.in_ok-put_outcome.ensures
