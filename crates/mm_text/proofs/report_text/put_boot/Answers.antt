use Rattle.mm_text.proofs.PageLemmas.{◌▸◌}
use Rattle.mm_text.proofs.report_text.put_boot.Goals as goal

pub returns : goal.returns
returns c = c.in_ok-put_policy.ensures ▸ c.in_ok-put_starts.ensures
