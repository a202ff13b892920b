use Rattle.mm_text.proofs.PageLemmas.{◌▸◌}
use Rattle.mm_text.specs.BootLines.{policy_line}
use Rattle.mm_text.proofs.boot_text.put_policy.Goals as goal

pub returns : goal.returns
unfolding policy_line
returns c = c.in_ok-put.ensures ▸ c.in_ok-put_policy_words.ensures ▸ c.in_ok-put-2.ensures
