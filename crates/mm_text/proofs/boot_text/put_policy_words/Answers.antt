use Rattle.mm_text.specs.BootLines.{policy_words}
use Rattle.mm_text.proofs.boot_text.put_policy_words.Goals as goal

pub returns-in-None : goal.returns-in-None
unfolding policy_words
returns-in-None c = rw c.in-None.is c.put.ensures
