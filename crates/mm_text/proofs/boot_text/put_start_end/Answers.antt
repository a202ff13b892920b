use Rattle.mm_text.specs.BootLines.{start_words}
use Rattle.mm_text.proofs.boot_text.put_start_end.Goals as goal

pub returns-in-Ran : goal.returns-in-Ran
unfolding start_words
returns-in-Ran c = rw c.in-Ran.is c.put_end.ensures

pub returns-in-NoPages : goal.returns-in-NoPages
unfolding start_words
returns-in-NoPages c = rw c.in-NoPages.is c.put.ensures

pub returns-in-TooMany : goal.returns-in-TooMany
unfolding start_words
returns-in-TooMany c = rw c.in-TooMany.is c.put-in-TooMany.ensures
