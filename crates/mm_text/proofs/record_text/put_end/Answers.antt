use Rattle.mm_text.specs.RecordLines.{end_words}
use Rattle.mm_text.proofs.record_text.put_end.Goals as goal

pub returns-in-Returned : goal.returns-in-Returned
unfolding end_words
returns-in-Returned c = rw c.in-Returned.is c.put_at.ensures

pub returns-in-Fuel : goal.returns-in-Fuel
unfolding end_words
returns-in-Fuel c = rw c.in-Fuel.is c.put_at-in-Fuel.ensures

pub returns-in-NoMemory : goal.returns-in-NoMemory
unfolding end_words
returns-in-NoMemory c = rw c.in-NoMemory.is c.put.ensures
