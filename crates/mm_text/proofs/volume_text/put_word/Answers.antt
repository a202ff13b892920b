use Rattle.mm_text.specs.VolumeLines.{file_words}
use Rattle.mm_text.proofs.volume_text.put_word.Goals as goal

pub returns-in-Driver : goal.returns-in-Driver
unfolding file_words
returns-in-Driver c = rw c.in-Driver.is c.put.ensures

pub returns-in-Native : goal.returns-in-Native
unfolding file_words
returns-in-Native c = rw c.in-Native.is c.put-in-Native.ensures

pub returns-in-Policy : goal.returns-in-Policy
unfolding file_words
returns-in-Policy c = rw c.in-Policy.is c.put-in-Policy.ensures

pub returns-in-Pad : goal.returns-in-Pad
unfolding file_words
returns-in-Pad c = rw c.in-Pad.is c.put-in-Pad.ensures

pub returns-in-Passed : goal.returns-in-Passed
unfolding file_words
returns-in-Passed c = rw c.in-Passed.is c.put-in-Passed.ensures
