use Rattle.mm_text.specs.RecordLines.{why_words}
use Rattle.mm_text.proofs.record_text.put_why.Goals as goal

pub returns-in-Home : goal.returns-in-Home
unfolding why_words
returns-in-Home c = rw c.in-Home.is c.put.ensures

pub returns-in-Range : goal.returns-in-Range
unfolding why_words
returns-in-Range c = rw c.in-Range.is c.put-in-Range.ensures

pub returns-in-Mmram : goal.returns-in-Mmram
unfolding why_words
returns-in-Mmram c = rw c.in-Mmram.is c.put-in-Mmram.ensures

pub returns-in-Buffer : goal.returns-in-Buffer
unfolding why_words
returns-in-Buffer c = rw c.in-Buffer.is c.put-in-Buffer.ensures

pub returns-in-NoRule : goal.returns-in-NoRule
unfolding why_words
returns-in-NoRule c = rw c.in-NoRule.is c.put-in-NoRule.ensures

pub returns-in-Quota : goal.returns-in-Quota
unfolding why_words
returns-in-Quota c = rw c.in-Quota.is c.put-in-Quota.ensures
