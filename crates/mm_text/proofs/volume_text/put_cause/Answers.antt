use Rattle.mm_text.specs.VolumeLines.{cause_words}
use Rattle.mm_text.proofs.volume_text.put_cause.Goals as goal

pub returns-in-BodySum : goal.returns-in-BodySum
unfolding cause_words
returns-in-BodySum c = rw c.in-BodySum.is c.put.ensures

pub returns-in-SectionSize : goal.returns-in-SectionSize
unfolding cause_words
returns-in-SectionSize c = rw c.in-SectionSize.is c.put-in-SectionSize.ensures

pub returns-in-Compressed : goal.returns-in-Compressed
unfolding cause_words
returns-in-Compressed c = rw c.in-Compressed.is c.put-in-Compressed.ensures

pub returns-in-GuidDefined : goal.returns-in-GuidDefined
unfolding cause_words
returns-in-GuidDefined c = rw c.in-GuidDefined.is c.put-in-GuidDefined.ensures

pub returns-in-NoImage : goal.returns-in-NoImage
unfolding cause_words
returns-in-NoImage c = rw c.in-NoImage.is c.put-in-NoImage.ensures

pub returns-in-Duplicate : goal.returns-in-Duplicate
unfolding cause_words
returns-in-Duplicate c = rw c.in-Duplicate.is c.put-in-Duplicate.ensures
