use Rattle.file_words.specs.JudgingInside.{BySectionSize, ByContents}
use Rattle.std.proofs.Common.{refl}
use Rattle.file_words.proofs.ContentsLemmas.{contents_lie}
use Rattle.file_words.proofs.driver_file.judged.Goals as goal

pub parts_by_contents-requires-clause-within : goal.parts_by_contents-requires-clause-within
parts_by_contents-requires-clause-within c =
    contents_lie c.args.bytes.now c.args.file.now c.in-Ok.found c.requires.within c.in-Ok.ensures.contents

pub returns-in-Ok : goal.returns-in-Ok
returns-in-Ok c = ByContents c.if-not-file.false c.in-Ok.found c.in-Ok.ensures.contents c.parts_by_contents.ensures

pub returns-in-Err : goal.returns-in-Err
returns-in-Err c = BySectionSize c.if-not-file.false c.in-Err.field-0 c.in-Err.ensures.fault refl
