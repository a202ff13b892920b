use Rattle.file_words.proofs.WordLemmas.{by_parts, by_cause}
use Rattle.file_words.proofs.driver_word.driver_word.Goals as goal

pub returns-in-Ok : goal.returns-in-Ok
returns-in-Ok c =
    by_parts c.args.bytes.now c.args.earlier.now c.args.file.now c.in-Ok.parts c.image_word.result c.in-Ok.ensures.ok c.image_word.ensures

pub returns-in-Err : goal.returns-in-Err
returns-in-Err c = by_cause c.args.bytes.now c.args.earlier.now c.args.file.now c.in-Err.cause c.in-Err.ensures.err
