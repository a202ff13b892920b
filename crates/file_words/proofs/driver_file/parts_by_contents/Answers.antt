use Rattle.file_words.proofs.PartsLemmas.{read_contents}
use Rattle.file_words.proofs.driver_file.parts_by_contents.Goals as goal

pub returns-in-Some : goal.returns-in-Some
returns-in-Some c =
    read_contents c.args.bytes.now c.args.found.now c.in-Some.section c.parts_by_image.result c.if-found.false c.if-found-2.false c.in-Some.is
    c.parts_by_image.ensures
