use Rattle.file_words.proofs.WordLemmas.{driver_has_word}
use Rattle.file_words.proofs.volume_catalog.word_of.Goals as goal

pub returns-then-file-eq-MM_STANDALONE : goal.returns-then-file-eq-MM_STANDALONE
returns-then-file-eq-MM_STANDALONE c =
    driver_has_word c.args.bytes.now c.args.earlier.now c.args.file.now c.driver_word.result
    c.if-file-eq-MM_STANDALONE.true c.driver_word.ensures
