use Rattle.std.proofs.Common.{◌∙◌, ap}
use Rattle.mm_base.specs.Numbers.{bytes_of_word}
use Rattle.supervisor_calls.proofs.ByteLemmas.{word_is}
use Rattle.supervisor_calls.proofs.bytes.word_from.Goals as goal

pub returns : goal.returns
returns g c =
    c.to_le_bytes.ensures ∙ ap bytes_of_word c.read.ensures.value ∙ word_is c.args.memory.now.bytes c.requires.small c.args.at c.args.n c.requires.high c.requires.within
