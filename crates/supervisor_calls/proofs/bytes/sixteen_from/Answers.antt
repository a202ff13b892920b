use Rattle.supervisor_calls.proofs.ByteLemmas.{sixteen_are}
use Rattle.supervisor_calls.proofs.bytes.sixteen_from.Goals as goal

pub returns : goal.returns
returns g c =
    sixteen_are c.args.memory.now.bytes c.args.at c.word_from-first.result c.word_from-second.result c.put.new.bytes c.put-2.new.bytes c.requires.within
    c.word_from-first.ensures c.word_from-second.ensures c.put.ensures c.put-2.ensures
