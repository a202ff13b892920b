use Rattle.std.proofs.Common.{arith, rules}
use Rattle.std.proofs.lemmas.List.{length-take}
use Rattle.mm_base.specs.Numbers.{bytes_of_word, low_bytes}
use Rattle.mm_memory.proofs.PlainLemmas.{plain_piece, live_is_there}
use Rattle.mm_memory.proofs.plain_frames.PlainFramesFrames.write.Goals as goal

pub returns-clause-bytes : goal.returns-clause-bytes
returns-clause-bytes c =
    plain_piece _ c.args.self.now c.self.view_is c.self.invariant c.args.page c.args.at c.place.result
    c.split_at.result.0.now (low_bytes c.args.n c.args.value) c.overwrite.new.bytes.items
    (live_is_there c.args.self.now.pages c.args.page c.requires.live)
    (omega (arith, c.requires.within, length-take c.args.n (bytes_of_word c.args.value))) c.place.ensures (search rules) c.overwrite.ensures
