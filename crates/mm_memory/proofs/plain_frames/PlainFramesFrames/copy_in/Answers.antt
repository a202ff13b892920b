use Rattle.std.proofs.Common.{refl}
use Rattle.mm_memory.proofs.PlainLemmas.{plain_piece, live_is_there}
use Rattle.mm_memory.proofs.plain_frames.PlainFramesFrames.copy_in.Goals as goal

pub returns-clause-bytes : goal.returns-clause-bytes
returns-clause-bytes c =
    plain_piece _ c.args.self.now c.self.view_is c.self.invariant c.args.page c.args.at c.place.result
    c.args.bytes.now c.args.bytes.now c.overwrite.new.bytes.items
    (live_is_there c.args.self.now.pages c.args.page c.requires.live) c.requires.within c.place.ensures refl c.overwrite.ensures
