use Rattle.std.proofs.Common.{◌≡◌, ℕ, ◌*◌, List, ap}
use Rattle.mm_base.specs.Frames.{zeros}
use Rattle.mm_memory.specs.Flat.{PlainState}
use Rattle.mm_memory.proofs.plain_frames.PlainFrames.new.Goals as goal

pub returns : goal.returns
unfolding zeros
returns c =
    let plain : List ℕ → PlainState = λ bytes. record { pages = c.args.pages; bytes = bytes } in
    ap plain (c.in_ok-bytes.ensures.items_if_clones_equal (λ y h. h))
