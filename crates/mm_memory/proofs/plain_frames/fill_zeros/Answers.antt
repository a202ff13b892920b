use Rattle.mm_base.specs.Frames.{zeros}
use Rattle.mm_memory.proofs.plain_frames.fill_zeros.Goals as goal

pub returns : goal.returns
unfolding zeros
returns c = c.fill.ensures.after (λ y h. h)
