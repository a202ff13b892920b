use Rattle.mm_base.specs.Frames.{zeros}
use Rattle.platform_model.proofs.platform.zero_words.Goals as goal

pub returns : goal.returns
unfolding zeros
returns c = c.in_ok-words.ensures.items_if_clones_equal (λ y h. h)
