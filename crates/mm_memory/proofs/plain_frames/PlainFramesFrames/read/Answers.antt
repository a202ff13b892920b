use Rattle.std.proofs.Common.{ℕ, ap, ◌∙◌, List}
use Rattle.mm_base.specs.Numbers.{number_in}
use Rattle.mm_memory.specs.Flat.{PlainState}
use Rattle.mm_memory.proofs.PlainLemmas.{plain_read, live_is_there, size_of_plain}
use Rattle.mm_memory.proofs.plain_frames.PlainFramesFrames.read.Goals as goal

pub returns-clause-value : goal.returns-clause-value
returns-clause-value c =
    let now = c.args.self.now in
    c.small_number_at.ensures.value
    ∙ ap (λ (bytes : List ℕ). number_in bytes c.place.result c.args.n) c.as_slice.ensures.value
    ∙ ap (λ (plain : PlainState). number_in plain.bytes c.place.result c.args.n) c.self.view_is
    ∙ ap (λ place. number_in now.bytes place c.args.n) c.place.ensures
    ∙ plain_read now.pages now.bytes (size_of_plain _ now c.self.view_is c.self.invariant) c.args.page c.args.at c.args.n
    (live_is_there now.pages c.args.page c.requires.live) c.requires.within
