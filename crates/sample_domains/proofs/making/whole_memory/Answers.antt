use Rattle.std.proofs.Common.{◌∙◌, ◌*◌, ap, ℕ}
use Rattle.mm_base.specs.Frames.{zeros}
use Rattle.mm_memory.specs.Flat.{PlainState}
use Rattle.sample_domains.proofs.MakingLemmas.{whole_zeros}
use Rattle.sample_domains.proofs.making.whole_memory.Goals as goal

pub returns : goal.returns
returns c =
    let plain : ℕ
    → PlainState = λ pages. record { pages = pages; bytes = zeros (4096 * pages) } in
    whole_zeros c.new-2.result c.in_ok-new.field-0 c.new-2.ensures (c.in_ok-new.ensures ∙ ap plain c.requires)
