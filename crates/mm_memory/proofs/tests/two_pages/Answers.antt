use Rattle.std.proofs.Common.{◌≡◌, ◌∙◌, ℕ, ◌*◌, List, ap, sym, subst, length, replicate, true, refl}
use Rattle.mm_base.specs.Frames.{zeros}
use Rattle.mm_memory.specs.Flat.{MemoryState, PlainState, joined, pages_in}
use Rattle.mm_memory.specs.TestMemory.{HasTwoPages}
use Rattle.mm_memory.proofs.PageLemmas.{joined-pages_in, length-zeros}
use Rattle.mm_memory.proofs.tests.two_pages.Goals as goal

pub returns : goal.returns
returns c =
    let plain : PlainState = record { pages = 2; bytes = zeros 8192 } in
    let seen : PlainState
    → MemoryState = λ plain. record { bytes = joined (pages_in plain.pages plain.bytes); live = replicate plain.pages true } in
    let is : c.new-2.result ≡ seen plain = c.new-2.ensures ∙ ap seen (c.in_ok-new.ensures) in
    let all : joined (pages_in 2 (zeros 8192)) ≡ zeros 8192 = joined-pages_in 2 (zeros 8192) (length-zeros 8192) in
    subst HasTwoPages (sym is) record { size = ap length all ∙ length-zeros 8192; live = refl }
