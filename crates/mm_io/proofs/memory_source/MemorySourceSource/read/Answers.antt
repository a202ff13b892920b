use Rattle.std.proofs.Common.{take, drop, ◌+◌, ◌++◌, ap, sym, ◌∙◌}
use Rattle.mm_io.specs.Memory.{Supply}
use Rattle.mm_io.proofs.StreamLemmas.{drop-taken}
use Rattle.mm_io.proofs.memory_source.MemorySourceSource.read.Goals as goal

pub returns-clause-gives : goal.returns-clause-gives
returns-clause-gives c =
    let n = c.copy_front-count.result in
    let at = c.self.inside.at in
    let rest = c.split_at.ensures.back ∙ ap (drop at) c.as_slice.ensures in
    let same = c.copy_front-count.ensures.front ∙ ap (take n) rest in
    ap (λ (s : Supply). s.left) (sym c.self.view_is) ∙ drop-taken at n c.self.inside.bytes ∙ ap (λ l. l ++ drop (at + n) c.self.inside.bytes) (sym same)
