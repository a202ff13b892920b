use Rattle.std.proofs.Common.{◌≡◌, ◌≤◌, ◌+◌, ◌∙◌, length, ap, arith}
use Rattle.std.proofs.lemmas.List.{length-take}
use Rattle.mm_base.specs.Numbers.{low_bytes, bytes_of_word, overwritten}
use Rattle.mm_memory.specs.Flat.{MemoryState, joined}
use Rattle.mm_memory.proofs.MemoryLemmas.{page_is_there, write_here, width_bounds}
use Rattle.mm_memory.proofs.memory.Memory.write.Goals as goal

pub returns-then-n-offset-clause-bytes : goal.returns-then-n-offset-clause-bytes
returns-then-n-offset-clause-bytes g c =
    let size = ap (λ (memory : MemoryState). length memory.bytes) c.self.view_is in
    let place = c.place-page.ensures in
    let piece = low_bytes c.args.n c.args.value in
    let there = page_is_there _ _ c.self.invariant c.args.at _ _ place.page place.offset
    (omega (arith, c.requires.within, size, (width_bounds c.args.n c.requires.width).0)) in
    ap joined c.write.ensures.bytes
    ∙ write_here _ _ c.self.invariant c.args.at _ _ place.page place.offset piece there
    (omega (arith, place.offset, length-take c.args.n (bytes_of_word c.args.value), c.if-n-offset.true))
    ∙ ap (λ (memory : MemoryState). overwritten memory.bytes c.args.at piece) c.self.view_is
