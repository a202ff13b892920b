use Rattle.std.proofs.Common.{◌≡◌, ◌≤◌, ◌+◌, ◌-◌, ◌*◌, ◌∙◌, min, length, take, replicate, refl, ap, arith}
use Rattle.mm_base.specs.Frames.{with_piece, zeros}
use Rattle.mm_base.specs.Numbers.{overwritten}
use Rattle.mm_memory.specs.Flat.{MemoryState, joined}
use Rattle.mm_memory.proofs.PageLemmas.{length-zeros}
use Rattle.mm_memory.proofs.MemoryLemmas.{page_is_there, write_here, whole-with_piece, page_of_zeros, zeros_of_block}
use Rattle.mm_memory.proofs.memory.Memory.clear_some.Goals as goal

pub invariant_of-self : goal.invariant_of-self
invariant_of-self g c =
    let size = ap (λ (memory : MemoryState). length memory.bytes) c.self.view_is in
    let place = c.place-page.ensures in
    let there = page_is_there _ _ c.self.invariant c.args.at _ _ place.page place.offset
    (omega (arith, c.requires.within, c.requires.some, size)) in
    let same = page_of_zeros _ _ _ c.self.invariant c.place-page.result.0 there c.zero.ensures.bytes in
    whole-with_piece _ _ _ _ c.place-page.result.0 0 (zeros 4096) c.self.invariant there
    (omega (arith, length-zeros 4096)) same c.zero.ensures.live

pub returns-then-most-clause-bytes : goal.returns-then-most-clause-bytes
returns-then-most-clause-bytes g c =
    let size = ap (λ (memory : MemoryState). length memory.bytes) c.self.view_is in
    let place = c.place-page.ensures in
    let there = page_is_there _ _ c.self.invariant c.args.at _ _ place.page place.offset
    (omega (arith, c.requires.within, c.requires.some, size)) in
    let same = page_of_zeros _ _ _ c.self.invariant c.place-page.result.0 there c.zero.ensures.bytes in
    let begin : c.args.at ≡ 4096 * c.place-page.result.0 + 0 = place.page
    ∙ ap (λ k. 4096 * c.place-page.result.0 + k) c.if-offset-eq0.true in
    ap joined same
    ∙ write_here _ _ c.self.invariant c.args.at c.place-page.result.0 0 begin (omega arith) (zeros 4096) there
    (omega (arith, length-zeros 4096))
    ∙ ap (λ (memory : MemoryState). overwritten memory.bytes c.args.at (zeros 4096)) c.self.view_is

pub returns-clause-bytes : goal.returns-clause-bytes
returns-clause-bytes g c =
    let size = ap (λ (memory : MemoryState). length memory.bytes) c.self.view_is in
    let place = c.place-page.ensures in
    let count = c.min-count.result in
    let piece = c.split_at.result.0.now in
    let some : c.min.result ≡ min c.args.most 64 = c.min.ensures in
    let least : count ≡ min c.min.result (4096 - c.place-page.result.1) = c.min-count.ensures in
    let front : piece ≡ take count (replicate 64 0) = c.split_at.ensures.front in
    let zero : piece ≡ zeros count = zeros_of_block count (replicate 64 0) piece (omega arith) refl front in
    let there = page_is_there _ _ c.self.invariant c.args.at _ _ place.page place.offset
    (omega (arith, c.requires.within, c.requires.some, size)) in
    let fits : c.place-page.result.1 + length piece ≤ 4096 = omega (arith, ap length zero, length-zeros count, place.offset) in
    ap joined c.copy_in.ensures.bytes
    ∙ write_here _ _ c.self.invariant c.args.at _ _ place.page place.offset piece there fits
    ∙ ap (λ (memory : MemoryState). overwritten memory.bytes c.args.at piece) c.self.view_is
    ∙ ap (overwritten c.args.self.now.bytes c.args.at) zero
