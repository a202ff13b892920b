use Rattle.std.proofs.Common.{◌≡◌, ◌<◌, ◌≤◌, ◌^◌, ◌*◌, ℕ, ◌+◌, ◌-◌, ◌∙◌, length, ap, sym, subst, arith}
use Rattle.mm_base.specs.Frames.{page_in}
use Rattle.mm_base.specs.Numbers.{number_in}
use Rattle.mm_memory.specs.Flat.{MemoryState}
use Rattle.mm_memory.proofs.MemoryLemmas.{shifted, both_small, both_fit, read_here, read_across}
use Rattle.mm_memory.proofs.memory.Memory.read.Goals as goal

pub returns-then-n-here-clause-value : goal.returns-then-n-here-clause-value
returns-then-n-here-clause-value g c =
    let size = ap (λ (memory : MemoryState). length memory.bytes) c.self.view_is in
    c.read.ensures.value
    ∙ read_here _ _ c.self.invariant c.args.at _ _ c.place-page.ensures.page c.place-page.ensures.offset c.args.n
    c.requires.low c.if-n-here.true (omega (arith, c.requires.within, size))
    ∙ ap (λ (memory : MemoryState). number_in memory.bytes c.args.at c.args.n) c.self.view_is

pub overflow_add-result : goal.overflow_add-result
overflow_add-result g c =
    let here = 4096 - c.place-page.result.1 in
    let few : here + (c.args.n - here) ≤ 8 = omega (arith, c.if-n-here.false, c.requires.high) in
    let upper = shifted c.read-low.result c.read-high.result here
    (c.args.n - here) few c.read-low.ensures.small c.read-high.ensures.small in
    let fit = both_fit c.read-low.result c.read-high.result here (c.args.n - here) few c.read-low.ensures.small c.read-high.ensures.small in
    omega (arith, upper, fit)

pub returns-clause-value : goal.returns-clause-value
returns-clause-value g c =
    let size = ap (λ (memory : MemoryState). length memory.bytes) c.self.view_is in
    let here = 4096 - c.place-page.result.1 in
    let few : here + (c.args.n - here) ≤ 8 = omega (arith, c.if-n-here.false, c.requires.high) in
    ap (λ m. c.read-low.result + m)
    (shifted c.read-low.result c.read-high.result here (c.args.n - here) few c.read-low.ensures.small c.read-high.ensures.small)
    ∙ ap (λ m. m + 256 ^ here * c.read-high.result) c.read-low.ensures.value
    ∙ ap (λ m. number_in (page_in (g.F.Frames.contents c.self.inside.frames) c.place-page.result.0) c.place-page.result.1 here + 256 ^ here * m) c.read-high.ensures.value
    ∙ read_across _ _ c.self.invariant c.args.at _ _ c.place-page.ensures.page c.place-page.ensures.offset c.args.n c.if-n-here.false
    (omega (arith, c.requires.high)) (omega (arith, c.requires.within, size))
    ∙ ap (λ (memory : MemoryState). number_in memory.bytes c.args.at c.args.n) c.self.view_is

pub returns-clause-small : goal.returns-clause-small
returns-clause-small g c =
    let here = 4096 - c.place-page.result.1 in
    let few : here + (c.args.n - here) ≤ 8 = omega (arith, c.if-n-here.false, c.requires.high) in
    let upper = shifted c.read-low.result c.read-high.result here
    (c.args.n - here) few c.read-low.ensures.small c.read-high.ensures.small in
    let small = both_small c.read-low.result c.read-high.result here
    (c.args.n - here) few c.read-low.ensures.small c.read-high.ensures.small in
    let all : here + (c.args.n - here) ≡ c.args.n = omega (arith, c.if-n-here.false) in
    let P : ℕ → Type 0 = λ n. c.read-low.result + 256 ^ here * c.read-high.result < 256 ^ n in
    omega (arith, upper, subst P all small)
