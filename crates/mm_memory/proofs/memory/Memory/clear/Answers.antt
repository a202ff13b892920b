use Rattle.std.proofs.Common.{◌≡◌, ◌≤◌, ◌<◌, ◌+◌, ◌-◌, ◌∙◌, length, sym, ap, arith}
use Rattle.mm_base.specs.Frames.{zeros}
use Rattle.mm_base.specs.Numbers.{overwritten}
use Rattle.mm_memory.proofs.PageLemmas.{length-overwritten, length-zeros, overwritten-nothing, no_zeros}
use Rattle.mm_memory.proofs.MemoryLemmas.{clears_on}
use Rattle.mm_memory.proofs.memory.Memory.clear.Goals as goal

pub loop-from-preserved : goal.loop-from-preserved
loop-from-preserved g c =
    let held = c.loop-from.invariant in
    let told = c.clear_some-from.ensures in
    let left = c.args.at + c.args.count - c.loop-from.from in
    let here = c.clear_some-from.result in
    let fits : c.loop-from.from + left ≤ length c.loop-from.self.bytes = omega (arith, held.within, held.size, c.requires.within) in
    let fewer : c.args.at + c.args.count - (c.loop-from.from + here) ≡ left - here = omega arith in
    record {
      live = told.live ∙ held.live;
      size =
          ap length told.bytes
          ∙ length-overwritten c.loop-from.self.bytes (zeros here) c.loop-from.from (omega (arith, fits, told.within, length-zeros here))
          ∙ held.size;
      later = omega (arith, held.later);
      within = omega (arith, told.within, held.within);
      left =
          ap (λ n. overwritten c.clear_some-from.new.self.bytes (c.loop-from.from + here) (zeros n)) fewer
          ∙ clears_on c.loop-from.self.bytes _ c.loop-from.from here left told.bytes told.within fits
          ∙ held.left;
    }

pub returns-clause-bytes : goal.returns-clause-bytes
returns-clause-bytes g c =
    let held = c.loop-from.invariant in
    let done : c.args.at + c.args.count - c.loop-from.from ≡ 0 = omega (arith, c.loop-from-test.false) in
    sym (overwritten-nothing c.loop-from.self.bytes c.loop-from.from)
    ∙ ap (overwritten c.loop-from.self.bytes c.loop-from.from) (sym no_zeros)
    ∙ ap (λ n. overwritten c.loop-from.self.bytes c.loop-from.from (zeros n)) (sym done)
    ∙ held.left
