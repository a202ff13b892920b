use Rattle.std.proofs.Common.{◌∙◌, arith}
use Rattle.mm_core.proofs.EndLemmas.{home_here, home_later}
use Rattle.mm_core.proofs.reaching.home_end.Goals as goal

pub returns-then-left-ends : goal.returns-then-left-ends
returns-then-left-ends c =
    c.home_range_end.ensures
    ∙ (home_here c.args.tables.now.site.images c.loop-image.image c.loop-image.left c.home_ranges-ends.result (omega arith)
    c.home_ranges-ends.ensures.value (omega arith)
    ∙ c.loop-image.invariant)

pub loop-image-preserved : goal.loop-image-preserved
loop-image-preserved c =
    home_later c.args.tables.now.site.images c.loop-image.image c.loop-image.left c.home_ranges-ends.result (omega arith)
    c.home_ranges-ends.ensures.value (omega arith)
    ∙ c.loop-image.invariant
