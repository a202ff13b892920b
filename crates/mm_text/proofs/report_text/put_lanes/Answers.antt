use Rattle.std.proofs.Common.{◌≡◌, get_or, arith}
use Rattle.std.proofs.lemmas.Grind.{common_steps}
use Rattle.mm_text.proofs.PageLemmas.{lanes_lines-turn}
use Rattle.mm_text.proofs.report_text.put_lanes.Goals as goal

pub loop-l-preserved : goal.loop-l-preserved
loop-l-preserved c =
    let same : c.as_slice.result.now ≡ get_or c.args.lanes.now c.loop-l.l c.as_slice.result.now = grind (arith, common_steps) in
    lanes_lines-turn c.args.lanes.now c.loop-l.l c.as_slice.result.now _ c.loop-l-test.true same c.loop-l.invariant c.in_ok-put_lane.ensures
