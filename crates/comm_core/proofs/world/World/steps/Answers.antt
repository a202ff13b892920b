use Rattle.std.proofs.Common.{◌-◌, ◌+◌, ◌∙◌, length, sym, ap, arith}
use Rattle.comm_core.specs.WorldState.{WorldState}
use Rattle.comm_core.specs.TransitionsInside.{acts_times}
use Rattle.comm_core.proofs.StandsLemmas.{acts_times_lanes}
use Rattle.comm_core.proofs.WorldViews.{rest_stays, acts_one_less}
use Rattle.comm_core.proofs.world.World.steps.Goals as goal

pub returns-then-not-act : goal.returns-then-not-act
returns-then-not-act g c =
    let step = g.M.Machine.stepped in
    let rest = c.act.ensures.rests.0 c.if-not-act.true in
    c.act.ensures.acts ∙ rest_stays step c.args.lane 1 c.loop.self rest
    ∙ sym (rest_stays step c.args.lane (c.args.count - c.loop.counter) c.loop.self rest) ∙ c.loop.invariant.0

pub loop-preserved : goal.loop-preserved
loop-preserved g c =
    let step = g.M.Machine.stepped in (
      ap (λ (w : WorldState _). acts_times step c.args.lane (c.args.count - (c.loop.counter + 1)) w) c.act.ensures.acts
          ∙ sym (acts_one_less step c.args.lane c.args.count c.loop.counter c.loop.self (omega arith)) ∙ c.loop.invariant.0,
      omega (
        arith,
        c.loop.invariant.1,
        ap (λ (w : WorldState _). length w.lanes) c.act.ensures.acts,
        acts_times_lanes step c.args.lane 1 c.loop.self c.loop.invariant.1,
      ),
    )
