use Rattle.std.proofs.Common.{◌≡◌, ◌<◌, arith, length, vec_len, refl, ◌∙◌}
use Rattle.dispatcher.proofs.RoundLemmas.{begun, each_waits, ends, goes_on, is_empty_if, is_some_if, left_waits, members_are, waiting_first}
use Rattle.dispatcher.proofs.dispatching.dispatch.Goals as goal

pub loop-round-init : goal.loop-round-init
loop-round-init g c =
    let of = c.in_ok-families.families.drivers.now in
    let drivers = c.args.drivers.now in
    let places = c.in_ok-waiting.waiting.items in
    let same : of ≡ drivers = c.in_ok-families.ensures ∙ c.as_slice.ensures in
    record {
      drivers = same;
      going = begun g.S.Starter.installed_in g.S.Starter.started drivers (g.S.Starter.state c.args.starter.now) places c.new-starts.result (g.S.Starter.state c.args.starter.now)
          (waiting_first of drivers places same c.in_ok-waiting.ensures.items) (each_waits of drivers places same c.in_ok-waiting.ensures.each) c.new-starts.ensures refl;
    }

pub returns-then-is_empty-clause-value : goal.returns-then-is_empty-clause-value
returns-then-is_empty-clause-value g c =
    let of = c.in_ok-families.families.drivers.now in
    let drivers = c.args.drivers.now in
    let same : of ≡ drivers = c.loop-round.invariant.drivers in
    let places = c.loop-round.waiting.items in
    let starter = c.loop-round.starter in
    let state = g.S.Starter.state starter in
    let members = c.in_ok-members.members.items in
    let within : c.loop-round.round < length drivers = omega (arith, c.loop-round-test.true, c.len-round-end.ensures) in
    let agrees : g.S.Installed.installed starter ≡ g.S.Starter.installed_in state = λ i guid. g.met.S.Starter.agrees starter guid i in
    ends g.S.Starter.installed_in g.S.Starter.started drivers (g.S.Starter.state c.args.starter.now) c.loop-round.round places c.loop-round.starts state members
    c.requires.names c.loop-round.invariant.going within
    (members_are of drivers (g.S.Installed.installed starter) (g.S.Starter.installed_in state) places same agrees members c.in_ok-members.ensures.items)
    (omega (arith, c.in_ok-members.members.ok.0, is_empty_if (vec_len c.in_ok-members.members) _ c.is_empty.ensures c.if-is_empty.true))

pub loop-round-preserved : goal.loop-round-preserved
loop-round-preserved g c =
    let of = c.in_ok-families.families.drivers.now in
    let drivers = c.args.drivers.now in
    let same : of ≡ drivers = c.loop-round.invariant.drivers in
    let places = c.loop-round.waiting.items in
    let left = c.take_round.new.waiting.items in
    let starter = c.loop-round.starter in
    let state = g.S.Starter.state starter in
    let members = c.in_ok-members.members.items in
    let within : c.loop-round.round < length drivers = omega (arith, c.loop-round-test.true, c.len-round-end.ensures) in
    let agrees : g.S.Installed.installed starter ≡ g.S.Starter.installed_in state = λ i guid. g.met.S.Starter.agrees starter guid i in
    record {
      drivers = same;
      going = goes_on g.S.Starter.installed_in g.S.Starter.started drivers (g.S.Starter.state c.args.starter.now) c.loop-round.round places c.loop-round.starts state members
          c.requires.names c.loop-round.invariant.going within
          (members_are of drivers (g.S.Installed.installed starter) (g.S.Starter.installed_in state) places same agrees members c.in_ok-members.ensures.items)
          left c.start_all.new.starts (g.S.Starter.state c.start_all.new.starter) c.as_slice-in-loop-round.result.now
          (omega (arith, c.in_ok-members.members.ok.0, is_some_if (vec_len c.in_ok-members.members) _ c.is_empty.ensures c.if-is_empty.false))
          (left_waits of drivers (g.S.Installed.installed starter) (g.S.Starter.installed_in state) places same agrees left c.in_ok-members.ensures.left)
          (each_waits of drivers left same c.in_ok-members.ensures.each)
          c.as_slice-in-loop-round.ensures.value c.in_ok-start_all.ensures.items c.in_ok-start_all.ensures.after;
    }
