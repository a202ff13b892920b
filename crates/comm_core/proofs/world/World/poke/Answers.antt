use Rattle.std.proofs.Common.{◌<◌, length, ◌∙◌, ap, arith}
use Rattle.comm_core.specs.TransitionsInside.{records_left}
use Rattle.comm_core.specs.WorldState.{WorldState}
use Rattle.comm_core.proofs.LaneLemmas.{read_there}
use Rattle.comm_core.proofs.ReadyLemmas.{ready_poke}
use Rattle.comm_core.proofs.world.World.poke.Goals as goal

pub invariant_of-self-2 : goal.invariant_of-self-2
invariant_of-self-2 g c =
    let within : c.args.lane < length c.self.inside.lanes.items =
    omega (arith, c.requires.lane, ap (λ (v : WorldState _). length v.lanes) c.self.view_is) in
    let there = read_there c.self.inside.lanes.items c.args.lane c.index_mut.result.now within c.index_mut.ensures.value in
    ready_poke _ _ _ _ c.records_to_come-records.result _ c.reserve.new.self _ _ c.args.lane c.index_mut.result.now c.poke.new.self
    c.args.word c.args.value c.self.invariant there c.poke.ensures
    (c.records_to_come-records.ensures.value ∙ ap records_left c.as_slice.ensures.value) c.in_ok-reserve.ensures.ok c.push.ensures
