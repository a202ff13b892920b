use Rattle.std.proofs.Common.{◌<◌, length, ◌∙◌, sym, ap, subst, arith}
use Rattle.std.proofs.lemmas.Option.{get_or_from_slice_get}
use Rattle.comm_core.specs.Processor.{next_action, IsSound}
use Rattle.comm_core.specs.TransitionsInside.{lane_at, no_lane}
use Rattle.comm_core.specs.WorldState.{LaneState, WorldState}
use Rattle.comm_core.proofs.LaneLemmas.{read_there}
use Rattle.comm_core.proofs.ReadyLemmas.{next_there, store_within, ready_store}
use Rattle.comm_core.proofs.world.World.store.Goals as goal

pub store-requires-clause-there : goal.store-requires-clause-there
store-requires-clause-there g c =
    let within : c.args.lane < length c.self.inside.lanes.items =
    omega (arith, c.requires.lane, ap (λ (v : WorldState _). length v.lanes) c.self.view_is) in
    let there = read_there c.self.inside.lanes.items c.args.lane c.index_mut.result.now within c.index_mut.ensures.value in
    let next = next_there c.self.inside.words c.self.inside.lanes.items c.args.lane c.index_mut.result.now _ there
    (ap (λ (v : WorldState _). next_action v.words (lane_at v c.args.lane).processor.stage) c.self.view_is ∙ c.requires.next) in
    let own = c.self.invariant.each c.args.lane c.index_mut.result.now there in
    let P : WorldState _ → Type 0 = λ v. IsSound v.words (lane_at v c.args.lane).processor.stage in
    let Q : LaneState → Type 0 = λ x. IsSound c.self.inside.words x.processor.stage in
    let sound =
    subst Q (get_or_from_slice_get c.self.inside.lanes.items c.args.lane c.index_mut.result.now no_lane there)
    (subst P (sym c.self.view_is) c.requires.sound) in
    omega (arith, store_within c.self.inside.words c.args.word c.args.value c.index_mut.result.now.processor.stage sound next, own.size)

pub invariant_of-self : goal.invariant_of-self
invariant_of-self g c =
    let within : c.args.lane < length c.self.inside.lanes.items =
    omega (arith, c.requires.lane, ap (λ (v : WorldState _). length v.lanes) c.self.view_is) in
    let there = read_there c.self.inside.lanes.items c.args.lane c.index_mut.result.now within c.index_mut.ensures.value in
    let next = next_there c.self.inside.words c.self.inside.lanes.items c.args.lane c.index_mut.result.now _ there
    (ap (λ (v : WorldState _). next_action v.words (lane_at v c.args.lane).processor.stage) c.self.view_is ∙ c.requires.next) in
    ready_store _ _ _ _ _ _ _ c.args.lane c.index_mut.result.now c.store.new.self c.args.word c.args.value c.self.invariant there next
    c.store.ensures c.push.ensures
