use Rattle.std.proofs.Common.{ℕ, ◌<◌, length, ◌∙◌, sym, ap, subst, arith}
use Rattle.comm_core.specs.Processor.{next_action, MayLoad}
use Rattle.comm_core.specs.TransitionsInside.{lane_at}
use Rattle.comm_core.specs.WorldState.{WorldState}
use Rattle.comm_core.proofs.LaneLemmas.{read_there}
use Rattle.comm_core.proofs.ReadyLemmas.{next_there, may_load, load_within, room_for_load, ready_load}
use Rattle.comm_core.proofs.world.World.load.Goals as goal

pub load-value-requires-clause-there : goal.load-value-requires-clause-there
load-value-requires-clause-there g c =
    let within : c.args.lane < length c.self.inside.lanes.items =
    omega (arith, c.requires.lane, ap (λ (v : WorldState _). length v.lanes) c.self.view_is) in
    let there = read_there c.self.inside.lanes.items c.args.lane c.index_mut.result.now within c.index_mut.ensures.value in
    let next = next_there c.self.inside.words c.self.inside.lanes.items c.args.lane c.index_mut.result.now _ there
    (ap (λ (v : WorldState _). next_action v.words (lane_at v c.args.lane).processor.stage) c.self.view_is ∙ c.requires.next) in
    let own = c.self.invariant.each c.args.lane c.index_mut.result.now there in
    omega (arith, load_within c.self.inside.words c.args.word c.index_mut.result.now.processor.stage next, own.size)

pub load-value-requires-clause-may : goal.load-value-requires-clause-may
load-value-requires-clause-may g c =
    let within : c.args.lane < length c.self.inside.lanes.items =
    omega (arith, c.requires.lane, ap (λ (v : WorldState _). length v.lanes) c.self.view_is) in
    let there = read_there c.self.inside.lanes.items c.args.lane c.index_mut.result.now within c.index_mut.ensures.value in
    let next = next_there c.self.inside.words c.self.inside.lanes.items c.args.lane c.index_mut.result.now _ there
    (ap (λ (v : WorldState _). next_action v.words (lane_at v c.args.lane).processor.stage) c.self.view_is ∙ c.requires.next) in
    let own = c.self.invariant.each c.args.lane c.index_mut.result.now there in
    let P : ℕ → Type 0 = λ n. MayLoad n c.index_mut.result.now.processor.stage in
    subst P (sym own.words_are) (may_load c.self.inside.words c.args.word c.index_mut.result.now.processor.stage next)

pub push-requires : goal.push-requires
push-requires g c =
    let within : c.args.lane < length c.self.inside.lanes.items =
    omega (arith, c.requires.lane, ap (λ (v : WorldState _). length v.lanes) c.self.view_is) in
    let there = read_there c.self.inside.lanes.items c.args.lane c.index_mut.result.now within c.index_mut.ensures.value in
    let next = next_there c.self.inside.words c.self.inside.lanes.items c.args.lane c.index_mut.result.now _ there
    (ap (λ (v : WorldState _). next_action v.words (lane_at v c.args.lane).processor.stage) c.self.view_is ∙ c.requires.next) in
    room_for_load _ _ _ _ _ c.args.lane c.index_mut.result.now c.args.word c.self.invariant there next

pub invariant_of-self : goal.invariant_of-self
invariant_of-self g c =
    let within : c.args.lane < length c.self.inside.lanes.items =
    omega (arith, c.requires.lane, ap (λ (v : WorldState _). length v.lanes) c.self.view_is) in
    let there = read_there c.self.inside.lanes.items c.args.lane c.index_mut.result.now within c.index_mut.ensures.value in
    let next = next_there c.self.inside.words c.self.inside.lanes.items c.args.lane c.index_mut.result.now _ there
    (ap (λ (v : WorldState _). next_action v.words (lane_at v c.args.lane).processor.stage) c.self.view_is ∙ c.requires.next) in
    ready_load _ _ _ _ _ _ _ c.args.lane c.index_mut.result.now c.load-value.new.self c.args.word c.self.invariant there next
    c.load-value.ensures.lane c.push.ensures
