use Rattle.std.proofs.Common.{◌≡◌, ℕ, ◌<◌, length, ◌∙◌, sym, ap, subst, arith}
use Rattle.std.proofs.lemmas.Option.{get_or_from_slice_get}
use Rattle.comm_core.specs.Processor.{next_action, IsSound}
use Rattle.comm_core.specs.TransitionsInside.{no_lane, lane_at}
use Rattle.comm_core.specs.WorldState.{LaneState, WorldState}
use Rattle.comm_core.specs.declared.action.Action.TheVariants.{Rest, Load, Turn, Store}
use Rattle.comm_core.proofs.LaneLemmas.{read_there}
use Rattle.comm_core.proofs.ReadyLemmas.{found_there}
use Rattle.comm_core.proofs.WorldViews.{acts_next}
use Rattle.comm_core.proofs.world.World.act.Goals as goal

pub load-requires-clause-next : goal.load-requires-clause-next
load-requires-clause-next g c =
    let within : c.args.lane < length c.self.inside.lanes.items =
    omega (arith, c.requires, ap (λ (v : WorldState _). length v.lanes) c.self.view_is) in
    let there = read_there c.self.inside.lanes.items c.args.lane c.index.result.now within c.index.ensures in
    let own = c.self.invariant.each c.args.lane c.index.result.now there in
    let next = ap (λ (v : WorldState _). next_action v.words (lane_at v c.args.lane).processor.stage) (sym c.self.view_is)
    ∙ found_there c.self.inside.words c.self.inside.lanes.items c.args.lane c.index.result.now c.next.result there own.words_are
    c.next.ensures.next ∙ c.in-Load.is in
    next

pub turn-requires-clause-next : goal.turn-requires-clause-next
turn-requires-clause-next g c =
    let within : c.args.lane < length c.self.inside.lanes.items =
    omega (arith, c.requires, ap (λ (v : WorldState _). length v.lanes) c.self.view_is) in
    let there = read_there c.self.inside.lanes.items c.args.lane c.index.result.now within c.index.ensures in
    let own = c.self.invariant.each c.args.lane c.index.result.now there in
    let next = ap (λ (v : WorldState _). next_action v.words (lane_at v c.args.lane).processor.stage) (sym c.self.view_is)
    ∙ found_there c.self.inside.words c.self.inside.lanes.items c.args.lane c.index.result.now c.next.result there own.words_are
    c.next.ensures.next ∙ c.in-Turn.is in
    next

pub store-requires-clause-next : goal.store-requires-clause-next
store-requires-clause-next g c =
    let within : c.args.lane < length c.self.inside.lanes.items =
    omega (arith, c.requires, ap (λ (v : WorldState _). length v.lanes) c.self.view_is) in
    let there = read_there c.self.inside.lanes.items c.args.lane c.index.result.now within c.index.ensures in
    let own = c.self.invariant.each c.args.lane c.index.result.now there in
    let next = ap (λ (v : WorldState _). next_action v.words (lane_at v c.args.lane).processor.stage) (sym c.self.view_is)
    ∙ found_there c.self.inside.words c.self.inside.lanes.items c.args.lane c.index.result.now c.next.result there own.words_are
    c.next.ensures.next ∙ c.in-Store.is in
    next

pub store-requires-clause-sound : goal.store-requires-clause-sound
store-requires-clause-sound g c =
    let within : c.args.lane < length c.self.inside.lanes.items =
    omega (arith, c.requires, ap (λ (v : WorldState _). length v.lanes) c.self.view_is) in
    let there = read_there c.self.inside.lanes.items c.args.lane c.index.result.now within c.index.ensures in
    let own = c.self.invariant.each c.args.lane c.index.result.now there in
    let P : WorldState _ → Type 0 = λ v. IsSound v.words (lane_at v c.args.lane).processor.stage in
    let Q : LaneState → Type 0 = λ x. IsSound c.self.inside.words x.processor.stage in
    let R : ℕ → Type 0 = λ n. IsSound n c.index.result.now.processor.stage in
    subst P c.self.view_is
    (subst Q (sym (get_or_from_slice_get c.self.inside.lanes.items c.args.lane c.index.result.now no_lane there))
    (subst R own.words_are c.next.ensures.sound))

pub returns-in-Load-clause-acts : goal.returns-in-Load-clause-acts
returns-in-Load-clause-acts g c =
    let within : c.args.lane < length c.self.inside.lanes.items =
    omega (arith, c.requires, ap (λ (v : WorldState _). length v.lanes) c.self.view_is) in
    let there = read_there c.self.inside.lanes.items c.args.lane c.index.result.now within c.index.ensures in
    let own = c.self.invariant.each c.args.lane c.index.result.now there in
    let next = ap (λ (v : WorldState _). next_action v.words (lane_at v c.args.lane).processor.stage) (sym c.self.view_is)
    ∙ found_there c.self.inside.words c.self.inside.lanes.items c.args.lane c.index.result.now c.next.result there own.words_are
    c.next.ensures.next ∙ c.in-Load.is in
    acts_next g.M.Machine.stepped c.args.lane c.args.self.now c.load.new.self (Load c.in-Load.word) next c.load.ensures

pub returns-in-Turn-clause-acts : goal.returns-in-Turn-clause-acts
returns-in-Turn-clause-acts g c =
    let within : c.args.lane < length c.self.inside.lanes.items =
    omega (arith, c.requires, ap (λ (v : WorldState _). length v.lanes) c.self.view_is) in
    let there = read_there c.self.inside.lanes.items c.args.lane c.index.result.now within c.index.ensures in
    let own = c.self.invariant.each c.args.lane c.index.result.now there in
    let next = ap (λ (v : WorldState _). next_action v.words (lane_at v c.args.lane).processor.stage) (sym c.self.view_is)
    ∙ found_there c.self.inside.words c.self.inside.lanes.items c.args.lane c.index.result.now c.next.result there own.words_are
    c.next.ensures.next ∙ c.in-Turn.is in
    acts_next g.M.Machine.stepped c.args.lane c.args.self.now c.turn.new.self Turn next c.turn.ensures

pub returns-in-Store-clause-acts : goal.returns-in-Store-clause-acts
returns-in-Store-clause-acts g c =
    let within : c.args.lane < length c.self.inside.lanes.items =
    omega (arith, c.requires, ap (λ (v : WorldState _). length v.lanes) c.self.view_is) in
    let there = read_there c.self.inside.lanes.items c.args.lane c.index.result.now within c.index.ensures in
    let own = c.self.invariant.each c.args.lane c.index.result.now there in
    let next = ap (λ (v : WorldState _). next_action v.words (lane_at v c.args.lane).processor.stage) (sym c.self.view_is)
    ∙ found_there c.self.inside.words c.self.inside.lanes.items c.args.lane c.index.result.now c.next.result there own.words_are
    c.next.ensures.next ∙ c.in-Store.is in
    acts_next g.M.Machine.stepped c.args.lane c.args.self.now c.store.new.self (Store c.in-Store.word c.in-Store.value) next c.store.ensures

pub returns-in-Load-clause-rests : goal.returns-in-Load-clause-rests
returns-in-Load-clause-rests g c =
    let within : c.args.lane < length c.self.inside.lanes.items =
    omega (arith, c.requires, ap (λ (v : WorldState _). length v.lanes) c.self.view_is) in
    let there = read_there c.self.inside.lanes.items c.args.lane c.index.result.now within c.index.ensures in
    let own = c.self.invariant.each c.args.lane c.index.result.now there in
    let next = ap (λ (v : WorldState _). next_action v.words (lane_at v c.args.lane).processor.stage) (sym c.self.view_is)
    ∙ found_there c.self.inside.words c.self.inside.lanes.items c.args.lane c.index.result.now c.next.result there own.words_are
    c.next.ensures.next ∙ c.in-Load.is in
    (λ e. absurd cc, λ (rest : _ ≡ Rest). absurd cc)

pub returns-in-Turn-clause-rests : goal.returns-in-Turn-clause-rests
returns-in-Turn-clause-rests g c =
    let within : c.args.lane < length c.self.inside.lanes.items =
    omega (arith, c.requires, ap (λ (v : WorldState _). length v.lanes) c.self.view_is) in
    let there = read_there c.self.inside.lanes.items c.args.lane c.index.result.now within c.index.ensures in
    let own = c.self.invariant.each c.args.lane c.index.result.now there in
    let next = ap (λ (v : WorldState _). next_action v.words (lane_at v c.args.lane).processor.stage) (sym c.self.view_is)
    ∙ found_there c.self.inside.words c.self.inside.lanes.items c.args.lane c.index.result.now c.next.result there own.words_are
    c.next.ensures.next ∙ c.in-Turn.is in
    (λ e. absurd cc, λ (rest : _ ≡ Rest). absurd cc)

pub returns-in-Store-clause-rests : goal.returns-in-Store-clause-rests
returns-in-Store-clause-rests g c =
    let within : c.args.lane < length c.self.inside.lanes.items =
    omega (arith, c.requires, ap (λ (v : WorldState _). length v.lanes) c.self.view_is) in
    let there = read_there c.self.inside.lanes.items c.args.lane c.index.result.now within c.index.ensures in
    let own = c.self.invariant.each c.args.lane c.index.result.now there in
    let next = ap (λ (v : WorldState _). next_action v.words (lane_at v c.args.lane).processor.stage) (sym c.self.view_is)
    ∙ found_there c.self.inside.words c.self.inside.lanes.items c.args.lane c.index.result.now c.next.result there own.words_are
    c.next.ensures.next ∙ c.in-Store.is in
    (λ e. absurd cc, λ (rest : _ ≡ Rest). absurd cc)
