use Rattle.std.proofs.Common.{ℕ, ◌<◌, ◌++◌, ◌∷◌, [], List, ◌∙◌, length, length-append, sym, ap, subst, refl, arith}
use Rattle.mm_base.specs.declared.entry.Entry.{Entry}
use Rattle.mm_base.specs.declared.receipt.Receipt.{Receipt}
use Rattle.mm_base.specs.Room.{RoomState}
use Rattle.comm_core.specs.Processor.{next_action, MayTake}
use Rattle.comm_core.specs.TransitionsInside.{lane_at, lane_answered, turns}
use Rattle.comm_core.specs.WorldState.{LaneState, WorldState}
use Rattle.comm_core.specs.declared.trace.Trace.{Trace}
use Rattle.comm_core.specs.declared.trace.Trace.TheVariants.{Turned}
use Rattle.comm_core.proofs.LaneLemmas.{read_there}
use Rattle.comm_core.proofs.ReadyLemmas.{next_there, may_take, suffices, request_asked, room_for_turn, ready_turn}
use Rattle.comm_core.proofs.WorldViews.{seen_turn}
use Rattle.comm_core.proofs.world.World.turn.Goals as goal

pub take_request-prepared-requires : goal.take_request-prepared-requires
take_request-prepared-requires g c =
    let within : c.args.lane < length c.self.inside.lanes.items =
    omega (arith, c.requires.lane, ap (λ (v : WorldState _). length v.lanes) c.self.view_is) in
    let there = read_there c.self.inside.lanes.items c.args.lane c.index_mut-asking.result.now within c.index_mut-asking.ensures.value in
    let next = next_there c.self.inside.words c.self.inside.lanes.items c.args.lane c.index_mut-asking.result.now _ there
    (ap (λ (v : WorldState _). next_action v.words (lane_at v c.args.lane).processor.stage) c.self.view_is ∙ c.requires.next) in
    let own = c.self.invariant.each c.args.lane c.index_mut-asking.result.now there in
    let P : ℕ → Type 0 = λ n. MayTake n c.index_mut-asking.result.now.processor.stage in
    subst P (sym own.words_are) (may_take c.self.inside.words _ c.index_mut-asking.result.now.processor.stage own.memory next)

pub serve-receipt-requires-clause-rooms : goal.serve-receipt-requires-clause-rooms
serve-receipt-requires-clause-rooms g c =
    let within : c.args.lane < length c.self.inside.lanes.items =
    omega (arith, c.requires.lane, ap (λ (v : WorldState _). length v.lanes) c.self.view_is) in
    let there = read_there c.self.inside.lanes.items c.args.lane c.index_mut-asking.result.now within c.index_mut-asking.ensures.value in
    let next = next_there c.self.inside.words c.self.inside.lanes.items c.args.lane c.index_mut-asking.result.now _ there
    (ap (λ (v : WorldState _). next_action v.words (lane_at v c.args.lane).processor.stage) c.self.view_is ∙ c.requires.next) in
    let at = c.index_mut-asking.result.now in
    let own = c.self.invariant.each c.args.lane at there in
    (suffices c.self.inside.words _ at.processor.lane at.processor.stage c.take_request-prepared.result own.memory next
    c.take_request-prepared.ensures.taken (omega (arith, c.take_request-prepared.ensures.fits, own.words_are))).0

pub push-requires : goal.push-requires
push-requires g c =
    let within : c.args.lane < length c.self.inside.lanes.items =
    omega (arith, c.requires.lane, ap (λ (v : WorldState _). length v.lanes) c.self.view_is) in
    let there = read_there c.self.inside.lanes.items c.args.lane c.index_mut-asking.result.now within c.index_mut-asking.ensures.value in
    let next = next_there c.self.inside.words c.self.inside.lanes.items c.args.lane c.index_mut-asking.result.now _ there
    (ap (λ (v : WorldState _). next_action v.words (lane_at v c.args.lane).processor.stage) c.self.view_is ∙ c.requires.next) in
    room_for_turn _ _ _ _ _ c.args.lane c.index_mut-asking.result.now c.self.invariant there next

pub invariant_of-self : goal.invariant_of-self
invariant_of-self g c =
    let within : c.args.lane < length c.self.inside.lanes.items =
    omega (arith, c.requires.lane, ap (λ (v : WorldState _). length v.lanes) c.self.view_is) in
    let there = read_there c.self.inside.lanes.items c.args.lane c.index_mut-asking.result.now within c.index_mut-asking.ensures.value in
    let next = next_there c.self.inside.words c.self.inside.lanes.items c.args.lane c.index_mut-asking.result.now _ there
    (ap (λ (v : WorldState _). next_action v.words (lane_at v c.args.lane).processor.stage) c.self.view_is ∙ c.requires.next) in
    let at = c.index_mut-asking.result.now in
    let own = c.self.invariant.each c.args.lane at there in
    let calls = g.M.Machine.most_calls in
    let r = c.take_request-prepared.result.entry.request in
    let within_bounds = g.met.M.Machine.within c.self.inside.kept.machine r in
    let answered =
    c.answer.ensures ∙ ap (λ (x : LaneState). lane_answered x c.serve-receipt.result) c.take_request-prepared.ensures.stage.1 in
    let one = ap (λ (es : List Entry). length es) c.serve-receipt.ensures.entries ∙ length-append c.self.inside.kept.entries _ in
    let reply = ap (λ (x : Receipt). length x.bytes) c.serve-receipt.ensures.receipt in
    ready_turn c.self.inside.words c.self.inside.lanes.items (calls c.self.inside.kept.machine) (calls c.serve-receipt.new.self.machine)
    (length c.self.inside.kept.entries) (length c.serve-receipt.new.self.entries)
    c.self.inside.trace c.push.new.self _ c.args.lane at c.answer.new.self c.serve-receipt.result c.self.invariant there next
    (omega (arith, reply, within_bounds.reply, c.take_request-prepared.ensures.fits, own.words_are))
    (ap calls c.serve-receipt.ensures.machine ∙ g.met.M.Machine.calls_stay c.self.inside.kept.machine r) one answered c.push.ensures

pub returns : goal.returns
returns g c =
    let within : c.args.lane < length c.self.inside.lanes.items =
    omega (arith, c.requires.lane, ap (λ (v : WorldState _). length v.lanes) c.self.view_is) in
    let there = read_there c.self.inside.lanes.items c.args.lane c.index_mut-asking.result.now within c.index_mut-asking.ensures.value in
    let next = next_there c.self.inside.words c.self.inside.lanes.items c.args.lane c.index_mut-asking.result.now _ there
    (ap (λ (v : WorldState _). next_action v.words (lane_at v c.args.lane).processor.stage) c.self.view_is ∙ c.requires.next) in
    let at = c.index_mut-asking.result.now in
    let own = c.self.invariant.each c.args.lane at there in
    let stepped = g.M.Machine.stepped in
    let m = c.self.inside.kept.machine in
    let r = c.take_request-prepared.result.entry.request in
    let answered =
    c.answer.ensures ∙ ap (λ (x : LaneState). lane_answered x c.serve-receipt.result) c.take_request-prepared.ensures.stage.1 in
    let told_trace = ap (λ (x : RoomState Trace). x.items) c.push.ensures
    ∙ ap (λ (x : Receipt). c.self.inside.trace.items ++ Turned c.args.lane x.position ∷ []) c.serve-receipt.ensures.receipt in
    seen_turn stepped c.self.inside.words c.self.inside.lanes.items m c.serve-receipt.new.self.machine c.self.inside.kept.entries
    c.serve-receipt.new.self.entries
    c.self.inside.trace.items c.push.new.self.items c.args.lane at c.answer.new.self r (stepped m r).0 c.serve-receipt.result there
    (request_asked c.self.inside.words _ at.processor.lane c.args.lane at.processor.stage c.take_request-prepared.result own.memory next
    own.number c.take_request-prepared.ensures.taken)
    refl c.serve-receipt.ensures.machine c.serve-receipt.ensures.entries c.serve-receipt.ensures.receipt answered told_trace
    ∙ ap (λ (v : WorldState _). turns stepped v c.args.lane (lane_at v c.args.lane)) c.self.view_is
