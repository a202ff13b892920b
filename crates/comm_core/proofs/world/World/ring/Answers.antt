use Rattle.std.proofs.Common.{◌^◌, ◌<◌, length, true, ◌≡◌, ◌∙◌, sym, ap, arith}
use Rattle.mm_base.specs.Prepared.{PreparedState}
use Rattle.comm_core.specs.Processor.{IsBlank, is_resting}
use Rattle.comm_core.specs.TransitionsInside.{records_left}
use Rattle.comm_core.specs.WorldState.{LaneState, WorldState}
use Rattle.comm_core.specs.WorldReadiness.{IsRoomy}
use Rattle.comm_core.proofs.LaneLemmas.{read_there, same_there}
use Rattle.comm_core.proofs.ReadyLemmas.{may_ring, ready_ring}
use Rattle.comm_core.proofs.world.World.ring.Goals as goal

pub ring-requires : goal.ring-requires
ring-requires g c =
    let within : c.args.lane < length c.self.inside.lanes.items =
    omega (arith, c.requires.lane, ap (λ (v : WorldState _). length v.lanes) c.self.view_is) in
    let there = read_there c.self.inside.lanes.items c.args.lane c.index_mut.result.now within c.index_mut.ensures.value in
    let at = c.index_mut.result.now in
    let own = c.self.invariant.each c.args.lane at there in
    let same = same_there c.self.inside.lanes.items c.args.lane c.index.result.now at within c.index.ensures c.index_mut.ensures.value in
    let resting : is_resting at.processor.stage ≡ true =
    ap (λ (x : LaneState). is_resting x.processor.stage) (sym same) ∙ sym c.is_resting.ensures ∙ c.if-not-is_resting.false in
    let e = c.in_ok-prepared.ensures in
    let blank : IsBlank at.processor.words c.in_ok-prepared.prepared = record {
      bytes = ap (λ (p : PreparedState). p.captured.items) e;
      room = omega (arith, ap (λ (p : PreparedState). p.captured.room) e, own.words_are);
    } in
    may_ring at.processor.words at.processor.stage c.in_ok-prepared.prepared resting blank

pub invariant_of-self-2 : goal.invariant_of-self-2
invariant_of-self-2 g c =
    let within : c.args.lane < length c.self.inside.lanes.items =
    omega (arith, c.requires.lane, ap (λ (v : WorldState _). length v.lanes) c.self.view_is) in
    let there = read_there c.self.inside.lanes.items c.args.lane c.index_mut.result.now within c.index_mut.ensures.value in
    let at = c.index_mut.result.now in
    let words = c.self.inside.words in
    let calls = g.M.Machine.most_calls in
    let same = same_there c.self.inside.lanes.items c.args.lane c.index.result.now at within c.index.ensures c.index_mut.ensures.value in
    let resting : is_resting at.processor.stage ≡ true =
    ap (λ (x : LaneState). is_resting x.processor.stage) (sym same) ∙ sym c.is_resting.ensures ∙ c.if-not-is_resting.false in
    let e = c.in_ok-prepared.ensures in
    let are_calls = c.calls.ensures ∙ ap calls c.machine.ensures in
    let roomy : IsRoomy words (calls c.self.inside.kept.machine) c.in_ok-prepared.prepared = record {
      calls_fit = omega (arith, ap (λ (p : PreparedState). p.calls) e, are_calls);
      reply = omega (arith, ap (λ (p : PreparedState). p.reply) e);
      second = omega (arith, ap (λ (p : PreparedState). p.second) e);
    } in
    let left = c.records_to_come.ensures.value ∙ ap records_left c.as_slice.ensures.value in
    let few : length c.self.inside.kept.entries < 2 ^ 32 =
    omega (arith, c.requires.room, ap (λ (v : WorldState _). length v.entries) c.self.view_is) in
    ready_ring words c.self.inside.lanes.items (calls c.self.inside.kept.machine)
    (length c.self.inside.kept.entries) c.records_to_come.result c.most_actions.result c.self.inside.trace c.reserve.new.self
    c.args.lane at c.ring.new.self c.in_ok-prepared.prepared c.args.saved c.self.invariant there resting few roomy c.ring.ensures left
    c.most_actions.ensures c.in_ok-reserve.ensures.ok
