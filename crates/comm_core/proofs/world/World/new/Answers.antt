use Rattle.std.proofs.Common.{List, [], length, ◌∙◌, sym, ap, subst, arith}
use Rattle.mm_base.specs.Room.{RoomState}
use Rattle.mm_history.specs.History.{KeptState}
use Rattle.comm_core.specs.TransitionsInside.{new_lanes}
use Rattle.comm_core.specs.WorldState.{LaneState}
use Rattle.comm_core.specs.WorldPast.{StandsAt}
use Rattle.comm_core.specs.WorldReadiness.{IsReady, turns_to_come}
use Rattle.comm_core.specs.declared.trace.Trace.{Trace}
use Rattle.std.specs.List.{sum_by}
use Rattle.comm_core.proofs.LaneLemmas.{length-new_lanes}
use Rattle.comm_core.proofs.ReadyLemmas.{ready_new}
use Rattle.comm_core.proofs.StandsLemmas.{stands_new, asked_new}
use Rattle.comm_core.proofs.world.World.new.Goals as goal

pub invariant_of-result : goal.invariant_of-result
invariant_of-result g c =
    let calls = g.M.Machine.most_calls in
    let words = c.args.words in
    let lanes = new_lanes c.args.words c.args.lanes in
    let P : List LaneState → Type 0 = λ x. IsReady words x (calls c.begin.result.machine) (length c.begin.result.entries) c.none.result in
    let Q : KeptState _ → Type 0 = λ x. IsReady words lanes (calls x.machine) (length x.entries) c.none.result in
    let R : RoomState Trace → Type 0 = λ x. IsReady words lanes (calls c.args.machine) 0 x in
    subst P (sym c.in_ok-lanes.ensures) (subst Q (sym c.begin.ensures.begins) (subst R (sym c.none.ensures)
    (ready_new words c.args.lanes (calls c.args.machine) c.requires.low c.requires.high c.requires.few)))

pub returns-clause-stands : goal.returns-clause-stands
returns-clause-stands g c =
    let step = g.M.Machine.stepped in
    let words = c.args.words in
    let lanes = new_lanes c.args.words c.args.lanes in
    let P : List LaneState → Type 0 =
    λ x. StandsAt step c.args.machine []
    (record { words = words; lanes = x; machine = c.begin.result.machine; entries = c.begin.result.entries; trace = c.none.result.items })
    in
    let Q : KeptState _ → Type 0 =
    λ x. StandsAt step c.args.machine []
    (record { words = words; lanes = lanes; machine = x.machine; entries = x.entries; trace = c.none.result.items }) in
    let R : RoomState Trace → Type 0 =
    λ x. StandsAt step c.args.machine []
    (record { words = words; lanes = lanes; machine = c.args.machine; entries = []; trace = x.items }) in
    subst P (sym c.in_ok-lanes.ensures)
    (subst Q (sym c.begin.ensures.begins) (subst R (sym c.none.ensures) (stands_new step c.args.machine words c.args.lanes)))

pub returns-clause-lanes : goal.returns-clause-lanes
returns-clause-lanes g c = ap (λ (x : List LaneState). length x) c.in_ok-lanes.ensures ∙ length-new_lanes c.args.words c.args.lanes

pub returns-clause-entries : goal.returns-clause-entries
returns-clause-entries g c =
    omega (
      arith,
      ap (λ (x : KeptState _). length x.entries) c.begin.ensures.begins,
      ap (λ (x : List LaneState). sum_by (λ (at : LaneState). turns_to_come at.processor.stage) x) c.in_ok-lanes.ensures,
      asked_new c.args.words c.args.lanes,
    )
