-- At which past a world stands, and so for which events it stands.
use Rattle.std.specs.Prelude.{◌≡◌, ◌<◌, ℕ, List, [], length, slice_index, slice_get, Some}
use Rattle.mm_base.specs.Numbers.{bytes_of_words}
use Rattle.mm_base.specs.Prepared.{PreparedState}
use Rattle.mm_base.specs.Receipt.{receipt_of}
use Rattle.mm_base.specs.Replay.{replayed, left_by}
use Rattle.mm_base.specs.declared.cells.Saved.{Saved}
use Rattle.mm_base.specs.declared.entry.Outcome.{Outcome}
use Rattle.mm_base.specs.declared.entry.Request.{Request}
use Rattle.mm_base.specs.declared.receipt.Receipt.{Receipt}
use Rattle.comm_core.specs.Capture.{Mark, trace_of, value_at, last_saved, requests, outcomes_of, course}
use Rattle.comm_core.specs.Standing.{Place, AtRest, Called, Capturing, Answering, StandsIn}
use Rattle.comm_core.specs.declared.event.Event.{Event}
use Rattle.comm_core.specs.declared.processor.Stage.{Stage}
use Rattle.comm_core.specs.declared.processor.Stage.TheVariants.{Resting, Rung, Loading, Turning, Storing}
use Rattle.comm_core.specs.WorldState.{LaneState, WorldState}

-- The stage of a processor is that of its lane's place: at rest; rung, with the ring's saved registers and nothing
-- captured; with the length and the bytes of the data words as they were loaded; or with the receipt of the turn.
pub record IsRung (place : Place) (last : Saved) (prepared : PreparedState) (saved : Saved) : Type 0 where
  pub at : place ≡ Called
  pub registers : saved ≡ last
  pub nothing : prepared.captured.items ≡ []

pub record IsLoading (place : Place) (last : Saved) (prepared : PreparedState) (saved : Saved) (len loaded : ℕ)
    : Type 0 where
  pub values : List ℕ
  pub at : place ≡ Capturing len values
  pub registers : saved ≡ last
  pub count : loaded ≡ length values
  pub bytes : prepared.captured.items ≡ bytes_of_words values

pub record IsStoring (place : Place) (receipt : Receipt) (stored : ℕ) : Type 0 where
  pub len : ℕ
  pub values : List ℕ
  pub position : ℕ
  pub outcome : Outcome
  pub at : place ≡ Answering len values position outcome stored
  pub receipt_is : receipt ≡ receipt_of position outcome

abbrev pub Follows : Place → Saved → Stage → Type 0
Follows place last Resting = place ≡ AtRest
Follows place last (Rung prepared saved) = IsRung place last prepared saved
Follows place last (Loading prepared saved len loaded) = IsLoading place last prepared saved len loaded
Follows place last (Turning bytes) = ⊥
Follows place last (Storing receipt stored) = IsStoring place receipt stored

-- A lane agrees with a past: its words have the values of the last stores and pokes to them, and its processor follows
-- the lane's place, with the saved registers of the ring under way.
pub record LaneStands (words : ℕ) (outcomes : List Outcome) (lane : ℕ) (past : List Mark) (seen : LaneState)
    : Type 0 where
  pub place : Place
  pub stands : StandsIn words outcomes lane past place
  pub stage : Follows place (last_saved lane past) seen.processor.stage
  pub values : (word : ℕ) → word < length seen.values → slice_index seen.values word ≡ value_at lane word past

-- A world stands at a past: its trace is the records of that past; its entries are the captured requests, each with its
-- outcome in their replay from this machine value; its machine is what that replay leaves; and each of its lanes stands
-- at that past.
pub record StandsAt {M : Type 0} (step : M → Request → Outcome × M) (machine : M) (past : List Mark) (w : WorldState M)
    : Type 0 where
  pub each : (lane : ℕ) (seen : LaneState)
      → slice_get w.lanes lane ≡ Some seen
      → LaneStands w.words (outcomes_of step machine past) lane past seen
  pub trace : w.trace ≡ trace_of past
  pub entries : w.entries ≡ replayed step machine (requests past)
  pub now : w.machine ≡ left_by step machine (requests past)

-- A world stands for a list of events from a machine value: it stands at what these events make happen.
abbrev pub StandsForEvents : {M : Type 0} → (M → Request → Outcome × M) → M → List Event → WorldState M → Type 0
StandsForEvents step machine events w = StandsAt step machine (course step machine w.words events) w
