-- No public clause cites this file.
-- What each step of the code does to a lane and to a world: what the methods of `Lane` and the private methods of
-- `World` are proved against. This goes the code's way. What a world stands for is said by looking back
-- (`WorldPast.antt`, `Capture.antt`), and the proofs lead from here to there.
use Rattle.std.specs.Prelude.{ℕ, zero, suc, ◌+◌, ◌*◌, if◌then◌else◌, List, [], ◌∷◌, ◌++◌, length, take, replicate, slice_index, slice_index_or, slice_set, sum_by}
use Rattle.mm_base.specs.Entry.{blank_entry}
use Rattle.mm_base.specs.Prepared.{PreparedState}
use Rattle.mm_base.specs.Receipt.{receipt_of}
use Rattle.mm_base.specs.declared.cells.Saved.{Saved}
use Rattle.mm_base.specs.declared.entry.Outcome.{Outcome}
use Rattle.mm_base.specs.declared.entry.Request.{Request}
use Rattle.mm_base.specs.declared.receipt.Receipt.{Receipt}
use Rattle.comm_core.specs.Capture.{longest}
use Rattle.comm_core.specs.Processor.{next_action, is_resting, to_come, after_load, after_store}
use Rattle.comm_core.specs.declared.action.Action.{Action}
use Rattle.comm_core.specs.declared.action.Action.TheVariants.{Rest, Load, Turn, Store}
use Rattle.comm_core.specs.declared.event.Event.{Event}
use Rattle.comm_core.specs.declared.event.Event.TheVariants.{Ring, Poke, Steps, Run}
use Rattle.comm_core.specs.declared.processor.Stage.{Stage}
use Rattle.comm_core.specs.declared.processor.Stage.TheVariants.{Resting, Rung, Loading, Turning, Storing}
use Rattle.comm_core.specs.declared.trace.Trace.TheVariants.{Loaded, Stored, Poked, Turned}
use Rattle.comm_core.specs.WorldState.{LaneState, WorldState}

-- the request that a processor of this lane has captured
abbrev pub asked : ℕ → Stage → Request
asked lane Resting = blank_entry.request
asked lane (Rung prepared saved) = blank_entry.request
asked lane (Loading prepared saved len loaded) =
    record { lane = lane; length = len; bytes = take len prepared.captured.items; saved = saved }
asked lane (Turning bytes) = blank_entry.request
asked lane (Storing receipt stored) = blank_entry.request

-- a lane of `words` data words with all words 0, whose processor rests
abbrev pub new_lane : ℕ → ℕ → LaneState
new_lane words lane = record {
  values = replicate (words + 2) 0;
  processor = record { lane = lane; words = words; stage = Resting };
}

-- n of them, numbered from 0 on
abbrev pub new_lanes : ℕ → ℕ → List LaneState
new_lanes words zero = []
new_lanes words (suc n) = new_lanes words n ++ new_lane words n ∷ []

-- a lane whose processor has this stage
abbrev pub with_stage : LaneState → Stage → LaneState
with_stage seen stage = record {
  values = seen.values;
  processor = record { lane = seen.processor.lane; words = seen.processor.words; stage = stage };
}

-- the lane after a step of its processor, or after a poke
abbrev pub lane_rung : LaneState → PreparedState → Saved → LaneState
lane_rung seen prepared saved = with_stage seen (Rung prepared saved)

abbrev pub lane_loaded : LaneState → ℕ → LaneState
lane_loaded seen word = with_stage seen (after_load seen.processor.stage (slice_index seen.values word))

abbrev pub lane_taken : LaneState → ℕ → LaneState
lane_taken seen bytes = with_stage seen (Turning bytes)

abbrev pub lane_answered : LaneState → Receipt → LaneState
lane_answered seen receipt = with_stage seen (Storing receipt 0)

abbrev pub lane_stored : LaneState → ℕ → ℕ → LaneState
lane_stored seen word value = record {
  values = slice_set seen.values word value;
  processor =
      record { lane = seen.processor.lane; words = seen.processor.words; stage = after_store seen.processor.stage };
}

abbrev pub lane_poked : LaneState → ℕ → ℕ → LaneState
lane_poked seen word value = record { values = slice_set seen.values word value; processor = seen.processor }

-- how many records the rings under way in these lanes may still make, by the words that each processor has
abbrev pub records_left : List LaneState → ℕ
records_left lanes = sum_by (λ seen. to_come seen.processor.words seen.processor.stage) lanes

-- what a look-up gives where there is no such lane
abbrev pub no_lane : LaneState
no_lane = record { values = []; processor = record { lane = 0; words = 0; stage = Resting } }

-- this lane of a world
abbrev pub lane_at : {M : Type 0} → WorldState M → ℕ → LaneState
lane_at w lane = slice_index_or w.lanes lane no_lane

-- The world after one action of a lane's processor; `seen` is the lane before it.
abbrev pub loads_word : {M : Type 0} → WorldState M → ℕ → LaneState → ℕ → WorldState M
loads_word w lane seen word = record w {
  lanes = slice_set w.lanes lane (lane_loaded seen word);
  trace = w.trace ++ Loaded lane word (slice_index seen.values word) ∷ [];
}

abbrev pub stores_word : {M : Type 0} → WorldState M → ℕ → LaneState → ℕ → ℕ → WorldState M
stores_word w lane seen word value = record w {
  lanes = slice_set w.lanes lane (lane_stored seen word value);
  trace = w.trace ++ Stored lane word value ∷ [];
}

abbrev pub turns : {M : Type 0} → (M → Request → Outcome × M) → WorldState M → ℕ → LaneState → WorldState M
turns step w lane seen =
    let request = asked lane seen.processor.stage in
    let turn = step w.machine request in
    record w {
      machine = turn.1;
      entries = w.entries ++ record { request = request; outcome = turn.0 } ∷ [];
      lanes = slice_set w.lanes lane (lane_answered seen (receipt_of (length w.entries) turn.0));
      trace = w.trace ++ Turned lane (length w.entries) ∷ [];
    }

abbrev pub goes_on : {M : Type 0} → (M → Request → Outcome × M) → WorldState M → ℕ → LaneState → Action → WorldState M
goes_on step w lane seen Rest = w
goes_on step w lane seen (Load word) = loads_word w lane seen word
goes_on step w lane seen Turn = turns step w lane seen
goes_on step w lane seen (Store word value) = stores_word w lane seen word value

abbrev pub acts_once : {M : Type 0} → (M → Request → Outcome × M) → ℕ → WorldState M → WorldState M
acts_once step lane w = goes_on step w lane (lane_at w lane) (next_action w.words (lane_at w lane).processor.stage)

abbrev pub acts_times : {M : Type 0} → (M → Request → Outcome × M) → ℕ → ℕ → WorldState M → WorldState M
acts_times step lane zero w = w
acts_times step lane (suc n) w = acts_times step lane n (acts_once step lane w)

-- the memory of an entry, for a lane of `words` data words and a machine of `calls` calls
abbrev pub prepared_for : ℕ → ℕ → PreparedState
prepared_for words calls = record {
  entry = blank_entry;
  captured = record { items = []; room = 8 * words };
  reply = 8 * words;
  calls = calls;
  second = 8 * words;
}

-- The world after an event at a lane; `seen` is the lane before it.
abbrev pub rung_at : {M : Type 0} → WorldState M → ℕ → LaneState → PreparedState → Saved → WorldState M
rung_at w lane seen prepared saved =
    if is_resting seen.processor.stage
    then record w { lanes = slice_set w.lanes lane (lane_rung seen prepared saved) }
    else w

abbrev pub pokes : {M : Type 0} → WorldState M → ℕ → LaneState → ℕ → ℕ → WorldState M
pokes w lane seen word value = record w {
  lanes = slice_set w.lanes lane (lane_poked seen word value);
  trace = w.trace ++ Poked lane word value ∷ [];
}

abbrev pub after_event : {M : Type 0} → (M → Request → Outcome × M) → (M → ℕ) → WorldState M → Event → WorldState M
after_event step calls w (Ring lane saved) =
    rung_at w lane (lane_at w lane) (prepared_for w.words (calls w.machine)) saved
after_event step calls w (Poke lane word value) = pokes w lane (lane_at w lane) word value
after_event step calls w (Steps lane count) = acts_times step lane count w
after_event step calls w (Run lane) = acts_times step lane (longest w.words) w
