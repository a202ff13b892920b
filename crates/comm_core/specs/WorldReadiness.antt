-- When a world is ready, so that nothing after an accepted ring can be out of memory; and what events ask of it.
use Rattle.std.specs.Prelude.{◌≡◌, ◌≤◌, ◌<◌, ℕ, ◌+◌, ◌*◌, ◌^◌, List, length, slice_get, sum_by, Some, Bool, true, false}
use Rattle.std.specs.Option.{option_map_or}
use Rattle.mm_base.specs.Prepared.{PreparedState}
use Rattle.mm_base.specs.Room.{RoomState}
use Rattle.comm_core.specs.Processor.{is_resting, to_come}
use Rattle.comm_core.specs.declared.event.Event.{Event}
use Rattle.comm_core.specs.declared.event.Event.TheVariants.{Ring, Poke, Steps, Run}
use Rattle.comm_core.specs.declared.processor.Stage.{Stage}
use Rattle.comm_core.specs.declared.processor.Stage.TheVariants.{Resting, Rung, Loading, Turning, Storing}
use Rattle.comm_core.specs.declared.trace.Trace.{Trace}
use Rattle.comm_core.specs.WorldState.{LaneState, WorldState}

-- whether the turn of a ring is still to come
abbrev pub turns_to_come : Stage → ℕ
turns_to_come Resting = 0
turns_to_come (Rung prepared saved) = 1
turns_to_come (Loading prepared saved len loaded) = 1
turns_to_come (Turning bytes) = 1
turns_to_come (Storing receipt stored) = 0

-- how many entries there are, with those that rings under way will make
abbrev pub entries_asked : {M : Type 0} → WorldState M → ℕ
entries_asked w = length w.entries + sum_by (λ seen. turns_to_come seen.processor.stage) w.lanes

-- how many rings an event is
abbrev pub rings_in : Event → ℕ
rings_in (Ring lane saved) = 1
rings_in (Poke lane word value) = 0
rings_in (Steps lane count) = 0
rings_in (Run lane) = 0

-- the memory of a ring under way has place for whatever the machine answers
pub record IsRoomy (words calls : ℕ) (prepared : PreparedState) : Type 0 where
  pub calls_fit : calls ≤ prepared.calls
  pub reply : 8 * words ≤ prepared.reply
  pub second : 8 * words ≤ prepared.second

abbrev pub HasRoom : ℕ → ℕ → Stage → Type 0
HasRoom words calls Resting = Unit {0}
HasRoom words calls (Rung prepared saved) = IsRoomy words calls prepared
HasRoom words calls (Loading prepared saved len loaded) = IsRoomy words calls prepared
HasRoom words calls (Turning bytes) = ⊥
HasRoom words calls (Storing receipt stored) = Unit {0}

-- a lane is ready: its processor is that of this lane, its words are all there, and a ring under way has its memory
pub record IsLaneReady (words calls lane : ℕ) (seen : LaneState) : Type 0 where
  pub number : seen.processor.lane ≡ lane
  pub words_are : seen.processor.words ≡ words
  pub size : length seen.values ≡ words + 2
  pub memory : HasRoom words calls seen.processor.stage

-- A world is ready: nothing after an accepted ring can be out of memory.
pub record IsReady (words : ℕ) (lanes : List LaneState) (calls entries : ℕ) (trace : RoomState Trace) : Type 0 where
  pub low : 3 ≤ words
  pub high : words ≤ 512
  pub few : length lanes ≤ 16
  pub each : (lane : ℕ) (seen : LaneState) → slice_get lanes lane ≡ Some seen → IsLaneReady words calls lane seen
  pub records : length trace.items + sum_by (λ seen. to_come words seen.processor.stage) lanes ≤ trace.room
  pub turns_fit : entries + sum_by (λ seen. turns_to_come seen.processor.stage) lanes ≤ 2 ^ 32 + 16

-- an event speaks of one of `lanes` lanes, and of words that it has
abbrev pub IsOfWorld : ℕ → ℕ → Event → Type 0
IsOfWorld lanes words (Ring lane saved) = lane < lanes
IsOfWorld lanes words (Poke lane word value) = (lane < lanes) × (word < words + 2)
IsOfWorld lanes words (Steps lane count) = lane < lanes
IsOfWorld lanes words (Run lane) = lane < lanes

-- whether the processor of this lane rests
abbrev pub is_resting_at : ℕ → List LaneState → Bool
is_resting_at lane lanes = option_map_or (λ seen. is_resting seen.processor.stage) (slice_get lanes lane) true

-- whether an event takes memory: a poke, and a ring at rest
abbrev pub takes_memory : List LaneState → Event → Bool
takes_memory lanes (Ring lane saved) = is_resting_at lane lanes
takes_memory lanes (Poke lane word value) = true
takes_memory lanes (Steps lane count) = false
takes_memory lanes (Run lane) = false
