-- The processor of a lane, as a machine that stands at a stage and is fed what it asked for.
use Rattle.std.specs.Prelude.{◌≡◌, ◌≤◌, ◌<◌, ℕ, ◌+◌, ◌-◌, ◌*◌, ◌^◌, Bool, true, false, if◌then◌else◌, ◌==◌, nat_lt, [], ◌++◌, length, take, map, unwrap_or, slice_get}
use Rattle.mm_base.specs.Numbers.{bytes_of_word}
use Rattle.mm_base.specs.Prepared.{PreparedState}
use Rattle.mm_base.specs.Room.{RoomState}
use Rattle.mm_base.specs.declared.receipt.Receipt.{Receipt}
use Rattle.comm_core.specs.Piece.{needed, answer, store}
use Rattle.comm_core.specs.Capture.{longest}
use Rattle.comm_core.specs.declared.action.Action.{Action}
use Rattle.comm_core.specs.declared.action.Action.TheVariants.{Rest, Load, Turn}
use Rattle.comm_core.specs.declared.processor.Stage.{Stage}
use Rattle.comm_core.specs.declared.processor.Stage.TheVariants.{Resting, Rung, Loading, Turning, Storing}
use Rattle.comm_core.specs.declared.processor.Fed.{Fed}
use Rattle.comm_core.specs.declared.processor.Fed.TheVariants as fed

-- the lane, how many data words it has, and the stage
pub record ProcessorState : Type 0 where
  pub lane : ℕ
  pub words : ℕ
  pub stage : Stage

-- whether a processor rests
abbrev pub is_resting : Stage → Bool
is_resting Resting = true
is_resting (Rung prepared saved) = false
is_resting (Loading prepared saved len loaded) = false
is_resting (Turning bytes) = false
is_resting (Storing receipt stored) = false

-- what a processor does next at a stage
abbrev pub next_action : ℕ → Stage → Action
next_action words Resting = Rest
next_action words (Rung prepared saved) = Load 0
next_action words (Loading prepared saved len loaded) =
    if nat_lt loaded (needed words len) then Load (2 + loaded) else Turn
next_action words (Turning bytes) = Turn
next_action words (Storing receipt stored) = unwrap_or (slice_get (map store (answer receipt)) stored) Rest

-- the prepared memory with the eight bytes of this word captured too
abbrev pub with_word : PreparedState → ℕ → PreparedState
with_word prepared value =
    let captured : RoomState ℕ = prepared.captured in
    record prepared { captured = record captured { items = captured.items ++ bytes_of_word value } }

-- the stage after the load of the length
abbrev pub length_loaded : Stage → ℕ → Stage
length_loaded Resting value = Resting
length_loaded (Rung prepared saved) value = Loading prepared saved value 0
length_loaded (Loading prepared saved len loaded) value = Loading prepared saved len loaded
length_loaded (Turning bytes) value = Turning bytes
length_loaded (Storing receipt stored) value = Storing receipt stored

-- the stage after a load of this value
abbrev pub after_load : Stage → ℕ → Stage
after_load Resting value = Resting
after_load (Rung prepared saved) value = Loading prepared saved value 0
after_load (Loading prepared saved len loaded) value = Loading (with_word prepared value) saved len (loaded + 1)
after_load (Turning bytes) value = Turning bytes
after_load (Storing receipt stored) value = Storing receipt stored

-- the stage after a store: the last one leads to rest
abbrev pub after_store : Stage → Stage
after_store Resting = Resting
after_store (Rung prepared saved) = Rung prepared saved
after_store (Loading prepared saved len loaded) = Loading prepared saved len loaded
after_store (Turning bytes) = Turning bytes
after_store (Storing receipt stored) =
    if stored + 1 == length (answer receipt) then Resting else Storing receipt (stored + 1)

-- the stage after what is fed
abbrev pub after_fed : Stage → Fed → Stage
after_fed stage (fed.Ring prepared saved) = Rung prepared saved
after_fed stage (fed.Loaded value) = after_load stage value
after_fed stage (fed.Answered receipt) = Storing receipt 0
after_fed stage fed.Stored = after_store stage

-- the prepared memory with its request made, of the first `len` bytes that were captured
abbrev pub sealed : ℕ → Stage → PreparedState → PreparedState
sealed lane (Loading prepared saved len loaded) other = record prepared {
  entry = record {
    request = record { lane = lane; length = len; bytes = take len prepared.captured.items; saved = saved };
    outcome = prepared.entry.outcome;
  };
  captured = record { items = []; room = 0 };
}
sealed lane Resting other = other
sealed lane (Rung prepared saved) other = other
sealed lane (Turning bytes) other = other
sealed lane (Storing receipt stored) other = other

-- How many records a ring under way may still make.
abbrev pub to_come : ℕ → Stage → ℕ
to_come words Resting = 0
to_come words (Rung prepared saved) = longest words
to_come words (Loading prepared saved len loaded) = words - loaded + words + 3
to_come words (Turning bytes) = words + 2
to_come words (Storing receipt stored) = length (answer receipt) - stored

-- What a stage may hold: as many captured bytes as its loads gave, with place for the rest; and an answer that isn't
-- over, whose reply fits the lane.
pub record IsCapturing (words len loaded : ℕ) (prepared : PreparedState) : Type 0 where
  pub bytes : length prepared.captured.items ≡ 8 * loaded
  pub room : 8 * words ≤ prepared.captured.room
  pub within : loaded ≤ needed words len

pub record IsAnswering (words stored : ℕ) (receipt : Receipt) : Type 0 where
  pub more : stored < length (answer receipt)
  pub fits : length receipt.bytes ≤ 8 * words

pub record IsBlank (words : ℕ) (prepared : PreparedState) : Type 0 where
  pub bytes : prepared.captured.items ≡ []
  pub room : 8 * words ≤ prepared.captured.room

abbrev pub IsSound : ℕ → Stage → Type 0
IsSound words Resting = Unit {0}
IsSound words (Rung prepared saved) = IsBlank words prepared
IsSound words (Loading prepared saved len loaded) = IsCapturing words len loaded prepared
IsSound words (Turning bytes) = bytes ≤ 8 * words
IsSound words (Storing receipt stored) = IsAnswering words stored receipt

-- Something may be fed that answers the next action: a ring at rest, with memory in which nothing was captured and that
-- has place for each data word; a value where it loads; a receipt after its request, whose reply is no longer than
-- that; and word of a store.
abbrev pub MayRing : ℕ → Stage → PreparedState → Type 0
MayRing words Resting prepared = IsBlank words prepared
MayRing words (Rung p s) prepared = ⊥
MayRing words (Loading p s len loaded) prepared = ⊥
MayRing words (Turning bytes) prepared = ⊥
MayRing words (Storing receipt stored) prepared = ⊥

abbrev pub MayLoad : ℕ → Stage → Type 0
MayLoad words Resting = ⊥
MayLoad words (Rung prepared saved) = Unit {0}
MayLoad words (Loading prepared saved len loaded) = loaded < needed words len
MayLoad words (Turning bytes) = ⊥
MayLoad words (Storing receipt stored) = ⊥

abbrev pub MayAnswer : Stage → Receipt → Type 0
MayAnswer Resting receipt = ⊥
MayAnswer (Rung prepared saved) receipt = ⊥
MayAnswer (Loading prepared saved len loaded) receipt = ⊥
MayAnswer (Turning bytes) receipt = length receipt.bytes ≤ bytes
MayAnswer (Storing r stored) receipt = ⊥

abbrev pub MayStore : Stage → Type 0
MayStore Resting = ⊥
MayStore (Rung prepared saved) = ⊥
MayStore (Loading prepared saved len loaded) = ⊥
MayStore (Turning bytes) = ⊥
MayStore (Storing receipt stored) = Unit {0}

abbrev pub MayFeed : ℕ → Stage → Fed → Type 0
MayFeed words stage (fed.Ring prepared saved) = MayRing words stage prepared
MayFeed words stage (fed.Loaded value) = MayLoad words stage
MayFeed words stage (fed.Answered receipt) = MayAnswer stage receipt
MayFeed words stage fed.Stored = MayStore stage

-- the request may be taken: all that it needs was loaded, and it wasn't taken before
abbrev pub MayTake : ℕ → Stage → Type 0
MayTake words Resting = ⊥
MayTake words (Rung prepared saved) = ⊥
MayTake words (Loading prepared saved len loaded) = needed words len ≤ loaded
MayTake words (Turning bytes) = ⊥
MayTake words (Storing receipt stored) = ⊥

-- a load finds place for its word
abbrev pub MayLoadSoundly : Stage → Type 0
MayLoadSoundly Resting = Unit {0}
MayLoadSoundly (Rung prepared saved) = Unit {0}
MayLoadSoundly (Loading prepared saved len loaded) =
    (length prepared.captured.items + 8 ≤ prepared.captured.room) × (loaded + 1 < 2 ^ 32)
MayLoadSoundly (Turning bytes) = Unit {0}
MayLoadSoundly (Storing receipt stored) = Unit {0}

-- a store counts on
abbrev pub MayStoreSoundly : Stage → Type 0
MayStoreSoundly Resting = Unit {0}
MayStoreSoundly (Rung prepared saved) = Unit {0}
MayStoreSoundly (Loading prepared saved len loaded) = Unit {0}
MayStoreSoundly (Turning bytes) = Unit {0}
MayStoreSoundly (Storing receipt stored) = (length receipt.bytes ≤ 4096) × (stored + 1 < 2 ^ 32)

abbrev pub MayFeedSoundly : Stage → Fed → Type 0
MayFeedSoundly stage (fed.Ring prepared saved) = Unit {0}
MayFeedSoundly stage (fed.Loaded value) = MayLoadSoundly stage
MayFeedSoundly stage (fed.Answered receipt) = Unit {0}
MayFeedSoundly stage fed.Stored = MayStoreSoundly stage
