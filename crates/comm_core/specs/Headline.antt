-- The headline of a world, as far as it goes: what its words, its machine, its entries and its trace say by themselves.
-- Neither events nor a processor are needed to read it.
use Rattle.std.specs.Prelude.{◌≡◌, ◌<◌, ℕ, ◌+◌, List, [], ◌∷◌, length, map, Some, slice_get, slice_index, ⊤}
use Rattle.mm_base.specs.Receipt.{receipt_of}
use Rattle.mm_base.specs.Replay.{replayed, left_by}
use Rattle.mm_base.specs.declared.entry.Entry.{Entry}
use Rattle.mm_base.specs.declared.entry.Outcome.{Outcome}
use Rattle.mm_base.specs.declared.entry.Request.{Request}
use Rattle.mm_history.specs.History.{requests_of}
use Rattle.comm_core.specs.Piece.{whole, length_in, turn_in, receipt_at, request_in}
use Rattle.comm_core.specs.Capture.{Mark, Rung, Did, marks_of, pieces_in, value_at}
use Rattle.comm_core.specs.Laws.{Begins, LoadsOnce, IsServed, action_of}
use Rattle.comm_core.specs.declared.trace.Trace.{Trace}
use Rattle.comm_core.specs.declared.trace.Trace.TheVariants.{Loaded, Stored, Poked, Turned}

-- Each load gave the value of the last store or poke to its word before it, or 0.
abbrev pub TellsTrue : List Mark → Type 0
TellsTrue [] = ⊤
TellsTrue (Rung lane saved ∷ past) = TellsTrue past
TellsTrue (Did (Loaded lane word value) ∷ past) = (value ≡ value_at lane word past) × TellsTrue past
TellsTrue (Did (Stored lane word value) ∷ past) = TellsTrue past
TellsTrue (Did (Poked lane word value) ∷ past) = TellsTrue past
TellsTrue (Did (Turned lane position) ∷ past) = TellsTrue past

-- the turns of a trace, in order: the lane and the position of each
abbrev pub turns_in : List Trace → List (ℕ × ℕ)
turns_in [] = []
turns_in (Loaded lane word value ∷ trace) = turns_in trace
turns_in (Stored lane word value ∷ trace) = turns_in trace
turns_in (Poked lane word value ∷ trace) = turns_in trace
turns_in (Turned lane position ∷ trace) = (lane, position) ∷ turns_in trace

-- the turns of requests in recorded order, numbered from this position on
abbrev pub numbered_turns : ℕ → List Request → List (ℕ × ℕ)
numbered_turns position [] = []
numbered_turns position (request ∷ requests) = (request.lane, position) ∷ numbered_turns (position + 1) requests

-- the outcomes of entries
abbrev pub outcomes_in : List Entry → List Outcome
outcomes_in entries = map (λ entry. entry.outcome) entries

-- An entry was captured once: a piece of its lane has its turn. What this piece loaded is the entry's request. It loads
-- each word of the request exactly once, no other word, and nothing after the turn. Its records are, in order, how the
-- actions of a whole piece begin, for the length that was captured and for what the entry's outcome tells: so the
-- stores after the turn are the reply's words, its length and the status, and no others.
--
-- The saved registers of a request are taken from the entry itself, since no trace tells them. What pins them: a world
-- stands for events only where its entries are those of the captured requests (`entries` of `StandsAt`, in
-- `WorldPast.antt`), and a captured request has the registers that its lane's accepted ring saved (`requests`, in
-- `Capture.antt`).
pub record WasCapturedOnce (words : ℕ) (trace : List Trace) (position : ℕ) (entry : Entry) : Type 0 where
  pub place : ℕ
  pub piece : List Trace
  pub there : slice_get (pieces_in entry.request.lane trace) place ≡ Some piece
  pub turn : turn_in piece ≡ Some position
  pub request : entry.request ≡ request_in entry.request.lane entry.request.saved piece
  pub once : LoadsOnce words piece
  pub in_order :
      Begins (map action_of piece) (whole words entry.request.length (Some (receipt_of position entry.outcome)))

-- The headline of what was driven from this machine value, whoever stored what to the lanes meanwhile. It is said of
-- the number of data words that a lane has, the values of each lane's words, the machine as it is now, the entries in
-- recorded order, and the trace:
-- * each load of the trace gave what stood in the word;
-- * the turns of the trace are those of the entries, in recorded order, one for each;
-- * each entry was captured once;
-- * a lane did nothing besides: each of its pieces but the newest was served whole, and the newest, which may be under
--   way, is how a whole piece begins;
-- * the entries are what the machine by itself makes of the captured requests, one after another: the replies,
--   statuses, invocations, denials and cell writes in them;
-- * the machine is what that leaves;
-- * each word of each lane has the value of the last store or poke to it.
pub record Headline {M : Type 0} (step : M → Request → Outcome × M) (machine : M)
    (words : ℕ) (lanes : List (List ℕ)) (now : M) (entries : List Entry) (trace : List Trace) : Type 0 where
  pub true_loads : TellsTrue (marks_of trace)
  pub turns : turns_in trace ≡ numbered_turns 0 (requests_of entries)
  pub each_once : (position : ℕ) (entry : Entry)
      → slice_get entries position ≡ Some entry
      → WasCapturedOnce words trace position entry
  pub served : (lane place : ℕ) (piece : List Trace)
      → slice_get (pieces_in lane trace) (place + 1) ≡ Some piece
      → IsServed words (outcomes_in entries) piece
  pub begun : (lane : ℕ) (piece : List Trace)
      → slice_get (pieces_in lane trace) 0 ≡ Some piece
      → Begins
      (map action_of piece)
      (whole words (length_in piece) (receipt_at (outcomes_in entries) (turn_in piece)))
  pub one_thread : entries ≡ replayed step machine (requests_of entries)
  pub state : now ≡ left_by step machine (requests_of entries)
  pub last_values : (lane : ℕ) (values : List ℕ) (word : ℕ)
      → slice_get lanes lane ≡ Some values
      → word < length values
      → slice_index values word ≡ value_at lane word (marks_of trace)
