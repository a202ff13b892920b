-- The capture trace: what a list of events makes happen, said by looking back at what has happened so far. There is no
-- processor, no phase and no buffer in it.
use Rattle.std.specs.Prelude.{ℕ, zero, suc, ◌+◌, ◌*◌, Bool, true, false, if◌then◌else◌, ◌&&◌, ◌==◌, List, [], ◌∷◌, ◌++◌, length, map, reverse}
use Rattle.std.specs.List.{list_all}
use Rattle.mm_base.specs.Entry.{no_registers}
use Rattle.mm_base.specs.Replay.{outcomes}
use Rattle.mm_base.specs.declared.cells.Saved.{Saved}
use Rattle.mm_base.specs.declared.entry.Outcome.{Outcome}
use Rattle.mm_base.specs.declared.entry.Request.{Request}
use Rattle.comm_core.specs.Piece.{next_in, request_in}
use Rattle.comm_core.specs.declared.action.Action.{Action}
use Rattle.comm_core.specs.declared.action.Action.TheVariants.{Rest, Load, Turn, Store}
use Rattle.comm_core.specs.declared.event.Event.{Event}
use Rattle.comm_core.specs.declared.event.Event.TheVariants.{Ring, Poke, Steps, Run}
use Rattle.comm_core.specs.declared.trace.Trace.{Trace}
use Rattle.comm_core.specs.declared.trace.Trace.TheVariants.{Loaded, Stored, Poked, Turned}

-- Something that happened: a ring was accepted, or a record was made. A past is a list of these, the newest first.
pub data Mark : Type 0 where
  Rung : (lane : ℕ) (saved : Saved) → Mark
  Did : (made : Trace) → Mark

-- the records, the oldest first
abbrev pub trace_of : List Mark → List Trace
trace_of [] = []
trace_of (Rung lane saved ∷ past) = trace_of past
trace_of (Did made ∷ past) = trace_of past ++ made ∷ []

-- the value of a word of a lane: that of the last store or poke to it, or 0
abbrev pub value_at : ℕ → ℕ → List Mark → ℕ
value_at lane word [] = 0
value_at lane word (Rung l saved ∷ past) = value_at lane word past
value_at lane word (Did (Loaded l w value) ∷ past) = value_at lane word past
value_at lane word (Did (Stored l w value) ∷ past) =
    if (l == lane) && (w == word) then value else value_at lane word past
value_at lane word (Did (Poked l w value) ∷ past) =
    if (l == lane) && (w == word) then value else value_at lane word past
value_at lane word (Did (Turned l position) ∷ past) = value_at lane word past

-- how many rings of a lane were accepted
abbrev pub rings : ℕ → List Mark → ℕ
rings lane [] = 0
rings lane (Rung l saved ∷ past) = if l == lane then rings lane past + 1 else rings lane past
rings lane (Did made ∷ past) = rings lane past

-- the registers that were saved at the last accepted ring of a lane
abbrev pub last_saved : ℕ → List Mark → Saved
last_saved lane [] = no_registers
last_saved lane (Rung l saved ∷ past) = if l == lane then saved else last_saved lane past
last_saved lane (Did made ∷ past) = last_saved lane past

-- a record at the end of the newest piece
abbrev pub joined : Trace → List (List Trace) → List (List Trace)
joined made [] = (made ∷ []) ∷ []
joined made (piece ∷ older) = (piece ++ made ∷ []) ∷ older

-- The pieces of a lane, the newest first: its own loads, turns and stores in order, cut before each load of word 0.
abbrev pub pieces : ℕ → List Mark → List (List Trace)
pieces lane [] = []
pieces lane (Rung l saved ∷ past) = pieces lane past
pieces lane (Did (Loaded l word value) ∷ past) =
    if l == lane
    then (
    if word == 0
    then (Loaded l word value ∷ []) ∷ pieces lane past
    else joined (Loaded l word value) (pieces lane past)
    )
    else pieces lane past
pieces lane (Did (Stored l word value) ∷ past) =
    if l == lane then joined (Stored l word value) (pieces lane past) else pieces lane past
pieces lane (Did (Poked l word value) ∷ past) = pieces lane past
pieces lane (Did (Turned l position) ∷ past) =
    if l == lane then joined (Turned l position) (pieces lane past) else pieces lane past

-- The marks that a trace tells, the newest first, and the pieces of a lane in a trace. A trace tells no rings; no piece
-- asks for them.
abbrev pub marks_of : List Trace → List Mark
marks_of trace = reverse (map Did trace)

abbrev pub pieces_in : ℕ → List Trace → List (List Trace)
pieces_in lane trace = pieces lane (marks_of trace)

-- the newest piece, or none of a piece
abbrev pub newest : List (List Trace) → List Trace
newest [] = []
newest (piece ∷ older) = piece

-- The captured requests, one for each turn, in recorded order. What happens after a turn doesn't change its request.
abbrev pub requests : List Mark → List Request
requests [] = []
requests (Rung lane saved ∷ past) = requests past
requests (Did (Loaded lane word value) ∷ past) = requests past
requests (Did (Stored lane word value) ∷ past) = requests past
requests (Did (Poked lane word value) ∷ past) = requests past
requests (Did (Turned lane position) ∷ past) =
    requests past ++ request_in lane (last_saved lane past) (newest (pieces lane past)) ∷ []

-- The outcomes so far: outcome k is the last one of the replay of the requests 0 to k.
abbrev pub outcomes_of : {M : Type 0} → (M → Request → Outcome × M) → M → List Mark → List Outcome
outcomes_of step machine past = outcomes step machine (requests past)

-- there is nothing to do
abbrev pub is_rest : Action → Bool
is_rest Rest = true
is_rest (Load word) = false
is_rest Turn = false
is_rest (Store word value) = false

-- A lane rests where it has as many pieces as accepted rings, and each of them is whole.
abbrev pub rests : ℕ → List Outcome → ℕ → List Mark → Bool
rests words outcomes lane past =
    (rings lane past == length (pieces lane past))
    && list_all (λ piece. is_rest (next_in words outcomes piece)) (pieces lane past)

-- the piece of the last accepted ring: none of it where there are more rings than pieces
abbrev pub current : ℕ → List Mark → List Trace
current lane past = if rings lane past == length (pieces lane past) then newest (pieces lane past) else []

-- the next action of a lane
abbrev pub next : ℕ → List Outcome → ℕ → List Mark → Action
next words outcomes lane past =
    if rests words outcomes lane past then Rest else next_in words outcomes (current lane past)

-- what has happened when the lane's processor has made this action too
abbrev pub made : ℕ → Action → List Mark → List Mark
made lane Rest past = past
made lane (Load word) past = Did (Loaded lane word (value_at lane word past)) ∷ past
made lane Turn past = Did (Turned lane (length (requests past))) ∷ past
made lane (Store word value) past = Did (Stored lane word value) ∷ past

-- the lane's next action, and its next n actions
abbrev pub act : {M : Type 0} → (M → Request → Outcome × M) → M → ℕ → ℕ → List Mark → List Mark
act step machine words lane past = made lane (next words (outcomes_of step machine past) lane past) past

abbrev pub acts : {M : Type 0} → (M → Request → Outcome × M) → M → ℕ → ℕ → ℕ → List Mark → List Mark
acts step machine words lane zero past = past
acts step machine words lane (suc n) past = acts step machine words lane n (act step machine words lane past)

-- the most records that a piece has: the length, each data word, the turn, each data word, the length and the status
abbrev pub longest : ℕ → ℕ
longest words = 2 * words + 4

-- What an event makes happen. A poke makes its record. A ring is accepted exactly where the lane rests, and makes no
-- record. Steps makes `count` next actions, and fewer where the lane rests before; run makes them until it rests.
abbrev pub happens : {M : Type 0} → (M → Request → Outcome × M) → M → ℕ → Event → List Mark → List Mark
happens step machine words (Ring lane saved) past =
    if rests words (outcomes_of step machine past) lane past then Rung lane saved ∷ past else past
happens step machine words (Poke lane word value) past = Did (Poked lane word value) ∷ past
happens step machine words (Steps lane count) past = acts step machine words lane count past
happens step machine words (Run lane) past = acts step machine words lane (longest words) past

-- what has happened after these events, in order, where `past` has happened before
abbrev pub after_events : {M : Type 0} → (M → Request → Outcome × M) → M → ℕ → List Event → List Mark → List Mark
after_events step machine words [] past = past
after_events step machine words (event ∷ events) past =
    after_events step machine words events (happens step machine words event past)

-- all that events make happen from this machine
abbrev pub course : {M : Type 0} → (M → Request → Outcome × M) → M → ℕ → List Event → List Mark
course step machine words events = after_events step machine words events []
