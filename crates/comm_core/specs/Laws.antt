-- Laws of the capture over its definitions: for every machine, every list of events of any lanes, and every lane.
use Rattle.std.specs.Prelude.{◌≡◌, ◌≤◌, ◌<◌, ◌⊎◌, ℕ, ◌+◌, ◌==◌, if◌then◌else◌, true, List, [], ◌∷◌, ◌++◌, length, map, take, Some, slice_get}
use Rattle.mm_base.specs.declared.entry.Outcome.{Outcome}
use Rattle.mm_base.specs.declared.entry.Request.{Request}
use Rattle.mm_base.specs.declared.receipt.Receipt.{Receipt}
use Rattle.comm_core.specs.Piece.{needed, whole, loaded, length_in, turn_in, receipt_at, next_in}
use Rattle.comm_core.specs.Capture.{Mark, pieces, requests, outcomes_of, is_rest, rests, course}
use Rattle.comm_core.specs.declared.action.Action.{Action}
use Rattle.comm_core.specs.declared.action.Action.TheVariants.{Rest, Load, Turn, Store}
use Rattle.comm_core.specs.declared.event.Event.{Event}
use Rattle.comm_core.specs.declared.event.Event.TheVariants.{Run}
use Rattle.comm_core.specs.declared.trace.Trace.{Trace}
use Rattle.comm_core.specs.declared.trace.Trace.TheVariants.{Loaded, Stored, Poked, Turned}

-- the first list is how the second one begins
abbrev pub Begins : {X : Type 0} → List X → List X → Type 0
Begins xs ys = take (length xs) ys ≡ xs

-- the action that a record is of (a poke is of none)
abbrev pub action_of : Trace → Action
action_of (Loaded lane word value) = Load word
action_of (Stored lane word value) = Store word value
action_of (Poked lane word value) = Rest
action_of (Turned lane position) = Turn

-- how many loads of a word stand in a piece
abbrev pub loads_of : ℕ → List Trace → ℕ
loads_of word [] = 0
loads_of word (Loaded lane w value ∷ piece) = if w == word then loads_of word piece + 1 else loads_of word piece
loads_of word (Stored lane w value ∷ piece) = loads_of word piece
loads_of word (Poked lane w value ∷ piece) = loads_of word piece
loads_of word (Turned lane position ∷ piece) = loads_of word piece

-- what follows the turn of a piece
abbrev pub after_turn : List Trace → List Trace
after_turn [] = []
after_turn (Loaded lane word value ∷ piece) = after_turn piece
after_turn (Stored lane word value ∷ piece) = after_turn piece
after_turn (Poked lane word value ∷ piece) = after_turn piece
after_turn (Turned lane position ∷ piece) = piece

-- a word of a request of this length: the length word, or one of the data words that it needs
abbrev pub IsOfRequest : ℕ → ℕ → ℕ → Type 0
IsOfRequest words len word = (word ≡ 0) ⊎ ((2 ≤ word) × (word < 2 + needed words len))

-- A piece loads each word of its request exactly once, no other word at all, and nothing after its turn.
pub record LoadsOnce (words : ℕ) (piece : List Trace) : Type 0 where
  pub once : (word : ℕ) → IsOfRequest words (length_in piece) word → loads_of word piece ≡ 1
  pub no_other : (word : ℕ) → (IsOfRequest words (length_in piece) word → ⊥) → loads_of word piece ≡ 0
  pub before_turn : loaded (after_turn piece) ≡ []

-- A piece is served: its turn has its receipt, and its records are just the actions of a whole piece of the length that
-- it loaded and of this receipt, in order.
pub record IsServed (words : ℕ) (outcomes : List Outcome) (piece : List Trace) : Type 0 where
  pub receipt : Receipt
  pub of_turn : receipt_at outcomes (turn_in piece) ≡ Some receipt
  pub in_order : map action_of piece ≡ whole words (length_in piece) (Some receipt)
  pub loads : LoadsOnce words piece

-- After every list of events, each piece of each lane that has nothing next is served.
abbrev pub EachWordOnce : {M : Type 0} → (M → Request → Outcome × M) → Type 0
EachWordOnce {M} step =
    (machine : M) (words : ℕ) (events : List Event) (lane k : ℕ) (piece : List Trace)
    → slice_get (pieces lane (course step machine words events)) k ≡ Some piece
    → is_rest (next_in words (outcomes_of step machine (course step machine words events)) piece) ≡ true
    → IsServed words (outcomes_of step machine (course step machine words events)) piece

-- All pieces of a lane but the newest one have nothing next.
abbrev pub OlderAreServed : {M : Type 0} → (M → Request → Outcome × M) → Type 0
OlderAreServed {M} step =
    (machine : M) (words : ℕ) (events : List Event) (lane k : ℕ) (piece : List Trace)
    → slice_get (pieces lane (course step machine words events)) (k + 1) ≡ Some piece
    → is_rest (next_in words (outcomes_of step machine (course step machine words events)) piece) ≡ true

-- Each piece, also one under way, is how a whole piece begins.
abbrev pub EachBegins : {M : Type 0} → (M → Request → Outcome × M) → Type 0
EachBegins {M} step =
    (machine : M) (words : ℕ) (events : List Event) (lane k : ℕ) (piece : List Trace)
    → let past : List Mark = course step machine words events in
    let outcomes : List Outcome = outcomes_of step machine past in
    slice_get (pieces lane past) k ≡ Some piece
    → Begins (map action_of piece) (whole words (length_in piece) (receipt_at outcomes (turn_in piece)))

-- What happens later leaves the captured requests as they are.
abbrev pub RequestsStay : Type 0
RequestsStay = (past newer : List Mark) → Begins (requests past) (requests (newer ++ past))

-- So the requests of some events are how those of these and more events begin.
abbrev pub CourseRequestsStay : {M : Type 0} → (M → Request → Outcome × M) → Type 0
CourseRequestsStay {M} step =
    (machine : M) (words : ℕ) (events more : List Event)
    → Begins (requests (course step machine words events)) (requests (course step machine words (events ++ more)))

-- After a run of a lane, the lane rests.
abbrev pub RunRests : {M : Type 0} → (M → Request → Outcome × M) → Type 0
RunRests {M} step =
    (machine : M) (words : ℕ) (events : List Event) (lane : ℕ)
    → let now : List Mark = course step machine words (events ++ Run lane ∷ []) in
    rests words (outcomes_of step machine now) lane now ≡ true
