-- Where a lane stands in its pieces: the four kinds of places that a lane can come to.
use Rattle.std.specs.Prelude.{◌≡◌, ◌≤◌, ◌<◌, ℕ, ◌+◌, if◌then◌else◌, nat_lt, List, [], ◌∷◌, ◌++◌, length, map, take, Some, unwrap_or, slice_get}
use Rattle.mm_base.specs.Receipt.{receipt_of}
use Rattle.mm_base.specs.declared.entry.Outcome.{Outcome}
use Rattle.comm_core.specs.Piece.{needed, answer, store}
use Rattle.comm_core.specs.Capture.{Mark, rings, pieces}
use Rattle.comm_core.specs.declared.action.Action.{Action}
use Rattle.comm_core.specs.declared.action.Action.TheVariants.{Rest, Load, Turn}
use Rattle.comm_core.specs.declared.trace.Trace.{Trace}
use Rattle.comm_core.specs.declared.trace.Trace.TheVariants.{Loaded, Stored, Turned}

-- the records of loads that gave these values, of the words from this one on
abbrev pub loads_made : ℕ → ℕ → List ℕ → List Trace
loads_made lane word [] = []
loads_made lane word (value ∷ values) = Loaded lane word value ∷ loads_made lane (word + 1) values

-- a piece whose length and these data words were loaded
abbrev pub captured : ℕ → ℕ → List ℕ → List Trace
captured lane len values = Loaded lane 0 len ∷ loads_made lane 2 values

-- such a piece, followed by its turn and these stores
abbrev pub answered : ℕ → ℕ → List ℕ → ℕ → List (ℕ × ℕ) → List Trace
answered lane len values position stores =
    captured lane len values ++ Turned lane position ∷ map (λ to. Stored lane to.0 to.1) stores

-- A piece is whole: it has exactly the load of its length, the loads of the data words that this length needs, rising,
-- the turn, and the stores of the turn's outcome.
pub record IsWhole (words : ℕ) (outcomes : List Outcome) (lane : ℕ) (piece : List Trace) : Type 0 where
  pub len : ℕ
  pub values : List ℕ
  pub position : ℕ
  pub outcome : Outcome
  pub records : piece ≡ answered lane len values position (answer (receipt_of position outcome))
  pub enough : length values ≡ needed words len
  pub told_so : slice_get outcomes position ≡ Some outcome

abbrev pub AreWhole : ℕ → List Outcome → ℕ → List (List Trace) → Type 0
AreWhole words outcomes lane [] = Unit {0}
AreWhole words outcomes lane (piece ∷ older) = IsWhole words outcomes lane piece × AreWhole words outcomes lane older

-- A place in the pieces of a lane: at rest; rung, with nothing loaded yet; with the length and these data words loaded;
-- or with the turn and the first `stored` stores made.
pub data Place : Type 0 where
  AtRest : Place
  Called : Place
  Capturing : (len : ℕ) (values : List ℕ) → Place
  Answering : (len : ℕ) (values : List ℕ) (position : ℕ) (outcome : Outcome) (stored : ℕ) → Place

-- the lane's pieces are this newest one and older ones, which are whole, and each has its ring
pub record IsIn (words : ℕ) (outcomes : List Outcome) (lane : ℕ) (past : List Mark) (piece : List Trace) : Type 0 where
  pub older : List (List Trace)
  pub split : pieces lane past ≡ piece ∷ older
  pub counted : rings lane past ≡ length (pieces lane past)
  pub before : AreWhole words outcomes lane older

-- the lane has `ahead` rings without a piece, and its pieces are whole
pub record IsBetween (words : ℕ) (outcomes : List Outcome) (lane : ℕ) (past : List Mark) (ahead : ℕ) : Type 0 where
  pub counted : rings lane past ≡ length (pieces lane past) + ahead
  pub before : AreWhole words outcomes lane (pieces lane past)

-- the turn of a piece was made, and not all its stores
pub record IsTold (words : ℕ) (outcomes : List Outcome) (len : ℕ) (values : List ℕ) (position : ℕ) (outcome : Outcome)
    (stored : ℕ) : Type 0 where
  pub enough : length values ≡ needed words len
  pub told_so : slice_get outcomes position ≡ Some outcome
  pub more : stored < length (answer (receipt_of position outcome))

-- the lane stands at this place
abbrev pub StandsIn : ℕ → List Outcome → ℕ → List Mark → Place → Type 0
StandsIn words outcomes lane past AtRest = IsBetween words outcomes lane past 0
StandsIn words outcomes lane past Called = IsBetween words outcomes lane past 1
StandsIn words outcomes lane past (Capturing len values) =
    IsIn words outcomes lane past (captured lane len values) × (length values ≤ needed words len)
StandsIn words outcomes lane past (Answering len values position outcome stored) =
    IsIn words outcomes lane past
    (answered lane len values position (take stored (answer (receipt_of position outcome))))
    × IsTold words outcomes len values position outcome stored

-- the next action at a place
abbrev pub next_at : ℕ → Place → Action
next_at words AtRest = Rest
next_at words Called = Load 0
next_at words (Capturing len values) =
    if nat_lt (length values) (needed words len) then Load (2 + length values) else Turn
next_at words (Answering len values position outcome stored) =
    unwrap_or (slice_get (map store (answer (receipt_of position outcome))) stored) Rest
