-- What reads and writes do to the bytes that a source has left and a sink has taken, where those tell them.
use Rattle.std.specs.Prelude.{◌≡◌, ℕ, ◌<◌, ◌≤◌, List, [], ◌++◌, length, take, None, Some, Result, Ok}
use Rattle.std.specs.declared.option.Option.{Option}

-- what was left was these bytes and then what is left now; a source that doesn't tell still doesn't
abbrev pub Gives : Option (List ℕ) → Option (List ℕ) → List ℕ → Type 0
Gives None None bytes = Unit {0}
Gives None (Some now) bytes = ⊥
Gives (Some before) None bytes = ⊥
Gives (Some before) (Some now) bytes = before ≡ bytes ++ now

-- what is written is what was and then these bytes; a sink that doesn't tell still doesn't
abbrev pub Appends : Option (List ℕ) → Option (List ℕ) → List ℕ → Type 0
Appends None None bytes = Unit {0}
Appends None (Some now) bytes = ⊥
Appends (Some before) None bytes = ⊥
Appends (Some before) (Some now) bytes = now ≡ before ++ bytes

-- nothing is left, where the source tells
abbrev pub IsUsedUp : Option (List ℕ) → Type 0
IsUsedUp None = Unit {0}
IsUsedUp (Some left) = left ≡ []

-- the source tells, and has more than so many bytes left
abbrev pub HasMoreThan : ℕ → Option (List ℕ) → Type 0
HasMoreThan limit None = ⊥
HasMoreThan limit (Some left) = limit < length left

-- some bytes were given
abbrev pub GivesSome : Option (List ℕ) → Option (List ℕ) → Type 0
GivesSome before now = (bytes : List ℕ) × Gives before now bytes

-- so many bytes at most were given
abbrev pub GivesAtMost : ℕ → Option (List ℕ) → Option (List ℕ) → Type 0
GivesAtMost limit before now = (bytes : List ℕ) × (length bytes ≤ limit) × Gives before now bytes

-- more than so many bytes were given
abbrev pub GivesMoreThan : ℕ → Option (List ℕ) → Option (List ℕ) → Type 0
GivesMoreThan limit before now = (bytes : List ℕ) × (limit < length bytes) × Gives before now bytes

-- a front of these bytes was appended, and not all of them
abbrev pub AppendsFront : Option (List ℕ) → Option (List ℕ) → List ℕ → Type 0
AppendsFront before now bytes = (n : ℕ) × (n < length bytes) × Appends before now (take n bytes)

-- these are all the bytes that were left, and they are no more than the limit
pub record GivesAll (before now : Option (List ℕ)) (limit : ℕ) (bytes : List ℕ) : Type 0 where
  pub gives : Gives before now bytes
  pub used_up : IsUsedUp now
  pub within : length bytes ≤ limit

-- an answer of 0 for a buffer or a piece that isn't empty
abbrev pub IsNothing : {E : Type 0} → Result ℕ E → List ℕ → Type 0
IsNothing result bytes = (result ≡ Ok 0) × (0 < length bytes)
