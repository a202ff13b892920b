-- Runs of pages. What contracts see of a run map is a list that says of each page whether it is taken.
use Rattle.std.specs.Prelude.{◌≡◌, ℕ, ◌+◌, ◌<◌, ◌≤◌, Bool, true, false, List, ◌++◌, length, take, drop, replicate, slice_index_or}

-- Whether this page is taken. A page past the last one is not.
abbrev pub is_taken : List Bool → ℕ → Bool
is_taken taken page = slice_index_or taken page false

-- A free run of n pages starts here: the n pages are there, and each of them is free.
pub record IsRun (taken : List Bool) (pages start : ℕ) : Type 0 where
  pub inside : start + pages ≤ length taken
  pub free : (page : ℕ) → start ≤ page → page < start + pages → is_taken taken page ≡ false

-- The lowest free run of n pages starts here: none of them starts before.
pub record IsLowestRun (taken : List Bool) (pages start : ℕ) : Type 0 where
  pub run : IsRun taken pages start
  pub lowest : (other : ℕ) → IsRun taken pages other → start ≤ other

-- No free run of n pages starts anywhere.
abbrev pub HasNoRun : List Bool → ℕ → Type 0
HasNoRun taken pages = (start : ℕ) → IsRun taken pages start → ⊥

-- The n pages from a start on are there, and each of them is taken.
pub record AreTaken (taken : List Bool) (start pages : ℕ) : Type 0 where
  pub inside : start + pages ≤ length taken
  pub each : (page : ℕ) → start ≤ page → page < start + pages → is_taken taken page ≡ true

-- The pages after n of them from a start on became taken, or free: those before, the n, and those after.
abbrev pub with_run : Bool → ℕ → ℕ → List Bool → List Bool
with_run value start pages taken = take start taken ++ (replicate pages value ++ drop (start + pages) taken)
