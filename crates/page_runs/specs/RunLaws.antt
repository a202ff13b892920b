-- Laws of runs: what a change does to each page, and what comes of taking and giving one after the other.
use Rattle.std.specs.Prelude.{◌≡◌, ℕ, ◌+◌, ◌<◌, ◌≤◌, Bool, true, false, List, length}
use Rattle.page_runs.specs.Runs.{is_taken, IsRun, IsLowestRun, AreTaken, with_run}

-- From the first list to the second, n pages from a start on become taken, or free, and each other page stays.
pub record ChangesRun (value : Bool) (start pages : ℕ) (old new : List Bool) : Type 0 where
  pub as_many : length new ≡ length old
  pub changed : (page : ℕ) → start ≤ page → page < start + pages → is_taken new page ≡ value
  pub before : (page : ℕ) → page < start → is_taken new page ≡ is_taken old page
  pub after : (page : ℕ) → start + pages ≤ page → is_taken new page ≡ is_taken old page

-- A change of pages that are there is that change page by page.
abbrev pub ChangesTheseAlone : Type 0
ChangesTheseAlone =
    (value : Bool) (start pages : ℕ) (taken : List Bool)
    → start + pages ≤ length taken
    → ChangesRun value start pages taken (with_run value start pages taken)

-- Two lowest runs of n pages start at the same page.
abbrev pub OneIsLowest : Type 0
OneIsLowest =
    (taken : List Bool) (pages one other : ℕ)
    → IsLowestRun taken pages one
    → IsLowestRun taken pages other
    → one ≡ other

-- After a run was taken its pages are all taken, so that it may be given.
abbrev pub TakenMayBeGiven : Type 0
TakenMayBeGiven =
    (taken : List Bool) (pages start : ℕ)
    → IsRun taken pages start
    → AreTaken (with_run true start pages taken) start pages

-- A run that was taken and given back leaves all as before.
abbrev pub ComesBack : Type 0
ComesBack =
    (taken : List Bool) (pages start : ℕ)
    → IsRun taken pages start
    → with_run false start pages (with_run true start pages taken) ≡ taken

-- What was given can be had again: after it was given, a free run starts there.
abbrev pub GivenIsFree : Type 0
GivenIsFree =
    (taken : List Bool) (start pages : ℕ)
    → AreTaken taken start pages
    → IsRun (with_run false start pages taken) pages start

-- A run that is free after another was taken has no page of that one.
abbrev pub ShareNoPage : Type 0
ShareNoPage =
    (taken : List Bool) (pages start more later page : ℕ)
    → IsRun taken pages start
    → IsRun (with_run true start pages taken) more later
    → start ≤ page
    → page < start + pages
    → later ≤ page
    → page < later + more
    → ⊥
