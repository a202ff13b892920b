-- No public clause cites this file.
-- Sections as they are looked at through windows: so many places from one on.
use Rattle.std.specs.Prelude.{◌≡◌, ℕ, ◌+◌, ◌-◌, ◌≤◌, ◌<◌, min, Bool, true, false, List, get_or}
use Rattle.mm_base.specs.Range.{Has}
use Rattle.mm_base.specs.declared.image.Part.{Part}
use Rattle.pe_loader.specs.Sections.{range_of, overlaps_first}
use Rattle.pe_loader.specs.declared.span.Span.{Span}

-- which places of a window of so many places from one on belong to as many bytes as this from a place on, counted from the window's begin
abbrev pub span_of : ℕ → ℕ → ℕ → ℕ → Span
span_of at length from places = record { begin = min places (at - from); end = min places (at + length - from) }

-- some place from one to another is marked
pub record HasMark (marks : List Bool) (from to : ℕ) : Type 0 where
  pub place : ℕ
  pub low : from ≤ place
  pub high : place < to
  pub is : get_or marks place false ≡ true

-- No place from one to another is marked.
abbrev pub HasNoMark : List Bool → ℕ → ℕ → Type 0
HasNoMark marks from to = (place : ℕ) → from ≤ place → place < to → get_or marks place false ≡ false

-- A place lies in at most one of the first few sections.
abbrev pub IsInOne : (ℕ → Part) → ℕ → ℕ → Type 0
IsInOne nth count place = (i j : ℕ) → i < j → j < count → Has (range_of (nth i)) place → Has (range_of (nth j)) place → ⊥

-- None of the first few sections has a byte from one place to another.
abbrev pub HaveNone : (ℕ → Part) → ℕ → ℕ → ℕ → Type 0
HaveNone nth count from to = (place : ℕ) → from ≤ place → place < to → (j : ℕ) → j < count → Has (range_of (nth j)) place → ⊥

-- What a look through one window tells: how many of some sections from the front on share no place of it, where the next one shares a byte
-- with one of these, and from where on these have bytes behind the window.
pub record IsLook (nth : ℕ → Part) (from to count first next : ℕ) : Type 0 where
  pub few : first ≤ count
  pub shares : first < count → overlaps_first nth (nth first) first ≡ true
  pub apart : (place : ℕ) → from ≤ place → place < to → IsInOne nth first place
  pub none : HaveNone nth first to next
  pub further : from < next

-- so many of some sections from the front on share no byte with earlier ones, and the next one does
pub record AreApart (nth : ℕ → Part) (count first : ℕ) : Type 0 where
  pub few : first ≤ count
  pub shares : first < count → overlaps_first nth (nth first) first ≡ true
  pub apart : (j : ℕ) → j < first → overlaps_first nth (nth j) j ≡ false
