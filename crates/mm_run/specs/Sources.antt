-- The sources of a command, one after another: how they may stop a run, and when they don't.
--
-- A run goes in this order. The first source is read; then its fault is told. The second source is read; then its fault
-- is told. Then the run is made, and the report is written.
use Rattle.std.specs.Prelude.{◌≡◌, ◌≤◌, ◌⊎◌, ℕ, List, [], ◌∷◌, length, slice_get, Some, None}
use Rattle.std.specs.declared.option.Option.{Option}
use Rattle.mm_base.specs.End.{out_of_memory}
use Rattle.mm_io.specs.Causes.{Rose}
use Rattle.mm_io.specs.Streams.{GivesAll, GivesAtMost, GivesMoreThan, HasMoreThan}
use Rattle.mm_run.specs.SourceKinds.{most_of, IsGoodAs, IsFaultyAs}
use Rattle.mm_run.specs.declared.command.Command.{Command}
use Rattle.mm_run.specs.declared.command.Command.TheVariants.{Script, Check, Boot, Serve}
use Rattle.mm_run.specs.declared.source_kind.SourceKind.{SourceKind}
use Rattle.mm_run.specs.declared.source_kind.SourceKind.TheVariants.{ScriptText, VolumeBytes, EventsText}
use Rattle.mm_run.specs.declared.status.Status.{Status}
use Rattle.mm_run.specs.declared.status.Status.TheVariants.{ReadFault, TooLong, NoMemory}
use Rattle.mm_run.specs.declared.status.Which.{Which}
use Rattle.mm_run.specs.declared.status.Which.TheVariants.{First, Second}

-- the kinds of a command's sources, in the order in which they are read
abbrev pub sources_of : Command → List SourceKind
sources_of Script = ScriptText ∷ []
sources_of Check = VolumeBytes ∷ []
sources_of Boot = VolumeBytes ∷ []
sources_of Serve = VolumeBytes ∷ EventsText ∷ []

-- those of words, which name no source where they are of no form
abbrev pub sources_named : Option Command → List SourceKind
sources_named None = []
sources_named (Some command) = sources_of command

-- the kind of the first or the second of them, if it is there
abbrev pub kind_of_which : Which → List SourceKind → Option SourceKind
kind_of_which First kinds = slice_get kinds 0
kind_of_which Second kinds = slice_get kinds 1

-- What is seen of a source: the bytes that it had left before a run and has left now, where it tells them, and its
-- counts of faults.
pub record Seen : Type 0 where
  pub before : Option (List ℕ)
  pub now : Option (List ℕ)
  pub faults_before : ℕ
  pub faults_now : ℕ

abbrev pub seen : {S : Type 0} → (S → Option (List ℕ)) → (S → ℕ) → S → S → Seen
seen left faults before now = record {
  before = left before;
  now = left now;
  faults_before = faults before;
  faults_now = faults now;
}

-- one of a command's sources: the first or the second, its kind, and what is seen of it
pub record NamedSource : Type 0 where
  pub which : Which
  pub kind : SourceKind
  pub seen : Seen

abbrev pub source : Which → SourceKind → Seen → NamedSource
source which kind seen = record { which = which; kind = kind; seen = seen }

-- The sources of these kinds; no command has a third.
abbrev pub sources : List SourceKind → Seen → Seen → List NamedSource
sources [] first second = []
sources (kind ∷ []) first second = source First kind first ∷ []
sources (kind ∷ other ∷ kinds) first second = source First kind first ∷ source Second other second ∷ []

-- a fault of the source rose
abbrev pub HasFailed : NamedSource → Type 0
HasFailed s = Rose s.seen.faults_before s.seen.faults_now

-- The source was read to its end, and gave these bytes, no more than it may.
abbrev pub WasRead : NamedSource → List ℕ → Type 0
WasRead s bytes = GivesAll s.seen.before s.seen.now (most_of s.kind) bytes

-- It was read to its end, and its bytes are good.
pub record WasGood (s : NamedSource) : Type 0 where
  pub bytes : List ℕ
  pub read : WasRead s bytes
  pub good : IsGoodAs s.kind bytes

-- Why a source stops a run: it could not be read; it gave more than it may; what was read of it has a fault; or memory
-- was refused.
pub data StopsRun (s : NamedSource) (status : Status) : Type 0 where
  Unreadable : HasFailed s
      → GivesAtMost (most_of s.kind) s.seen.before s.seen.now
      → status ≡ ReadFault s.which
      → StopsRun s status
  Long : GivesMoreThan (most_of s.kind) s.seen.before s.seen.now → status ≡ TooLong s.which → StopsRun s status
  Faulty : (bytes : List ℕ) → WasRead s bytes → IsFaultyAs s.kind bytes status → StopsRun s status
  Wanting : GivesAtMost (most_of s.kind) s.seen.before s.seen.now → status ≡ NoMemory out_of_memory → StopsRun s status

-- How a run stops before it writes: at this source, and what comes after it is untouched; or this source was good, and
-- the run stops at the rest; or all were good, and memory was refused in the run itself.
abbrev pub RunStops : List NamedSource → Type 0 → Status → Type 0
RunStops [] RestIsUntouched status = status ≡ NoMemory out_of_memory
RunStops (s ∷ rest) RestIsUntouched status =
    (StopsRun s status × RestIsUntouched) ⊎ (WasGood s × RunStops rest (Unit {0}) status)

-- These are the bytes that the sources gave, each read to its end.
abbrev pub AllRead : List NamedSource → List (List ℕ) → Type 0
AllRead [] [] = Unit {0}
AllRead [] (bytes ∷ contents) = ⊥
AllRead (s ∷ rest) [] = ⊥
AllRead (s ∷ rest) (bytes ∷ contents) = WasRead s bytes × AllRead rest contents

-- The source tells its bytes, which are good and no more than it may have, and no fault of it rose.
pub record HoldsGood (s : NamedSource) : Type 0 where
  pub calm : HasFailed s → ⊥
  pub bytes : List ℕ
  pub told : s.seen.before ≡ Some bytes
  pub within : length bytes ≤ most_of s.kind
  pub good : IsGoodAs s.kind bytes

abbrev pub AllHoldGood : List NamedSource → Type 0
AllHoldGood [] = Unit {0}
AllHoldGood (s ∷ rest) = HoldsGood s × AllHoldGood rest

-- The source tells its bytes, no more than it may have; they have a fault, and this is its status.
pub record HoldsFault (s : NamedSource) (status : Status) : Type 0 where
  pub bytes : List ℕ
  pub told : s.seen.before ≡ Some bytes
  pub within : length bytes ≤ most_of s.kind
  pub faulty : IsFaultyAs s.kind bytes status

-- What a source holds is to be refused with this status, and no fault of it rose: its bytes have a fault, or it tells
-- more of them than it may have.
pub data HoldsBad (s : NamedSource) (status : Status) : Type 0 where
  FaultHeld : (HasFailed s → ⊥) → HoldsFault s status → HoldsBad s status
  TooMuchHeld : (HasFailed s → ⊥)
      → HasMoreThan (most_of s.kind) s.seen.before
      → status ≡ TooLong s.which
      → HoldsBad s status

-- This is the status of the first source that holds what is to be refused; those before it hold good bytes.
abbrev pub FirstBad : List NamedSource → Status → Type 0
FirstBad [] status = ⊥
FirstBad (s ∷ rest) status = HoldsBad s status ⊎ (HoldsGood s × FirstBad rest status)

-- The sources that aren't named are untouched: both, the second, or none.
abbrev pub OthersAreUntouched : List SourceKind → Type 0 → Type 0 → Type 0
OthersAreUntouched [] FirstIsUntouched SecondIsUntouched = FirstIsUntouched × SecondIsUntouched
OthersAreUntouched (kind ∷ []) FirstIsUntouched SecondIsUntouched = SecondIsUntouched
OthersAreUntouched (kind ∷ other ∷ kinds) FirstIsUntouched SecondIsUntouched = Unit {0}
