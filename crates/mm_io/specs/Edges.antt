-- What contracts see of a reader as a source and of a writer as a sink, and what these make of an answer.
use Rattle.std.specs.Prelude.{ℕ, ◌≤◌, List, length, take, Some, Result, Ok, Err}
use Rattle.std.specs.Io.KnownBytes.{Appends}
use Rattle.std.specs.declared.io.Error.{Error}
use Rattle.std.specs.declared.option.Option.{Option}
use Rattle.mm_io.specs.Memory.{one_more}
use Rattle.mm_io.specs.declared.failed.Failed.{Failed}
use Rattle.mm_io.specs.declared.faults.Faults.{Faults}

-- a reader as a source: the reader, and the faults that came
pub record ReaderState (R : Type 0) : Type 0 where
  pub reader : R
  pub faults : Faults

-- a writer as a sink: the writer, and the faults that came
pub record WriterState (W : Type 0) : Type 0 where
  pub writer : W
  pub faults : Faults

-- what a source or a sink tells of an answer: its count, or that there was an error
abbrev pub told_answer : Result ℕ Error → Result ℕ Failed
told_answer (Ok count) = Ok count
told_answer (Err error) = Err (record {})

-- the faults after an answer: an error is counted, and is then the last one
abbrev pub faults_after : Faults → Result ℕ Error → Faults
faults_after faults (Ok count) = faults
faults_after faults (Err error) = record { count = one_more faults.count; last = Some error }

-- what the writer is known to hold grew by the first n of these bytes
abbrev pub GrowsBy : Option (List ℕ) → Option (List ℕ) → List ℕ → ℕ → Type 0
GrowsBy before now bytes n = Appends before now (take n bytes)

-- it grew by a front of these bytes, which may be none or all of them
abbrev pub GrowsByFront : Option (List ℕ) → Option (List ℕ) → List ℕ → Type 0
GrowsByFront before now bytes = (n : ℕ) × (n ≤ length bytes) × GrowsBy before now bytes n
