-- Laws of the files of a volume: where they stand, how long they are, and which state their bits tell.
use Rattle.std.specs.Prelude.{◌≡◌, ◌≤◌, ◌<◌, ℕ, ◌+◌, ◌/◌, ◌%◌, ◌^◌, List, [], ◌∷◌, Some, All}
use Rattle.std.specs.List.{slice_get, AllPairs}
use Rattle.mm_base.specs.declared.volume.Volume.{Volume}
use Rattle.volume_reader.specs.FileHeader.{state_of}
use Rattle.volume_reader.specs.VolumeGrammar.{IsVolume}
use Rattle.volume_reader.specs.declared.file_state.FileState.{FileState}
use Rattle.volume_reader.specs.declared.file_state.FileState.TheVariants.{Free, HeaderConstruction, HeaderValid, DataValid, MarkedForUpdate, Deleted, HeaderInvalid}

-- Each file of a volume stands at a multiple of 8.
abbrev pub FilesAreAligned : Type 0
FilesAreAligned = (bytes : List ℕ) (volume : Volume) → IsVolume bytes volume → All (λ file. file.at % 8 ≡ 0) volume.files

-- Each ends before each later one begins: so files rise, and lie apart.
abbrev pub FilesLieApart : Type 0
FilesLieApart =
    (bytes : List ℕ) (volume : Volume)
    → IsVolume bytes volume
    → AllPairs (λ one later. one.at + one.size ≤ later.at) volume.files

-- A file is its header and its body, one after the other; the header has at least 24 bytes.
abbrev pub FilesAreWhole : Type 0
FilesAreWhole =
    (bytes : List ℕ) (volume : Volume)
    → IsVolume bytes volume
    → All (λ file. (file.at + 24 ≤ file.body_at) × (file.at + file.size ≡ file.body_at + file.body)) volume.files

-- the states that bits 0 to 5 tell
abbrev pub states : List FileState
states = HeaderConstruction ∷ HeaderValid ∷ DataValid ∷ MarkedForUpdate ∷ Deleted ∷ HeaderInvalid ∷ []

-- Bit k of a number is set, and no later one is.
pub record IsHighestBit (bits k : ℕ) : Type 0 where
  pub set : bits / 2 ^ k % 2 ≡ 1
  pub highest : (j : ℕ) → k < j → bits / 2 ^ j % 2 ≡ 0

-- Of six state bits the highest that is set tells the state,
abbrev pub HighestBitDecides : Type 0
HighestBitDecides = (bits k : ℕ) → bits < 64 → k < 6 → IsHighestBit bits k → slice_get states k ≡ Some (state_of bits)

-- and where none is set the place is free.
abbrev pub NoBitIsFree : Type 0
NoBitIsFree = state_of 0 ≡ Free
