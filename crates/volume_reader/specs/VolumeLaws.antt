-- Laws of the grammar of volumes: bytes are one volume, or have one fault, and never both; and a volume lies in its first bytes.
use Rattle.std.specs.Prelude.{◌≡◌, ◌≤◌, ℕ, ◌+◌, ◌⊎◌, List, ◌++◌, length, take, All}
use Rattle.mm_base.specs.declared.volume.Volume.{Volume}
use Rattle.volume_reader.specs.VolumeHeader.{volume_length}
use Rattle.volume_reader.specs.VolumeGrammar.{IsVolume, HasFault}
use Rattle.volume_reader.specs.declared.volume_fault.VolumeFault.{VolumeFault}

-- bytes are a volume or have a fault
abbrev pub VolumeOrFault : Type 0
VolumeOrFault = (bytes : List ℕ) → ((volume : Volume) × IsVolume bytes volume) ⊎ ((fault : VolumeFault) × HasFault bytes fault)

-- and never both
abbrev pub NeverBoth : Type 0
NeverBoth = (bytes : List ℕ) (volume : Volume) (fault : VolumeFault) → IsVolume bytes volume → HasFault bytes fault → ⊥

-- they are one volume at most,
abbrev pub OneVolume : Type 0
OneVolume = (bytes : List ℕ) (one other : Volume) → IsVolume bytes one → IsVolume bytes other → one ≡ other

-- and have one fault at most
abbrev pub OneFault : Type 0
OneFault = (bytes : List ℕ) (one other : VolumeFault) → HasFault bytes one → HasFault bytes other → one ≡ other

-- Bytes past FvLength change nothing: cut anywhere from there on, the bytes are the same volume.
abbrev pub SamePastEnd : Type 0
SamePastEnd =
    (bytes : List ℕ) (cut : ℕ) (volume : Volume)
    → IsVolume bytes volume
    → volume_length bytes ≤ cut
    → cut ≤ length bytes
    → IsVolume (take cut bytes) volume

-- So are they with anything added behind them,
abbrev pub SameWithMore : Type 0
SameWithMore = (bytes more : List ℕ) (volume : Volume) → IsVolume bytes volume → IsVolume (bytes ++ more) volume

-- and with what was cut off.
abbrev pub SameBeforeCut : Type 0
SameBeforeCut = (bytes : List ℕ) (cut : ℕ) (volume : Volume) → IsVolume (take cut bytes) volume → IsVolume bytes volume

-- A volume lies in its bytes.
abbrev pub LiesInBytes : Type 0
LiesInBytes = (bytes : List ℕ) (volume : Volume) → IsVolume bytes volume → volume.length ≤ length bytes

-- The body of each of its files lies in it.
abbrev pub FilesLieInVolume : Type 0
FilesLieInVolume =
    (bytes : List ℕ) (volume : Volume)
    → IsVolume bytes volume
    → All (λ file. file.body_at + file.body ≤ volume.length) volume.files
