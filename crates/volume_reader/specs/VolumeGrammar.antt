-- The grammar of volumes: a header that passes its checks, and spans from the first place on, up to the place where files end.
use Rattle.std.specs.Prelude.{◌≡◌, ◌⊎◌, ℕ, ◌+◌, true, false, ◌&&◌, not, List, [], ◌∷◌, ◌++◌, take, None}
use Rattle.courses.specs.Courses.{Leads}
use Rattle.courses.specs.FirstCheck.{FailsFirst}
use Rattle.mm_base.specs.declared.volume.File.{File}
use Rattle.mm_base.specs.declared.volume.Volume.{Volume}
use Rattle.mm_base.specs.declared.volume.VolumeKind.{VolumeKind}
use Rattle.mm_base.specs.declared.volume.VolumeKind.TheVariants.{FileSum, FileSize}
use Rattle.volume_reader.specs.VolumeHeader.{volume_length, is_ffs3, checks, first_failing, first_place, erase_polarity, up_to_8}
use Rattle.volume_reader.specs.FileHeader.{Area, state_at, says_large, is_large, size_at, has_room, header_sum_is_zero, size_fits, file_at}
use Rattle.volume_reader.specs.declared.file_state.FileState.TheVariants.{Free, HeaderConstruction, HeaderValid, DataValid, MarkedForUpdate, Deleted, HeaderInvalid}
use Rattle.volume_reader.specs.declared.volume_fault.VolumeFault.{VolumeFault}

-- what files are read in, for these bytes of a volume
abbrev pub area_of : List ℕ → Area
area_of bytes = record { bytes = take (volume_length bytes) bytes; ffs3 = is_ffs3 bytes; erase_polarity = erase_polarity bytes }

-- Where files end: fewer bytes than a header are left, or no state bit is set.
abbrev pub EndsAt : Area → ℕ → Type 0
EndsAt area at = (has_room area at 24 ≡ false) ⊎ (state_at area at ≡ Free)

-- what spans a part of a volume: a header alone, which is under construction or invalid, and of which nothing more is read; a file
-- that is gone, or whose data isn't there yet; or a file that counts, whose data is valid
pub data Span : Type 0 where
  HeaderAlone : Span
  Gone : Span
  Counts : Span

-- A header stands at this place, and its sum and its size are as they have to be.
pub record HasHeader (area : Area) (at : ℕ) : Type 0 where
  pub room : has_room area at 24 ≡ true
  pub large : is_large area at ≡ true → has_room area at 32 ≡ true
  pub summed : header_sum_is_zero area at ≡ true
  pub fits : size_fits area at ≡ true
  pub known : (says_large area at && not area.ffs3) ≡ false

-- A span stands at a place.
abbrev pub StandsAt : Area → ℕ → Span → Type 0
StandsAt area at HeaderAlone =
    (has_room area at 24 ≡ true) × ((state_at area at ≡ HeaderConstruction) ⊎ (state_at area at ≡ HeaderInvalid))
StandsAt area at Gone = HasHeader area at × ((state_at area at ≡ HeaderValid) ⊎ (state_at area at ≡ Deleted))
StandsAt area at Counts = HasHeader area at × ((state_at area at ≡ DataValid) ⊎ (state_at area at ≡ MarkedForUpdate))

-- the place behind a span: files are padded to a multiple of 8
abbrev pub place_behind : Area → ℕ → Span → ℕ
place_behind area at HeaderAlone = at + 24
place_behind area at Gone = up_to_8 (at + size_at area at)
place_behind area at Counts = up_to_8 (at + size_at area at)

-- Spans stand one behind another from a place on, and lead to another one.
abbrev pub SpansLead : Area → ℕ → List Span → ℕ → Type 0
SpansLead area at spans to = Leads (StandsAt area) (place_behind area) at spans to

-- the file of a span that counts
abbrev pub files_of : Area → ℕ → Span → List File
files_of area at HeaderAlone = []
files_of area at Gone = []
files_of area at Counts = file_at area at ∷ []

-- the files of spans
abbrev pub files_in : Area → ℕ → List Span → List File
files_in area at [] = []
files_in area at (span ∷ spans) = files_of area at span ++ files_in area (place_behind area at span) spans

-- A volume: its header passes all checks, and spans lead from the first place to one where files end; its files are those that
-- count, in order.
pub record IsVolume (bytes : List ℕ) (volume : Volume) : Type 0 where
  pub header : first_failing bytes ≡ None
  pub length_is : volume.length ≡ volume_length bytes
  pub system : volume.ffs3 ≡ is_ffs3 bytes
  pub spans : List Span
  pub end : ℕ
  pub leads : SpansLead (area_of bytes) (first_place bytes) spans end
  pub ends : EndsAt (area_of bytes) end
  pub files : volume.files ≡ files_in (area_of bytes) (first_place bytes) spans

-- A header stands at this place of which more is read: neither did files end here, nor is it one alone.
pub record IsWritten (area : Area) (at : ℕ) : Type 0 where
  pub room : has_room area at 24 ≡ true
  pub written : state_at area at ≡ Free → ⊥
  pub not_constructed : state_at area at ≡ HeaderConstruction → ⊥
  pub not_invalid : state_at area at ≡ HeaderInvalid → ⊥

-- It has room, and doesn't sum up to 0.
pub record HasBadSum (area : Area) (at : ℕ) : Type 0 where
  pub large : is_large area at ≡ true → has_room area at 32 ≡ true
  pub sum : header_sum_is_zero area at ≡ false

-- It sums up to 0, and its size doesn't hold it, leads past the end, or is said to be large in FFS2.
pub record HasBadSize (area : Area) (at : ℕ) : Type 0 where
  pub large : is_large area at ≡ true → has_room area at 32 ≡ true
  pub summed : header_sum_is_zero area at ≡ true
  pub size : (size_fits area at && not (says_large area at && not area.ffs3)) ≡ false

-- A header at this place is bad for this, whatever its state: for its sum; or for its size, which goes before the sum where a large
-- header has no room, and behind it else.
abbrev pub IsBadAt : Area → ℕ → VolumeKind → Type 0
IsBadAt area at kind =
    ((kind ≡ FileSum) × HasBadSum area at)
    ⊎ ((kind ≡ FileSize) × (HasBadSize area at ⊎ ((is_large area at ≡ true) × (has_room area at 32 ≡ false))))

-- What stands at this place is refused for this.
abbrev pub IsRefusedAt : Area → ℕ → VolumeKind → Type 0
IsRefusedAt area at kind = IsWritten area at × IsBadAt area at kind

-- the header fails a check, and none in front of it
abbrev pub HasBadHeader : List ℕ → VolumeFault → Type 0
HasBadHeader bytes fault = FailsFirst (checks bytes) fault.kind fault.at

-- the header passes, spans lead to a place, and what stands there is refused
pub record HasBadFile (bytes : List ℕ) (fault : VolumeFault) : Type 0 where
  pub header : first_failing bytes ≡ None
  pub spans : List Span
  pub leads : SpansLead (area_of bytes) (first_place bytes) spans fault.at
  pub refused : IsRefusedAt (area_of bytes) fault.at fault.kind

-- the first fault of bytes that are no volume
abbrev pub HasFault : List ℕ → VolumeFault → Type 0
HasFault bytes fault = HasBadHeader bytes fault ⊎ HasBadFile bytes fault
