-- No public clause cites this file.
-- What is found at a place of a volume.
use Rattle.std.specs.Prelude.{◌≡◌, ℕ, ◌+◌, Bool, if◌then◌else◌, List, [], ◌∷◌, Option, Some, None}
use Rattle.mm_base.specs.declared.volume.File.{File}
use Rattle.volume_reader.specs.VolumeHeader.{up_to_8}
use Rattle.volume_reader.specs.FileHeader.{Area, size_at, file_at}
use Rattle.volume_reader.specs.VolumeGrammar.{EndsAt, Span, HasHeader, StandsAt, place_behind, files_of, IsBadAt, IsRefusedAt, SpansLead, files_in}
use Rattle.volume_reader.specs.declared.volume_fault.VolumeFault.{VolumeFault}
use Rattle.volume_reader.specs.declared.area.Found.{Found}
use Rattle.volume_reader.specs.declared.area.Found.TheVariants.{End, Refused, Behind}

-- a file, or none, as a list
abbrev pub listed : Option File → List File
listed None = []
listed (Some file) = file ∷ []

-- A span stands at a place, with this place behind it and this file.
pub record FindsSpan (area : Area) (at : ℕ) (next : ℕ) (file : Option File) : Type 0 where
  pub span : Span
  pub stands : StandsAt area at span
  pub behind : next ≡ place_behind area at span
  pub files : listed file ≡ files_of area at span

-- What is found at a place: its end, a refused header, or a span.
abbrev pub Finds : Area → ℕ → Found → Type 0
Finds area at End = EndsAt area at
Finds area at (Refused kind) = IsRefusedAt area at kind
Finds area at (Behind next file) = FindsSpan area at next file

-- What is found where a file stands that counts or doesn't: that its header is refused, or that it ends here.
abbrev pub FindsFile : Area → ℕ → Bool → Found → Type 0
FindsFile area at counts End = ⊥
FindsFile area at counts (Refused kind) = IsBadAt area at kind
FindsFile area at counts (Behind next file) =
    HasHeader area at × (next ≡ up_to_8 (at + size_at area at)) × (file ≡ (if counts then Some (file_at area at) else None))

-- These are the files from a place on: spans lead from it to one where files end.
pub record AreFiles (area : Area) (first : ℕ) (files : List File) : Type 0 where
  pub spans : List Span
  pub end : ℕ
  pub leads : SpansLead area first spans end
  pub ends : EndsAt area end
  pub are : files ≡ files_in area first spans

-- Spans lead from a place to one that is refused.
pub record HasFaultFrom (area : Area) (first : ℕ) (fault : VolumeFault) : Type 0 where
  pub spans : List Span
  pub leads : SpansLead area first spans fault.at
  pub refused : IsRefusedAt area fault.at fault.kind
