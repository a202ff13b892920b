-- Why a driver file is refused: the causes with their tests, and the order in which they are tried, which is this project's own. File
-- types are those of PI 1.8, volume 3.
use Rattle.std.specs.Prelude.{◌≡◌, ◌<◌, ℕ, Bool, true, false, ◌==◌, ◌&&◌, None, List, [], ◌∷◌}
use Rattle.std.specs.List.{list_any}
use Rattle.mm_base.specs.Guid.{same_guid}
use Rattle.mm_base.specs.declared.guid.Guid.{Guid}
use Rattle.mm_base.specs.declared.volume.File.{File}
use Rattle.mm_base.specs.declared.volume.Section.{Section}
use Rattle.mm_base.specs.declared.volume.SectionFault.{SectionFault}
use Rattle.depex.specs.Expressions.{HasFault as HasDepexFault}
use Rattle.pe_loader.specs.Images.{HasFault as HasPeFault}
use Rattle.volume_reader.specs.Contents.{HasContents}
use Rattle.volume_reader.specs.Sections.{HasRefusedSection}
use Rattle.volume_reader.specs.declared.section_contents.Contents.{Contents}
use Rattle.file_words.specs.Parts.{data_of, HasImageIn, HasDepexIn}
use Rattle.file_words.specs.declared.file_word.Cause.{Cause}
use Rattle.file_words.specs.declared.file_word.Cause.TheVariants.{BodySum, SectionSize, Compressed, GuidDefined}
use Rattle.file_words.specs.declared.file_word.Cause.TheVariants.{NoImage, Pe, Depex, Duplicate}
use Rattle.file_words.specs.declared.file_word.FileWord.{FileWord}
use Rattle.file_words.specs.declared.file_word.FileWord.TheVariants.{Driver, Native, Policy, Pad, Passed, Refused}

-- a freeform file (EFI_FV_FILETYPE_FREEFORM)
abbrev pub freeform_type : ℕ
freeform_type = 0x02

-- the name of the policy file, which is this project's own: 4d4d5350-0002-4000-8000-000000000002, as it is stored
abbrev pub policy_name : Guid
policy_name = record {
  0 = 0x50 ∷ 0x53 ∷ 0x4d ∷ 0x4d ∷ 0x02 ∷ 0 ∷ 0 ∷ 0x40 ∷ 0x80 ∷ 0 ∷ 0 ∷ 0 ∷ 0 ∷ 0 ∷ 0 ∷ 0x02 ∷ [];
}

-- a freeform file by the policy's name; the first of them is the policy
abbrev pub is_policy_file : File → Bool
is_policy_file file = (file.kind == freeform_type) && same_guid file.name policy_name

-- a file with its word
pub record Known : Type 0 where
  pub file : File
  pub word : FileWord

-- whether a freeform file by the policy's name is among these
abbrev pub is_policy_among : List Known → Bool
is_policy_among earlier = list_any (λ known. is_policy_file known.file) earlier

-- whether a word is that of a driver, in EFI Byte Code or in a processor's own code
abbrev pub is_driver_word : FileWord → Bool
is_driver_word Driver = true
is_driver_word Native = true
is_driver_word Policy = false
is_driver_word Pad = false
is_driver_word Passed = false
is_driver_word (Refused cause) = false

-- whether a driver of this name is among these
abbrev pub is_driver_among : List Known → Guid → Bool
is_driver_among earlier name = list_any (λ known. is_driver_word known.word && same_guid known.file.name name) earlier

-- The tests of the causes, of a driver file after others:
-- * BodySum: its body isn't sound;
-- * SectionSize: one of its sections is refused;
-- * Compressed, GuidDefined: one of its sections is compressed, or defined by a GUID;
-- * NoImage: none of its sections is an image;
-- * Pe: its first image has this fault;
-- * Depex: its first dependency expression has this fault;
-- * Duplicate: a driver of its name is among the files before it.
abbrev pub Fits : List ℕ → List Known → File → Cause → Type 0
Fits bytes earlier file BodySum = file.sound ≡ false
Fits bytes earlier file SectionSize = (fault : SectionFault) × HasRefusedSection bytes file fault
Fits bytes earlier file Compressed = (contents : Contents) × (HasContents bytes file contents × (contents.compressed ≡ true))
Fits bytes earlier file GuidDefined = (contents : Contents) × (HasContents bytes file contents × (contents.guid_defined ≡ true))
Fits bytes earlier file NoImage = (contents : Contents) × (HasContents bytes file contents × (contents.image ≡ None))
Fits bytes earlier file (Pe fault) = (section : Section) × (HasImageIn bytes file section × HasPeFault (data_of bytes section) fault)
Fits bytes earlier file (Depex fault) = (section : Section) × (HasDepexIn bytes file section × HasDepexFault (data_of bytes section) fault)
Fits bytes earlier file Duplicate = is_driver_among earlier file.name ≡ true

-- the order in which causes are tried
abbrev pub rank : Cause → ℕ
rank BodySum = 0
rank SectionSize = 1
rank Compressed = 2
rank GuidDefined = 3
rank NoImage = 4
rank (Pe fault) = 5
rank (Depex fault) = 6
rank Duplicate = 7

-- A driver file is refused for a cause: the cause fits, and none that is tried before it does.
pub record IsRefusedFor (bytes : List ℕ) (earlier : List Known) (file : File) (cause : Cause) : Type 0 where
  pub fits : Fits bytes earlier file cause
  pub first : (other : Cause) → rank other < rank cause → Fits bytes earlier file other → ⊥
