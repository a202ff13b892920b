-- Laws of the words of files: the files of a volume have one list of words, drivers have names that differ, and there is one policy.
use Rattle.std.specs.Prelude.{◌≡◌, ◌≤◌, ◌⊎◌, ℕ, Bool, true, false, List, [], Some, map, filter, count_by}
use Rattle.std.specs.List.{zip, slice_get, AllPairs}
use Rattle.mm_base.specs.Guid.{same_guid}
use Rattle.mm_base.specs.declared.volume.File.{File}
use Rattle.depex.specs.Expressions.{Expression}
use Rattle.file_words.specs.Catalog.{byte_code_machine, AreWords}
use Rattle.file_words.specs.Causes.{is_driver_word, IsRefusedFor}
use Rattle.file_words.specs.Parts.{IsExpressionIn, HasParts}
use Rattle.file_words.specs.declared.driver_parts.DriverParts.{DriverParts}
use Rattle.file_words.specs.declared.file_word.Cause.{Cause}
use Rattle.file_words.specs.declared.file_word.FileWord.{FileWord}
use Rattle.file_words.specs.declared.file_word.FileWord.TheVariants.{Driver, Native, Policy, Pad, Passed, Refused}
use Rattle.std.specs.Prelude.{Option}

-- Files in bytes have a list of words, whatever the bytes and the files are.
abbrev pub CatalogIsThere : Type 0
CatalogIsThere = (bytes : List ℕ) (files : List File) → (words : List FileWord) × AreWords bytes files words

-- Two lists of words of the same files in the same bytes are one.
abbrev pub OneCatalog : Type 0
OneCatalog =
    (bytes : List ℕ) (files : List File) (one other : List FileWord)
    → AreWords bytes files one
    → AreWords bytes files other
    → one ≡ other

-- A driver file has parts, or is refused for a cause, whatever the bytes are,
abbrev pub PartsOrCause : Type 0
PartsOrCause =
    (bytes : List ℕ) (file : File)
    → ((parts : DriverParts) × HasParts bytes file parts) ⊎ ((cause : Cause) × IsRefusedFor bytes [] file cause)

-- and never both.
abbrev pub NeverPartsAndCause : Type 0
NeverPartsAndCause =
    (bytes : List ℕ) (file : File) (parts : DriverParts) (cause : Cause) → HasParts bytes file parts → IsRefusedFor bytes [] file cause → ⊥

-- It has one image section, one image and one section of an expression,
abbrev pub OneParts : Type 0
OneParts = (bytes : List ℕ) (file : File) (one other : DriverParts) → HasParts bytes file one → HasParts bytes file other → one ≡ other

-- where that section has one expression;
abbrev pub OneExpressionIn : Type 0
OneExpressionIn =
    (bytes : List ℕ) (file : File) (parts : DriverParts)
    → HasParts bytes file parts
    → ((expression : Option Expression) × IsExpressionIn bytes parts.depex expression)
    × ((one other : Option Expression) → IsExpressionIn bytes parts.depex one → IsExpressionIn bytes parts.depex other → one ≡ other)

-- or it is refused for one cause.
abbrev pub OneCause : Type 0
OneCause =
    (bytes : List ℕ) (file : File) (one other : Cause) → IsRefusedFor bytes [] file one → IsRefusedFor bytes [] file other → one ≡ other

-- the files whose word passes a test, in order
abbrev pub files_with : (FileWord → Bool) → List File → List FileWord → List File
files_with test files words = map (λ pair. pair.0) (filter (λ pair. test pair.1) (zip files words))

-- whether a word is that of a driver in EFI Byte Code, and whether it is the policy's
abbrev pub is_started_word : FileWord → Bool
is_started_word Driver = true
is_started_word Native = false
is_started_word Policy = false
is_started_word Pad = false
is_started_word Passed = false
is_started_word (Refused cause) = false

abbrev pub is_policy_word : FileWord → Bool
is_policy_word Policy = true
is_policy_word Driver = false
is_policy_word Native = false
is_policy_word Pad = false
is_policy_word Passed = false
is_policy_word (Refused cause) = false

-- the drivers of a volume in order, and those of them that a boot may start
abbrev pub drivers_of : List File → List FileWord → List File
drivers_of files words = files_with is_driver_word files words

abbrev pub started_of : List File → List FileWord → List File
started_of files words = files_with is_started_word files words

-- No two drivers have one name,
abbrev pub DriversDiffer : Type 0
DriversDiffer =
    (bytes : List ℕ) (files : List File) (words : List FileWord)
    → AreWords bytes files words
    → AllPairs (λ one later. same_guid one.name later.name ≡ false) (drivers_of files words)

-- nor do two that a boot may start.
abbrev pub StartedDiffer : Type 0
StartedDiffer =
    (bytes : List ℕ) (files : List File) (words : List FileWord)
    → AreWords bytes files words
    → AllPairs (λ one later. same_guid one.name later.name ≡ false) (started_of files words)

-- At most one file is the policy.
abbrev pub OnePolicy : Type 0
OnePolicy = (bytes : List ℕ) (files : List File) (words : List FileWord) → AreWords bytes files words → count_by is_policy_word words ≤ 1

-- A file with the word of a driver in EFI Byte Code has its parts, and an image for it.
abbrev pub DriverHasParts : Type 0
DriverHasParts =
    (bytes : List ℕ) (files : List File) (words : List FileWord) (k : ℕ) (file : File)
    → AreWords bytes files words
    → slice_get files k ≡ Some file
    → slice_get words k ≡ Some Driver
    → (parts : DriverParts) × (HasParts bytes file parts × (parts.image.machine ≡ byte_code_machine))
