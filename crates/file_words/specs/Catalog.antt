-- What a boot takes each file of a volume for: file types are those of PI 1.8, volume 3. Which words there are is this project's own.
use Rattle.std.specs.Prelude.{◌≡◌, ℕ, Bool, true, false, if◌then◌else◌, ◌==◌, ◌&&◌, not, MatchBool, List, [], ◌∷◌, ◌++◌}
use Rattle.mm_base.specs.declared.volume.File.{File}
use Rattle.file_words.specs.Causes.{Known, is_policy_file, is_policy_among, is_driver_among, IsRefusedFor}
use Rattle.file_words.specs.Parts.{HasParts}
use Rattle.file_words.specs.declared.driver_parts.DriverParts.{DriverParts}
use Rattle.file_words.specs.declared.file_word.FileWord.{FileWord}
use Rattle.file_words.specs.declared.file_word.FileWord.TheVariants.{Driver, Native, Policy, Pad, Passed, Refused}

-- a Standalone MM driver (EFI_FV_FILETYPE_MM_STANDALONE)
abbrev pub standalone_type : ℕ
standalone_type = 0x0e

-- a pad file (EFI_FV_FILETYPE_FFS_PAD)
abbrev pub pad_type : ℕ
pad_type = 0xf0

-- the machine of EFI Byte Code (IMAGE_FILE_MACHINE_EBC)
abbrev pub byte_code_machine : ℕ
byte_code_machine = 0x0ebc

-- the word of a file that is no driver, after these
abbrev pub word_of_other : List Known → File → FileWord
word_of_other earlier file =
    if file.kind == pad_type then Pad
    else if is_policy_file file && not (is_policy_among earlier) then Policy
    else Passed

-- A driver file is one after these: it has its parts, its image is for EFI Byte Code or isn't, and no driver of its name is among them.
pub record IsDriver (bytes : List ℕ) (earlier : List Known) (file : File) (byte_code : Bool) : Type 0 where
  pub parts : DriverParts
  pub has : HasParts bytes file parts
  pub machine : (parts.image.machine == byte_code_machine) ≡ byte_code
  pub alone : is_driver_among earlier file.name ≡ false

-- A driver file has this word after these: it is refused for the first cause that fits; or it is a driver in EFI Byte Code, or in a
-- processor's own code.
abbrev pub HasDriverWord : List ℕ → List Known → File → FileWord → Type 0
HasDriverWord bytes earlier file (Refused cause) = IsRefusedFor bytes earlier file cause
HasDriverWord bytes earlier file Driver = IsDriver bytes earlier file true
HasDriverWord bytes earlier file Native = IsDriver bytes earlier file false
HasDriverWord bytes earlier file Policy = ⊥
HasDriverWord bytes earlier file Pad = ⊥
HasDriverWord bytes earlier file Passed = ⊥

-- A file has this word, after these: a Standalone MM driver, or another file.
abbrev pub HasWord : List ℕ → List Known → File → FileWord → Type 0
HasWord bytes earlier file word =
    MatchBool (file.kind == standalone_type) (HasDriverWord bytes earlier file word) (word ≡ word_of_other earlier file)

-- These are the words of files that come after others: each has its word after those others and the files between.
abbrev pub AreWordsAfter : List ℕ → List Known → List File → List FileWord → Type 0
AreWordsAfter bytes earlier [] words = words ≡ []
AreWordsAfter bytes earlier (file ∷ files) words =
    (word : FileWord) × ((others : List FileWord)
    × ((words ≡ word ∷ others)
    × (HasWord bytes earlier file word
    × AreWordsAfter bytes (earlier ++ record { file = file; word = word } ∷ []) files others)))

-- These are the words of the files of a volume, in order.
abbrev pub AreWords : List ℕ → List File → List FileWord → Type 0
AreWords bytes files words = AreWordsAfter bytes [] files words
