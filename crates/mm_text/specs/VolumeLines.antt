-- The lines of a volume and its files. Each ends with a line feed (byte 10).
use Rattle.std.specs.Prelude.{ℕ, Bool, if◌then◌else◌, List, [], ◌∷◌, ◌++◌, length, drop, codes}
use Rattle.std.specs.Fmt.{decimal}
use Rattle.std.specs.Int.{to_be_bytes, w32}
use Rattle.hex.specs.Hex.{encode_lower}
use Rattle.mm_base.specs.Guid.{guid_text}
use Rattle.mm_base.specs.declared.expression.DepexFault.{DepexFault}
use Rattle.mm_base.specs.declared.expression.DepexFault.TheVariants.{Empty, NoEnd, Unknown, Underflow, Leftover, BeforeNotFirst, TooDeep}
use Rattle.mm_base.specs.declared.image.PeKind.{PeKind}
use Rattle.mm_base.specs.declared.image.PeKind.TheVariants.{Short, Mz, Lfanew, Signature, Machine, Magic, Optional, Subsystem, Size, Headers, Section, Entry, Reloc}
use Rattle.mm_base.specs.declared.volume.File.{File}
use Rattle.mm_base.specs.declared.volume.Volume.{Volume}
use Rattle.file_words.specs.declared.file_word.FileWord.{FileWord}
use Rattle.file_words.specs.declared.file_word.FileWord.TheVariants.{Driver, Native, Policy, Pad, Passed, Refused}
use Rattle.file_words.specs.declared.file_word.Cause.{Cause}
use Rattle.file_words.specs.declared.file_word.Cause.TheVariants.{BodySum, SectionSize, Compressed, GuidDefined, NoImage, Pe, Depex, Duplicate}

-- a number of 32 bits as eight hexadecimal digits, the highest first
unfoldable pub x8 : ℕ → List ℕ
x8 n = encode_lower (to_be_bytes w32 n)

-- the word for a file system
abbrev pub system_word : Bool → List ℕ
system_word ffs3 = if ffs3 then codes "ffs3" else codes "ffs2"

-- the line of a volume: its length, its file system, and how many files it has
unfoldable pub volume_line : Volume → List ℕ
volume_line volume =
    codes "volume " ++ x8 volume.length ++ codes " " ++ system_word volume.ffs3 ++ codes " files " ++ decimal (length volume.files)
    ++ codes "\n"

-- the word for what an image is refused for
abbrev pub pe_word : PeKind → List ℕ
pe_word Short = codes "short"
pe_word Mz = codes "mz"
pe_word Lfanew = codes "lfanew"
pe_word Signature = codes "signature"
pe_word Machine = codes "machine"
pe_word Magic = codes "magic"
pe_word Optional = codes "optional"
pe_word Subsystem = codes "subsystem"
pe_word Size = codes "size"
pe_word Headers = codes "headers"
pe_word Section = codes "section"
pe_word Entry = codes "entry"
pe_word Reloc = codes "reloc"

-- the word for what an expression is refused for
abbrev pub depex_word : DepexFault → List ℕ
depex_word Empty = codes "empty"
depex_word NoEnd = codes "noend"
depex_word (Unknown at) = codes "unknown"
depex_word (Underflow at) = codes "underflow"
depex_word (Leftover at) = codes "leftover"
depex_word (BeforeNotFirst at) = codes "beforenotfirst"
depex_word (TooDeep at) = codes "toodeep"

-- The words for why a driver file is refused. The place of an image's fault counts from the image's begin.
unfoldable pub cause_words : Cause → List ℕ
cause_words BodySum = codes "bodysum"
cause_words SectionSize = codes "sectionsize"
cause_words Compressed = codes "compressed"
cause_words GuidDefined = codes "guiddefined"
cause_words NoImage = codes "noimage"
cause_words (Pe fault) = codes "pe " ++ pe_word fault.kind ++ codes " at " ++ x8 fault.at
cause_words (Depex fault) = codes "depex " ++ depex_word fault
cause_words Duplicate = codes "duplicate"

-- the words for what a file is taken for
unfoldable pub file_words : FileWord → List ℕ
file_words Driver = codes "driver"
file_words Native = codes "native"
file_words Policy = codes "policy"
file_words Pad = codes "pad"
file_words Passed = codes "passed"
file_words (Refused cause) = codes "refused " ++ cause_words cause

-- the line of a file: where it stands, its name, its type, its size with its header, and what it is taken for
unfoldable pub file_line : File → FileWord → List ℕ
file_line file word =
    codes "file " ++ x8 file.at ++ codes " " ++ guid_text file.name ++ codes " type " ++ encode_lower (file.kind ∷ []) ++ codes " size "
    ++ x8 file.size ++ codes " " ++ file_words word ++ codes "\n"

-- the line of a file with the first of these words
abbrev pub first_line : File → List FileWord → List ℕ
first_line file [] = []
first_line file (word ∷ words) = file_line file word

-- the lines of files, each with the word at its place
abbrev pub files_lines : List File → List FileWord → List ℕ
files_lines [] words = []
files_lines (file ∷ files) words = first_line file words ++ files_lines files (drop 1 words)
