-- No public clause cites this file.
--
-- How a driver file is taken apart, step by step.
use Rattle.std.specs.Prelude.{◌≡◌, ◌≤◌, ℕ, ◌+◌, true, false, if◌then◌else◌, ◌==◌, MatchBool, MatchOption, IfSome}
use Rattle.std.specs.Prelude.{Option, List, Result, Ok, Err}
use Rattle.mm_base.specs.declared.expression.DepexFault.{DepexFault}
use Rattle.mm_base.specs.declared.image.Image.{Image}
use Rattle.mm_base.specs.declared.image.PeFault.{PeFault}
use Rattle.mm_base.specs.declared.volume.File.{File}
use Rattle.mm_base.specs.declared.volume.Section.{Section}
use Rattle.mm_base.specs.declared.volume.SectionFault.{SectionFault}
use Rattle.pe_loader.specs.Images.{IsImageOf, HasFault as HasPeFault}
use Rattle.volume_reader.specs.Contents.{HasContents}
use Rattle.volume_reader.specs.Sections.{HasRefusedSection}
use Rattle.volume_reader.specs.declared.section_contents.Contents.{Contents}
use Rattle.file_words.specs.Catalog.{byte_code_machine}
use Rattle.file_words.specs.Causes.{Known, is_driver_among}
use Rattle.file_words.specs.Parts.{data_of, HasBadExpression, HasExpression}
use Rattle.file_words.specs.declared.driver_parts.DriverParts.{DriverParts}
use Rattle.file_words.specs.declared.file_word.Cause.{Cause}
use Rattle.file_words.specs.declared.file_word.Cause.TheVariants.{BodySum, SectionSize, Compressed, GuidDefined}
use Rattle.file_words.specs.declared.file_word.Cause.TheVariants.{NoImage, Pe, Depex, Duplicate}
use Rattle.file_words.specs.declared.file_word.FileWord.{FileWord}
use Rattle.file_words.specs.declared.file_word.FileWord.TheVariants.{Driver, Native, Refused}

-- The sections that a file's contents name lie in the first bytes, as many as this.
pub record LieIn (end : ℕ) (contents : Contents) : Type 0 where
  pub image : IfSome contents.image (λ section. section.at + section.length ≤ end)
  pub depex : IfSome contents.depex (λ section. section.at + section.length ≤ end)

-- what comes of an image and a dependency expression: the image has a fault; or the expression has one; or both are as they should be
pub data JudgesImage (bytes : List ℕ) (section : Section) (depex : Option Section) (result : Result DriverParts Cause) : Type 0 where
  ByImageFault : (fault : PeFault) → HasPeFault (data_of bytes section) fault → result ≡ Err (Pe fault)
      → JudgesImage bytes section depex result
  ByExpressionFault : (image : Image) → IsImageOf (data_of bytes section) image
      → (fault : DepexFault) → HasBadExpression bytes depex fault → result ≡ Err (Depex fault)
      → JudgesImage bytes section depex result
  ByImage : (image : Image) → IsImageOf (data_of bytes section) image → HasExpression bytes depex
      → result ≡ Ok (record { section = section; image = image; depex = depex }) → JudgesImage bytes section depex result

-- what comes of the contents of a file
abbrev pub JudgesContents : List ℕ → Contents → Result DriverParts Cause → Type 0
JudgesContents bytes contents result =
    MatchBool contents.compressed (result ≡ Err Compressed)
    (MatchBool contents.guid_defined (result ≡ Err GuidDefined)
    (MatchOption contents.image (result ≡ Err NoImage)
    (λ section. JudgesImage bytes section contents.depex result)))

-- what comes of a driver file
pub data Judges (bytes : List ℕ) (file : File) (result : Result DriverParts Cause) : Type 0 where
  ByBodySum : file.sound ≡ false → result ≡ Err BodySum → Judges bytes file result
  BySectionSize : file.sound ≡ true → (fault : SectionFault) → HasRefusedSection bytes file fault
      → result ≡ Err SectionSize → Judges bytes file result
  ByContents : file.sound ≡ true → (contents : Contents) → HasContents bytes file contents
      → JudgesContents bytes contents result → Judges bytes file result

-- the word of a driver file after these, where its image, which is for this machine, and its expression are as they should be
abbrev pub word_of_machine : List Known → File → ℕ → FileWord
word_of_machine earlier file machine =
    if is_driver_among earlier file.name then Refused Duplicate
    else if machine == byte_code_machine then Driver
    else Native
