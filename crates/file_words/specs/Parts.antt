-- What a driver file is made of: section types are those of PI 1.8, volume 3.
use Rattle.std.specs.Prelude.{◌≡◌, ℕ, true, false, Option, Some, None, List, take, drop}
use Rattle.mm_base.specs.declared.expression.DepexFault.{DepexFault}
use Rattle.mm_base.specs.declared.volume.File.{File}
use Rattle.mm_base.specs.declared.volume.Section.{Section}
use Rattle.depex.specs.Expressions.{Expression, IsExpression, BeginsExpression, HasFault as HasDepexFault}
use Rattle.pe_loader.specs.Images.{IsImageOf}
use Rattle.volume_reader.specs.Contents.{HasContents}
use Rattle.volume_reader.specs.declared.section_contents.Contents.{Contents}
use Rattle.file_words.specs.declared.driver_parts.DriverParts.{DriverParts}

-- the data of a section, which follows its header
abbrev pub data_of : List ℕ → Section → List ℕ
data_of bytes section = take section.length (drop section.at bytes)

-- The first image of a file stands in this section (EFI_SECTION_PE32).
pub record HasImageIn (bytes : List ℕ) (file : File) (section : Section) : Type 0 where
  pub contents : Contents
  pub has : HasContents bytes file contents
  pub first : contents.image ≡ Some section

-- The first dependency expression of a file stands in this section (EFI_SECTION_MM_DEPEX).
pub record HasDepexIn (bytes : List ℕ) (file : File) (section : Section) : Type 0 where
  pub contents : Contents
  pub has : HasContents bytes file contents
  pub first : contents.depex ≡ Some section

-- The dependency expression of a file, if it has one, has this fault.
abbrev pub HasBadExpression : List ℕ → Option Section → DepexFault → Type 0
HasBadExpression bytes None fault = ⊥
HasBadExpression bytes (Some section) fault = HasDepexFault (data_of bytes section) fault

-- It is an expression, if there is one.
abbrev pub HasExpression : List ℕ → Option Section → Type 0
HasExpression bytes None = Unit {0}
HasExpression bytes (Some section) = BeginsExpression (data_of bytes section)

-- It is this one, or there is none.
abbrev pub IsExpressionIn : List ℕ → Option Section → Option Expression → Type 0
IsExpressionIn bytes None expression = expression ≡ None
IsExpressionIn bytes (Some section) None = ⊥
IsExpressionIn bytes (Some section) (Some expression) = IsExpression (data_of bytes section) expression

-- A driver file has these parts: its body is sound, none of its sections is refused, compressed or defined by a GUID; its first image
-- stands in this section and is this one; and its first dependency expression, if it has one, stands in that section and is one.
pub record HasParts (bytes : List ℕ) (file : File) (parts : DriverParts) : Type 0 where
  pub sound : file.sound ≡ true
  pub contents : Contents
  pub has : HasContents bytes file contents
  pub whole : contents.compressed ≡ false
  pub plain : contents.guid_defined ≡ false
  pub section_is : contents.image ≡ Some parts.section
  pub image_is : IsImageOf (data_of bytes parts.section) parts.image
  pub depex_is : contents.depex ≡ parts.depex
  pub expression : HasExpression bytes parts.depex
