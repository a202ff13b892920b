-- What the sections of a file tell together.
use Rattle.std.specs.Prelude.{◌≡◌, ℕ, ◌==◌, List, find}
use Rattle.std.specs.List.{list_any}
use Rattle.mm_base.specs.declared.volume.File.{File}
use Rattle.mm_base.specs.declared.volume.Section.{Section}
use Rattle.volume_reader.specs.Sections.{HasSections}
use Rattle.volume_reader.specs.declared.section_contents.Contents.{Contents}

-- What sections tell: whether one is compressed, EFI_SECTION_COMPRESSION (01), whether one is defined by a GUID,
-- EFI_SECTION_GUID_DEFINED (02), the first image, EFI_SECTION_PE32 (10), and the first MM dependency expression,
-- EFI_SECTION_MM_DEPEX (1C).
abbrev pub contents_of : List Section → Contents
contents_of sections = record {
  compressed = list_any (λ section. section.kind == 0x01) sections;
  guid_defined = list_any (λ section. section.kind == 0x02) sections;
  image = find (λ section. section.kind == 0x10) sections;
  depex = find (λ section. section.kind == 0x1c) sections;
}

-- The sections of a file tell this.
pub record HasContents (bytes : List ℕ) (file : File) (contents : Contents) : Type 0 where
  pub sections : List Section
  pub has : HasSections bytes file sections
  pub are : contents ≡ contents_of sections
