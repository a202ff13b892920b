-- The first section of a type.
use Rattle.std.specs.Prelude.{◌≡◌, ℕ, Bool, ◌==◌, List, find, Option}
use Rattle.std.specs.List.{list_any}
use Rattle.mm_base.specs.declared.volume.File.{File}
use Rattle.mm_base.specs.declared.volume.Section.{Section}
use Rattle.volume_reader.specs.Sections.{HasSections}

-- the first of these sections that has a type, and whether one has it
abbrev pub first_section : ℕ → List Section → Option Section
first_section kind sections = find (λ section. section.kind == kind) sections

abbrev pub is_any_section : ℕ → List Section → Bool
is_any_section kind sections = list_any (λ section. section.kind == kind) sections

-- This is the first section of a file that has a type.
pub record HasFirstSection (bytes : List ℕ) (file : File) (kind : ℕ) (found : Option Section) : Type 0 where
  pub sections : List Section
  pub has : HasSections bytes file sections
  pub is : found ≡ first_section kind sections
