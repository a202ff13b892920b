-- What an image is, and what bytes are refused for that are none.
use Rattle.std.specs.Prelude.{◌≡◌, ◌⊎◌, ℕ, ◌+◌, List, None}
use Rattle.mm_base.specs.Checks.{first_failing}
use Rattle.mm_base.specs.declared.image.Image.{Image}
use Rattle.mm_base.specs.declared.image.PeFault.{PeFault}
use Rattle.mm_base.specs.declared.image.PeKind.TheVariants.{Reloc}
use Rattle.pe_loader.specs.Headers.{optional_at, machine_of, entry_of, base_of, image_size, headers_size, part_count, table_at, relocs_of, FailsFirst}
use Rattle.pe_loader.specs.Sections.{checks}
use Rattle.pe_loader.specs.Forms.{plain_form}
use Rattle.pe_loader.specs.Fixups.{AreFixups, AreRefused}
use Rattle.pe_loader.specs.declared.fixup.Fixup.{Fixup}

-- what the headers say
unfoldable pub image_of : List ℕ → Image
image_of bytes = record {
  machine = machine_of bytes;
  entry = entry_of bytes;
  base = base_of bytes;
  size = image_size bytes;
  headers = headers_size bytes;
  parts = part_count bytes;
  table = table_at bytes;
  relocs = relocs_of bytes;
}

-- The relocations of an image are these fixups.
abbrev pub AreRelocations : List ℕ → List Fixup → Type 0
AreRelocations bytes fixups = AreFixups (plain_form bytes) (image_size bytes) (relocs_of bytes) fixups

-- The bytes are this image, with these fixups: all checks pass, its headers say so, and the relocations are these.
pub record IsImage (bytes : List ℕ) (image : Image) (fixups : List Fixup) : Type 0 where
  pub passes : first_failing (checks bytes) ≡ None
  pub says : image ≡ image_of bytes
  pub relocations : AreRelocations bytes fixups

-- The bytes are this image, with some fixups.
abbrev pub IsImageOf : List ℕ → Image → Type 0
IsImageOf bytes image = (fixups : List Fixup) × IsImage bytes image fixups

-- all checks pass, and the relocations are refused; the fault names their directory
pub record HasBadRelocations (bytes : List ℕ) (fault : PeFault) : Type 0 where
  pub passes : first_failing (checks bytes) ≡ None
  pub refused : AreRefused (plain_form bytes) (image_size bytes) (relocs_of bytes)
  pub at : fault.at ≡ optional_at bytes + 152
  pub kind : fault.kind ≡ Reloc

-- the first fault of bytes that are no image
abbrev pub HasFault : List ℕ → PeFault → Type 0
HasFault bytes fault = FailsFirst (checks bytes) fault ⊎ HasBadRelocations bytes fault
