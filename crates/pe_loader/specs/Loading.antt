-- The loaded form of an image: its bytes in memory at some address, with its fixups applied.
use Rattle.std.specs.Prelude.{◌≡◌, ℕ, ◌+◌, ◌-◌, ◌*◌, ◌/◌, ◌%◌, ◌^◌, List, ◌++◌, take, drop, length, fold}
use Rattle.std.specs.Int.{Width, w16, w32, w64, byte_len, to_le_bytes}
use Rattle.mm_base.specs.Numbers.{number_in}
use Rattle.mm_base.specs.declared.image.Image.{Image}
use Rattle.pe_loader.specs.Forms.{plain_form}
use Rattle.pe_loader.specs.Images.{IsImage}
use Rattle.pe_loader.specs.declared.fixup.Fixup.{Fixup}
use Rattle.pe_loader.specs.declared.fixup_kind.FixupKind.TheVariants.{High, Low, HighLow, Dir64}

-- how far an image is placed behind the address that it was linked for, in 64 bits
abbrev pub difference : ℕ → ℕ → ℕ
difference base linked = (base + (2 ^ 64 - linked)) % 2 ^ 64

-- a form with these bytes at a place
abbrev pub put : List ℕ → ℕ → List ℕ → List ℕ
put form at bytes = take at form ++ bytes ++ drop (at + length bytes) form

-- a form where the number of this width at a place is raised; it wraps
abbrev pub raised : Width → List ℕ → ℕ → ℕ → List ℕ
raised width form at by = put form at (to_le_bytes width ((number_in form at (byte_len width) + by) % 2 ^ (8 * byte_len width)))

-- A form with one fixup applied, for a difference: IMAGE_REL_BASED_HIGH adds its bits 16 to 31 to 16 bits, IMAGE_REL_BASED_LOW its bits 0
-- to 15, IMAGE_REL_BASED_HIGHLOW adds it to 32 bits, and IMAGE_REL_BASED_DIR64 to 64; others do nothing.
unfoldable pub fixed : ℕ → List ℕ → Fixup → List ℕ
fixed by form fixup = elim (fixup.kind) [
  | High ↦ raised w16 form fixup.at (by / 65536 % 65536)
  | Low ↦ raised w16 form fixup.at (by % 65536)
  | HighLow ↦ raised w32 form fixup.at by
  | Dir64 ↦ raised w64 form fixup.at by
  | _ ↦ form
]

-- the loaded form: the plain one with the fixups applied in order
abbrev pub loaded : List ℕ → Image → List Fixup → ℕ → List ℕ
loaded bytes image fixups base = fold (fixed (difference base image.base)) (plain_form bytes) fixups

-- The bytes are loaded so at an address: they are an image, with some fixups, and this is its loaded form.
pub record IsLoaded (bytes : List ℕ) (base : ℕ) (form : List ℕ) : Type 0 where
  pub image : Image
  pub fixups : List Fixup
  pub of : IsImage bytes image fixups
  pub is : form ≡ loaded bytes image fixups base
