-- Laws of images: bytes are one image, or have one fault, and not both; and the sections of an image lie in it, apart from one another.
use Rattle.std.specs.Prelude.{◌≡◌, ◌≢◌, ◌⊎◌, ◌↔◌, ℕ, ◌+◌, ◌-◌, ◌%◌, ◌^◌, ◌≤◌, ◌<◌, true, List, All, length, slice_index}
use Rattle.mm_base.specs.Range.{Has}
use Rattle.mm_base.specs.declared.image.Image.{Image}
use Rattle.mm_base.specs.declared.image.PeFault.{PeFault}
use Rattle.mm_base.specs.declared.image.Part.{Part}
use Rattle.pe_loader.specs.Forms.{copies_to, plain_form}
use Rattle.pe_loader.specs.Loading.{loaded, IsLoaded}
use Rattle.pe_loader.specs.Sections.{part_at, range_of, overlaps_first, holds_code}
use Rattle.pe_loader.specs.Images.{IsImage, IsImageOf, HasFault}
use Rattle.pe_loader.specs.declared.fixup.Fixup.{Fixup}

-- bytes are an image or have a fault
abbrev pub ImageOrFault : Type 0
ImageOrFault = (bytes : List ℕ) → ((image : Image) × IsImageOf bytes image) ⊎ ((fault : PeFault) × HasFault bytes fault)

-- and never both
abbrev pub NeverBoth : Type 0
NeverBoth =
    (bytes : List ℕ) (image : Image) (fixups : List Fixup) (fault : PeFault) → IsImage bytes image fixups → HasFault bytes fault → ⊥

-- they are one image at most, with one list of fixups, and have one fault at most
abbrev pub OneImage : Type 0
OneImage =
    (bytes : List ℕ) (one other : Image) (some others : List Fixup)
    → IsImage bytes one some
    → IsImage bytes other others
    → (one ≡ other) × (some ≡ others)

abbrev pub OneFault : Type 0
OneFault = (bytes : List ℕ) (one other : PeFault) → HasFault bytes one → HasFault bytes other → one ≡ other

-- a section lies between the end of the headers and that of the image
abbrev pub SectionsLieWithin : Type 0
SectionsLieWithin =
    (bytes : List ℕ) (image : Image) (fixups : List Fixup) (k : ℕ)
    → IsImage bytes image fixups
    → k < image.parts
    → (image.headers ≤ (part_at bytes k).at) × ((part_at bytes k).at + (part_at bytes k).length ≤ image.size)

-- no byte of the image lies in two sections
abbrev pub SectionsLieApart : Type 0
SectionsLieApart =
    (bytes : List ℕ) (image : Image) (fixups : List Fixup) (j k place : ℕ)
    → IsImage bytes image fixups
    → j < k
    → k < image.parts
    → Has (range_of (part_at bytes j)) place
    → Has (range_of (part_at bytes k)) place
    → ⊥

-- an image has a byte, at most 16,777,216 of them, and at least those of its headers
abbrev pub SizeIsBounded : Type 0
SizeIsBounded =
    (bytes : List ℕ) (image : Image) (fixups : List Fixup)
    → IsImage bytes image fixups
    → (0 < image.size) × (image.size ≤ 16777216) × (image.headers ≤ image.size)

-- the entry of byte code (IMAGE_FILE_MACHINE_EBC) is even, and two bytes from it on lie in a section that may be executed
abbrev pub EntryIsCode : Type 0
EntryIsCode =
    (bytes : List ℕ) (image : Image) (fixups : List Fixup)
    → IsImage bytes image fixups
    → image.machine ≡ 0x0ebc
    → (image.entry % 2 ≡ 0) × ((k : ℕ) × ((k < image.parts) × (holds_code image.entry (part_at bytes k) ≡ true)))

-- that of native code lies in the image
abbrev pub EntryIsWithin : Type 0
EntryIsWithin =
    (bytes : List ℕ) (image : Image) (fixups : List Fixup)
    → IsImage bytes image fixups
    → image.machine ≢ 0x0ebc
    → image.entry < image.size

-- A section shares a byte with one of the first n exactly where there is an earlier one, and a byte that lies in both.
abbrev pub OverlapIsAByte : Type 0
OverlapIsAByte =
    (nth : ℕ → Part) (part : Part) (n : ℕ)
    → (overlaps_first nth part n ≡ true)
    ↔ ((k : ℕ) × ((k < n) × ((place : ℕ) × (Has (range_of (nth k)) place × Has (range_of part) place))))

-- a byte that a section copies is that of the file, in the plain form
abbrev pub CopiesAreTheFile : Type 0
CopiesAreTheFile =
    (bytes : List ℕ) (image : Image) (fixups : List Fixup) (k place : ℕ)
    → IsImage bytes image fixups
    → k < image.parts
    → copies_to place (part_at bytes k) ≡ true
    → slice_index (plain_form bytes) place ≡ slice_index bytes ((part_at bytes k).raw + (place - (part_at bytes k).at))

-- An image is loaded at each address,
abbrev pub LoadedIsThere : Type 0
LoadedIsThere = (bytes : List ℕ) (image : Image) (base : ℕ) → IsImageOf bytes image → (form : List ℕ) × IsLoaded bytes base form

-- in one form,
abbrev pub OneLoadedForm : Type 0
OneLoadedForm = (bytes : List ℕ) (base : ℕ) (one other : List ℕ) → IsLoaded bytes base one → IsLoaded bytes base other → one ≡ other

-- which has as many bytes as the image.
abbrev pub LoadedHasItsSize : Type 0
LoadedHasItsSize =
    (bytes : List ℕ) (image : Image) (base : ℕ) (form : List ℕ) → IsImageOf bytes image → IsLoaded bytes base form → length form ≡ image.size

-- At the address that it was linked for, an image is loaded in its plain form.
abbrev pub PlainAtHome : Type 0
PlainAtHome =
    (bytes : List ℕ) (image : Image) (fixups : List Fixup)
    → All (λ byte. byte < 256) bytes
    → image.base < 2 ^ 64
    → IsImage bytes image fixups
    → loaded bytes image fixups image.base ≡ plain_form bytes
