-- The sections of an image, and its entry point. What an entry of the table says, and the checks of sections, are said of a layout: where
-- the table stands, and how many bytes the headers and the image have.
use Rattle.std.specs.Prelude.{ℕ, zero, suc, ◌+◌, ◌*◌, ◌%◌, Bool, false, if◌then◌else◌, ◌==◌, ◌&&◌, ◌||◌, not, nat_le, nat_lt, min, List, [], ◌∷◌, ◌++◌, map, length}
use Rattle.std.specs.List.{range_with_len, list_any}
use Rattle.mm_base.specs.Checks.{Check}
use Rattle.mm_base.specs.Numbers.{number_in, has_bit}
use Rattle.mm_base.specs.Range.{share_a_unit}
use Rattle.mm_base.specs.declared.image.Part.{Part}
use Rattle.mm_base.specs.declared.image.PeKind.{PeKind}
use Rattle.mm_base.specs.declared.image.PeKind.TheVariants.{Section, Entry}
use Rattle.mm_base.specs.declared.range.Range.{Range}
use Rattle.pe_loader.specs.Headers.{optional_at, machine_of, part_count, entry_of, image_size, headers_size, table_at, header_checks}
use Rattle.pe_loader.specs.declared.layout.Layout.{Layout}

-- rights by a section's characteristics: 1 where it may be read, 2 where it may be written, 4 where it may be executed
abbrev pub rights_of : ℕ → ℕ
rights_of bits =
    (if has_bit bits 0x4000_0000 then 1 else 0) + (if has_bit bits 0x8000_0000 then 2 else 0) + (if has_bit bits 0x2000_0000 then 4 else 0)

-- the length of a section whose entry stands at a place: its virtual size, or its raw size where that is 0
abbrev pub part_length : List ℕ → ℕ → ℕ
part_length bytes entry =
    let virtual = number_in bytes (entry + 8) 4 in
    if virtual == 0 then number_in bytes (entry + 16) 4 else virtual

-- the section whose entry stands at a place: as many bytes are copied as it has in the file, and no more than its length
unfoldable pub part_from : List ℕ → ℕ → Part
part_from bytes entry = record {
  at = number_in bytes (entry + 12) 4;
  length = part_length bytes entry;
  raw = number_in bytes (entry + 20) 4;
  copied = min (part_length bytes entry) (number_in bytes (entry + 16) 4);
  rights = rights_of (number_in bytes (entry + 36) 4);
}

-- where the k-th entry of the table stands: each has 40 bytes
abbrev pub entry_at : Layout → ℕ → ℕ
entry_at layout k = layout.table + 40 * k

-- the k-th section
abbrev pub part_of : List ℕ → Layout → ℕ → Part
part_of bytes layout k = part_from bytes (entry_at layout k)

-- the sections, in the order of their table
abbrev pub parts_of : List ℕ → Layout → List Part
parts_of bytes layout = map (part_of bytes layout) (range_with_len 0 layout.count)

-- the bytes of the image that a section takes
abbrev pub range_of : Part → Range
range_of part = record { base = part.at; length = part.length }

-- whether a section shares a byte with one of the first n
abbrev pub overlaps_first : (ℕ → Part) → Part → ℕ → Bool
overlaps_first nth part zero = false
overlaps_first nth part (suc n) = overlaps_first nth part n || share_a_unit (range_of (nth n)) (range_of part)

-- whether a section lies behind the headers and in the image, and what it copies lies in the file
abbrev pub lies_in : List ℕ → ℕ → ℕ → Part → Bool
lies_in bytes headers size part =
    nat_le headers part.at && nat_le (part.at + part.length) size && ((part.copied == 0) || nat_le (part.raw + part.copied) (length bytes))

-- the check of the k-th section, which names its entry of the table: it lies where it may, and shares no byte with an earlier one
abbrev pub section_check : List ℕ → Layout → ℕ → Check PeKind
section_check bytes layout k = record {
  kind = Section;
  at = entry_at layout k;
  passes = lies_in bytes layout.headers layout.size (part_of bytes layout k)
      && not (overlaps_first (part_of bytes layout) (part_of bytes layout k) k);
}

-- the checks of the sections, in the order of their table
unfoldable pub section_checks : List ℕ → Layout → List (Check PeKind)
section_checks bytes layout = map (section_check bytes layout) (range_with_len 0 layout.count)

-- whether two bytes from a place on lie in a section that may be executed
abbrev pub holds_code : ℕ → Part → Bool
holds_code place part = has_bit part.rights 4 && nat_le part.at place && nat_le (place + 2) (part.at + part.length)

-- ---- images in the PE32+ format

-- how such an image is laid out
abbrev pub layout_of : List ℕ → Layout
layout_of bytes = record { headers = headers_size bytes; size = image_size bytes; table = table_at bytes; count = part_count bytes }

-- its k-th section, and all of them
abbrev pub part_at : List ℕ → ℕ → Part
part_at bytes k = part_of bytes (layout_of bytes) k

abbrev pub parts : List ℕ → List Part
parts bytes = parts_of bytes (layout_of bytes)

-- whether the entry point is where code can begin: that of EBC stands at an even place and in a section that may be executed; of
-- native code no more is asked than that it lies in the image
abbrev pub entry_passes : List ℕ → Bool
entry_passes bytes =
    if machine_of bytes == 0x0ebc
    then (entry_of bytes % 2 == 0) && list_any (holds_code (entry_of bytes)) (parts bytes)
    else nat_lt (entry_of bytes) (image_size bytes)

abbrev pub entry_check : List ℕ → Check PeKind
entry_check bytes = record { kind = Entry; at = optional_at bytes + 16; passes = entry_passes bytes }

-- all checks but that of the relocations, in order
unfoldable pub checks : List ℕ → List (Check PeKind)
checks bytes = header_checks bytes ++ section_checks bytes (layout_of bytes) ++ (entry_check bytes ∷ [])
