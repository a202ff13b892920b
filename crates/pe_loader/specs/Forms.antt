-- The plain form of an image: its bytes in memory before any fixup.
use Rattle.std.specs.Prelude.{ℕ, ◌+◌, ◌-◌, Bool, if◌then◌else◌, ◌&&◌, nat_le, nat_lt, List, map, find, slice_index}
use Rattle.std.specs.List.{range_with_len}
use Rattle.std.specs.Option.{option_map_or}
use Rattle.mm_base.specs.declared.image.Part.{Part}
use Rattle.pe_loader.specs.Headers.{image_size, headers_size}
use Rattle.pe_loader.specs.Sections.{parts}

-- whether a section copies a byte of the file to a place
abbrev pub copies_to : ℕ → Part → Bool
copies_to place part = nat_le part.at place && nat_lt place (part.at + part.copied)

-- the byte at a place, by how many bytes the headers have and by the sections: that of the file below the end of the headers, the one
-- that a section copies there, or 0
unfoldable pub plain_byte : List ℕ → ℕ → List Part → ℕ → ℕ
plain_byte bytes headers sections place =
    if nat_lt place headers
    then slice_index bytes place
    else option_map_or (λ (part : Part). slice_index bytes (part.raw + (place - part.at))) (find (copies_to place) sections) 0

-- the form: as many bytes as the image has
unfoldable pub form_of : List ℕ → ℕ → ℕ → List Part → List ℕ
form_of bytes headers size sections = map (plain_byte bytes headers sections) (range_with_len 0 size)

-- the plain form of an image in the PE32+ format
abbrev pub plain_form : List ℕ → List ℕ
plain_form bytes = form_of bytes (headers_size bytes) (image_size bytes) (parts bytes)
