-- The headers of an image: PE32+ as UEFI images use it. A DOS header leads to the PE signature, the COFF file header follows it, and
-- then the optional header and the section table. All numbers stand with the lowest byte first. The order in which they are checked is
-- this project's own.
use Rattle.std.specs.Prelude.{ℕ, ◌+◌, ◌*◌, Bool, if◌then◌else◌, ◌==◌, ◌&&◌, ◌||◌, not, nat_le, nat_lt, List, [], ◌∷◌, length, take, drop, codes}
use Rattle.std.specs.Str.{bytes_eq}
use Rattle.courses.specs.FirstCheck.{FailsFirst as IsFirstFailing}
use Rattle.mm_base.specs.Checks.{Check}
use Rattle.mm_base.specs.Numbers.{number_in}
use Rattle.mm_base.specs.declared.image.PeFault.{PeFault}
use Rattle.mm_base.specs.declared.image.PeKind.{PeKind}
use Rattle.mm_base.specs.declared.image.PeKind.TheVariants.{Short, Mz, Lfanew, Signature, Machine, Magic, Optional, Subsystem, Size, Headers}
use Rattle.mm_base.specs.declared.range.Range.{Range}

-- where the PE signature stands, and the optional header behind it and the file header
abbrev pub pe_at : List ℕ → ℕ
pe_at bytes = number_in bytes 0x3c 4

abbrev pub optional_at : List ℕ → ℕ
optional_at bytes = pe_at bytes + 24

-- fields of the file header: Machine, NumberOfSections, SizeOfOptionalHeader
abbrev pub machine_of : List ℕ → ℕ
machine_of bytes = number_in bytes (pe_at bytes + 4) 2

abbrev pub part_count : List ℕ → ℕ
part_count bytes = number_in bytes (pe_at bytes + 6) 2

abbrev pub optional_size : List ℕ → ℕ
optional_size bytes = number_in bytes (pe_at bytes + 20) 2

-- fields of the optional header: Magic, AddressOfEntryPoint, ImageBase, SizeOfImage, SizeOfHeaders, Subsystem, NumberOfRvaAndSizes
abbrev pub magic_of : List ℕ → ℕ
magic_of bytes = number_in bytes (optional_at bytes) 2

abbrev pub entry_of : List ℕ → ℕ
entry_of bytes = number_in bytes (optional_at bytes + 16) 4

abbrev pub base_of : List ℕ → ℕ
base_of bytes = number_in bytes (optional_at bytes + 24) 8

abbrev pub image_size : List ℕ → ℕ
image_size bytes = number_in bytes (optional_at bytes + 56) 4

abbrev pub headers_size : List ℕ → ℕ
headers_size bytes = number_in bytes (optional_at bytes + 60) 4

abbrev pub subsystem_of : List ℕ → ℕ
subsystem_of bytes = number_in bytes (optional_at bytes + 68) 2

abbrev pub directory_count : List ℕ → ℕ
directory_count bytes = number_in bytes (optional_at bytes + 108) 4

-- where the section table stands, and its k-th entry of 40 bytes
abbrev pub table_at : List ℕ → ℕ
table_at bytes = optional_at bytes + optional_size bytes

abbrev pub section_at : List ℕ → ℕ → ℕ
section_at bytes k = table_at bytes + 40 * k

-- where the section table ends
abbrev pub table_end : List ℕ → ℕ
table_end bytes = section_at bytes (part_count bytes)

-- the relocation directory, which is directory 5: none where there are no six directories, or where its size is 0
unfoldable pub relocs_of : List ℕ → Range
relocs_of bytes =
    let size = number_in bytes (optional_at bytes + 156) 4 in
    if nat_lt 5 (directory_count bytes) && not (size == 0)
    then record { base = number_in bytes (optional_at bytes + 152) 4; length = size }
    else record { base = 0; length = 0 }

-- whether the optional header has room for its directories, and the section table behind it lies in the file
abbrev pub optional_fits : List ℕ → Bool
optional_fits bytes =
    nat_le (112 + 8 * directory_count bytes) (optional_size bytes) && nat_le (table_end bytes) (length bytes)

-- whether the headers span the section table, and lie in the file and in the image
abbrev pub headers_fit : List ℕ → Bool
headers_fit bytes =
    nat_le (table_end bytes) (headers_size bytes)
    && nat_le (headers_size bytes) (length bytes)
    && nat_le (headers_size bytes) (image_size bytes)

-- The checks of the headers, in order. The optional header is one of PE32+; subsystems 11 and 12 are those of drivers, of boot services
-- and of the runtime.
unfoldable pub header_checks : List ℕ → List (Check PeKind)
header_checks bytes =
    record { kind = Short; at = 0; passes = nat_le 64 (length bytes) }
    ∷ record { kind = Mz; at = 0; passes = bytes_eq (take 2 bytes) (codes "MZ") }
    ∷ record { kind = Lfanew; at = 0x3c; passes = nat_le (pe_at bytes + 136) (length bytes) }
    ∷ record { kind = Signature; at = pe_at bytes; passes = bytes_eq (take 4 (drop (pe_at bytes) bytes)) (0x50 ∷ 0x45 ∷ 0 ∷ 0 ∷ []) }
    ∷ record { kind = Machine; at = pe_at bytes + 4; passes = (machine_of bytes == 0x0ebc) || (machine_of bytes == 0x8664) || (machine_of bytes == 0xaa64) }
    ∷ record { kind = Magic; at = optional_at bytes; passes = magic_of bytes == 0x20b }
    ∷ record { kind = Optional; at = pe_at bytes + 20; passes = optional_fits bytes }
    ∷ record { kind = Subsystem; at = optional_at bytes + 68; passes = (subsystem_of bytes == 11) || (subsystem_of bytes == 12) }
    ∷ record { kind = Size; at = optional_at bytes + 56; passes = nat_lt 0 (image_size bytes) && nat_le (image_size bytes) 16777216 }
    ∷ record { kind = Headers; at = optional_at bytes + 60; passes = headers_fit bytes }
    ∷ []

-- The first of these checks that fails is the fault.
abbrev pub FailsFirst : List (Check PeKind) → PeFault → Type 0
FailsFirst checks fault = IsFirstFailing checks fault.kind fault.at
