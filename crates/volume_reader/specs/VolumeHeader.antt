-- The header of a firmware volume: EFI_FIRMWARE_VOLUME_HEADER and EFI_FIRMWARE_VOLUME_EXT_HEADER of PI 1.8, volume 3. The order in
-- which it is checked, and what is refused, are this project's own. All numbers stand with the lowest byte first.
use Rattle.std.specs.Prelude.{ℕ, ◌+◌, ◌*◌, ◌/◌, ◌%◌, Bool, if◌then◌else◌, ◌==◌, ◌&&◌, ◌||◌, nat_le, List, [], ◌∷◌, length, take, drop, codes, Option}
use Rattle.std.specs.Str.{bytes_eq}
use Rattle.mm_base.specs.Checks.{Check, first_failing as first_failing_of}
use Rattle.mm_base.specs.Numbers.{number_in, has_bit}
use Rattle.mm_base.specs.declared.volume.VolumeKind.{VolumeKind}
use Rattle.mm_base.specs.declared.volume.VolumeKind.TheVariants.{Short, Signature, HeaderLength, HeaderSum, Revision, FileSystem, Length, ExtHeader}
use Rattle.volume_reader.specs.Sums.{sum_in_16_bits}

-- FileSystemGuid: the file system, as its GUID is stored
abbrev pub file_system : List ℕ → List ℕ
file_system bytes = take 16 (drop 16 bytes)

-- FvLength: how many bytes the volume has, with its header
abbrev pub volume_length : List ℕ → ℕ
volume_length bytes = number_in bytes 32 8

-- Attributes, of type EFI_FVB_ATTRIBUTES_2
abbrev pub attributes : List ℕ → ℕ
attributes bytes = number_in bytes 44 4

-- HeaderLength: how many bytes the header has, with its block map
abbrev pub header_length : List ℕ → ℕ
header_length bytes = number_in bytes 48 2

-- ExtHeaderOffset: where the extended header stands, or 0 where there is none
abbrev pub ext_header : List ℕ → ℕ
ext_header bytes = number_in bytes 52 2

-- ExtHeaderSize of the extended header: how many bytes it has; it stands behind FvName, which has 16 bytes
abbrev pub ext_size : List ℕ → ℕ
ext_size bytes = number_in bytes (ext_header bytes + 16) 4

-- EFI_FIRMWARE_FILE_SYSTEM2_GUID, 8c8ce578-8a3d-4f1c-9935-896185c32dd3, as it is stored
abbrev pub ffs2_guid : List ℕ
ffs2_guid = 0x78 ∷ 0xe5 ∷ 0x8c ∷ 0x8c ∷ 0x3d ∷ 0x8a ∷ 0x1c ∷ 0x4f ∷ 0x99 ∷ 0x35 ∷ 0x89 ∷ 0x61 ∷ 0x85 ∷ 0xc3 ∷ 0x2d ∷ 0xd3 ∷ []

-- EFI_FIRMWARE_FILE_SYSTEM3_GUID, 5473c07a-3dcb-4dca-bd6f-1e9689e7349a, as it is stored
abbrev pub ffs3_guid : List ℕ
ffs3_guid = 0x7a ∷ 0xc0 ∷ 0x73 ∷ 0x54 ∷ 0xcb ∷ 0x3d ∷ 0xca ∷ 0x4d ∷ 0xbd ∷ 0x6f ∷ 0x1e ∷ 0x96 ∷ 0x89 ∷ 0xe7 ∷ 0x34 ∷ 0x9a ∷ []

-- whether the file system is FFS3, which knows large files
abbrev pub is_ffs3 : List ℕ → Bool
is_ffs3 bytes = bytes_eq (file_system bytes) ffs3_guid

-- whether there is no extended header, or it has at least its 20 bytes and lies in the volume
abbrev pub ext_header_fits : List ℕ → Bool
ext_header_fits bytes =
    (ext_header bytes == 0)
    || (nat_le (ext_header bytes + 20) (volume_length bytes) && nat_le 20 (ext_size bytes) && nat_le (ext_header bytes + ext_size bytes) (volume_length bytes))

-- the checks of a volume header, in order, each with the place of the field that it is about: there are 64 bytes; Signature is
-- EFI_FVH_SIGNATURE; HeaderLength; Checksum; Revision; FileSystemGuid; FvLength; and ExtHeaderOffset
abbrev pub checks : List ℕ → List (Check VolumeKind)
checks bytes =
    record { kind = Short; at = 0; passes = nat_le 64 (length bytes) }
    ∷ record { kind = Signature; at = 40; passes = bytes_eq (take 4 (drop 40 bytes)) (codes "_FVH") }
    ∷ record { kind = HeaderLength; at = 48; passes = nat_le 64 (header_length bytes) && (header_length bytes % 2 == 0) && nat_le (header_length bytes) (length bytes) }
    ∷ record { kind = HeaderSum; at = 50; passes = sum_in_16_bits (take (header_length bytes) bytes) == 0 }
    ∷ record { kind = Revision; at = 55; passes = number_in bytes 55 1 == 2 }
    ∷ record { kind = FileSystem; at = 16; passes = bytes_eq (file_system bytes) ffs2_guid || is_ffs3 bytes }
    ∷ record { kind = Length; at = 32; passes = nat_le (header_length bytes) (volume_length bytes) && nat_le (volume_length bytes) (length bytes) }
    ∷ record { kind = ExtHeader; at = 52; passes = ext_header_fits bytes }
    ∷ []

-- the first check that these bytes don't pass
abbrev pub first_failing : List ℕ → Option (Check VolumeKind)
first_failing bytes = first_failing_of (checks bytes)

-- a number rounded up to a multiple of 8
abbrev pub up_to_8 : ℕ → ℕ
up_to_8 n = 8 * ((n + 7) / 8)

-- where the first file stands: behind the header, or behind the extended one, at a multiple of 8
abbrev pub first_place : List ℕ → ℕ
first_place bytes = up_to_8 (if ext_header bytes == 0 then header_length bytes else ext_header bytes + ext_size bytes)

-- EFI_FVB2_ERASE_POLARITY: whether a bit that was erased, and not written since, reads as one
abbrev pub erase_polarity : List ℕ → Bool
erase_polarity bytes = has_bit (attributes bytes) 0x800
