-- What stands at a place of a volume: EFI_FFS_FILE_HEADER and EFI_FFS_FILE_HEADER2 of PI 1.8, volume 3. All numbers stand with
-- the lowest byte first.
use Rattle.std.specs.Prelude.{ℕ, ◌+◌, ◌-◌, Bool, if◌then◌else◌, ◌==◌, ◌&&◌, ◌||◌, nat_le, nat_lt, bit_and, bit_xor, List, ◌∷◌, length, take, drop, slice_set}
use Rattle.mm_base.specs.declared.volume.File.{File}
use Rattle.mm_base.specs.Numbers.{number_in, has_bit}
use Rattle.volume_reader.specs.Sums.{sum_in_8_bits}
use Rattle.volume_reader.specs.declared.file_state.FileState.{FileState}
use Rattle.volume_reader.specs.declared.file_state.FileState.TheVariants.{Free, HeaderConstruction, HeaderValid, DataValid, MarkedForUpdate, Deleted, HeaderInvalid}

-- What files are read in: the bytes of the volume, as far as FvLength goes; whether its file system is FFS3; and its erase
-- polarity, which is whether a bit that was erased reads as one.
pub record Area : Type 0 where
  pub bytes : List ℕ
  pub ffs3 : Bool
  pub erase_polarity : Bool

-- the state that these bits tell, EFI_FILE_HEADER_CONSTRUCTION (01) to EFI_FILE_HEADER_INVALID (20): the highest one set decides
abbrev pub state_of : ℕ → FileState
state_of bits =
    if bits == 0 then Free
    else if nat_lt bits 0x02 then HeaderConstruction
    else if nat_lt bits 0x04 then HeaderValid
    else if nat_lt bits 0x08 then DataValid
    else if nat_lt bits 0x10 then MarkedForUpdate
    else if nat_lt bits 0x20 then Deleted
    else HeaderInvalid

-- the state of the file at a place: State, inverted where bits are erased to ones, and of it bits 0 to 5
abbrev pub state_at : Area → ℕ → FileState
state_at area at =
    let state = number_in area.bytes (at + 23) 1 in
    state_of (bit_and (if area.erase_polarity then bit_xor state 0xff else state) 0x3f)

-- IntegrityCheck.Checksum.File: the sum of the body, or FFS_FIXED_CHECKSUM
abbrev pub file_checksum_at : Area → ℕ → ℕ
file_checksum_at area at = number_in area.bytes (at + 17) 1

-- Type
abbrev pub kind_at : Area → ℕ → ℕ
kind_at area at = number_in area.bytes (at + 18) 1

-- Attributes
abbrev pub attributes_at : Area → ℕ → ℕ
attributes_at area at = number_in area.bytes (at + 19) 1

-- whether the file says that it is large: FFS_ATTRIB_LARGE_FILE
abbrev pub says_large : Area → ℕ → Bool
says_large area at = has_bit (attributes_at area at) 0x01

-- whether its header is an EFI_FFS_FILE_HEADER2: FFS2 knows no large files
abbrev pub is_large : Area → ℕ → Bool
is_large area at = area.ffs3 && says_large area at

-- how many bytes the header has
abbrev pub header_size : Area → ℕ → ℕ
header_size area at = if is_large area at then 32 else 24

-- how many bytes the file has with its header: ExtendedSize of a large file, Size of another
abbrev pub size_at : Area → ℕ → ℕ
size_at area at = if is_large area at then number_in area.bytes (at + 24) 8 else number_in area.bytes (at + 20) 3

-- whether so many bytes from a place on lie in the volume
abbrev pub has_room : Area → ℕ → ℕ → Bool
has_room area at size = nat_le (at + size) (length area.bytes)

-- whether the header sums up to 0 in 8 bits, where IntegrityCheck.Checksum.File (17) and State (23) count as 0
abbrev pub header_sum_is_zero : Area → ℕ → Bool
header_sum_is_zero area at =
    let header = take (header_size area at) (drop at area.bytes) in
    sum_in_8_bits (slice_set (slice_set header 17 0) 23 0) == 0

-- whether the size holds the header and leads past no end
abbrev pub size_fits : Area → ℕ → Bool
size_fits area at = nat_le (header_size area at) (size_at area at) && has_room area at (size_at area at)

-- whether this is a pad file, EFI_FV_FILETYPE_FFS_PAD, whose body is asked for nothing
abbrev pub is_pad : Area → ℕ → Bool
is_pad area at = kind_at area at == 0xf0

-- the bytes behind the header
abbrev pub file_body : Area → ℕ → List ℕ
file_body area at = take (size_at area at - header_size area at) (drop (at + header_size area at) area.bytes)

-- whether the body is sound: with FFS_ATTRIB_CHECKSUM it sums up to 0 in 8 bits with IntegrityCheck.Checksum.File, without it that
-- is FFS_FIXED_CHECKSUM
abbrev pub is_sound : Area → ℕ → Bool
is_sound area at =
    is_pad area at
    || (if has_bit (attributes_at area at) 0x40 then sum_in_8_bits (file_checksum_at area at ∷ file_body area at) == 0 else file_checksum_at area at == 0xaa)

-- the file at a place: its name, its type, its size, where its body stands, and whether this is sound
abbrev pub file_at : Area → ℕ → File
file_at area at = record {
  at = at;
  name = record { 0 = take 16 (drop at area.bytes) };
  kind = kind_at area at;
  size = size_at area at;
  body_at = at + header_size area at;
  body = size_at area at - header_size area at;
  sound = is_sound area at;
}
