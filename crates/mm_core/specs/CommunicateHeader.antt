-- The header of a communicate buffer, by EFI_MM_COMMUNICATE_HEADER of PI 1.8, volume 4: HeaderGuid in 16 bytes,
-- MessageLength in 8, the lowest byte first, and the message from byte 24 on.
use Rattle.std.specs.Prelude.{ℕ, ◌-◌, Bool, ◌==◌, ◌&&◌, nat_le, List, length, take, drop}
use Rattle.mm_base.specs.Numbers.{number_in}
use Rattle.mm_base.specs.declared.entry.Request.{Request}
use Rattle.mm_core.specs.declared.header.Header.{Header}

-- how many bytes the header has: no request is shorter
abbrev pub header_length : ℕ
header_length = 24

-- A request is lawful where its length is at least a header's and it has exactly that many bytes.
abbrev pub is_lawful : Request → Bool
is_lawful request = nat_le header_length request.length && (length request.bytes == request.length)

-- What the header of a lawful request says: whether the message fits the request; the GUID whose handlers the message
-- is for; how many bytes the message has; and how many bytes of the request come before it.
abbrev pub header_of : Request → Header
header_of request =
    let size = number_in request.bytes 16 8 in
    record {
      fits = nat_le size (request.length - header_length);
      guid = record { 0 = take 16 request.bytes };
      size = size;
      front = header_length;
    }

-- the bytes of the header, as they were captured
abbrev pub header_bytes : Request → List ℕ
header_bytes request = take (header_of request).front request.bytes

-- the bytes of the message, as they were captured
abbrev pub message_bytes : Request → List ℕ
message_bytes request = take (header_of request).size (drop (header_of request).front request.bytes)
