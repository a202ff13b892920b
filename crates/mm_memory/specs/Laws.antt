-- What memory says of the bytes that are written to it.
use Rattle.std.specs.Prelude.{◌≡◌, ℕ, ◌+◌, ◌*◌, ◌≤◌, ◌⊎◌, List, length, take, drop}
use Rattle.mm_base.specs.Numbers.{overwritten}
use Rattle.mm_memory.specs.Flat.{joined, pages_in}

-- Bytes are those of the pages that they lie in.
abbrev pub PagesAreBytes : Type 0
PagesAreBytes = (n : ℕ) (bytes : List ℕ) → length bytes ≡ 4096 * n → joined (pages_in n bytes) ≡ bytes

-- A piece that was written is read back from its place.
abbrev pub PieceIsReadBack : Type 0
PieceIsReadBack =
    (bytes piece : List ℕ) (at : ℕ)
    → at + length piece ≤ length bytes
    → take (length piece) (drop at (overwritten bytes at piece)) ≡ piece

-- Bytes before the piece and after it stay.
abbrev pub RestStays : Type 0
RestStays =
    (bytes piece : List ℕ) (at from n : ℕ)
    → at + length piece ≤ length bytes
    → (from + n ≤ at) ⊎ (at + length piece ≤ from)
    → take n (drop from (overwritten bytes at piece)) ≡ take n (drop from bytes)
