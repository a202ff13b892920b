-- The sections of an image by rising address, as a function of its parts in whatever order they come.
use Rattle.std.specs.Prelude.{◌≡◌, ℕ, ◌+◌, ◌≤◌, Bool, false, if◌then◌else◌, nat_le, nat_lt, List, [], ◌∷◌, filter}
use Rattle.std.specs.Prelude.{All, AllPairs}
use Rattle.mm_base.specs.Range.{share_a_unit}
use Rattle.mm_base.specs.declared.image.Part.{Part}
use Rattle.mm_base.specs.declared.range.Range.{Range}

-- the bytes that a part takes, counted from the image's begin
abbrev pub part_range : Part → Range
part_range part = record { base = part.at; length = part.length }

-- Each part lies from one place of the image to another.
abbrev pub LieBetween : ℕ → ℕ → List Part → Type 0
LieBetween low high = All (λ part. (low ≤ part.at) × (part.at + part.length ≤ high))

-- No two parts share a byte.
abbrev pub AreApart : List Part → Type 0
AreApart = AllPairs (λ part later. share_a_unit (part_range part) (part_range later) ≡ false)

-- whether a part has bytes: a section without any has no home range
abbrev pub has_bytes : Part → Bool
has_bytes part = nat_lt 0 part.length

-- rising parts with one more, before those that begin where it does or later
abbrev pub with_part : Part → List Part → List Part
with_part part [] = part ∷ []
with_part part (first ∷ parts) = if nat_le part.at first.at then part ∷ first ∷ parts else first ∷ with_part part parts

-- parts by rising address
abbrev pub in_order : List Part → List Part
in_order [] = []
in_order (part ∷ parts) = with_part part (in_order parts)

-- the sections that have bytes, by rising address
abbrev pub sections_of : List Part → List Part
sections_of parts = in_order (filter has_bytes parts)
