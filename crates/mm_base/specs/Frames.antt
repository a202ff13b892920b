-- Pages of memory, by their bytes and by which of them are live.
use Rattle.std.specs.Prelude.{◌≡◌, ℕ, Bool, true, false, List, [], length, get_or, set, replicate, All}
use Rattle.mm_base.specs.Numbers.{overwritten}

-- Each page has 4,096 bytes.
abbrev pub ArePages : List (List ℕ) → Type 0
ArePages pages = All (λ page. length page ≡ 4096) pages

-- n bytes that are 0
unfoldable pub zeros : ℕ → List ℕ
zeros n = replicate n 0

-- a page is live: it is there, and may be read and written
abbrev pub IsLive : List Bool → ℕ → Type 0
IsLive live page = get_or live page false ≡ true

-- the bytes of a page
abbrev pub page_in : List (List ℕ) → ℕ → List ℕ
page_in pages page = get_or pages page []

-- the pages, with a piece written over one of them from a place on
abbrev pub with_piece : List (List ℕ) → ℕ → ℕ → List ℕ → List (List ℕ)
with_piece pages page at piece = set pages page (overwritten (page_in pages page) at piece)
