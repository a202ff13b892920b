-- Memory as one list of bytes, and the pages that it lies in.
use Rattle.std.specs.Prelude.{◌≡◌, ℕ, zero, suc, ◌+◌, ◌*◌, ◌^◌, ◌<◌, ◌⊎◌, Bool, List, [], ◌∷◌, ◌++◌, length, take, drop}
use Rattle.mm_base.specs.Frames.{ArePages, IsLive}

-- What contracts see of memory: its bytes, counted from 0, and which of its pages of 4,096 bytes are live.
pub record MemoryState : Type 0 where
  pub bytes : List ℕ
  pub live : List Bool

-- the bytes of pages, one page after another
abbrev pub joined : List (List ℕ) → List ℕ
joined [] = []
joined (page ∷ pages) = page ++ joined pages

-- the n pages that bytes lie in
abbrev pub pages_in : ℕ → List ℕ → List (List ℕ)
pages_in zero bytes = []
pages_in (suc n) bytes = take 4096 bytes ∷ pages_in n (drop 4096 bytes)

-- What contracts see of pages in one vector: how many there are, and their bytes, one page after another.
pub record PlainState : Type 0 where
  pub pages : ℕ
  pub bytes : List ℕ

-- Each page that has some of the n bytes from a place on is live.
abbrev pub AreLive : List Bool → ℕ → ℕ → Type 0
AreLive live at n = (page : ℕ) → 4096 * page < at + n → at < 4096 * page + 4096 → IsLive live page

-- numbers stand in 1, 2, 4 or 8 bytes
abbrev pub IsWidth : ℕ → Type 0
IsWidth n = (n ≡ 1) ⊎ ((n ≡ 2) ⊎ ((n ≡ 4) ⊎ (n ≡ 8)))

-- What each memory keeps: its pages are pages, fewer than 2 ^ 32, with one flag each.
pub record IsWhole (pages : List (List ℕ)) (live : List Bool) : Type 0 where
  pub are : ArePages pages
  pub few : length pages < 2 ^ 32
  pub flags : length live ≡ length pages
