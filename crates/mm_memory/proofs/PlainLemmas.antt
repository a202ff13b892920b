-- Pages in one vector, read and written.
use Rattle.std.proofs.Common.{◌≡◌, ℕ, zero, suc, ◌+◌, ◌*◌, ◌≤◌, ◌<◌, ◌^◌, List, [], ◌∷◌, ◌++◌, length, take, drop, set, replicate, get_or}
use Rattle.std.proofs.Common.{Bool, true, false, refl, sym, ap, subst, ◌∙◌, length-set, arith}
use Rattle.mm_base.specs.Frames.{ArePages, page_in, with_piece, zeros}
use Rattle.mm_base.specs.Numbers.{overwritten, number_of, number_in}
use Rattle.mm_memory.specs.Flat.{PlainState, joined, pages_in}
use Rattle.mm_memory.proofs.PageLemmas.{chunk_of_page, joined-with_piece, joined-pages_in, are_pages-pages_in, pages_in-joined}
use Rattle.mm_memory.proofs.PageLemmas.{length-pages_in, are_pages-with_piece, size_of_page, length-zeros, overwritten-whole}

-- a live page is there
pub live_is_there : (n page : ℕ) → get_or (replicate n true) page false ≡ true → page < n
live_is_there zero page live = let wrong : false ≡ true = live in cc
live_is_there (suc n) zero live = omega arith
live_is_there (suc n) (suc page) live = omega (arith, live_is_there n page live)

-- the size that the vector has, as contracts see it
pub size_of_plain : (inside now : PlainState) → inside ≡ now → length inside.bytes ≡ 4096 * inside.pages
    → length now.bytes ≡ 4096 * now.pages
size_of_plain inside now is size = let P : PlainState → Type 0 = λ plain. length plain.bytes ≡ 4096 * plain.pages in subst P is size

module _ (n : ℕ) (bytes : List ℕ) (size : length bytes ≡ 4096 * n) where
  plain_chunk : (page at k : ℕ) → page < n → at + k ≤ 4096
      → take k (drop at (page_in (pages_in n bytes) page)) ≡ take k (drop (4096 * page + at) bytes)
  plain_chunk page at k there fits =
      chunk_of_page (pages_in n bytes) page at k (are_pages-pages_in n bytes size) (omega (arith, length-pages_in n bytes)) fits
      ∙ ap (λ (all : List ℕ). take k (drop (4096 * page + at) all)) (joined-pages_in n bytes size)

  -- what is read of a page
  pub plain_read : (page at k : ℕ) → page < n → at + k ≤ 4096
      → number_in bytes (4096 * page + at) k ≡ number_in (page_in (pages_in n bytes) page) at k
  plain_read page at k there fits = ap number_of (sym (plain_chunk page at k there fits))

  -- what is written to a page
  pub plain_write : (page at : ℕ) (piece : List ℕ) → page < n → at + length piece ≤ 4096
      → pages_in n (overwritten bytes (4096 * page + at) piece) ≡ with_piece (pages_in n bytes) page at piece
  plain_write page at piece there fits =
      let pages : List (List ℕ) = pages_in n bytes in
      let after : List (List ℕ) = with_piece pages page at piece in
      let are = are_pages-pages_in n bytes size in
      let count : length after ≡ n = length-set pages page _ ∙ length-pages_in n bytes in
      let within : page < length pages = omega (arith, length-pages_in n bytes) in
      let same : joined after ≡ overwritten bytes (4096 * page + at) piece =
      joined-with_piece pages page at piece are within fits
      ∙ ap (λ (all : List ℕ). overwritten all (4096 * page + at) piece) (joined-pages_in n bytes size) in
      ap (pages_in n) (sym same)
      ∙ ap (λ count. pages_in count (joined after)) (sym count)
      ∙ pages_in-joined after (are_pages-with_piece pages page at piece are within fits)

  -- what filling a page with zeros leaves
  pub plain_zero : (page : ℕ) → page < n
      → pages_in n (overwritten bytes (4096 * page + 0) (zeros 4096)) ≡ set (pages_in n bytes) page (zeros 4096)
  plain_zero page there =
      let pages : List (List ℕ) = pages_in n bytes in
      let are = are_pages-pages_in n bytes size in
      let within : page < length pages = omega (arith, length-pages_in n bytes) in
      plain_write page 0 (zeros 4096) there (omega (arith, length-zeros 4096))
      ∙ ap (set pages page)
      (overwritten-whole (page_in pages page) (zeros 4096) (size_of_page pages page are within ∙ sym (length-zeros 4096)))

module _ (inside now : PlainState) (is : inside ≡ now) (size : length inside.bytes ≡ 4096 * inside.pages) where
  -- the pages after a piece was written to one of them
  pub plain_piece : (page at place : ℕ) (told piece after : List ℕ) → page < now.pages → at + length piece ≤ 4096
      → place ≡ 4096 * page + at → told ≡ piece → after ≡ overwritten inside.bytes place told
      → pages_in inside.pages after ≡ with_piece (pages_in now.pages now.bytes) page at piece
  plain_piece page at place told piece after there fits place_is told_is after_is =
      ap (λ (plain : PlainState). pages_in plain.pages after) is
      ∙ ap (pages_in now.pages) (
      after_is
      ∙ ap (λ (plain : PlainState). overwritten plain.bytes place told) is
      ∙ ap (λ k. overwritten now.bytes k told) place_is
      ∙ ap (overwritten now.bytes (4096 * page + at)) told_is
      )
      ∙ plain_write now.pages now.bytes (size_of_plain inside now is size) page at piece there fits

  -- the pages after one of them was filled with zeros
  pub plain_page : (page place : ℕ) (after : List ℕ) → page < now.pages
      → place ≡ 4096 * page + 0 → after ≡ overwritten inside.bytes place (zeros 4096)
      → pages_in inside.pages after ≡ set (pages_in now.pages now.bytes) page (zeros 4096)
  plain_page page place after there place_is after_is =
      ap (λ (plain : PlainState). pages_in plain.pages after) is
      ∙ ap (pages_in now.pages) (
      after_is
      ∙ ap (λ (plain : PlainState). overwritten plain.bytes place (zeros 4096)) is
      ∙ ap (λ k. overwritten now.bytes k (zeros 4096)) place_is
      )
      ∙ plain_zero now.pages now.bytes (size_of_plain inside now is size) page there
