-- Memory over pages, read and written.
use Rattle.std.proofs.Common.{◌≡◌, ℕ, zero, suc, ◌+◌, ◌-◌, ◌*◌, ◌%◌, ◌≤◌, ◌<◌, ◌^◌, List, [], ◌∷◌, ◌++◌, length, take, drop, set, replicate}
use Rattle.std.proofs.Common.{Bool, true, false, ◌==◌, min}
use Rattle.std.proofs.Common.{refl, inl, inr, sym, ap, subst, ◌∙◌, mul_comm, pow-add, length-set, arith}
use Rattle.std.proofs.Math.Nat.{pow-succ', pow-le-pow_right, mul-le-mul_right, suc-mul}
use Rattle.std.proofs.Math.Pow.{shl_exact, pow_mono}
use Rattle.std.proofs.lemmas.List.{length-take, length-drop, take-append-drop, take-replicate, get_or-replicate}
use Rattle.mm_base.specs.Frames.{ArePages, IsLive, page_in, with_piece, zeros}
use Rattle.mm_base.specs.Numbers.{overwritten, number_of, number_in}
use Rattle.mm_memory.specs.Flat.{MemoryState, joined, AreLive, IsWidth, IsWhole}
use Rattle.mm_memory.proofs.PageLemmas.{chunk_of_page, joined-with_piece, length-joined, are_pages-with_piece, overwritten-after}
use Rattle.mm_memory.proofs.PageLemmas.{length-overwritten, number_in-split, length-zeros, overwritten-whole, size_of_page}

-- ---- numbers of two parts

pow_256 : (k : ℕ) → 256 ^ k ≡ 2 ^ (8 * k)
pow_256 zero = refl
pow_256 (suc k) =
    let bits : 8 * suc k ≡ 8 + 8 * k = omega arith in
    pow-succ' 256 k ∙ ap (λ m. 256 * m) (pow_256 k) ∙ sym (ap (λ n. 2 ^ n) bits ∙ pow-add 2 8 (8 * k))

module _ (low high k n : ℕ) (few : k + n ≤ 8) (low_small : low < 256 ^ k) (high_small : high < 256 ^ n) where
  -- nothing of the upper part is shifted out
  pub shifted : high * 2 ^ (8 * k) % 18446744073709551616 ≡ 256 ^ k * high
  shifted =
      let P : ℕ → Type 0 = λ m. high < m in
      let small : high < 2 ^ (8 * n) = subst P (pow_256 n) high_small in
      shl_exact (8 * n) (8 * k) 64 small (omega arith) ∙ ap (λ m. high * m) (sym (pow_256 k)) ∙ mul_comm high (256 ^ k)

  -- both parts together are small
  pub both_small : low + 256 ^ k * high < 256 ^ (k + n)
  both_small =
      let more : suc high * 256 ^ k ≤ 256 ^ n * 256 ^ k = mul-le-mul_right (256 ^ k) high_small in
      let parts : suc high * 256 ^ k ≡ high * 256 ^ k + 256 ^ k = suc-mul high (256 ^ k) in
      let swapped : high * 256 ^ k ≡ 256 ^ k * high = mul_comm high (256 ^ k) in
      let all : 256 ^ (k + n) ≡ 256 ^ n * 256 ^ k = pow-add 256 k n ∙ mul_comm (256 ^ k) (256 ^ n) in
      omega (arith, more, parts, swapped, all)

  pub both_fit : low + 256 ^ k * high < 18446744073709551616
  both_fit =
      let most : 256 ^ (k + n) ≤ 256 ^ 8 = pow-le-pow_right (omega arith) few in
      omega (arith, both_small, most)

-- a number has some bytes, and at most eight
pub width_bounds : (n : ℕ) → IsWidth n → (1 ≤ n) × (n ≤ 8)
width_bounds n (inl is) = (omega arith, omega arith)
width_bounds n (inr (inl is)) = (omega arith, omega arith)
width_bounds n (inr (inr (inl is))) = (omega arith, omega arith)
width_bounds n (inr (inr (inr is))) = (omega arith, omega arith)

-- what isn't empty has something
pub some_left : (n : ℕ) (b : Bool) → b ≡ (n == 0) → b ≡ false → 0 < n
some_left zero b is left = let wrong : true ≡ false = sym is ∙ left in cc
some_left (suc n) b is left = omega arith

-- ---- memory

module _ (pages : List (List ℕ)) (live : List Bool) (whole : IsWhole pages live) (at page offset : ℕ) (is : at ≡ 4096 * page + offset)
    (small : offset < 4096) where
  -- the page of a byte of memory is there
  pub page_is_there : at < length (joined pages) → page < length pages
  page_is_there within = omega (arith, length-joined pages whole.are)

  -- a number within one page
  pub read_here : (n : ℕ) → 1 ≤ n → n ≤ 4096 - offset → at + n ≤ length (joined pages)
      → number_in (page_in pages page) offset n ≡ number_in (joined pages) at n
  read_here n some fits within =
      ap number_of (chunk_of_page pages page offset n whole.are (page_is_there (omega arith)) (omega arith))
      ∙ ap (λ k. number_in (joined pages) k n) (sym is)

  -- a number of two pages
  pub read_across : (n : ℕ) → 4096 - offset < n → n ≤ 4096 → at + n ≤ length (joined pages)
      → number_in (page_in pages page) offset (4096 - offset) + 256 ^ (4096 - offset) * number_in (page_in pages (page + 1)) 0
      (n - (4096 - offset))
      ≡ number_in (joined pages) at n
  read_across n past few within =
      let k = 4096 - offset in
      let there : page + 1 < length pages = omega (arith, length-joined pages whole.are) in
      let next : at + k ≡ 4096 * (page + 1) + 0 = omega arith in
      let high : number_in (page_in pages (page + 1)) 0 (n - k) ≡ number_in (joined pages) (at + k) (n - k) =
      ap number_of (chunk_of_page pages (page + 1) 0 (n - k) whole.are there (omega arith))
      ∙ ap (λ j. number_in (joined pages) j (n - k)) (sym next) in
      let sum : k + (n - k) ≡ n = omega arith in
      ap (λ m. m + 256 ^ k * number_in (page_in pages (page + 1)) 0 (n - k)) (read_here k (omega arith) (omega arith) (omega arith))
      ∙ ap (λ m. number_in (joined pages) at k + 256 ^ k * m) high
      ∙ sym (number_in-split (joined pages) at k (n - k) (omega arith))
      ∙ ap (number_in (joined pages) at) sum

  -- a piece within one page
  pub write_here : (piece : List ℕ) → page < length pages → offset + length piece ≤ 4096
      → joined (with_piece pages page offset piece) ≡ overwritten (joined pages) at piece
  write_here piece there fits =
      joined-with_piece pages page offset piece whole.are there fits ∙ ap (λ k. overwritten (joined pages) k piece) (sym is)

-- pages with a piece written to one of them are whole again
pub whole-with_piece : (pages after : List (List ℕ)) (live now : List Bool) (page at : ℕ) (piece : List ℕ) → IsWhole pages live
    → page < length pages → at + length piece ≤ 4096 → after ≡ with_piece pages page at piece → now ≡ live → IsWhole after now
whole-with_piece pages after live now page at piece whole there fits is same =
    let count : length after ≡ length pages = ap length is ∙ length-set pages page _ in
    record {
      are = subst ArePages (sym is) (are_pages-with_piece pages page at piece whole.are there fits);
      few = omega (arith, count, whole.few);
      flags = ap length same ∙ whole.flags ∙ sym count;
    }

-- what is left to write after a piece gives the same as what was left before it
pub goes_on : (bytes after rest piece more : List ℕ) (from here : ℕ) → after ≡ overwritten bytes from piece → piece ≡ take here rest
    → more ≡ drop here rest → here ≤ length rest → from + length rest ≤ length bytes
    → overwritten after (from + here) more ≡ overwritten bytes from rest
goes_on bytes after rest piece more from here after_is piece_is more_is within fits =
    let long : here ≡ length piece = omega (arith, ap length piece_is, length-take here rest) in
    let left : length more ≡ length rest - here = ap length more_is ∙ length-drop here rest in
    let both : piece ++ more ≡ rest =
    ap (λ (front : List ℕ). front ++ more) piece_is ∙ ap (λ (back : List ℕ). take here rest ++ back) more_is ∙ take-append-drop here rest in
    ap (λ (all : List ℕ). overwritten all (from + here) more) after_is
    ∙ ap (λ k. overwritten (overwritten bytes from piece) (from + k) more) long
    ∙ overwritten-after bytes piece more from (omega arith)
    ∙ ap (overwritten bytes from) both

-- ---- clearing

-- the first of some zeros, and the others
pub zeros-take : (k n : ℕ) → k ≤ n → zeros k ≡ take k (zeros n)
unfolding zeros
zeros-take k n fits = sym (take-replicate k n 0 fits)

pub zeros-drop : (k n : ℕ) → k ≤ n → zeros (n - k) ≡ drop k (zeros n)
unfolding zeros
zeros-drop zero n fits =
    let all : n - zero ≡ n = omega arith in
    ap (λ m. zeros m) all
zeros-drop (suc k) zero fits = absurd (omega arith)
zeros-drop (suc k) (suc n) fits =
    let less : suc n - suc k ≡ n - k = omega arith in
    ap (λ m. zeros m) less ∙ zeros-drop k n (omega arith)

-- clearing what is left after some were cleared
pub clears_on : (bytes after : List ℕ) (from here most : ℕ) → after ≡ overwritten bytes from (zeros here) → here ≤ most
    → from + most ≤ length bytes
    → overwritten after (from + here) (zeros (most - here)) ≡ overwritten bytes from (zeros most)
clears_on bytes after from here most is fits within =
    goes_on bytes after (zeros most) (zeros here) (zeros (most - here)) from here is (zeros-take here most fits) (zeros-drop here most fits)
    (omega (arith, length-zeros most)) (omega (arith, length-zeros most))

module _ (pages after : List (List ℕ)) (live : List Bool) (whole : IsWhole pages live) (page : ℕ) (there : page < length pages)
    (is : after ≡ set pages page (zeros 4096)) where
  -- filling a page with zeros is a piece of zeros written to it
  pub page_of_zeros : after ≡ with_piece pages page 0 (zeros 4096)
  page_of_zeros =
      is ∙ ap (set pages page)
      (sym (overwritten-whole (page_in pages page) (zeros 4096) (size_of_page pages page whole.are there ∙ sym (length-zeros 4096))))

-- some of the zeros of a block
pub zeros_of_block : (n : ℕ) (block piece : List ℕ) → n ≤ 64 → block ≡ replicate 64 0 → piece ≡ take n block → piece ≡ zeros n
unfolding zeros
zeros_of_block n block piece few is front = front ∙ ap (take n) is ∙ take-replicate n 64 0 few

-- ---- tests

-- where all pages are live, those of any bytes in range are
pub all_live : (pages at n : ℕ) (live : List Bool) → live ≡ replicate pages true → at + n ≤ 4096 * pages → AreLive live at n
all_live pages at n live is within page begins ends =
    let P : List Bool → Type 0 = λ live. IsLive live page in
    subst P (sym is) (get_or-replicate pages page true false (omega arith))
