-- Byte cells, read and written.
use Rattle.std.proofs.Common.{◌≡◌, ℕ, zero, suc, ◌+◌, ◌-◌, ◌*◌, ◌%◌, ◌≤◌, ◌<◌, ◌^◌, List, [], ◌∷◌, ◌++◌, length, take, drop, get_or}
use Rattle.std.proofs.Common.{◌⊎◌, inl, inr, sym, ap, subst, ◌∙◌, append_assoc, length-append, mul_assoc, lit<, arith}
use Rattle.std.proofs.Math.Nat.{pow-succ'}
use Rattle.std.proofs.Math.Seq.{drop-append-add, take-length}
use Rattle.std.proofs.lemmas.List.{take-append-le, take-append-drop, length-take, length-drop}
use Rattle.std.proofs.lemmas.List.{get_or_append_left, get_or-append_right, get_or-take, get_or-drop}
use Rattle.std.proofs.lemmas.Nat.{mod-mul-add}
use Rattle.mm_base.specs.Numbers.{overwritten, number_of, number_in, low_bytes, bytes_of_word}
use Rattle.mm_base.proofs.NumberLemmas.{number_of-bytes_of_word}

-- ---- numbers

abbrev pub AreSmall : List ℕ → Type 0
AreSmall bytes = (i : ℕ) → get_or bytes i 0 < 256

small-drop : (n : ℕ) (bytes : List ℕ) → AreSmall bytes → AreSmall (drop n bytes)
small-drop zero bytes small = small
small-drop (suc n) [] small = small
small-drop (suc n) (byte ∷ bytes) small = small-drop n bytes (λ i. small (suc i))

small-take : (n : ℕ) (bytes : List ℕ) → AreSmall bytes → AreSmall (take n bytes)
small-take zero bytes small i = lit< tt
small-take (suc n) [] small i = lit< tt
small-take (suc n) (byte ∷ bytes) small zero = small 0
small-take (suc n) (byte ∷ bytes) small (suc i) = small-take n bytes (λ i. small (suc i)) i

-- a number is small where its bytes are
number_of-lt : (bytes : List ℕ) → AreSmall bytes → number_of bytes < 256 ^ length bytes
number_of-lt [] small = lit< tt
number_of-lt (byte ∷ bytes) small =
    let here : byte < 256 = small 0 in
    let rest = number_of-lt bytes (λ i. small (suc i)) in
    let power : 256 ^ suc (length bytes) ≡ 256 * 256 ^ length bytes = pow-succ' 256 (length bytes) in
    omega arith

pub number_in-lt : (bytes : List ℕ) (at n : ℕ) → AreSmall bytes → at + n ≤ length bytes → number_in bytes at n < 256 ^ n
number_in-lt bytes at n small fits =
    let long : length (take n (drop at bytes)) ≡ n = omega (arith, length-take n (drop at bytes), length-drop at bytes) in
    let P : ℕ → Type 0 = λ k. number_in bytes at n < 256 ^ k in
    subst P long (number_of-lt (take n (drop at bytes)) (small-take n (drop at bytes) (small-drop at bytes small)))

-- the front of a number, and what is after it
number_of-append : (front rest : List ℕ) → number_of (front ++ rest) ≡ number_of front + 256 ^ length front * number_of rest
number_of-append [] rest = omega arith
number_of-append (byte ∷ front) rest =
    let power : 256 ^ suc (length front) ≡ 256 * 256 ^ length front = pow-succ' 256 (length front) in
    let later = number_of-append front rest in
    let times : 256 ^ suc (length front) * number_of rest ≡ 256 * (256 ^ length front * number_of rest) =
    ap (λ m. m * number_of rest) power ∙ mul_assoc 256 (256 ^ length front) (number_of rest) in
    omega (arith, times, later)

-- the bytes of a word are small
small_word : (value : ℕ) → AreSmall (bytes_of_word value)
small_word value zero = omega arith
small_word value (suc zero) = omega arith
small_word value (suc (suc zero)) = omega arith
small_word value (suc (suc (suc zero))) = omega arith
small_word value (suc (suc (suc (suc zero)))) = omega arith
small_word value (suc (suc (suc (suc (suc zero))))) = omega arith
small_word value (suc (suc (suc (suc (suc (suc zero)))))) = omega arith
small_word value (suc (suc (suc (suc (suc (suc (suc zero))))))) = omega arith
small_word value (suc (suc (suc (suc (suc (suc (suc (suc i)))))))) = lit< tt

module _ (n value : ℕ) (few : n ≤ 8) where
  pub length-low_bytes : length (low_bytes n value) ≡ n
  length-low_bytes = omega (arith, length-take n (bytes_of_word value))

  -- n bytes hold a number up to their power of 256
  number_of-low_bytes : value < 2 ^ 64 → number_of (low_bytes n value) ≡ value % 256 ^ n
  number_of-low_bytes fits =
      let word : List ℕ = bytes_of_word value in
      let high : ℕ = number_of (drop n word) in
      let P : ℕ → Type 0 = λ k. number_of (low_bytes n value) < 256 ^ k in
      let small : number_of (low_bytes n value) < 256 ^ n =
      subst P length-low_bytes (number_of-lt (low_bytes n value) (small-take n word (small_word value))) in
      let whole : value ≡ number_of (low_bytes n value) + 256 ^ n * high =
      sym (number_of-bytes_of_word value fits) ∙ ap number_of (sym (take-append-drop n word))
      ∙ number_of-append (low_bytes n value) (drop n word)
      ∙ ap (λ k. number_of (low_bytes n value) + 256 ^ k * high) length-low_bytes in
      let turned : value ≡ high * 256 ^ n + number_of (low_bytes n value) = omega (arith, whole) in
      sym (ap (λ m. m % 256 ^ n) turned ∙ mod-mul-add high (256 ^ n) (number_of (low_bytes n value)) small)

-- ---- pieces

-- what was written is read back
read_back : (cells piece : List ℕ) (at : ℕ) → at + length piece ≤ length cells
    → take (length piece) (drop at (overwritten cells at piece)) ≡ piece
read_back cells piece at fits =
    let rest : List ℕ = drop (at + length piece) cells in
    let long : at ≡ length (take at cells) + 0 = omega (arith, length-take at cells) in
    ap (λ (all : List ℕ). take (length piece) (drop at all)) (append_assoc (take at cells) piece rest)
    ∙ ap (λ k. take (length piece) (drop k (take at cells ++ (piece ++ rest)))) long
    ∙ ap (take (length piece)) (drop-append-add (take at cells) (piece ++ rest) 0)
    ∙ take-append-le (length piece) piece rest (omega arith) ∙ take-length piece

pub number_read_back : (cells : List ℕ) (at n value : ℕ) → n ≤ 8 → value < 2 ^ 64 → at + n ≤ length cells
    → number_in (overwritten cells at (low_bytes n value)) at n ≡ value % 256 ^ n
number_read_back cells at n value few fits within =
    let piece : List ℕ = low_bytes n value in
    let long : length piece ≡ n = length-low_bytes n value few in
    ap (λ k. number_in (overwritten cells at piece) at k) (sym long)
    ∙ ap number_of (read_back cells piece at (omega arith))
    ∙ number_of-low_bytes n value few fits

-- a cell that isn't written stays
pub other_stays : (cells piece : List ℕ) (at cell : ℕ) → at + length piece ≤ length cells
    → (cell < at) ⊎ (at + length piece ≤ cell) → get_or (overwritten cells at piece) cell 0 ≡ get_or cells cell 0
other_stays cells piece at cell fits (inl before) =
    let front : List ℕ = take at cells in
    let long = length-take at cells in
    get_or_append_left (front ++ piece) (drop (at + length piece) cells) 0 cell (omega (arith, long, length-append front piece))
    ∙ get_or_append_left front piece 0 cell (omega (arith, long))
    ∙ get_or-take at cells cell 0 before
other_stays cells piece at cell fits (inr after) =
    let front : List ℕ = take at cells ++ piece in
    let past = at + length piece in
    let long : length front ≡ past = omega (arith, length-append (take at cells) piece, length-take at cells) in
    let place : past + (cell - past) ≡ cell = omega arith in
    get_or-append_right front (drop past cells) past cell 0 long after
    ∙ get_or-drop past cells (cell - past) 0
    ∙ ap (λ k. get_or cells k 0) place

pub number_others_stay : (cells : List ℕ) (at n value cell : ℕ) → n ≤ 8 → at + n ≤ length cells → (cell < at) ⊎ (at + n ≤ cell)
    → get_or (overwritten cells at (low_bytes n value)) cell 0 ≡ get_or cells cell 0
number_others_stay cells at n value cell few within apart =
    let long : n ≡ length (low_bytes n value) = sym (length-low_bytes n value few) in
    let P : ℕ → Type 0 = λ k. (cell < at) ⊎ (at + k ≤ cell) in
    other_stays cells (low_bytes n value) at cell (omega arith) (subst P long apart)
