-- Numbers in fields of 2, 4 and 8 bytes, and bytes as fields one after another.
use Rattle.std.proofs.Common.{◌≡◌, ℕ, ◌+◌, ◌*◌, ◌≤◌, ◌<◌, ◌^◌, List, [], ◌∷◌, ◌++◌, length, take, drop, get_or, All, ap, ◌∙◌, subst, arith}
use native.Mathlib.Numerals.{unary_clauses}
use Rattle.std.proofs.Math.Seq.{take-add}
use Rattle.std.proofs.lemmas.List.{drop-drop, length-take-le, length-drop}
use Rattle.std.proofs.lemmas.List.Elements.{All-head, All-tail, All-take, All-drop, All-from_get_or}
use Rattle.std.proofs.lemmas.Nat.{le_bytes_2, le_bytes_4, from_le_bytes-to_le_bytes_2, from_le_bytes-to_le_bytes_4}
use Rattle.std.specs.Int.{to_le_bytes, w16, w32, w64}
use Rattle.mm_base.specs.Numbers.{number_of, number_in}
use Rattle.mm_base.proofs.NumberLemmas.{small_at, bytes_of_word-number_of}

-- each of these bytes is small
abbrev pub AreSmall : List ℕ → Type 0
AreSmall bytes = All (λ byte. byte < 256) bytes

-- they are where each by its place is
pub small_bytes : (bytes : List ℕ) → ((i : ℕ) → get_or bytes i 0 < 256) → AreSmall bytes
small_bytes bytes each = All-from_get_or (λ byte. byte < 256) bytes 0 (λ i within. each i)

-- bytes, each at its worth
spelled_2 : (a b : ℕ) → number_of (a ∷ b ∷ []) ≡ a + b * 256
spelled_2 a b = omega arith

spelled_4 : (a b c d : ℕ) → number_of (a ∷ b ∷ c ∷ d ∷ []) ≡ a + b * 256 + c * 65536 + d * 16777216
spelled_4 a b c d = omega arith

-- a number is read back from its field
pub number_2 : (n : ℕ) → n < 2 ^ 16 → number_of (to_le_bytes w16 n) ≡ n
number_2 n fits = spelled_2 _ _ ∙ from_le_bytes-to_le_bytes_2 n fits

pub number_4 : (n : ℕ) → n < 2 ^ 32 → number_of (to_le_bytes w32 n) ≡ n
number_4 n fits = spelled_4 _ _ _ _ ∙ from_le_bytes-to_le_bytes_4 n fits

-- a field is that of its number
back_2 : (bytes : List ℕ) → length bytes ≡ 2 → AreSmall bytes → to_le_bytes w16 (number_of bytes) ≡ bytes
back_2 ([]) long small = absurd (omega arith)
back_2 (a ∷ []) long small = absurd (omega arith)
back_2 (a ∷ b ∷ []) long small = le_bytes_2 (a ∷ b ∷ []) _ long (small_at (a ∷ b ∷ []) small) (spelled_2 a b)
back_2 (a ∷ b ∷ c ∷ rest) long small = absurd (omega arith)

back_4 : (bytes : List ℕ) → length bytes ≡ 4 → AreSmall bytes → to_le_bytes w32 (number_of bytes) ≡ bytes
back_4 ([]) long small = absurd (omega arith)
back_4 (a ∷ []) long small = absurd (omega arith)
back_4 (a ∷ b ∷ []) long small = absurd (omega arith)
back_4 (a ∷ b ∷ c ∷ []) long small = absurd (omega arith)
back_4 (a ∷ b ∷ c ∷ d ∷ []) long small = le_bytes_4 (a ∷ b ∷ c ∷ d ∷ []) _ long (small_at (a ∷ b ∷ c ∷ d ∷ []) small) (spelled_4 a b c d)
back_4 (a ∷ b ∷ c ∷ d ∷ e ∷ rest) long small = absurd (omega arith)

-- a number of n bytes is below 256 ^ n
number_of-small : (bytes : List ℕ) → AreSmall bytes → number_of bytes < 256 ^ length bytes
number_of-small [] small = omega arith
number_of-small (byte ∷ bytes) small =
    let head : byte < 256 = All-head (λ byte. byte < 256) byte bytes small in
    let tail : number_of bytes < 256 ^ length bytes = number_of-small bytes (All-tail (λ byte. byte < 256) byte bytes small) in
    let grown : byte + 256 * number_of bytes < 256 ^ length bytes * 256 = grind (arith, head, tail) in
    simp unary_clauses grown

module _ (bytes : List ℕ) (small : AreSmall bytes) where
  -- a field from a place on
  field_small : (at n : ℕ) → AreSmall (take n (drop at bytes))
  field_small at n = All-take (λ byte. byte < 256) n (drop at bytes) (All-drop (λ byte. byte < 256) at bytes small)

  pub field_long : (at n : ℕ) → at + n ≤ length bytes → length (take n (drop at bytes)) ≡ n
  field_long at n within = length-take-le n (drop at bytes) (omega (arith, within, length-drop at bytes))

  -- the field is that of the number in it
  pub field_2 : (at : ℕ) → at + 2 ≤ length bytes → to_le_bytes w16 (number_in bytes at 2) ≡ take 2 (drop at bytes)
  field_2 at within = back_2 (take 2 (drop at bytes)) (field_long at 2 within) (field_small at 2)

  pub field_4 : (at : ℕ) → at + 4 ≤ length bytes → to_le_bytes w32 (number_in bytes at 4) ≡ take 4 (drop at bytes)
  field_4 at within = back_4 (take 4 (drop at bytes)) (field_long at 4 within) (field_small at 4)

  pub field_8 : (at : ℕ) → at + 8 ≤ length bytes → to_le_bytes w64 (number_in bytes at 8) ≡ take 8 (drop at bytes)
  field_8 at within = bytes_of_word-number_of (take 8 (drop at bytes)) (field_long at 8 within) (field_small at 8)

  -- eight bytes have a number below 2 ^ 64
  pub word_small : (at : ℕ) → at + 8 ≤ length bytes → number_in bytes at 8 < 2 ^ 64
  word_small at within =
      let P : ℕ → Type 0 = λ n. number_in bytes at 8 < 256 ^ n in
      subst P (field_long at 8 within) (number_of-small (take 8 (drop at bytes)) (field_small at 8))

-- a field, and what stands behind it
pub cut : (bytes : List ℕ) (at n more : ℕ) → take (n + more) (drop at bytes) ≡ take n (drop at bytes) ++ take more (drop (at + n) bytes)
cut bytes at n more =
    take-add n more (drop at bytes) ∙ ap (λ (rest : List ℕ). take n (drop at bytes) ++ take more rest) (drop-drop n at bytes)

-- fields one after another, where what each of them is is known
pub joined : (bytes field rest : List ℕ) (at n more : ℕ) → take n (drop at bytes) ≡ field → take more (drop (at + n) bytes) ≡ rest
    → take (n + more) (drop at bytes) ≡ field ++ rest
joined bytes field rest at n more here there = cut bytes at n more ∙ ap (λ (f : List ℕ). f ++ take more (drop (at + n) bytes)) here ∙ ap (λ (r : List ℕ). field ++ r) there
