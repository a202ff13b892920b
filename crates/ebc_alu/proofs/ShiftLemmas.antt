-- Shifts by any count: what one of 64 or more leaves, a machine's shift leaves too.
use Rattle.std.proofs.Common.{◌≡◌, ℕ, ◌-◌, ◌*◌, ◌/◌, ◌%◌, ◌^◌, ◌<◌, ◌≤◌, min, Bool, cond, ltb, ℤ, pos, negsuc, FitsSigned, sym, ◌∙◌, ap, arith, ⊎_elim, w64, lt-ltb, pow_mono, pow-add, mul_assoc}
use Rattle.std.specs.Int.{int_shr, int_div_euclid}
use Rattle.std.proofs.lemmas.Bool.{cases_lt}
use Rattle.std.proofs.Math.Nat.{div-eq_of_lt, mul-mod_left, min-eq_left, min-eq_right}
use Rattle.ebc_alu.specs.Reading.{width, low_bits, signed, reduced}
use Rattle.ebc_alu.specs.Results.{left_shift, right_shift, signed_right_shift}
use Rattle.ebc_alu.proofs.ReadingLemmas.{low-low, signed-fits_64}

-- nothing is left of a number below 2^k
pub past-right : (a k b : ℕ) → a < 2 ^ k → k ≤ b → a / 2 ^ b ≡ 0
past-right a k b h le = let up = pow_mono le in div-eq_of_lt (omega arith)

-- all its low bits are 0
pub past-left : (a k b : ℕ) → k ≤ b → (a * 2 ^ b) % 2 ^ k ≡ 0
past-left a k b le =
    let whole : 2 ^ b ≡ 2 ^ (b - k) * 2 ^ k = ap (λ n. 2 ^ n) (omega arith) ∙ pow-add 2 (b - k) k in
    ap (λ x. (a * x) % 2 ^ k) whole
    ∙ ap (λ x. x % 2 ^ k) (sym (mul_assoc a (2 ^ (b - k)) (2 ^ k)))
    ∙ mul-mod_left (a * 2 ^ (b - k)) (2 ^ k)

-- a shift f that leaves 0 from a count of 64 on, with the count cut to 64
capped : (f : ℕ → ℕ) (b : ℕ) → (64 ≤ b → f b ≡ 0) → cond (ltb (min b 64) 64) (f (min b 64)) 0 ≡ f b
capped f b past = ⊎_elim
    (λ lt. ap (λ n. cond (ltb n 64) (f n) 0) (min-eq_left (omega arith)) ∙ ap (λ t. cond t (f b) 0) (lt-ltb b 64 lt))
    (λ le. ap (λ n. cond (ltb n 64) (f n) 0) (min-eq_right le) ∙ sym (past le))
    (cases_lt b 64)

-- a shift f that leaves the same from a count of 63 on
capped_63 : (f : ℕ → ℕ) (b : ℕ) → (63 ≤ b → f b ≡ f 63) → f (min (min b 64) 63) ≡ f b
capped_63 f b past = ⊎_elim
    (λ lt. ap f (omega arith))
    (λ le. let e : min (min b 64) 63 ≡ 63 = omega arith in ap f e ∙ sym (past le))
    (cases_lt b 63)

pub right-is : (a b c : ℕ) → a < 2 ^ 64 → c ≡ min b 64 → cond (ltb c 64) (a / 2 ^ c) 0 ≡ right_shift a b
unfolding right_shift
right-is a b c h e =
    ap (λ n. cond (ltb n 64) (a / 2 ^ n) 0) e ∙ capped (λ n. a / 2 ^ n) b (λ le. past-right a 64 b h le)

module _ (wide : Bool) (a b c : ℕ) (count : c ≡ min b 64) where
  pub left-is : low_bits (width wide) (cond (ltb c 64) ((a * 2 ^ c) % 2 ^ 64) 0) ≡ left_shift (width wide) a b
  unfolding left_shift
  left-is =
      ap (λ n. low_bits (width wide) (cond (ltb n 64) ((a * 2 ^ n) % 2 ^ 64) 0)) count
      ∙ ap (low_bits (width wide)) (capped (λ n. (a * 2 ^ n) % 2 ^ 64) b (λ le. past-left a 64 b le))
      ∙ low-low wide (a * 2 ^ b)

-- the quotient of a number of 64 bits with a sign, rounded down
floor-is : (x : ℤ) (b : ℕ) → FitsSigned w64 x → int_shr x (min (min b 64) 63) ≡ int_div_euclid x (pos (2 ^ b))
floor-is (pos a) b f =
    ap pos (capped_63 (λ n. a / 2 ^ n) b (λ le. past-right a 63 b f.sfits le ∙ sym (past-right a 63 63 f.sfits (omega arith))))
floor-is (negsuc a) b f =
    ap negsuc (capped_63 (λ n. a / 2 ^ n) b (λ le. past-right a 63 b f.sfits le ∙ sym (past-right a 63 63 f.sfits (omega arith))))

module _ (wide : Bool) (a b c : ℕ) (p : a < 2 ^ width wide) (count : c ≡ min b 64) where
  pub signed_right-is : (z : ℤ) → z ≡ int_shr (signed (width wide) a) (min c 63)
      → reduced (width wide) z ≡ signed_right_shift (width wide) a b
  unfolding signed_right_shift
  signed_right-is z e =
      ap (reduced (width wide)) (e ∙ ap (λ n. int_shr (signed (width wide) a) (min n 63)) count
      ∙ floor-is (signed (width wide) a) b (signed-fits_64 wide a p))
