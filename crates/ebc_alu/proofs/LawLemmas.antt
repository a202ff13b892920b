-- The laws of the arithmetic.
use Rattle.std.proofs.Common.{◌≡◌, ℕ, zero, suc, ◌+◌, ◌-◌, ◌*◌, ◌/◌, ◌%◌, ◌^◌, ◌<◌, ◌≤◌, min, Bool, true, false, cond, eqb, leb, ◌&&◌, ◌||◌, ℤ, pos, negsuc, ◌-ℤ◌, ◌+ℤ◌, ◌*ℤ◌, unsigned_abs, int_lt, int_le, int_div, int_rem, Decides, refl, sym, ◌∙◌, ap, subst, arith, w32, w64, mod-lt, pow_pos, pow-add, FitsSigned, le-ltb}
use Rattle.std.specs.Int.{Width, cast_signed, int_wrap, int_div_euclid}
use Rattle.std.proofs.lemmas.Int.{ints, quot-rem, rem_below, fits_signed_from_abs, int_wrap_fits, wrapping_add-bits, wrapping_mul-bits, int_wrap-add_left, int_wrap-add_right, int_wrap-mul_left}
use Rattle.std.proofs.lemmas.Bool.{and_parts, and_from}
use Rattle.std.proofs.lemmas.Bool.Decides.{nat_tests, same_from_decides, Decides-eqb, Decides-like}
use Rattle.std.proofs.lemmas.Nat.{shr_below, and_le_l, or_lt, xor_lt}
use Rattle.std.proofs.Math.Nat.{div-le_self, mod-le, div-add-mod', mod-add-mod, mod_self, zero-mod, mul-add-div_right, mul-add-mod_self_right}
use lib.Signed.{mag}
use mir.Val.{bits}
use Rattle.mm_base.specs.declared.operation.AluOp.{AluOp}
use Rattle.mm_base.specs.declared.operation.AluOp.TheVariants.{Not, Neg, Add, Sub, Mul, Mulu, Div, Divu, Mod, Modu, And, Or, Xor, Shl, Shr, Ashr, ExtendByte, ExtendWord, ExtendDouble}
use Rattle.ebc_alu.specs.Reading.{width, low_bits, signed, reduced}
use Rattle.ebc_alu.specs.Results.{complement, sum_of, difference, product_of, signed_product, signed_quotient, signed_remainder, left_shift, right_shift, signed_right_shift, extension, value_of}
use Rattle.ebc_alu.specs.Index.{distance, offset_of}
use Rattle.ebc_alu.specs.Laws.{ResultsFit, SignedDivisionsFit, UnsignedDivisionsFit, RemaindersAreSmall, LeastByMinusOne, NegativesCancel, CountsPastTheWidth, ComparisonsAreTotal, SignsCancel}
use Rattle.ebc_alu.proofs.ReadingLemmas.{signed-cast, signed-fits, reduced-lt, reduced_is, reduced-signed, low-lt}
use Rattle.ebc_alu.proofs.SumLemmas.{same_from_cast}
use Rattle.ebc_alu.proofs.ShiftLemmas.{past-left, past-right}
use Rattle.ebc_alu.proofs.IndexLemmas.{few_bytes, distance-is, distance-lt, offset-plus, offset-minus}

-- ---- results
module _ (bits a b : ℕ) (p : a < 2 ^ bits) (q : b < 2 ^ bits) where
  value-lt : (op : AluOp) → value_of op bits a b < 2 ^ bits
  unfolding complement sum_of difference product_of signed_product signed_quotient signed_remainder
      left_shift right_shift signed_right_shift extension
  value-lt Not = omega (arith, pow_pos bits)
  value-lt Neg = reduced-lt bits _
  value-lt Add = mod-lt (a + b) (pow_pos bits)
  value-lt Sub = reduced-lt bits _
  value-lt Mul = reduced-lt bits _
  value-lt Mulu = mod-lt (a * b) (pow_pos bits)
  value-lt Div = reduced-lt bits _
  value-lt Divu = omega (arith, div-le_self a b)
  value-lt Mod = reduced-lt bits _
  value-lt Modu = omega (arith, mod-le a b)
  value-lt And = omega (arith, and_le_l a b)
  value-lt Or = or_lt bits a b p q
  value-lt Xor = xor_lt bits a b p q
  value-lt Shl = mod-lt (a * 2 ^ b) (pow_pos bits)
  value-lt Shr = omega (arith, div-le_self a (2 ^ b))
  value-lt Ashr = reduced-lt bits _
  value-lt ExtendByte = reduced-lt bits _
  value-lt ExtendWord = reduced-lt bits _
  value-lt ExtendDouble = reduced-lt bits _

pub results_fit : ResultsFit
results_fit op wide a b = value-lt (width wide) _ _ (low-lt wide a) (low-lt wide b) op

-- ---- divisions
module _ (v : Width) (a b : ℕ) (p : a < 2 ^ bits v) (q : b < 2 ^ bits v) where
  abbrev x : ℤ
  x = signed (bits v) a

  abbrev y : ℤ
  y = signed (bits v) b

  abbrev times : ℕ
  times = signed_quotient (bits v) a b

  abbrev left : ℕ
  left = signed_remainder (bits v) a b

  cast-times : cast_signed v times ≡ int_wrap v (int_div x y)
  unfolding signed_quotient reduced int_wrap
  cast-times = refl

  cast-left : cast_signed v left ≡ int_wrap v (int_rem x y)
  unfolding signed_remainder reduced int_wrap
  cast-left = refl

  times-lt : times < 2 ^ bits v
  unfolding signed_quotient
  times-lt = reduced-lt (bits v) (int_div x y)

  left-lt : left < 2 ^ bits v
  unfolding signed_remainder
  left-lt = reduced-lt (bits v) (int_rem x y)

  cast-product : cast_signed v ((times * b) % 2 ^ bits v) ≡ int_wrap v (int_div x y *ℤ y)
  cast-product =
      wrapping_mul-bits v times b times-lt q
      ∙ (λ i. int_wrap v (cast-times i *ℤ sym (signed-cast v b q) i))
      ∙ int_wrap-mul_left v (int_div x y) y

  cast-whole : cast_signed v (((times * b) % 2 ^ bits v + left) % 2 ^ bits v) ≡ cast_signed v a
  cast-whole =
      wrapping_add-bits v ((times * b) % 2 ^ bits v) left (mod-lt (times * b) (pow_pos (bits v))) left-lt
      ∙ (λ i. int_wrap v (cast-product i +ℤ cast-left i))
      ∙ int_wrap-add_left v (int_div x y *ℤ y) (int_wrap v (int_rem x y))
      ∙ int_wrap-add_right v (int_div x y *ℤ y) (int_rem x y)
      ∙ ap (int_wrap v) (quot-rem x y)
      ∙ int_wrap_fits v x (signed-fits v a p)
      ∙ signed-cast v a p

  division-fits : (times * b + left) % 2 ^ bits v ≡ a
  division-fits =
      sym (mod-add-mod (times * b) (2 ^ bits v) left)
      ∙ same_from_cast v _ a (mod-lt ((times * b) % 2 ^ bits v + left) (pow_pos (bits v))) p cast-whole

  divisor-abs : 0 < b → 0 < unsigned_abs y
  unfolding reduced
  divisor-abs h = by y (reduced-signed (bits v) b q)
    where
      by : (z : ℤ) → reduced (bits v) z ≡ b → 0 < unsigned_abs z
      by (pos zero) e = absurd (omega (arith, zero-mod (2 ^ bits v)))
      by (pos (suc n)) e = omega arith
      by (negsuc n) e = omega arith

  remainder-small : 0 < b → unsigned_abs (signed (bits v) left) < unsigned_abs y
  remainder-small h =
      let below = rem_below x y (divisor-abs h) in
      let f = signed-fits v b q in
      let fits : FitsSigned v (int_rem x y) = fits_signed_from_abs v (int_rem x y) (omega (arith, ints)) in
      let is : signed (bits v) left ≡ int_rem x y = signed-cast v left left-lt ∙ cast-left ∙ int_wrap_fits v (int_rem x y) fits in
      subst (λ z. unsigned_abs z < unsigned_abs y) (sym is) below

pub signed_divisions_fit : SignedDivisionsFit
signed_divisions_fit true a b ne = division-fits w64 _ _ (low-lt true a) (low-lt true b)
signed_divisions_fit false a b ne = division-fits w32 _ _ (low-lt false a) (low-lt false b)

pub unsigned_divisions_fit : UnsignedDivisionsFit
unsigned_divisions_fit wide a b ne = div-add-mod' (low_bits (width wide) a) (low_bits (width wide) b)

pub remainders_are_small : RemaindersAreSmall
remainders_are_small true a b ne = remainder-small w64 _ _ (low-lt true a) (low-lt true b) (omega arith)
remainders_are_small false a b ne = remainder-small w32 _ _ (low-lt false a) (low-lt false b) (omega arith)

pub least_by_minus_one : LeastByMinusOne
unfolding signed_quotient signed_remainder signed reduced
least_by_minus_one true = (refl, refl)
least_by_minus_one false = (refl, refl)

-- ---- negation
negative : (k n : ℕ) → n < 2 ^ k → (difference k 0 n + n) % 2 ^ k ≡ 0
unfolding difference
negative k n h =
    ap (λ m. (m + n) % 2 ^ k) (reduced_is k (pos 0 -ℤ pos n) 1 (2 ^ k - n) (omega (arith, ints)))
    ∙ mod-add-mod (2 ^ k - n) (2 ^ k) n
    ∙ ap (λ m. m % 2 ^ k) (omega arith)
    ∙ mod_self (2 ^ k)

pub negatives_cancel : NegativesCancel
negatives_cancel wide a b = negative (width wide) (low_bits (width wide) b) (low-lt wide b)

-- ---- shifts
fill : (k n : ℕ) (z : ℤ) → mag z < 2 ^ k → k ≤ n → reduced k (int_div_euclid z (pos (2 ^ n))) ≡ cond (int_lt z (pos 0)) (2 ^ k - 1) 0
unfolding reduced
fill k n (pos m) h le =
    ap (λ d. d % 2 ^ k) (past-right m k n h le) ∙ zero-mod (2 ^ k) ∙ sym (ap (λ t. cond t (2 ^ k - 1) 0) (le-ltb m 0 (omega arith)))
fill k n (negsuc m) h le =
    ap (λ d. 2 ^ k - 1 - d % 2 ^ k) (past-right m k n h le) ∙ ap (λ d. 2 ^ k - 1 - d) (zero-mod (2 ^ k)) ∙ omega arith

sign-fits : (wide : Bool) (n : ℕ) → n < 2 ^ width wide → mag (signed (width wide) n) < 2 ^ width wide
sign-fits true n h = let f = signed-fits w64 n h in omega (arith, f.sfits)
sign-fits false n h = let f = signed-fits w32 n h in omega (arith, f.sfits)

pub counts_past_the_width : CountsPastTheWidth
unfolding left_shift right_shift signed_right_shift
counts_past_the_width wide a b le = (
  past-left (low_bits (width wide) a) (width wide) (low_bits (width wide) b) le,
  past-right (low_bits (width wide) a) (width wide) (low_bits (width wide) b) (low-lt wide a) le,
  fill (width wide) (low_bits (width wide) b) (signed (width wide) (low_bits (width wide) a)) (sign-fits wide _ (low-lt wide a)) le,
)

-- ---- comparisons
one_at_most : (m n : ℤ) → (int_le m n || int_le n m) ≡ true
one_at_most (pos a) (pos b) = grind (arith, nat_tests)
one_at_most (pos a) (negsuc b) = refl
one_at_most (negsuc a) (pos b) = refl
one_at_most (negsuc a) (negsuc b) = grind (arith, nat_tests)

both_at_most : (m n : ℤ) → Decides (int_le m n && int_le n m) (m ≡ n)
both_at_most m n = (same, both)
  where
    same : (int_le m n && int_le n m) ≡ true → m ≡ n
    same e = let h = and_parts (int_le m n) (int_le n m) e in omega (arith, ints, h.0, h.1)

    both : m ≡ n → (int_le m n && int_le n m) ≡ true
    both e =
        let first : true ≡ int_le m n = omega (arith, ints) in
        let second : true ≡ int_le n m = omega (arith, ints) in
        and_from (int_le m n) (int_le n m) (sym first) (sym second)

same_reading : (k a b : ℕ) → a < 2 ^ k → b < 2 ^ k → signed k a ≡ signed k b → a ≡ b
same_reading k a b p q e = sym (reduced-signed k a p) ∙ ap (reduced k) e ∙ reduced-signed k b q

signed_equal : (k a b : ℕ) → a < 2 ^ k → b < 2 ^ k → (int_le (signed k a) (signed k b) && int_le (signed k b) (signed k a)) ≡ eqb a b
signed_equal k a b p q = same_from_decides _ (eqb a b)
    (Decides-like _ (same_reading k a b p q) (ap (signed k)) (both_at_most (signed k a) (signed k b)))
    (Decides-eqb a b)

unsigned_one : (a b : ℕ) → (leb a b || leb b a) ≡ true
unsigned_one a b = grind (arith, nat_tests)

unsigned_both : (a b : ℕ) → (leb a b && leb b a) ≡ eqb a b
unsigned_both a b = grind (arith, nat_tests)

pub comparisons_are_total : ComparisonsAreTotal
comparisons_are_total wide a b = (
  one_at_most (signed (width wide) (low_bits (width wide) a)) (signed (width wide) (low_bits (width wide) b)),
  signed_equal (width wide) _ _ (low-lt wide a) (low-lt wide b),
  unsigned_one (low_bits (width wide) a) (low_bits (width wide) b),
  unsigned_both (low_bits (width wide) a) (low_bits (width wide) b),
)

-- ---- indexes
module _ (bytes raw end : ℕ) (ends : end + 4 ≡ 8 * bytes) (small : end ≤ 60) (fits : raw < 2 ^ (3 + end)) where
  abbrev negated : ℕ
  negated = 8 * 2 ^ end + raw

  head-is : negated / 2 ^ end ≡ 8 + raw / 2 ^ end
  head-is = mul-add-div_right (pow_pos end) 8 raw

  head-lt : raw / 2 ^ end < 8
  head-lt = shr_below raw 3 end fits

  below-lt : (n : ℕ) → n < 8 * 2 ^ end → n < 2 ^ (3 + end)
  below-lt n h = subst (λ m. n < m) (sym (pow-add 2 3 end)) h

  raw-lt : raw < 8 * 2 ^ end
  raw-lt = subst (λ m. raw < m) (pow-add 2 3 end) fits

  four : 2 ^ (4 + end) ≡ 16 * 2 ^ end
  four = pow-add 2 4 end

  abbrev natural : ℕ
  natural = min (bytes * (raw / 2 ^ end % 8)) end

  -- the bits below the sign are the same
  low-same : (n : ℕ) → n ≤ end → negated % 2 ^ n ≡ raw % 2 ^ n
  low-same n le =
      let whole : 2 ^ end ≡ 2 ^ (end - n) * 2 ^ n = ap (λ m. 2 ^ m) (omega arith) ∙ pow-add 2 (end - n) n in
      ap (λ m. (m + raw) % 2 ^ n) (ap (λ m. 8 * m) whole ∙ omega arith) ∙ mul-add-mod_self_right (8 * 2 ^ (end - n)) (2 ^ n) raw

  count-same : natural ≡ min (bytes * (negated / 2 ^ end % 8)) end
  count-same = ap (λ h. min (bytes * h) end) (omega (arith, head-is))

  distance-same : distance bytes negated ≡ distance bytes raw
  distance-same =
      distance-is bytes negated end ends (omega (arith, raw-lt, four)) natural count-same
      ∙ (λ i. low-same end (omega arith) i / 2 ^ natural + 8 * low-same natural (omega arith) i)
      ∙ sym (distance-is bytes raw end ends (omega (arith, raw-lt, four)) natural refl)

  signs-cancel : (offset_of bytes negated + offset_of bytes raw) % 2 ^ 64 ≡ 0
  signs-cancel =
      let lt : distance bytes raw < 2 ^ 64 = distance-lt bytes raw end ends (omega (arith, raw-lt, four)) natural refl small in
      let plus = offset-plus bytes raw end ends (omega (arith, raw-lt, four)) lt head-lt in
      let minus =
      offset-minus bytes negated end ends (omega (arith, raw-lt, four)) (omega (arith, distance-same, lt)) (omega (arith, head-is)) in
      let whole : 0 + (2 ^ 64 - distance bytes raw) + distance bytes raw ≡ 2 ^ 64 = omega (arith, lt) in
      (λ i. ((minus ∙ ap (λ d. (0 + (2 ^ 64 - d)) % 2 ^ 64) distance-same) i + plus i) % 2 ^ 64)
      ∙ mod-add-mod (0 + (2 ^ 64 - distance bytes raw)) (2 ^ 64) (distance bytes raw)
      ∙ ap (λ m. m % 2 ^ 64) whole

pub signs_cancel : SignsCancel
signs_cancel bytes raw widths fits =
    let known = few_bytes bytes widths in
    let end = 8 * bytes - 4 in
    let top : 8 * bytes - 1 ≡ 3 + end = omega arith in
    let is : 2 ^ (8 * bytes - 1) ≡ 8 * 2 ^ end = ap (λ n. 2 ^ n) top ∙ pow-add 2 3 end in
    ap (λ m. (offset_of bytes (m + raw) + offset_of bytes raw) % 2 ^ 64) is
    ∙ signs-cancel bytes raw end (omega arith) (omega arith) (subst (λ n. raw < 2 ^ n) top fits)
