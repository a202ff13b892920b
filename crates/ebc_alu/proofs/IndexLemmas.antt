-- Natural indexes: the fields by shifts and masks.
use Rattle.std.proofs.Common.{◌≡◌, ◌⊎◌, ℕ, ◌+◌, ◌-◌, ◌*◌, ◌/◌, ◌%◌, ◌^◌, ◌<◌, ◌≤◌, min, cond, pos, negsuc, ◌*ℤ◌, sym, ◌∙◌, ap, subst, arith, ⊎_elim, eq-eqb, ne_eqb, mod-lt, mod-eq_of_lt, pow_pos, pow_mono, shr-shr, div-one, div-le_self}
use Rattle.std.proofs.lemmas.Int.{ints}
use Rattle.std.proofs.lemmas.Nat.{field_of, shr_below}
use Rattle.std.proofs.Math.Nat.{min_comm, sub-zero}
use Rattle.ebc_alu.specs.Reading.{signed, reduced}
use Rattle.ebc_alu.specs.Results.{extension}
use Rattle.ebc_alu.specs.Index.{bits_between, fields_end, natural_bits, distance, sign_of, offset_of, immediate_of}
use Rattle.ebc_alu.proofs.ReadingLemmas.{reduced_is, reduced-signed}

-- 2, 4 or 8 bytes are few
pub few_bytes : (bytes : ℕ) → (bytes ≡ 2) ⊎ ((bytes ≡ 4) ⊎ (bytes ≡ 8)) → (1 ≤ bytes) × (bytes ≤ 8)
few_bytes bytes widths = ⊎_elim (λ e. omega arith) (λ w. ⊎_elim (λ e. omega arith) (λ e. omega arith) w) widths

-- both fields and their sum fit
pub fields-fit : (raw end natural : ℕ) → natural ≤ end → end ≤ 60 → (raw % 2 ^ end / 2 ^ natural < 2 ^ 60) × (raw % 2 ^ natural < 2 ^ 60)
fields-fit raw end natural within small =
    let wide = pow_mono small in
    let narrow = pow_mono within in
    let all = mod-lt raw (pow_pos end) in
    let low = mod-lt raw (pow_pos natural) in
    (omega (arith, div-le_self (raw % 2 ^ end) (2 ^ natural)), omega arith)

-- an index: its fields end at a place, and above it are the sign and three bits
module _ (bytes raw end : ℕ) (ends : end + 4 ≡ 8 * bytes) (fits : raw < 2 ^ (4 + end)) where
  end-is : fields_end bytes ≡ end
  end-is = omega arith

  -- how many bits the natural field has, as the code counts them
  pub natural-is : natural_bits bytes raw ≡ min (bytes * (raw / 2 ^ end % 8)) end
  unfolding natural_bits
  natural-is =
      let three : end + 3 - end ≡ 3 = omega arith in
      ap (λ e. min e (bytes * bits_between e (e + 3) raw)) end-is
      ∙ ap (λ j. min end (bytes * (raw / 2 ^ end % 2 ^ j))) three
      ∙ min_comm end (bytes * (raw / 2 ^ end % 8))

  module _ (natural : ℕ) (counted : natural ≡ min (bytes * (raw / 2 ^ end % 8)) end) where
    pub distance-is : distance bytes raw ≡ raw % 2 ^ end / 2 ^ natural + 8 * (raw % 2 ^ natural)
    unfolding distance
    distance-is =
        ap (λ e. bits_between (natural_bits bytes raw) e raw + 8 * bits_between 0 (natural_bits bytes raw) raw) end-is
        ∙ ap (λ n. bits_between n end raw + 8 * bits_between 0 n raw) (natural-is ∙ sym counted)
        ∙ (λ i. constant i + 8 * units i)
      where
        split : end - natural + natural ≡ end
        split = omega arith

        constant : bits_between natural end raw ≡ raw % 2 ^ end / 2 ^ natural
        constant = sym (field_of raw (end - natural) natural) ∙ ap (λ e. raw % 2 ^ e / 2 ^ natural) split

        units : bits_between 0 natural raw ≡ raw % 2 ^ natural
        units = ap (λ x. x % 2 ^ (natural - 0)) (div-one raw) ∙ ap (λ n. raw % 2 ^ n) (sub-zero natural)

    pub distance-lt : end ≤ 60 → distance bytes raw < 2 ^ 64
    distance-lt small = omega (arith, distance-is, fields-fit raw end natural (omega arith) small)

  head-lt : raw / 2 ^ end < 16
  head-lt = shr_below raw 4 end fits

  -- the top bit
  top-is : bits_between (8 * bytes - 1) (8 * bytes) raw ≡ raw / 2 ^ end / 8 % 2
  top-is =
      ap (λ e. raw / 2 ^ e % 2 ^ (8 * bytes - (8 * bytes - 1))) from
      ∙ ap (λ j. raw / 2 ^ (end + 3) % 2 ^ j) one_bit
      ∙ ap (λ x. x % 2) (sym (shr-shr raw end 3))
    where
      from : 8 * bytes - 1 ≡ end + 3
      from = omega arith

      one_bit : 8 * bytes - (8 * bytes - 1) ≡ 1
      one_bit = omega arith

  sign-plus : raw / 2 ^ end < 8 → sign_of bytes raw ≡ pos 1
  unfolding sign_of
  sign-plus h = ap (λ t. cond t (pos 1) (negsuc 0)) (eq-eqb _ 0 (top-is ∙ omega arith))

  sign-minus : 8 ≤ raw / 2 ^ end → sign_of bytes raw ≡ negsuc 0
  unfolding sign_of
  sign-minus h = ap (λ t. cond t (pos 1) (negsuc 0)) (ne_eqb _ 0 clear)
    where
      clear : bits_between (8 * bytes - 1) (8 * bytes) raw ≡ 0 → ⊥
      clear e = omega (arith, head-lt, sym top-is ∙ e)

  pub offset-plus : distance bytes raw < 2 ^ 64 → raw / 2 ^ end < 8 → offset_of bytes raw ≡ distance bytes raw
  unfolding offset_of
  offset-plus small h =
      ap (λ s. reduced 64 (s *ℤ pos (distance bytes raw))) (sign-plus h)
      ∙ reduced_is 64 (pos 1 *ℤ pos (distance bytes raw)) 0 (distance bytes raw) (omega (arith, ints))
      ∙ mod-eq_of_lt small

  pub offset-minus : distance bytes raw < 2 ^ 64 → 8 ≤ raw / 2 ^ end → offset_of bytes raw ≡ (0 + (2 ^ 64 - distance bytes raw)) % 2 ^ 64
  unfolding offset_of
  offset-minus small h =
      ap (λ s. reduced 64 (s *ℤ pos (distance bytes raw))) (sign-minus h)
      ∙ reduced_is 64 (negsuc 0 *ℤ pos (distance bytes raw)) 1 (0 + (2 ^ 64 - distance bytes raw)) (omega (arith, ints))

-- what the code computes, by the sign
module _ (bytes raw end natural : ℕ) (ends : end + 4 ≡ 8 * bytes) (small : end ≤ 60) (fits : raw < 2 ^ (8 * bytes))
    (counted : natural ≡ min (bytes * (raw / 2 ^ end % 8)) end)
    (d : ℕ) (sum : d ≡ raw % 2 ^ end / 2 ^ natural + 8 * (raw % 2 ^ natural)) where
  fits-end : raw < 2 ^ (4 + end)
  fits-end = let is : 8 * bytes ≡ 4 + end = omega arith in subst (λ n. raw < 2 ^ n) is fits

  is-distance : distance bytes raw ≡ d
  is-distance = distance-is bytes raw end ends fits-end natural counted ∙ sym sum

  distance-fits : distance bytes raw < 2 ^ 64
  distance-fits = distance-lt bytes raw end ends fits-end natural counted small

  pub plus-is : raw / 2 ^ end < 8 → d ≡ offset_of bytes raw
  plus-is h = sym (offset-plus bytes raw end ends fits-end distance-fits h ∙ is-distance)

  pub minus-is : 8 ≤ raw / 2 ^ end → (0 + (2 ^ 64 - d)) % 2 ^ 64 ≡ offset_of bytes raw
  minus-is h =
      sym (offset-minus bytes raw end ends fits-end distance-fits h ∙ ap (λ n. (0 + (2 ^ 64 - n)) % 2 ^ 64) is-distance)

-- ---- immediates

pub immediate-is : (bytes from raw value : ℕ) → 8 * bytes ≡ from → value ≡ extension from 64 raw → value ≡ immediate_of bytes raw
unfolding immediate_of
immediate-is bytes from raw value size is = is ∙ ap (λ (k : ℕ). extension k 64 raw) (sym size)

pub immediate-whole : (raw : ℕ) → raw < 2 ^ 64 → raw ≡ extension 64 64 raw
unfolding extension
immediate-whole raw small =
    let same : raw % 2 ^ 64 ≡ raw = omega arith in
    sym (ap (λ (n : ℕ). reduced 64 (signed 64 n)) same ∙ reduced-signed 64 raw small)
