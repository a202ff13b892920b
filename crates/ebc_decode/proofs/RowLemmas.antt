-- What the rows of the table accept: bits, and the fields that follow.
use Rattle.std.proofs.Common.{◌≡◌, ℕ, zero, suc, ◌+◌, ◌*◌, ◌/◌, ◌%◌, ◌^◌, ◌<◌, Bool, true, false, not, ◌&&◌, ◌||◌, if◌then◌else◌, nat_lt, nat_le, ◌==◌, List, [], ◌++◌, Some, None, is_some, refl, sym, ◌∙◌, arith}
use Rattle.std.proofs.lemmas.List.{append-nil}
use Rattle.std.proofs.lemmas.Bool.{false≢true, and_parts, eqb-true}
use Rattle.ebc_decode.specs.declared.operand.FieldWidth.{FieldWidth}
use Rattle.ebc_decode.specs.declared.operand.Place.{Place}
use Rattle.ebc_decode.specs.Bytes.{little, field_bytes}
use Rattle.ebc_decode.specs.Spelling.{bit, bytes_in, place_bits, break_number, is_conditional, wanted_carry, width_number, special_number}
use Rattle.ebc_decode.specs.Lawful.{FitsIn}
use Rattle.ebc_decode.specs.ReadingInside.{has_no_bits, has_jump_bits, is_break, width_if, bytes_if, break_with, width_with, condition_with, special_with}

-- ---- three bits

-- what holds of the eight numbers of three bits
pub each_of_8 : (P : ℕ → Type 0) → P 0 → P 1 → P 2 → P 3 → P 4 → P 5 → P 6 → P 7 → (n : ℕ) → n < 8 → P n
each_of_8 P a b c d e f g h zero small = a
each_of_8 P a b c d e f g h (suc zero) small = b
each_of_8 P a b c d e f g h (suc (suc zero)) small = c
each_of_8 P a b c d e f g h (suc (suc (suc zero))) small = d
each_of_8 P a b c d e f g h (suc (suc (suc (suc zero)))) small = e
each_of_8 P a b c d e f g h (suc (suc (suc (suc (suc zero))))) small = f
each_of_8 P a b c d e f g h (suc (suc (suc (suc (suc (suc zero)))))) small = g
each_of_8 P a b c d e f g h (suc (suc (suc (suc (suc (suc (suc zero))))))) small = h
each_of_8 P a b c d e f g h (suc (suc (suc (suc (suc (suc (suc (suc n)))))))) small = absurd (omega arith)

-- a bit that is read as a test is the bit
pub bit-test : (n : ℕ) → n < 2 → bit (n == 1) ≡ n
bit-test zero small = refl
bit-test (suc zero) small = refl
bit-test (suc (suc n)) small = absurd (omega arith)

-- ---- tests that hold

pub bit-false : (b : Bool) → not b ≡ true → bit b ≡ 0
bit-false false h = refl
bit-false true h = absurd (false≢true h)

pub record IsZero (place : Place) : Type 0 where
  pub register : place.register ≡ 0
  pub bits : bit place.indirect ≡ 0

pub zero_place : (place : Place) → has_no_bits place ≡ true → IsZero place
zero_place place h =
    let both = and_parts (not place.indirect) (place.register == 0) h in
    record { register = eqb-true place.register 0 both.1; bits = bit-false place.indirect both.0 }

-- an indirect operand 1 may have an index
pub index_taken : (there indirect : Bool) (raw : ℕ)
    → (not there || indirect) ≡ true
    → indirect ≡ false
    → (if there then Some raw else None) ≡ None
index_taken false indirect raw h e = refl
index_taken true indirect raw h e = absurd (false≢true (sym e ∙ h))

-- ---- fields

pub some-if : (there : Bool) (raw : ℕ) → is_some (if there then Some raw else None) ≡ there
some-if true raw = refl
some-if false raw = refl

pub bytes-if : (there : Bool) (width : FieldWidth) (raw : ℕ)
    → field_bytes (bytes_in width) (if there then Some raw else None) ≡ little (bytes_if (width_if there width)) raw
unfolding little
bytes-if true width raw = refl
bytes-if false width raw = refl

pub fits-if : (there : Bool) (width : FieldWidth) (raw : ℕ)
    → raw < 256 ^ bytes_if (width_if there width)
    → FitsIn (bytes_in width) (if there then Some raw else None)
fits-if true width raw h = h
fits-if false width raw h = tt

-- a list of one field is that of two, of which the second has no bytes
pub alone : (xs : List ℕ) (raw : ℕ) → xs ≡ xs ++ little 0 raw
unfolding little
alone xs raw = sym (append-nil xs)

-- two fields that aren't there have no bytes
pub neither : (f g : ℕ) → [] ≡ little 0 f ++ little 0 g
unfolding little
neither f g = refl

-- ---- the bits of each row

pub break_bits : (place : Place)
    → place.register < 8
    → is_break place ≡ true
    → break_number (break_with place.register) ≡ place_bits place
break_bits place small h =
    let both = and_parts (not place.indirect) (nat_lt place.register 7 && not (place.register == 2)) h in
    let P : ℕ → Type 0 = λ n. (nat_lt n 7 && not (n == 2)) ≡ true → break_number (break_with n) ≡ n in
    let e = each_of_8 P (λ _. refl) (λ _. refl) (λ h. absurd (false≢true h)) (λ _. refl) (λ _. refl) (λ _. refl) (λ _. refl)
    (λ h. absurd (false≢true h)) place.register small both.1 in
    let z = bit-false place.indirect both.0 in
    omega arith

-- the high bits of byte 1 that a jump reads are all that are set
pub jump_bits : (register : ℕ) (indirect : Bool)
    → register < 8
    → has_jump_bits (record { register = register; indirect = indirect }) ≡ true
    → bit (register % 2 == 1) + 4 * bit (wanted_carry (condition_with indirect (nat_le 4 register)))
    + 8 * bit (is_conditional (condition_with indirect (nat_le 4 register)))
    ≡ register + 8 * bit indirect
jump_bits register true small h =
    let P : ℕ → Type 0 = λ n. ((n / 2 % 2 == 0) && (nat_lt n 4 || true)) ≡ true
    → bit (n % 2 == 1) + 4 * bit (wanted_carry (condition_with true (nat_le 4 n)))
    + 8 * bit (is_conditional (condition_with true (nat_le 4 n))) ≡ n + 8 in
    each_of_8 P (λ _. refl) (λ _. refl) (λ h. absurd (false≢true h)) (λ h. absurd (false≢true h)) (λ _. refl) (λ _. refl)
    (λ h. absurd (false≢true h)) (λ h. absurd (false≢true h)) register small h
jump_bits register false small h =
    let P : ℕ → Type 0 = λ n. ((n / 2 % 2 == 0) && (nat_lt n 4 || false)) ≡ true
    → bit (n % 2 == 1) + 4 * 0 + 8 * 0 ≡ n + 0 in
    each_of_8 P (λ _. refl) (λ _. refl) (λ h. absurd (false≢true h)) (λ h. absurd (false≢true h)) (λ h. absurd (false≢true h))
    (λ h. absurd (false≢true h)) (λ h. absurd (false≢true h)) (λ h. absurd (false≢true h)) register small h

pub call_bits : (register : ℕ) → register < 4 → bit (register % 2 == 1) + 2 * bit (nat_le 2 register) ≡ register
call_bits register small =
    let P : ℕ → Type 0 = λ n. n < 4 → bit (n % 2 == 1) + 2 * bit (nat_le 2 n) ≡ n in
    each_of_8 P (λ _. refl) (λ _. refl) (λ _. refl) (λ _. refl) (λ h. absurd (omega arith)) (λ h. absurd (omega arith))
    (λ h. absurd (omega arith)) (λ h. absurd (omega arith)) register (omega arith) small

pub special_bits : (register : ℕ) → register < 2 → special_number (special_with register) ≡ register
special_bits zero small = refl
special_bits (suc zero) small = refl
special_bits (suc (suc n)) small = absurd (omega arith)

pub moved_bits : (register : ℕ) → register < 8
    → width_number (width_with (register % 4)) + 4 * bit (nat_le 4 register) ≡ register
moved_bits register small =
    let P : ℕ → Type 0 = λ n. width_number (width_with (n % 4)) + 4 * bit (nat_le 4 n) ≡ n in
    each_of_8 P refl refl refl refl refl refl refl refl register small

pub index_bits : (register : ℕ) → register < 8 → (register % 4 == 0) ≡ true → 4 * bit (nat_le 4 register) ≡ register
index_bits register small h =
    let P : ℕ → Type 0 = λ n. (n % 4 == 0) ≡ true → 4 * bit (nat_le 4 n) ≡ n in
    each_of_8 P (λ _. refl) (λ h. absurd (false≢true h)) (λ h. absurd (false≢true h)) (λ h. absurd (false≢true h)) (λ _. refl)
    (λ h. absurd (false≢true h)) (λ h. absurd (false≢true h)) (λ h. absurd (false≢true h)) register small h
