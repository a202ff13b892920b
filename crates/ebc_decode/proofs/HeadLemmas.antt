-- The first two bytes, and their fields.
use Rattle.std.proofs.Common.{◌≡◌, ℕ, ◌+◌, ◌*◌, ◌/◌, ◌%◌, ◌<◌, Bool, true, false, ◌==◌, ap, ◌∙◌, arith}
use Rattle.ebc_decode.specs.declared.operand.Place.{Place}
use Rattle.ebc_decode.specs.declared.head.Head.{Head}
use Rattle.ebc_decode.specs.Spelling.{bit, place_bits}
use Rattle.ebc_decode.specs.ReadingInside.{place_in, head_in}
use Rattle.ebc_decode.proofs.RowLemmas.{bit-test}

-- Fields fit the bits that they have.
pub record IsHead (head : Head) : Type 0 where
  pub opcode : head.opcode < 64
  pub first : head.first.register < 8
  pub second : head.second.register < 8
  pub byte : head.byte ≡ place_bits head.first + 16 * place_bits head.second

-- the fields of two bytes
abbrev pub with_fields : ℕ → Bool → Bool → Place → Place → Head
with_fields opcode six seven first second =
    record {
      opcode = opcode;
      six = six;
      seven = seven;
      first = first;
      second = second;
      byte = place_bits first + 16 * place_bits second;
    }

-- byte 0
abbrev pub byte_0 : Head → ℕ
byte_0 head = head.opcode + 64 * bit head.six + 128 * bit head.seven

pub place_bits-place_in : (n : ℕ) → n < 16 → place_bits (place_in n) ≡ n
place_bits-place_in n small = let e = bit-test (n / 8) (omega arith) in omega arith

pub head_in-is : (first second : ℕ) → first < 256 → second < 256 → IsHead (head_in first second)
head_in-is first second one other =
    let low = place_bits-place_in (second % 16) (omega arith) in
    let high = place_bits-place_in (second / 16) (omega arith) in
    record { opcode = omega arith; first = omega arith; second = omega arith; byte = omega arith }

pub byte_0-head_in : (first second : ℕ) → first < 256 → byte_0 (head_in first second) ≡ first
byte_0-head_in first second small =
    let six = bit-test (first / 64 % 2) (omega arith) in
    let seven = bit-test (first / 128) (omega arith) in
    omega arith

-- four bits
pub place_bits-lt : (place : Place) → place.register < 8 → place_bits place < 16
place_bits-lt place small = few place.register place.indirect small
  where
    few : (register : ℕ) (indirect : Bool) → register < 8 → register + 8 * bit indirect < 16
    few register true small = omega arith
    few register false small = omega arith

-- eight bits
pub byte_0-lt : (head : Head) → head.opcode < 64 → byte_0 head < 256
byte_0-lt head small = few head.opcode head.six head.seven small
  where
    few : (opcode : ℕ) (six seven : Bool) → opcode < 64 → opcode + 64 * bit six + 128 * bit seven < 256
    few opcode true true small = omega arith
    few opcode true false small = omega arith
    few opcode false true small = omega arith
    few opcode false false small = omega arith

-- ---- and back

place_in-place_bits : (place : Place) → place.register < 8 → place_in (place_bits place) ≡ place
place_in-place_bits place small = with_bits place.register place.indirect small
  where
    with_bits : (register : ℕ) (indirect : Bool) → register < 8
        → place_in (register + 8 * bit indirect) ≡ record { register = register; indirect = indirect }
    with_bits register true small =
        let low : (register + 8) % 8 ≡ register = omega arith in
        let high : (register + 8) / 8 ≡ 1 = omega arith in
        λ i. record { register = low i; indirect = high i == 1 }
    with_bits register false small =
        let low : (register + 0) % 8 ≡ register = omega arith in
        let high : (register + 0) / 8 ≡ 0 = omega arith in
        λ i. record { register = low i; indirect = high i == 1 }

-- what two bits of byte 0 are read as
bits_back : (opcode : ℕ) (six seven : Bool) → opcode < 64
    → let byte = opcode + 64 * bit six + 128 * bit seven in
    (byte % 64 ≡ opcode) × ((byte / 64 % 2 == 1) ≡ six) × ((byte / 128 == 1) ≡ seven)
bits_back opcode true true small =
    let a : (opcode + 64 + 128) / 64 % 2 ≡ 1 = omega arith in
    let b : (opcode + 64 + 128) / 128 ≡ 1 = omega arith in
    (omega arith, ap (λ (n : ℕ). n == 1) a, ap (λ (n : ℕ). n == 1) b)
bits_back opcode true false small =
    let a : (opcode + 64 + 0) / 64 % 2 ≡ 1 = omega arith in
    let b : (opcode + 64 + 0) / 128 ≡ 0 = omega arith in
    (omega arith, ap (λ (n : ℕ). n == 1) a, ap (λ (n : ℕ). n == 1) b)
bits_back opcode false true small =
    let a : (opcode + 0 + 128) / 64 % 2 ≡ 0 = omega arith in
    let b : (opcode + 0 + 128) / 128 ≡ 1 = omega arith in
    (omega arith, ap (λ (n : ℕ). n == 1) a, ap (λ (n : ℕ). n == 1) b)
bits_back opcode false false small =
    let a : (opcode + 0 + 0) / 64 % 2 ≡ 0 = omega arith in
    let b : (opcode + 0 + 0) / 128 ≡ 0 = omega arith in
    (omega arith, ap (λ (n : ℕ). n == 1) a, ap (λ (n : ℕ). n == 1) b)

pub head_in-back : (opcode : ℕ) (six seven : Bool) (first second : Place)
    → opcode < 64
    → first.register < 8
    → second.register < 8
    → head_in (opcode + 64 * bit six + 128 * bit seven) (place_bits first + 16 * place_bits second)
    ≡ with_fields opcode six seven first second
head_in-back opcode six seven first second small one other =
    let bits = bits_back opcode six seven small in
    let low_few = place_bits-lt first one in
    let low : (place_bits first + 16 * place_bits second) % 16 ≡ place_bits first = omega arith in
    let high : (place_bits first + 16 * place_bits second) / 16 ≡ place_bits second = omega arith in
    let first_back = ap (λ (n : ℕ). place_in n) low ∙ place_in-place_bits first one in
    let second_back = ap (λ (n : ℕ). place_in n) high ∙ place_in-place_bits second other in
    λ i. record {
      opcode = bits.0 i;
      six = bits.1 i;
      seven = bits.2 i;
      first = first_back i;
      second = second_back i;
      byte = place_bits first + 16 * place_bits second;
    }
