-- Two fields as the bytes of two words.
use Rattle.std.proofs.Common.{◌≡◌, ℕ, zero, suc, ◌+◌, ◌-◌, ◌*◌, ◌/◌, ◌%◌, ◌^◌, ◌<◌, ◌≤◌, List, [], ◌∷◌, ◌++◌, replicate, length, get_or, Option, Some, None, refl, sym, ap, ◌∙◌, append_assoc, length-append, mul_comm, arith}
use Rattle.std.specs.Int.{bytes_low_first, byte_at, to_le_bytes, w64}
use Rattle.std.proofs.Math.Nat.{div-div-eq-div-mul, pow-suc}
use Rattle.std.proofs.lemmas.Nat.{div-mul-add, mod-mul-add}
use Rattle.ebc_decode.specs.declared.operand.FieldWidth.{FieldWidth}
use Rattle.ebc_decode.specs.declared.operand.FieldWidth.TheVariants.{Bits16, Bits32, Bits64}
use Rattle.ebc_decode.specs.declared.operand.Field.{Field}
use Rattle.ebc_decode.specs.Bytes.{little}
use Rattle.ebc_decode.specs.Spelling.{bytes_in}
use Rattle.ebc_decode.specs.WritingInside.{bytes_of_field, Fits, field_size, field_number, joined_number}
use Rattle.ebc_decode.proofs.ByteLemmas.{length-little, little-add, little-mod}

-- ---- std's bytes of a word

byte_at-is : (i n : ℕ) → byte_at i n ≡ n / 256 ^ i % 256
byte_at-is zero n = omega arith
byte_at-is (suc i) n = refl

low_first-is : (k i n : ℕ) → bytes_low_first i k n ≡ little k (n / 256 ^ i)
unfolding little
low_first-is zero i n = refl
low_first-is (suc k) i n =
    let further : n / 256 ^ suc i ≡ n / 256 ^ i / 256 =
    ap (λ (m : ℕ). n / m) (pow-suc 256 i) ∙ sym (div-div-eq-div-mul n (256 ^ i) 256) in
    λ j. byte_at-is i n j ∷ (low_first-is k (suc i) n ∙ ap (λ (m : ℕ). little k m) further) j

pub word_bytes : (n : ℕ) → to_le_bytes w64 n ≡ little 8 n
word_bytes n = let e : n / 256 ^ 0 ≡ n = omega arith in low_first-is 8 0 n ∙ ap (λ (m : ℕ). little 8 m) e

-- the eight bytes of an array
abbrev pub eight_of : List ℕ → List ℕ
eight_of bytes =
    get_or bytes 0 0 ∷ get_or bytes 1 0 ∷ get_or bytes 2 0 ∷ get_or bytes 3 0
    ∷ get_or bytes 4 0 ∷ get_or bytes 5 0 ∷ get_or bytes 6 0 ∷ get_or bytes 7 0 ∷ []

pub array_bytes : (bytes : List ℕ) (n : ℕ) → bytes ≡ to_le_bytes w64 n → eight_of bytes ≡ little 8 n
array_bytes bytes n e = ap (λ (l : List ℕ). eight_of l) e ∙ word_bytes n

-- ---- fields in a row

little-zero : (n : ℕ) → little n 0 ≡ replicate n 0
unfolding little
little-zero zero = refl
little-zero (suc n) = ap (λ (l : List ℕ). 0 ∷ l) (little-zero n)

little-join : (m n f g : ℕ) → f < 256 ^ m → little (m + n) (f + 256 ^ m * g) ≡ little m f ++ little n g
little-join m n f g small =
    let turn : f + 256 ^ m * g ≡ g * 256 ^ m + f = let e = mul_comm (256 ^ m) g in omega arith in
    let low : (f + 256 ^ m * g) % 256 ^ m ≡ f =
    ap (λ (k : ℕ). k % 256 ^ m) turn ∙ mod-mul-add g (256 ^ m) f small in
    let high : (f + 256 ^ m * g) / 256 ^ m ≡ g =
    ap (λ (k : ℕ). k / 256 ^ m) turn ∙ div-mul-add g (256 ^ m) f small in
    let front : little m (f + 256 ^ m * g) ≡ little m f =
    sym (little-mod m (f + 256 ^ m * g)) ∙ ap (λ (k : ℕ). little m k) low in
    little-add m n (f + 256 ^ m * g) ∙ (λ i. front i ++ little n (high i))

-- a field has its own bytes, and zeros
little-zeros : (m n f : ℕ) → f < 256 ^ m → little (m + n) f ≡ little m f ++ replicate n 0
little-zeros m n f small =
    let e : f ≡ f + 256 ^ m * 0 = let z = mul_comm (256 ^ m) 0 in omega arith in
    ap (λ (k : ℕ). little (m + n) k) e ∙ little-join m n f 0 small ∙ ap (λ (l : List ℕ). little m f ++ l) (little-zero n)

field_bytes-is : (field : Option Field) → bytes_of_field field ≡ little (field_size field) (field_number field)
unfolding little
field_bytes-is None = refl
field_bytes-is (Some field) = refl

field_fits : (field : Option Field) → Fits field → field_number field < 256 ^ field_size field
field_fits None h = omega arith
field_fits (Some field) h = h

pub field_size-le : (field : Option Field) → field_size field ≤ 8
field_size-le None = omega arith
field_size-le (Some field) = few field.width
  where
    few : (width : FieldWidth) → bytes_in width ≤ 8
    few Bits16 = omega arith
    few Bits32 = omega arith
    few Bits64 = omega arith

pub fields_length : (one other : Option Field)
    → length (bytes_of_field one ++ bytes_of_field other) ≡ field_size one + field_size other
fields_length one other =
    let a = ap (λ (l : List ℕ). length l) (field_bytes-is one) ∙ length-little (field_size one) (field_number one) in
    let b = ap (λ (l : List ℕ). length l) (field_bytes-is other) ∙ length-little (field_size other) (field_number other) in
    let c = length-append (bytes_of_field one) (bytes_of_field other) in
    omega arith

module _ (one other : Option Field) where
  -- two words whose number is that of two fields
  words_bytes : (low high : ℕ)
      → Fits one
      → Fits other
      → low < 2 ^ 64
      → low + 2 ^ 64 * high ≡ joined_number one other
      → little 8 low ++ little 8 high
      ≡ (bytes_of_field one ++ bytes_of_field other) ++ replicate (16 - (field_size one + field_size other)) 0
  words_bytes low high fits also small e =
      let m = field_size one in
      let n = field_size other in
      let f = field_number one in
      let g = field_number other in
      let a = field_size-le one in
      let b = field_size-le other in
      let left = 16 - (m + n) in
      let whole : 16 ≡ m + (n + left) = omega arith in
      sym (little-join 8 8 low high small)
      ∙ ap (λ (k : ℕ). little 16 k) e
      ∙ ap (λ (k : ℕ). little k (f + 256 ^ m * g)) whole
      ∙ little-join m (n + left) f g (field_fits one fits)
      ∙ ap (λ (l : List ℕ). little m f ++ l) (little-zeros n left g (field_fits other also))
      ∙ sym (append_assoc (little m f) (little n g) (replicate left 0))
      ∙ (λ i. (sym (field_bytes-is one) i ++ sym (field_bytes-is other) i) ++ replicate left 0)

  -- the bytes that are written
  pub written : (spelling : List ℕ) (first second low high : ℕ)
      → Fits one
      → Fits other
      → low < 2 ^ 64
      → low + 2 ^ 64 * high ≡ joined_number one other
      → (first ∷ second ∷ (bytes_of_field one ++ bytes_of_field other)) ≡ spelling
      → (first ∷ second ∷ (little 8 low ++ little 8 high)) ≡ spelling ++ replicate (18 - length spelling) 0
  written spelling first second low high fits also small e are =
      let fields = bytes_of_field one ++ bytes_of_field other in
      let many = fields_length one other in
      let size = sym (ap (λ (l : List ℕ). length l) are) in
      let left : 16 - (field_size one + field_size other) ≡ 18 - length spelling = omega arith in
      (λ i. first ∷ second ∷ words_bytes low high fits also small e i)
      ∙ ap (λ (k : ℕ). first ∷ second ∷ (fields ++ replicate k 0)) left
      ∙ ap (λ (l : List ℕ). l ++ replicate (18 - length spelling) 0) are

  pub written_length : (spelling : List ℕ) (first second : ℕ)
      → (first ∷ second ∷ (bytes_of_field one ++ bytes_of_field other)) ≡ spelling
      → 2 + field_size one + field_size other ≡ length spelling
  written_length spelling first second are =
      let many = fields_length one other in
      let size = ap (λ (l : List ℕ). length l) are in
      omega arith
