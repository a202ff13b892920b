-- Numbers as bytes, and back.
use Rattle.std.proofs.Common.{◌≡◌, ℕ, zero, suc, ◌+◌, ◌*◌, ◌/◌, ◌%◌, ◌^◌, ◌<◌, List, [], ◌∷◌, ◌++◌, length, get_or, take, drop, refl, sym, ap, ◌∙◌, zero-add, mul_comm, arith}
use Rattle.std.proofs.Math.Nat.{div-div-eq-div-mul, pow-suc, mod-eq_of_lt}
use Rattle.std.proofs.Math.Arith.{mod-mul}
use Rattle.std.proofs.lemmas.List.{take_at, drop_at}
use Rattle.ebc_decode.specs.Bytes.{little}
use Rattle.ebc_decode.specs.ReadingInside.{number_of}

pub length-little : (n x : ℕ) → length (little n x) ≡ n
unfolding little
length-little zero x = refl
length-little (suc n) x = ap (λ (k : ℕ). suc k) (length-little n (x / 256))

some_power : (n : ℕ) → 0 < 256 ^ n
some_power zero = omega arith
some_power (suc n) = let e = pow-suc 256 n in let h = some_power n in omega arith

-- a byte further
further : (n x : ℕ) → x / 256 / 256 ^ n ≡ x / 256 ^ suc n
further n x =
    div-div-eq-div-mul x 256 (256 ^ n) ∙ ap (λ (m : ℕ). x / m) (mul_comm 256 (256 ^ n) ∙ sym (pow-suc 256 n))

pub little-add : (m n x : ℕ) → little (m + n) x ≡ little m x ++ little n (x / 256 ^ m)
unfolding little
little-add zero n x =
    let e : x ≡ x / 256 ^ 0 = omega arith in
    rw zero-add (ap (λ (y : ℕ). little n y) e)
little-add (suc m) n x =
    let e : suc m + n ≡ suc (m + n) = omega arith in
    ap (λ (k : ℕ). little k x) e
    ∙ ap (λ (l : List ℕ). (x % 256) ∷ l) (little-add m n (x / 256) ∙ ap (λ (y : ℕ). little m (x / 256) ++ little n y) (further m x))

-- the lowest byte of a remainder, and the others
cut : (n x : ℕ) → x % 256 ^ suc n ≡ (x / 256 % 256 ^ n) * 256 + x % 256
cut n x = ap (λ (m : ℕ). x % m) (pow-suc 256 n) ∙ mod-mul x (some_power n) (omega arith)

pub number_of-little : (n x : ℕ) → number_of (little n x) ≡ x % 256 ^ n
unfolding little
number_of-little zero x = omega arith
number_of-little (suc n) x = let e = number_of-little n (x / 256) in let h = cut n x in omega arith

pub little-mod : (n x : ℕ) → little n (x % 256 ^ n) ≡ little n x
unfolding little
little-mod zero x = refl
little-mod (suc n) x =
    let h = cut n x in
    let low : x % 256 ^ suc n % 256 ≡ x % 256 = omega arith in
    let high : x % 256 ^ suc n / 256 ≡ x / 256 % 256 ^ n = omega arith in
    λ i. low i ∷ (ap (λ (y : ℕ). little n y) high ∙ little-mod n (x / 256)) i

pub number_of-append : (xs ys : List ℕ) → number_of (xs ++ ys) ≡ number_of xs + 256 ^ length xs * number_of ys
number_of-append [] ys = omega arith
number_of-append (x ∷ xs) ys =
    let e = number_of-append xs ys in
    let h = pow-suc 256 (length xs) in
    let k : 256 ^ suc (length xs) * number_of ys ≡ 256 ^ length xs * 256 * number_of ys = ap (λ (m : ℕ). m * number_of ys) h in
    omega arith

-- bytes are those of their number
pub little-number_of : (xs : List ℕ) → ((i : ℕ) → get_or xs i 0 < 256) → little (length xs) (number_of xs) ≡ xs
unfolding little
little-number_of [] few = refl
little-number_of (x ∷ xs) few =
    let small : x < 256 = few 0 in
    let low : (x + 256 * number_of xs) % 256 ≡ x = omega arith in
    let high : (x + 256 * number_of xs) / 256 ≡ number_of xs = omega arith in
    λ i. low i ∷ (ap (λ (y : ℕ). little (length xs) y) high ∙ little-number_of xs (λ i. few (suc i))) i

-- two fields in a row are the bytes of the number that they were taken from
pub little-fields : (m n x : ℕ) → little m (x % 256 ^ m) ++ little n (x / 256 ^ m % 256 ^ n) ≡ little (m + n) x
little-fields m n x =
    (λ i. little-mod m x i ++ little-mod n (x / 256 ^ m) i) ∙ sym (little-add m n x)

-- and those whose bytes they are, are the fields
pub fields-little : (m n x f g : ℕ)
    → f < 256 ^ m
    → g < 256 ^ n
    → little m f ++ little n g ≡ little (m + n) x
    → (x % 256 ^ m ≡ f) × (x / 256 ^ m % 256 ^ n ≡ g)
fields-little m n x f g one other e =
    let both = e ∙ little-add m n x in
    let y = x / 256 ^ m in
    let front : little m f ≡ little m x =
    sym (take_at (little m f) (little n g) m (length-little m f)) ∙ ap (λ (l : List ℕ). take m l) both
    ∙ take_at (little m x) (little n y) m (length-little m x) in
    let rest : little n g ≡ little n y =
    sym (drop_at (little m f) (little n g) m (length-little m f)) ∙ ap (λ (l : List ℕ). drop m l) both
    ∙ drop_at (little m x) (little n y) m (length-little m x) in (
      sym (number_of-little m x) ∙ sym (ap (λ (l : List ℕ). number_of l) front) ∙ number_of-little m f ∙ mod-eq_of_lt one,
      sym (number_of-little n y) ∙ sym (ap (λ (l : List ℕ). number_of l) rest) ∙ number_of-little n g ∙ mod-eq_of_lt other,
    )
