-- The last bytes, and zeros after them.
use Rattle.std.proofs.Common.{◌≡◌, ℕ, zero, suc, ◌-◌, ◌≤◌, ◌<◌, List, ◌++◌, length, take, drop, replicate, sym, ap, ◌∙◌, arith}
use Rattle.std.proofs.lemmas.List.{take_all, append-nil}
use Rattle.ebc_machine.specs.Flat.{front_from}

-- so many bytes that are 0
abbrev pub none_of : ℕ → List ℕ
none_of n = replicate n 0

pub zeros_left : (n k : ℕ) → drop k (none_of n) ≡ none_of (n - k)
zeros_left n zero = ap (λ (m : ℕ). none_of m) (same n)
  where
    same : (n : ℕ) → n ≡ n - 0
    same n = omega arith
zeros_left zero (suc k) = ap (λ (m : ℕ). none_of m) (none k)
  where
    none : (k : ℕ) → 0 ≡ 0 - suc k
    none k = omega arith
zeros_left (suc n) (suc k) = zeros_left n k ∙ ap (λ (m : ℕ). none_of m) (less n k)
  where
    less : (n k : ℕ) → n - k ≡ suc n - suc k
    less n k = omega arith

pub last_front : (bytes rest copied : List ℕ) (place : ℕ)
    → rest ≡ drop place bytes
    → copied ≡ rest
    → length rest < 18
    → (copied ++ drop (length rest) (none_of 18)) ≡ front_from bytes place
unfolding front_from
last_front bytes rest copied place is same few =
    let whole : take 18 rest ≡ rest = take_all 18 rest (omega arith) in
    ap (λ (xs : List ℕ). xs ++ drop (length rest) (none_of 18)) (same ∙ sym whole)
    ∙ ap (λ (zeros : List ℕ). take 18 rest ++ zeros) (zeros_left 18 (length rest))
    ∙ ap (λ (xs : List ℕ). take 18 xs ++ none_of (18 - length xs)) is

pub whole_front : (bytes copied : List ℕ) (place : ℕ)
    → copied ≡ take 18 (drop place bytes)
    → 18 ≤ length (drop place bytes)
    → copied ≡ front_from bytes place
unfolding front_from
whole_front bytes copied place is many =
    let none : 18 - length (drop place bytes) ≡ 0 = omega arith in
    is ∙ sym (append-nil (take 18 (drop place bytes)))
    ∙ ap (λ (zeros : ℕ). take 18 (drop place bytes) ++ none_of zeros) (sym none)
