-- Sums of bytes and of words, as far as a loop has come.
use Rattle.std.proofs.Common.{◌≡◌, ℕ, suc, ◌+◌, ◌*◌, ◌%◌, ◌≤◌, ◌<◌, List, ◌∷◌, length, take, drop, get_or, sum, refl, sym, ap, ◌∙◌, subst, arith, add-one}
use Rattle.std.proofs.Math.Seq.{drop-cons}
use Rattle.std.proofs.lemmas.List.{drop_all}
use Rattle.std.proofs.lemmas.List.Sums.{sum_by_more}
use Rattle.volume_reader.specs.Sums.{sum_of_words}

-- the words from a place on are the one there and the others
pub sum_of_words-more : (xs : List ℕ) (k : ℕ) → suc k < length xs
    → sum_of_words (drop k xs) ≡ get_or xs k 0 + 256 * get_or xs (suc k) 0 + sum_of_words (drop (suc (suc k)) xs)
sum_of_words-more xs k h =
    let here : k < length xs = omega arith in
    let P : List ℕ → Type 0 = λ ys. sum_of_words ys ≡ get_or xs k 0 + 256 * get_or xs (suc k) 0 + sum_of_words (drop (suc (suc k)) xs) in
    subst P (sym (drop-cons xs k 0 here ∙ ap (λ ys. get_or xs k 0 ∷ ys) (drop-cons xs (suc k) 0 h))) refl

-- the step of a loop over words
pub words_step : (xs : List ℕ) (place total : ℕ) → 2 * place + 1 < length xs
    → (total + sum_of_words (drop (2 * place) xs)) % 65536 ≡ sum_of_words xs % 65536
    → ((total + (get_or xs (2 * place) 0 + 256 * get_or xs (2 * place + 1) 0)) % 65536 + sum_of_words (drop (2 * (place + 1)) xs)) % 65536 ≡ sum_of_words xs % 65536
words_step xs place total h e =
    let more = sum_of_words-more xs (2 * place) (omega arith) in
    let P : ℕ → Type 0 = λ k. sum_of_words (drop (2 * place) xs) ≡ get_or xs (2 * place) 0 + 256 * get_or xs (2 * place + 1) 0 + sum_of_words (drop k xs) in
    let there : suc (suc (2 * place)) ≡ 2 * (place + 1) = omega arith in
    let Q : ℕ → Type 0 = λ k. sum_of_words (drop (2 * place) xs) ≡ get_or xs (2 * place) 0 + 256 * get_or xs k 0 + sum_of_words (drop (suc (suc (2 * place))) xs) in
    let by_place : sum_of_words (drop (2 * place) xs) ≡ get_or xs (2 * place) 0 + 256 * get_or xs (2 * place + 1) 0 + sum_of_words (drop (2 * (place + 1)) xs)
    = subst P there (subst Q (sym (add-one (2 * place))) more) in
    omega arith

-- its end
pub words_end : (xs : List ℕ) (place total : ℕ) → length xs ≤ 2 * place
    → (total + sum_of_words (drop (2 * place) xs)) % 65536 ≡ sum_of_words xs % 65536 → total < 65536
    → total ≡ sum_of_words xs % 65536
words_end xs place total h e small =
    let none : sum_of_words (drop (2 * place) xs) ≡ 0 = ap sum_of_words (drop_all (2 * place) xs h) in
    omega arith

-- the step of a loop over bytes
pub bytes_step : (xs : List ℕ) (i total : ℕ) → i < length xs → total ≡ sum (take i xs) % 256
    → (total + get_or xs i 0) % 256 ≡ sum (take (i + 1) xs) % 256
bytes_step xs i total h e =
    let more : sum (take (i + 1) xs) ≡ sum (take i xs) + get_or xs i 0 = sum_by_more (λ x. x) xs i 0 h in
    omega arith
