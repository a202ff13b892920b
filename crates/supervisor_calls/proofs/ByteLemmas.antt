-- Words of memory, one behind the other, as the front that a fetch answers.
use Rattle.std.proofs.Common.{◌≡◌, ℕ, ◌+◌, ◌-◌, ◌≤◌, ◌<◌, List, [], ◌++◌, length, take, drop, replicate, All, refl, sym, ap, ◌∙◌, append_assoc, arith}
use Rattle.std.proofs.Math.Seq.{take-add, take-append-add, drop-append-add}
use Rattle.std.proofs.lemmas.List.{take_at, drop-drop, length-append, length-take-le, length-drop, append-nil, take-replicate, replicate-append-replicate}
use Rattle.std.proofs.lemmas.List.Elements.{All-take, All-drop}
use Rattle.mm_base.specs.Numbers.{number_in, bytes_of_word, overwritten}
use Rattle.mm_base.proofs.NumberLemmas.{bytes_of_word-filled}

module _ (bytes : List ℕ) (small : All (λ byte. byte < 256) bytes) where
  -- the word of n bytes is these bytes, and zeros
  pub word_is : (at n : ℕ) → n ≤ 8 → at + n ≤ length bytes
      → bytes_of_word (number_in bytes at n) ≡ take n (drop at bytes) ++ replicate (8 - n) 0
  word_is at n few within =
      let long : length (take n (drop at bytes)) ≡ n = length-take-le n (drop at bytes) (omega (arith, within, length-drop at bytes)) in
      bytes_of_word-filled (take n (drop at bytes)) (omega (arith, long, few))
      (All-take (λ byte. byte < 256) n (drop at bytes) (All-drop (λ byte. byte < 256) at bytes small))
      ∙ ap (λ (k : ℕ). take n (drop at bytes) ++ replicate (8 - k) 0) long

-- ---- three pieces over zeros

over_at : (front behind piece : List ℕ) (at : ℕ) → length front ≡ at → overwritten (front ++ behind) at piece ≡ (front ++ piece) ++ drop (length piece) behind
over_at front behind piece at long =
    ap (λ (f : List ℕ). f ++ piece ++ drop (at + length piece) (front ++ behind)) (take_at front behind at long)
    ∙ ap (λ (k : ℕ). (front ++ piece) ++ drop (k + length piece) (front ++ behind)) (sym long)
    ∙ ap (λ (b : List ℕ). (front ++ piece) ++ b) (drop-append-add front behind (length piece))

pub joined_is : (first second third one two three : List ℕ) → length first ≡ 8 → length second ≡ 8 → length third ≡ 2
    → one ≡ overwritten (replicate 18 0) 0 first → two ≡ overwritten one 8 second → three ≡ overwritten two 16 third
    → three ≡ first ++ second ++ third
joined_is first second third one two three long-first long-second long-third a b c =
    let e1 : one ≡ first ++ replicate 10 0 =
    a ∙ over_at [] (replicate 18 0) first 0 refl ∙ ap (λ (k : ℕ). first ++ drop k (replicate 18 0)) long-first in
    let e2 : two ≡ (first ++ second) ++ replicate 2 0 =
    b ∙ ap (λ (o : List ℕ). overwritten o 8 second) e1 ∙ over_at first (replicate 10 0) second 8 long-first
    ∙ ap (λ (k : ℕ). (first ++ second) ++ drop k (replicate 10 0)) long-second in
    let both : length (first ++ second) ≡ 16 = omega (arith, long-first, long-second, length-append first second) in
    c ∙ ap (λ (t : List ℕ). overwritten t 16 third) e2 ∙ over_at (first ++ second) (replicate 2 0) third 16 both
    ∙ ap (λ (k : ℕ). ((first ++ second) ++ third) ++ drop k (replicate 2 0)) long-third
    ∙ append-nil ((first ++ second) ++ third)

-- ---- what a fetch answers, by how many words it has

abbrev zeros : ℕ → List ℕ
zeros n = replicate n 0

module _ (code : List ℕ) (n : ℕ) where
  -- one word
  pub one_word : n ≤ 8 → (take n code ++ zeros (8 - n)) ++ zeros 8 ++ zeros 2 ≡ take n code ++ zeros (18 - n)
  one_word few =
      append_assoc (take n code ++ zeros (8 - n)) (zeros 8) (zeros 2) ∙ append_assoc (take n code) (zeros (8 - n)) (zeros 10)
      ∙ ap (λ (z : List ℕ). take n code ++ z) (replicate-append-replicate (8 - n) 10 0 ∙ ap zeros (omega (arith, few)))

  -- two words
  module _ (more : 8 < n) (few : n ≤ 16) where
    second : List ℕ
    second = take (n - 8) (drop 8 code)

    rest : List ℕ
    rest = zeros (8 - (n - 8))

    pub two_words : (take 8 code ++ zeros 0) ++ (take (n - 8) (drop 8 code) ++ zeros (8 - (n - 8))) ++ zeros 2 ≡ take n code ++ zeros (18 - n)
    unfolding second rest
    two_words =
        ap (λ (x : List ℕ). x ++ (second ++ rest) ++ zeros 2) (append-nil (take 8 code))
        ∙ append_assoc (take 8 code) (second ++ rest) (zeros 2)
        ∙ ap (λ (x : List ℕ). take 8 code ++ x) (append_assoc second rest (zeros 2))
        ∙ sym (append_assoc (take 8 code) second (rest ++ zeros 2))
        ∙ ap (λ (x : List ℕ). x ++ (rest ++ zeros 2)) (sym (take-add 8 (n - 8) code))
        ∙ ap (λ (k : ℕ). take k code ++ (rest ++ zeros 2)) (omega (arith, more))
        ∙ ap (λ (z : List ℕ). take n code ++ z) (replicate-append-replicate (8 - (n - 8)) 2 0 ∙ ap zeros (omega (arith, more, few)))

  -- three words
  module _ (more : 16 < n) (few : n ≤ 18) (long : n ≤ length code) where
    third : List ℕ
    third = take (n - 16) (drop 16 code)

    third_long : length third ≡ n - 16
    unfolding third
    third_long = length-take-le (n - 16) (drop 16 code) (omega (arith, more, long, length-drop 16 code))

    two_of_it : take 2 (third ++ zeros (8 - (n - 16))) ≡ third ++ zeros (18 - n)
    two_of_it =
        let two : 2 ≡ length third + (18 - n) = omega (arith, third_long, more, few) in
        ap (λ (k : ℕ). take k (third ++ zeros (8 - (n - 16)))) two
        ∙ take-append-add third (zeros (8 - (n - 16))) (18 - n)
        ∙ ap (λ (z : List ℕ). third ++ z) (take-replicate (18 - n) (8 - (n - 16)) 0 (omega (arith, more, few)))

    pub three_words : (take 8 code ++ zeros 0) ++ (take 8 (drop 8 code) ++ zeros 0) ++ take 2 (take (n - 16) (drop 16 code) ++ zeros (8 - (n - 16)))
        ≡ take n code ++ zeros (18 - n)
    unfolding third
    three_words =
        ap (λ (x : List ℕ). x ++ (take 8 (drop 8 code) ++ zeros 0) ++ take 2 (third ++ zeros (8 - (n - 16)))) (append-nil (take 8 code))
        ∙ ap (λ (x : List ℕ). take 8 code ++ x ++ take 2 (third ++ zeros (8 - (n - 16)))) (append-nil (take 8 (drop 8 code)))
        ∙ ap (λ (x : List ℕ). x ++ take 2 (third ++ zeros (8 - (n - 16)))) (sym (take-add 8 8 code))
        ∙ ap (λ (x : List ℕ). take 16 code ++ x) two_of_it
        ∙ sym (append_assoc (take 16 code) third (zeros (18 - n)))
        ∙ ap (λ (x : List ℕ). x ++ zeros (18 - n)) (sym (take-add 16 (n - 16) code))
        ∙ ap (λ (k : ℕ). take k code ++ zeros (18 - n)) (omega (arith, more))

-- a place further on
pub further : (bytes : List ℕ) (at more n : ℕ) → take n (drop (at + more) bytes) ≡ take n (drop more (drop at bytes))
further bytes at more n = ap (take n) (sym (drop-drop more at bytes))

-- ---- two words one behind the other

pub sixteen_are : (bytes : List ℕ) (at : ℕ) (first second one two : List ℕ) → at + 16 ≤ length bytes
    → first ≡ take 8 (drop at bytes) ++ replicate (8 - 8) 0 → second ≡ take 8 (drop (at + 8) bytes) ++ replicate (8 - 8) 0
    → one ≡ overwritten (replicate 16 0) 0 first → two ≡ overwritten one 8 second
    → two ≡ take 16 (drop at bytes)
sixteen_are bytes at first second one two within is-first is-second a b =
    let code : List ℕ = drop at bytes in
    let long : length code ≡ length bytes - at = length-drop at bytes in
    let front : first ≡ take 8 code = is-first ∙ append-nil (take 8 code) in
    let behind : second ≡ take 8 (drop 8 code) = is-second ∙ append-nil (take 8 (drop (at + 8) bytes)) ∙ further bytes at 8 8 in
    let long-first : length first ≡ 8 = ap length front ∙ length-take-le 8 code (omega (arith, within, long)) in
    let long-second : length second ≡ 8 = ap length behind ∙ length-take-le 8 (drop 8 code) (omega (arith, within, long, length-drop 8 code)) in
    let e1 : one ≡ first ++ replicate 8 0 = a ∙ over_at [] (replicate 16 0) first 0 refl ∙ ap (λ (k : ℕ). first ++ drop k (replicate 16 0)) long-first in
    b ∙ ap (λ (o : List ℕ). overwritten o 8 second) e1 ∙ over_at first (replicate 8 0) second 8 long-first
    ∙ ap (λ (k : ℕ). (first ++ second) ++ drop k (replicate 8 0)) long-second
    ∙ append-nil (first ++ second)
    ∙ ap (λ (f : List ℕ). f ++ second) front
    ∙ ap (λ (s : List ℕ). take 8 code ++ s) behind
    ∙ sym (take-add 8 8 code)
