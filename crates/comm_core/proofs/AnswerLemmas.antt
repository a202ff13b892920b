-- The stores of an answer, by place.
use Rattle.std.proofs.Common.{◌≡◌, ◌<◌, ℕ, zero, suc, ◌+◌, ◌*◌, true, false, if◌then◌else◌, List, [], ◌∷◌, ◌++◌, length, map, take, drop, Some, refl, ap, ◌∙◌, arith, length-append}
use Rattle.std.proofs.lemmas.List.{drop-drop}
use Rattle.std.proofs.lemmas.Option.{slice_get-map}
use Rattle.std.specs.List.{slice_get}
use Rattle.std.specs.Option.{option_map}
use Rattle.mm_base.specs.Numbers.{number_of, first_words, words_for, word_in, words_of_bytes}
use Rattle.mm_base.specs.declared.receipt.Receipt.{Receipt}
use Rattle.comm_core.specs.Piece.{store, from_word, answer}
use Rattle.comm_core.specs.declared.action.Action.TheVariants.{Store}
use Rattle.comm_core.proofs.PieceLemmas.{slice_get-front, slice_get-after}

pub length-first_words : (n : ℕ) (bytes : List ℕ) → length (first_words n bytes) ≡ n
length-first_words zero bytes = refl
length-first_words (suc n) bytes = ap suc (length-first_words n (drop 8 bytes))

slice_get-first_words : (n i : ℕ) (bytes : List ℕ) → i < n → slice_get (first_words n bytes) i ≡ Some (word_in bytes i)
slice_get-first_words zero i bytes h = absurd (omega arith)
slice_get-first_words (suc n) zero bytes h = refl
slice_get-first_words (suc n) (suc i) bytes h =
    slice_get-first_words n i (drop 8 bytes) (omega arith)
    ∙ ap (λ rest. Some (number_of (take 8 rest))) (drop-drop (8 * i) 8 bytes ∙ ap (λ k. drop k bytes) (omega arith))

length-from_word : (word : ℕ) (values : List ℕ) → length (from_word word values) ≡ length values
length-from_word word [] = refl
length-from_word word (value ∷ values) = ap suc (length-from_word (word + 1) values)

slice_get-from_word : (word : ℕ) (values : List ℕ) (i value : ℕ)
    → slice_get values i ≡ Some value
    → slice_get (from_word word values) i ≡ Some (word + i, value)
slice_get-from_word word [] i value h = cc
slice_get-from_word word (v ∷ values) zero value h =
    let e : v ≡ value = cc in ap (λ w. Some (w, v)) (omega arith) ∙ ap (λ x. Some (word + 0, x)) e
slice_get-from_word word (v ∷ values) (suc i) value h =
    slice_get-from_word (word + 1) values i value h ∙ ap (λ w. Some (w, value)) (omega arith)

-- what stands in front of the status where handlers ran
abbrev reply : Receipt → List (ℕ × ℕ)
reply receipt = from_word 2 (words_of_bytes receipt.bytes) ++ (0, length receipt.bytes) ∷ []

abbrev front : Receipt → List (ℕ × ℕ)
front receipt = if receipt.dispatched then reply receipt else []

module _ (receipt : Receipt) where
  answer-dispatched : receipt.dispatched ≡ true → answer receipt ≡ reply receipt ++ (1, receipt.status) ∷ []
  answer-dispatched d = ap (λ b. (if b then reply receipt else []) ++ (1, receipt.status) ∷ []) d

  answer-refused : receipt.dispatched ≡ false → answer receipt ≡ (1, receipt.status) ∷ []
  answer-refused d = ap (λ b. (if b then reply receipt else []) ++ (1, receipt.status) ∷ []) d

  length-words : length (from_word 2 (words_of_bytes receipt.bytes)) ≡ words_for (length receipt.bytes)
  length-words = length-from_word 2 (words_of_bytes receipt.bytes) ∙ length-first_words (words_for (length receipt.bytes)) receipt.bytes

  -- how many stores there are
  pub length-answer_dispatched : receipt.dispatched ≡ true → length (answer receipt) ≡ words_for (length receipt.bytes) + 2
  length-answer_dispatched d =
      ap length (answer-dispatched d) ∙ length-append (reply receipt) ((1, receipt.status) ∷ [])
      ∙ ap (λ n. n + 1)
      (length-append (from_word 2 (words_of_bytes receipt.bytes)) ((0, length receipt.bytes) ∷ []) ∙ ap (λ n. n + 1) (length-words))
      ∙ omega arith

  pub length-answer_refused : receipt.dispatched ≡ false → length (answer receipt) ≡ 1
  length-answer_refused d = ap length (answer-refused d)

  -- a store, by its pair
  stored_at : (i : ℕ) (to : ℕ × ℕ) → slice_get (answer receipt) i ≡ Some to → slice_get (map store (answer receipt)) i ≡ Some (store to)
  stored_at i to h = slice_get-map store (answer receipt) i ∙ ap (option_map store) h

  -- the reply's words
  pub answer-word : (i : ℕ)
      → receipt.dispatched ≡ true
      → i < words_for (length receipt.bytes)
      → slice_get (map store (answer receipt)) i ≡ Some (Store (2 + i) (word_in receipt.bytes i))
  answer-word i d h =
      let ws : List (ℕ × ℕ) = from_word 2 (words_of_bytes receipt.bytes) in
      stored_at i (2 + i, word_in receipt.bytes i)
      (ap (λ s. slice_get s i) (answer-dispatched d)
      ∙ slice_get-front (reply receipt) ((1, receipt.status) ∷ []) i
      (rw (length-append ws ((0, length receipt.bytes) ∷ []), length-words) (omega arith))
      ∙ slice_get-front ws ((0, length receipt.bytes) ∷ []) i (rw (length-words) h)
      ∙ slice_get-from_word 2 (words_of_bytes receipt.bytes) i (word_in receipt.bytes i)
      (slice_get-first_words (words_for (length receipt.bytes)) i receipt.bytes h))

  -- the reply's length
  pub answer-length : receipt.dispatched ≡ true
      → slice_get (map store (answer receipt)) (words_for (length receipt.bytes)) ≡ Some (Store 0 (length receipt.bytes))
  answer-length d =
      let ws : List (ℕ × ℕ) = from_word 2 (words_of_bytes receipt.bytes) in
      let n : ℕ = words_for (length receipt.bytes) in
      stored_at n (0, length receipt.bytes)
      (ap (λ s. slice_get s n) (answer-dispatched d)
      ∙ slice_get-front (reply receipt) ((1, receipt.status) ∷ []) n
      (rw (length-append ws ((0, length receipt.bytes) ∷ []), length-words) (omega arith))
      ∙ slice_get-after ws ((0, length receipt.bytes) ∷ []) n 0 (rw (length-words) (omega arith)))

  -- the status, last
  pub answer-status : (i : ℕ) → i + 1 ≡ length (answer receipt) → slice_get (map store (answer receipt)) i ≡ Some (Store 1 receipt.status)
  answer-status i h =
      stored_at i (1, receipt.status)
      (slice_get-after (front receipt) ((1, receipt.status) ∷ []) i 0
      (omega (arith, h, length-append (front receipt) ((1, receipt.status) ∷ []))))
