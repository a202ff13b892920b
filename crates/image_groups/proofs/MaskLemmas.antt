-- Laws of lists in which a blank stands at each place that doesn't pass a test.
use Rattle.std.proofs.Common.{◌≡◌, ℕ, zero, suc, ◌+◌, ◌≤◌, ◌<◌, Bool, true, false, if◌then◌else◌, List, [], ◌∷◌, ◌++◌, length, take, drop, get_or}
use Rattle.std.proofs.Common.{set, replicate, refl, sym, ap, ◌∙◌, append_assoc, arith}
use Rattle.std.proofs.lemmas.Bool.{cond-true, cond-false}
use Rattle.std.proofs.lemmas.List.{drop-drop, length-append, length-drop, length-take-le, take-append-drop}
use Rattle.mm_base.specs.Numbers.{overwritten}
use Rattle.image_groups.specs.Erasing.{masked}

module _ {A : Type 0} (blank : A) where
  if_same : (b : Bool) (x : A) → x ≡ (if b then x else x)
  if_same true x = refl
  if_same false x = refl

  -- two tests that say the same
  pub masked_same : (test other : ℕ → Bool) (items : List A) → ((k : ℕ) → test k ≡ other k) → masked blank test items ≡ masked blank other items
  masked_same test other [] each = refl
  masked_same test other (item ∷ items) each =
      ap (λ (b : Bool). (if b then item else blank) ∷ masked blank (λ k. test (suc k)) items) (each 0)
      ∙ ap (λ (rest : List A). (if other 0 then item else blank) ∷ rest)
      (masked_same (λ k. test (suc k)) (λ k. other (suc k)) items (λ k. each (suc k)))

  pub length-masked : (test : ℕ → Bool) (items : List A) → length (masked blank test items) ≡ length items
  length-masked test [] = refl
  length-masked test (item ∷ items) = ap suc (length-masked (λ k. test (suc k)) items)

  pub take-masked : (test : ℕ → Bool) (n : ℕ) (items : List A) → take n (masked blank test items) ≡ masked blank test (take n items)
  take-masked test zero items = refl
  take-masked test (suc n) [] = refl
  take-masked test (suc n) (item ∷ items) =
      ap (λ (rest : List A). (if test 0 then item else blank) ∷ rest) (take-masked (λ k. test (suc k)) n items)

  pub drop-masked : (test : ℕ → Bool) (n : ℕ) (items : List A)
      → drop n (masked blank test items) ≡ masked blank (λ k. test (n + k)) (drop n items)
  drop-masked test zero items = masked_same test (λ k. test (0 + k)) items (λ k. ap test (omega arith))
  drop-masked test (suc n) [] = refl
  drop-masked test (suc n) (item ∷ items) =
      drop-masked (λ k. test (suc k)) n items
      ∙ masked_same (λ k. test (suc (n + k))) (λ k. test (suc n + k)) (drop n items) (λ k. ap test (omega arith))

  pub masked-append : (test : ℕ → Bool) (items more : List A)
      → masked blank test (items ++ more) ≡ masked blank test items ++ masked blank (λ k. test (length items + k)) more
  masked-append test [] more = masked_same test (λ k. test (0 + k)) more (λ k. ap test (omega arith))
  masked-append test (item ∷ items) more =
      ap (λ (rest : List A). (if test 0 then item else blank) ∷ rest)
      (masked-append (λ k. test (suc k)) items more
      ∙ ap (λ (rest : List A). masked blank (λ k. test (suc k)) items ++ rest)
      (masked_same (λ k. test (suc (length items + k))) (λ k. test (suc (length items) + k)) more (λ k. ap test (omega arith))))

  -- where each place passes, nothing changes
  pub masked_all : (test : ℕ → Bool) (items : List A) → ((k : ℕ) → k < length items → test k ≡ true) → masked blank test items ≡ items
  masked_all test [] each = refl
  masked_all test (item ∷ items) each =
      ap (λ (b : Bool). (if b then item else blank) ∷ masked blank (λ k. test (suc k)) items) (each 0 (omega arith))
      ∙ ap (λ (rest : List A). item ∷ rest) (masked_all (λ k. test (suc k)) items (λ k below. each (suc k) (omega (arith, below))))

  -- where none does, nothing is left
  pub masked_none : (test : ℕ → Bool) (items : List A) → ((k : ℕ) → k < length items → test k ≡ false)
      → masked blank test items ≡ replicate (length items) blank
  masked_none test [] each = refl
  masked_none test (item ∷ items) each =
      ap (λ (b : Bool). (if b then item else blank) ∷ masked blank (λ k. test (suc k)) items) (each 0 (omega arith))
      ∙ ap (λ (rest : List A). blank ∷ rest) (masked_none (λ k. test (suc k)) items (λ k below. each (suc k) (omega (arith, below))))

  if_twice : (b : Bool) (x : A) → (if b then (if b then x else blank) else blank) ≡ (if b then x else blank)
  if_twice true x = refl
  if_twice false x = refl

  pub masked_twice : (test : ℕ → Bool) (items : List A) → masked blank test (masked blank test items) ≡ masked blank test items
  masked_twice test [] = refl
  masked_twice test (item ∷ items) =
      ap (λ (first : A). first ∷ masked blank (λ k. test (suc k)) (masked blank (λ k. test (suc k)) items)) (if_twice (test 0) item)
      ∙ ap (λ (rest : List A). (if test 0 then item else blank) ∷ rest) (masked_twice (λ k. test (suc k)) items)

  -- ---- one item

  pub get_or-masked : (test : ℕ → Bool) (items : List A) (k : ℕ) (other : A) → test k ≡ true
      → get_or (masked blank test items) k other ≡ get_or items k other
  get_or-masked test [] k other is = refl
  get_or-masked test (item ∷ items) zero other is = cond-true (test 0) item blank is
  get_or-masked test (item ∷ items) (suc k) other is = get_or-masked (λ k. test (suc k)) items k other is

  pub set-masked : (test : ℕ → Bool) (items : List A) (k : ℕ) (value : A) → test k ≡ true
      → set (masked blank test items) k value ≡ masked blank test (set items k value)
  set-masked test [] k value is = refl
  set-masked test (item ∷ items) zero value is =
      ap (λ (first : A). first ∷ masked blank (λ k. test (suc k)) items) (sym (cond-true (test 0) value blank is))
  set-masked test (item ∷ items) (suc k) value is =
      ap (λ (rest : List A). (if test 0 then item else blank) ∷ rest) (set-masked (λ k. test (suc k)) items k value is)

  pub masked-set_other : (test : ℕ → Bool) (items : List A) (k : ℕ) (value : A) → test k ≡ false
      → masked blank test (set items k value) ≡ masked blank test items
  masked-set_other test [] k value is = refl
  masked-set_other test (item ∷ items) zero value is =
      ap (λ (first : A). first ∷ masked blank (λ k. test (suc k)) items)
      (cond-false (test 0) value blank is ∙ sym (cond-false (test 0) item blank is))
  masked-set_other test (item ∷ items) (suc k) value is =
      ap (λ (rest : List A). (if test 0 then item else blank) ∷ rest) (masked-set_other (λ k. test (suc k)) items k value is)

  -- ---- a piece

  -- n items that all pass are the same
  pub piece_same : (test : ℕ → Bool) (n : ℕ) (items : List A) → ((k : ℕ) → k < n → test k ≡ true) → take n (masked blank test items) ≡ take n items
  piece_same test zero items each = refl
  piece_same test (suc n) [] each = refl
  piece_same test (suc n) (item ∷ items) each =
      ap (λ (b : Bool). (if b then item else blank) ∷ take n (masked blank (λ k. test (suc k)) items)) (each 0 (omega arith))
      ∙ ap (λ (rest : List A). item ∷ rest) (piece_same (λ k. test (suc k)) n items (λ k below. each (suc k) (omega (arith, below))))

  pub piece_at_same : (test : ℕ → Bool) (at n : ℕ) (items : List A) → ((k : ℕ) → at ≤ k → k < at + n → test k ≡ true)
      → take n (drop at (masked blank test items)) ≡ take n (drop at items)
  piece_at_same test at n items each =
      ap (take n) (drop-masked test at items)
      ∙ piece_same (λ k. test (at + k)) n (drop at items) (λ k below. each (at + k) (omega arith) (omega (arith, below)))

module _ (test : ℕ → Bool) (bytes piece : List ℕ) (at : ℕ) where
  -- the parts of what a piece is written over
  parts_masked : at ≤ length bytes
      → masked 0 test (overwritten bytes at piece)
      ≡ take at (masked 0 test bytes) ++ masked 0 (λ k. test (at + k)) piece ++ drop (at + length piece) (masked 0 test bytes)
  parts_masked within =
      let long : length (take at bytes) ≡ at = length-take-le at bytes within in
      let front : List ℕ = take at bytes in
      let rest : List ℕ = drop (at + length piece) bytes in
      let both : length (front ++ piece) ≡ at + length piece = omega (arith, long, length-append front piece) in
      let first : masked 0 test ((front ++ piece) ++ rest)
      ≡ masked 0 test (front ++ piece) ++ masked 0 (λ k. test (length (front ++ piece) + k)) rest =
      masked-append 0 test (front ++ piece) rest in
      let second : masked 0 test (front ++ piece) ≡ take at (masked 0 test bytes) ++ masked 0 (λ k. test (at + k)) piece =
      masked-append 0 test front piece
      ∙ (λ i. sym (take-masked 0 test at bytes) i ++ masked 0 (λ k. test (long i + k)) piece) in
      let last : masked 0 (λ k. test (length (front ++ piece) + k)) rest ≡ drop (at + length piece) (masked 0 test bytes) =
      ap (λ (n : ℕ). masked 0 (λ k. test (n + k)) rest) both ∙ sym (drop-masked 0 test (at + length piece) bytes) in
      first ∙ (λ i. second i ++ last i)

  -- a piece whose places all pass may be written before or after
  pub overwritten-masked : at ≤ length bytes → ((k : ℕ) → at ≤ k → k < at + length piece → test k ≡ true)
      → overwritten (masked 0 test bytes) at piece ≡ masked 0 test (overwritten bytes at piece)
  overwritten-masked within each =
      ap (λ (middle : List ℕ). take at (masked 0 test bytes) ++ middle ++ drop (at + length piece) (masked 0 test bytes))
      (sym (masked_all 0 (λ k. test (at + k)) piece (λ k below. each (at + k) (omega arith) (omega (arith, below)))))
      ∙ sym (parts_masked within)

  -- a piece none of whose places passes leaves no trace
  pub masked-overwritten_other : at + length piece ≤ length bytes → ((k : ℕ) → at ≤ k → k < at + length piece → test k ≡ false)
      → masked 0 test (overwritten bytes at piece) ≡ masked 0 test bytes
  masked-overwritten_other within each =
      let below : at ≤ length bytes = omega (arith, within) in
      let old : List ℕ = take (length piece) (drop at bytes) in
      let long : length old ≡ length piece = length-take-le (length piece) (drop at bytes) (omega (arith, within, length-drop at bytes)) in
      let blank : masked 0 (λ k. test (at + k)) piece ≡ take (length piece) (drop at (masked 0 test bytes)) =
      masked_none 0 (λ k. test (at + k)) piece (λ k less. each (at + k) (omega arith) (omega (arith, less)))
      ∙ ap (λ (n : ℕ). replicate n 0) (sym long)
      ∙ sym (masked_none 0 (λ k. test (at + k)) old (λ k less. each (at + k) (omega arith) (omega (arith, less, long))))
      ∙ sym (take-masked 0 (λ k. test (at + k)) (length piece) (drop at bytes))
      ∙ ap (take (length piece)) (sym (drop-masked 0 test at bytes)) in
      parts_masked below
      ∙ ap (λ (middle : List ℕ). take at (masked 0 test bytes) ++ middle ++ drop (at + length piece) (masked 0 test bytes)) blank
      ∙ whole (masked 0 test bytes)
    where
      whole : (items : List ℕ) → take at items ++ take (length piece) (drop at items) ++ drop (at + length piece) items ≡ items
      whole items =
          append_assoc (take at items) (take (length piece) (drop at items)) (drop (at + length piece) items)
          ∙ ap (λ (rest : List ℕ). take at items ++ (take (length piece) (drop at items) ++ rest)) (sym (drop-drop (length piece) at items))
          ∙ ap (λ (rest : List ℕ). take at items ++ rest) (take-append-drop (length piece) (drop at items))
          ∙ take-append-drop at items
