-- Lists of what a function makes of the numbers from one on.
use Rattle.std.proofs.Common.{◌≡◌, inl, inr, ℕ, zero, suc, ◌+◌, ◌≤◌, ◌<◌, Bool, true, false, map, Some, None, refl, sym, ap, ◌∙◌, subst, arith}
use Rattle.std.specs.List.{range_with_len, list_any, find}
use Rattle.std.proofs.lemmas.Bool.{or_from, or_left, or_right, cond-true, cond-false, cases_eq}
use Rattle.mm_base.proofs.CheckLemmas.{AllPass}
use Rattle.mm_base.specs.Checks.{Check}

-- where none passes, none is found
pub any_none : {X : Type 0} (p : X → Bool) (f : ℕ → X) (a n : ℕ) → ((j : ℕ) → a ≤ j → j < a + n → p (f j) ≡ false)
    → list_any p (map f (range_with_len a n)) ≡ false
any_none p f a zero none = refl
any_none p f a (suc n) none =
    or_from _ _ (none a (omega arith) (omega arith)) (any_none p f (a + 1) n (λ j low high. none j (omega arith) (omega arith)))

pub find_none : {X : Type 0} (p : X → Bool) (f : ℕ → X) (a n : ℕ) → ((j : ℕ) → a ≤ j → j < a + n → p (f j) ≡ false)
    → find p (map f (range_with_len a n)) ≡ None
find_none p f a zero none = refl
find_none p f a (suc n) none =
    cond-false (p (f a)) (Some (f a)) _ (none a (omega arith) (omega arith))
    ∙ find_none p f (a + 1) n (λ j low high. none j (omega arith) (omega arith))

-- where one passes, one is found
pub any_some : {X : Type 0} (p : X → Bool) (f : ℕ → X) (a n k : ℕ) → a ≤ k → k < a + n → p (f k) ≡ true
    → list_any p (map f (range_with_len a n)) ≡ true
any_some p f a zero k low high is = absurd (omega arith)
any_some p f a (suc n) k low high is =
    elim (cases_eq a k) [
      | inl e ↦ let P : ℕ → Type 0 = λ j. p (f j) ≡ true in or_left _ _ (subst P (sym e) is)
      | inr ne ↦ or_right _ _ (any_some p f (a + 1) n k (omega arith) (omega arith) is)
    ]

-- where only one passes, that one is found
pub find_only : {X : Type 0} (p : X → Bool) (f : ℕ → X) (a n k : ℕ) → a ≤ k → k < a + n → p (f k) ≡ true
    → ((j : ℕ) → a ≤ j → j < k → p (f j) ≡ false) → find p (map f (range_with_len a n)) ≡ Some (f k)
find_only p f a zero k low high is none = absurd (omega arith)
find_only p f a (suc n) k low high is none =
    elim (cases_eq a k) [
      | inl e ↦ let P : ℕ → Type 0 = λ j. p (f j) ≡ true in
          cond-true (p (f a)) (Some (f a)) _ (subst P (sym e) is) ∙ ap (λ j. Some (f j)) e
      | inr ne ↦ cond-false (p (f a)) (Some (f a)) _ (none a (omega arith) (omega arith))
          ∙ find_only p f (a + 1) n k (omega arith) (omega arith) is (λ j low high. none j (omega arith) high)
    ]

-- checks that are each passed
pub all_pass_from : {K : Type 0} (f : ℕ → Check K) (a n : ℕ) → ((j : ℕ) → a ≤ j → j < a + n → (f j).passes ≡ true)
    → AllPass (map f (range_with_len a n))
all_pass_from f a zero pass = tt
all_pass_from f a (suc n) pass =
    (pass a (omega arith) (omega arith), all_pass_from f (a + 1) n (λ j low high. pass j (omega arith) (omega arith)))

pub passes_each : {K : Type 0} (f : ℕ → Check K) (a n k : ℕ) → a ≤ k → k < a + n → AllPass (map f (range_with_len a n))
    → (f k).passes ≡ true
passes_each f a zero k low high pass = absurd (omega arith)
passes_each f a (suc n) k low high pass =
    elim (cases_eq a k) [
      | inl e ↦ let P : ℕ → Type 0 = λ j. (f j).passes ≡ true in subst P e pass.0
      | inr ne ↦ passes_each f (a + 1) n k (omega arith) (omega arith) pass.1
    ]
