-- Walks over lists by their places, and over numbers, that end at the first that decides.
use Rattle.std.proofs.Common.{◌≡◌, ℕ, zero, suc, ◌+◌, ◌-◌, ◌<◌, ◌≤◌, Bool, true, false}
use Rattle.std.proofs.Common.{List, [], ◌∷◌, length, drop, Some, None}
use Rattle.std.proofs.Common.{refl, sym, ap, ◌∙◌, arith}
use Rattle.std.specs.Prelude.{◌&&◌, ◌||◌, slice_get}
use Rattle.std.specs.List.{list_all, list_any, range_with_len}
use Rattle.std.proofs.lemmas.List.{drop_all}

pub past_end : {A : Type 0} (items : List A) (k : ℕ) → slice_get items k ≡ None → length items ≤ k
past_end [] k none = omega arith
past_end (item ∷ items) zero none = cc
past_end (item ∷ items) (suc k) none = let rest = past_end items k none in omega arith

-- whether all pass

module _ {A : Type 0} (test : A → Bool) where
  pub all_from : (items : List A) (k : ℕ) (item : A)
      → slice_get items k ≡ Some item
      → list_all test (drop k items) ≡ (test item && list_all test (drop (k + 1) items))
  all_from [] k item here = cc
  all_from (first ∷ items) zero item here =
      let same : first ≡ item = cc in ap (λ x. test x && list_all test items) same
  all_from (first ∷ items) (suc k) item here =
      let next : suc (k + 1) ≡ suc k + 1 = omega arith in
      all_from items k item here ∙ ap (λ n. test item && list_all test (drop n (first ∷ items))) next

  pub all_end : (items : List A) (k : ℕ) → length items ≤ k → list_all test (drop k items) ≡ true
  all_end items k past = ap (list_all test) (drop_all k items past)

  module _ (items : List A) (k : ℕ) (whole : Bool) (so_far : list_all test (drop k items) ≡ whole) where
    pub all_on : (item : A) (passes : Bool) → slice_get items k ≡ Some item → passes ≡ test item → passes ≡ true
        → list_all test (drop (k + 1) items) ≡ whole
    all_on item passes here is holds =
        sym (all_from items k item here ∙ ap (λ b. b && list_all test (drop (k + 1) items)) (sym is ∙ holds)) ∙ so_far

    pub all_failed : (item : A) (passes : Bool) → slice_get items k ≡ Some item → passes ≡ test item → passes ≡ false → false ≡ whole
    all_failed item passes here is fails =
        sym (all_from items k item here ∙ ap (λ b. b && list_all test (drop (k + 1) items)) (sym is ∙ fails)) ∙ so_far

    pub all_ended : length items ≤ k → true ≡ whole
    all_ended past = sym (all_end items k past) ∙ so_far

-- whether some number below a count passes

module _ (test : ℕ → Bool) where
  -- those that are left from k on
  abbrev pub any_from : ℕ → ℕ → Bool
  any_from count k = list_any test (range_with_len k (count - k))

  any_next : (count k : ℕ) → k < count → any_from count k ≡ (test k || any_from count (k + 1))
  any_next count k within =
      let more : count - k ≡ suc (count - (k + 1)) = omega arith in ap (λ n. list_any test (range_with_len k n)) more

  any_none : (count k : ℕ) → count ≤ k → any_from count k ≡ false
  any_none count k past =
      let none : count - k ≡ 0 = omega arith in ap (λ n. list_any test (range_with_len k n)) none

  pub any_begun : (count : ℕ) → any_from count 0 ≡ list_any test (range_with_len 0 count)
  any_begun count =
      let all : count - 0 ≡ count = omega arith in ap (λ n. list_any test (range_with_len 0 n)) all

  module _ (count k : ℕ) (whole : Bool) (so_far : any_from count k ≡ whole) where
    pub any_on : (passes : Bool) → k < count → passes ≡ test k → passes ≡ false → any_from count (k + 1) ≡ whole
    any_on passes within is fails =
        sym (any_next count k within ∙ ap (λ b. b || any_from count (k + 1)) (sym is ∙ fails)) ∙ so_far

    pub any_found : (passes : Bool) → k < count → passes ≡ test k → passes ≡ true → true ≡ whole
    any_found passes within is holds =
        sym (any_next count k within ∙ ap (λ b. b || any_from count (k + 1)) (sym is ∙ holds)) ∙ so_far

    pub any_ended : count ≤ k → false ≡ whole
    any_ended past = sym (any_none count k past) ∙ so_far

-- two tests that agree below a count
pub any_same : (test other : ℕ → Bool) (from count : ℕ)
    → ((k : ℕ) → from ≤ k → k < from + count → test k ≡ other k)
    → list_any test (range_with_len from count) ≡ list_any other (range_with_len from count)
any_same test other from zero same = refl
any_same test other from (suc count) same =
    λ i.
    same from (omega arith) (omega arith) i
    || any_same test other (from + 1) count (λ k low high. same k (omega arith) (omega arith)) i
