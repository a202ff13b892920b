-- What is found in a list, and what a filter keeps.
use Rattle.std.proofs.Common.{◌≡◌, ◌≤◌, zero, suc, ◌+◌, Bool, true, false, cond, not, List, [], ◌∷◌, ◌++◌, length, None, Some}
use Rattle.std.proofs.Common.{slice_get, refl, sym, ap, ◌∙◌, arith, length-append}
use Rattle.std.specs.List.{filter, find, All, AllPairs}
use Rattle.std.proofs.lemmas.List.Elements.{All-cons, All-head, All-nil, All-tail, filter-append}

-- two tests that follow from each other are one
pub both_ways : (b c : Bool) → (b ≡ true → c ≡ true) → (c ≡ true → b ≡ true) → b ≡ c
both_ways true c there back = sym (there refl)
both_ways false true there back = back refl
both_ways false false there back = refl

pub none≢some : {X : Type 0} (x : X) → None ≡ Some x → ⊥
none≢some x e = cc

module _ {X : Type 0} (R : X → X → Type 0) (x : X) (xs : List X) (pairs : AllPairs R (x ∷ xs)) where
  pub AllPairs-head : All (R x) xs
  AllPairs-head = λ k d in'. pairs zero (suc k) d (omega arith) (omega arith)

  pub AllPairs-tail : AllPairs R xs
  AllPairs-tail = λ i j d less in'. pairs (suc i) (suc j) d (omega arith) (omega arith)

module _ {X : Type 0} (p : X → Bool) where
  abbrev pub Passes : X → Type 0
  Passes x = p x ≡ true

  abbrev pub Fails : X → Type 0
  Fails x = p x ≡ false

  -- a filter that all pass keeps all
  pub filter-all : (xs : List X) → All Passes xs → filter p xs ≡ xs
  filter-all [] each = refl
  filter-all (x ∷ xs) each =
      ap (λ b. cond b (x ∷ filter p xs) (filter p xs)) (All-head Passes x xs each)
      ∙ ap (λ rest. x ∷ rest) (filter-all xs (All-tail Passes x xs each))

  -- nothing is found where all fail
  pub find-none : (xs : List X) → All Fails xs → find p xs ≡ None
  find-none [] each = refl
  find-none (x ∷ xs) each =
      ap (λ b. cond b (Some x) (find p xs)) (All-head Fails x xs each) ∙ find-none xs (All-tail Fails x xs each)

  -- and where nothing is found all fail
  pub find-none-all : (xs : List X) → find p xs ≡ None → All Fails xs
  find-none-all [] none = All-nil Fails
  find-none-all (x ∷ xs) none =
      elim (p x) as (λ b. p x ≡ b → cond b (Some x) (find p xs) ≡ None → All Fails (x ∷ xs)) [
        | true ↦ λ _ found. absurd (none≢some x (sym found))
        | false ↦ λ fails later. All-cons Fails x xs fails (find-none-all xs later)
      ] refl none

  -- what is found passes
  pub find-passes : (xs : List X) (x : X) → find p xs ≡ Some x → p x ≡ true
  find-passes [] x found = absurd (none≢some x found)
  find-passes (first ∷ xs) x found =
      elim (p first) as (λ b. p first ≡ b → cond b (Some first) (find p xs) ≡ Some x → p x ≡ true) [
        | true ↦ λ passes here. let same : first ≡ x = cc in ap p (sym same) ∙ passes
        | false ↦ λ _ later. find-passes xs x later
      ] refl found

  -- what a filter keeps passes
  pub filter-passes : (xs : List X) → All Passes (filter p xs)
  filter-passes [] = All-nil Passes
  filter-passes (x ∷ xs) =
      elim (p x) as (λ b. p x ≡ b → All Passes (cond b (x ∷ filter p xs) (filter p xs))) [
        | true ↦ λ passes. All-cons Passes x (filter p xs) passes (filter-passes xs)
        | false ↦ λ _. filter-passes xs
      ] refl

  -- the first that is found is the first that a filter keeps
  pub find-filter : (xs : List X) → find p xs ≡ slice_get (filter p xs) 0
  find-filter [] = refl
  find-filter (x ∷ xs) =
      elim (p x) as (λ b. cond b (Some x) (find p xs) ≡ slice_get (cond b (x ∷ filter p xs) (filter p xs)) 0) [
        | true ↦ refl
        | false ↦ find-filter xs
      ]

  -- one that passes counts once
  pub length-kept : (b : Bool) (x : X) (xs : List X) → length (cond b (x ∷ xs) xs) ≡ cond b 1 0 + length xs
  length-kept true x xs = omega arith
  length-kept false x xs = omega arith

  pub length-filter_push : (xs : List X) (x : X) → length (filter p (xs ++ x ∷ [])) ≡ length (filter p xs) + cond (p x) 1 0
  length-filter_push xs x =
      omega (arith, ap length (filter-append p xs (x ∷ [])), length-append (filter p xs) (filter p (x ∷ [])), length-kept (p x) x [])

-- a filter of a filter keeps no more
pub length-filter_filter : {X : Type 0} (p q : X → Bool) (xs : List X) → length (filter q (filter p xs)) ≤ length (filter q xs)
length-filter_filter p q [] = omega arith
length-filter_filter p q (x ∷ xs) =
    let rest : length (filter q (filter p xs)) ≤ length (filter q xs) = length-filter_filter p q xs in
    elim (p x) as (λ b. length (filter q (cond b (x ∷ filter p xs) (filter p xs))) ≤ length (filter q (x ∷ xs))) [
      | true ↦ omega (arith, length-kept q (q x) x (filter q (filter p xs)), length-kept q (q x) x (filter q xs))
      | false ↦ omega (arith, length-kept q (q x) x (filter q xs))
    ]

-- taking out what a filter doesn't keep anyway changes nothing for it
pub filter-apart : {X : Type 0} (p q : X → Bool) → ((x : X) → q x ≡ true → p x ≡ false) → (xs : List X)
    → filter p (filter (λ x. not (q x)) xs) ≡ filter p xs
filter-apart p q apart [] = refl
filter-apart p q apart (x ∷ xs) =
    let left = filter (λ x. not (q x)) xs in
    elim (q x) as (λ b. q x ≡ b → filter p (cond (not b) (x ∷ left) left) ≡ cond (p x) (x ∷ filter p xs) (filter p xs)) [
      | true ↦ λ passes. filter-apart p q apart xs ∙ sym (ap (λ b. cond b (x ∷ filter p xs) (filter p xs)) (apart x passes))
      | false ↦ λ _. ap (λ rest. cond (p x) (x ∷ rest) rest) (filter-apart p q apart xs)
    ] refl

-- and nothing is left of what was taken out
pub filter-out : {X : Type 0} (q : X → Bool) (xs : List X) → filter q (filter (λ x. not (q x)) xs) ≡ []
filter-out q [] = refl
filter-out q (x ∷ xs) =
    let left = filter (λ x. not (q x)) xs in
    elim (q x) as (λ b. q x ≡ b → filter q (cond (not b) (x ∷ left) left) ≡ []) [
      | true ↦ λ _. filter-out q xs
      | false ↦ λ fails. ap (λ b. cond b (x ∷ filter q left) (filter q left)) fails ∙ filter-out q xs
    ] refl
