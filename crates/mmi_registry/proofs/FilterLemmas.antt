-- How many a filter keeps.
use Rattle.std.proofs.Common.{◌≡◌, ◌≤◌, ◌+◌, Bool, true, false, cond, List, [], ◌∷◌, ◌++◌, length, refl, ap, arith, length-append}
use Rattle.std.specs.List.{filter, All}
use Rattle.std.proofs.lemmas.List.Elements.{All-head, All-tail, filter-append}

-- one that passes counts once
pub length-kept : {X : Type 0} (b : Bool) (x : X) (xs : List X) → length (cond b (x ∷ xs) xs) ≡ cond b 1 0 + length xs
length-kept true x xs = omega arith
length-kept false x xs = omega arith

pub cond-le-one : (b : Bool) → cond b 1 0 ≤ 1
cond-le-one true = omega arith
cond-le-one false = omega arith

-- a filter of a filter keeps no more
pub length-filter_filter : {X : Type 0} (p q : X → Bool) (xs : List X) → length (filter q (filter p xs)) ≤ length (filter q xs)
length-filter_filter p q [] = omega arith
length-filter_filter p q (x ∷ xs) =
    let rest : length (filter q (filter p xs)) ≤ length (filter q xs) = length-filter_filter p q xs in
    elim (p x) as (λ b. length (filter q (cond b (x ∷ filter p xs) (filter p xs))) ≤ length (filter q (x ∷ xs))) [
      | true ↦ omega (arith, length-kept (q x) x (filter q (filter p xs)), length-kept (q x) x (filter q xs))
      | false ↦ omega (arith, length-kept (q x) x (filter q xs))
    ]

-- r passes what p passes and what q passes, and no element passes both
module _ {X : Type 0} (p q r : X → Bool) where
  abbrev pub Parts : X → Type 0
  Parts x = cond (r x) 1 0 ≡ cond (p x) 1 0 + cond (q x) 1 0

  pub length-filter_split : (xs : List X) → All Parts xs → length (filter r xs) ≡ length (filter p xs) + length (filter q xs)
  length-filter_split [] each = refl
  length-filter_split (x ∷ xs) each =
      let rest : length (filter r xs) ≡ length (filter p xs) + length (filter q xs) = length-filter_split xs (All-tail Parts x xs each) in
      let first : cond (r x) 1 0 ≡ cond (p x) 1 0 + cond (q x) 1 0 = All-head Parts x xs each in
      omega (
        arith,
        length-kept (r x) x (filter r xs),
        length-kept (p x) x (filter p xs),
        length-kept (q x) x (filter q xs),
      )

pub length-filter_push : {X : Type 0} (p : X → Bool) (xs : List X) (x : X)
    → length (filter p (xs ++ x ∷ [])) ≡ length (filter p xs) + cond (p x) 1 0
length-filter_push p xs x =
    omega (arith, ap length (filter-append p xs (x ∷ [])), length-append (filter p xs) (filter p (x ∷ [])), length-kept (p x) x [])
