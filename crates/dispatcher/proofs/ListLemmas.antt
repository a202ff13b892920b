-- What is in lists that are joined.
use Rattle.std.proofs.Common.{◌≡◌, ℕ, zero, suc, ◌<◌, ◌⊎◌, List, [], ◌∷◌, ◌++◌, length, get_or, Contains, refl, sym, subst, arith, inl, inr}
use Rattle.std.specs.List.{flat_map, AllByRecursion}
use Rattle.dispatcher.proofs.NameLemmas.{In, place_of}

module _ {X : Type 0} where
  pub in_left : (xs ys : List X) (x : X) → In xs x → In (xs ++ ys) x
  in_left [] ys x is = absurd is
  in_left (y ∷ xs) ys x (inl is) = inl is
  in_left (y ∷ xs) ys x (inr is) = inr (in_left xs ys x is)

  pub in_right : (xs ys : List X) (x : X) → In ys x → In (xs ++ ys) x
  in_right [] ys x is = is
  in_right (y ∷ xs) ys x is = inr (in_right xs ys x is)

  pub in_either : (xs ys : List X) (x : X) → In (xs ++ ys) x → In xs x ⊎ In ys x
  in_either [] ys x is = inr is
  in_either (y ∷ xs) ys x (inl is) = inl (inl is)
  in_either (y ∷ xs) ys x (inr is) = elim (in_either xs ys x is) [ inl left ↦ inl (inr left) | inr right ↦ inr right ]

  pub in_contained : (xs : List X) (x : X) → In xs x → Contains xs x
  in_contained xs x is = place_of xs x x is

  in_at : (xs : List X) (k : ℕ) (x d : X) → k < length xs → get_or xs k d ≡ x → In xs x
  in_at [] k x d within is = absurd (omega arith)
  in_at (y ∷ xs) zero x d within is = inl is
  in_at (y ∷ xs) (suc k) x d within is = inr (in_at xs k x d (omega arith) is)

  pub contained_in : (xs : List X) (x : X) → Contains xs x → In xs x
  contained_in xs x is = in_at xs is.0 x x is.1 is.2

  pub each_of : (P : X → Type 0) (xs : List X) → AllByRecursion P xs → (x : X) → In xs x → P x
  each_of P [] all x is = absurd is
  each_of P (y ∷ xs) all x (inl is) = subst P is all.0
  each_of P (y ∷ xs) all x (inr is) = each_of P xs all.1 x is

module _ {X Y : Type 0} (f : X → List Y) where
  pub in_flat : (xs : List X) (x : X) (y : Y) → In xs x → In (f x) y → In (flat_map f xs) y
  in_flat [] x y is it = absurd is
  in_flat (z ∷ xs) x y (inl is) it = in_left (f z) (flat_map f xs) y (subst (λ (w : X). In (f w) y) (sym is) it)
  in_flat (z ∷ xs) x y (inr is) it = in_right (f z) (flat_map f xs) y (in_flat xs x y is it)

  pub of_flat : (xs : List X) (y : Y) → In (flat_map f xs) y → (x : X) × In xs x × In (f x) y
  of_flat [] y is = absurd is
  of_flat (x ∷ xs) y is =
      elim (in_either (f x) (flat_map f xs) y is) [
        | inl left ↦ (x, inl refl, left)
        | inr right ↦ (let later : (z : X) × In xs z × In (f z) y = of_flat xs y right in (later.0, inr later.1, later.2))
      ]

  pub some_in_flat : (xs : List X) → 0 < length (flat_map f xs) → 0 < length xs
  some_in_flat [] some = some
  some_in_flat (x ∷ xs) some = omega arith
