-- Names of drivers, and what they name.
use Rattle.std.proofs.Common.{◌≡◌, ℕ, suc, ◌<◌, Bool, true, false, cond, ◌||◌, ◌⊎◌, List, [], ◌∷◌, length, get_or, filter, Option, Some, None, refl, sym, ap, ◌∙◌, subst, arith, inl, inr}
use Rattle.std.specs.List.{AllByRecursion, list_any}
use Rattle.std.proofs.lemmas.Bool.{false≢true, cases_lt}
use Rattle.std.proofs.lemmas.Slice.Eq.{bytes_eq-Decides}
use Rattle.mm_base.specs.Guid.{same_guid}
use Rattle.mm_base.specs.declared.guid.Guid.{Guid}
use Rattle.depex.specs.Expressions.{Expression, Condition, Before, After}
use Rattle.depex.specs.Meaning.{named_before, named_after}
use Rattle.dispatcher.specs.Drivers.{NamesDiffer, names}
use Rattle.dispatcher.specs.FamiliesInside.{is_condition}
use Rattle.dispatcher.specs.declared.driver.Driver.{Driver}

-- GUIDs

pub same_is : (a b : Guid) → same_guid a b ≡ true → a ≡ b
same_is a b same = λ i. record { 0 = (bytes_eq-Decides a.0 b.0).0 same i }

pub same_self : (a b : Guid) → a ≡ b → same_guid a b ≡ true
same_self a b is = (bytes_eq-Decides a.0 b.0).1 (ap (λ (guid : Guid). guid.0) is)

-- what is in a list

abbrev pub In : {X : Type 0} → List X → X → Type 0
In [] x = ⊥
In (y ∷ ys) x = (y ≡ x) ⊎ In ys x

or_right : (a b : Bool) → b ≡ true → (a || b) ≡ true
or_right true b is = refl
or_right false b is = is

module _ {X : Type 0} where
  pub place_of : (xs : List X) (x d : X) → In xs x → (k : ℕ) × (k < length xs) × (get_or xs k d ≡ x)
  place_of [] x d is = absurd is
  place_of (y ∷ ys) x d (inl is) = (0, omega arith, is)
  place_of (y ∷ ys) x d (inr is) =
      let p : (k : ℕ) × (k < length ys) × (get_or ys k d ≡ x) = place_of ys x d is in
      (suc p.0, omega (arith, p.1), p.2)

  kept_at : (p : X → Bool) (y : X) (ys : List X) (x : X)
      → (In (filter p ys) x → In ys x × (p x ≡ true))
      → (b : Bool)
      → p y ≡ b
      → In (cond b (y ∷ filter p ys) (filter p ys)) x
      → In (y ∷ ys) x × (p x ≡ true)
  kept_at p y ys x later true passes (inl is) = (inl is, subst (λ (z : X). p z ≡ true) is passes)
  kept_at p y ys x later true passes (inr is) = (inr (later is).0, (later is).1)
  kept_at p y ys x later false fails is = (inr (later is).0, (later is).1)

  -- what a filter keeps was there, and passes
  pub In-filter : (p : X → Bool) (xs : List X) (x : X) → In (filter p xs) x → In xs x × (p x ≡ true)
  In-filter p [] x is = absurd is
  In-filter p (y ∷ ys) x is = kept_at p y ys x (In-filter p ys x) (p y) refl is

  kept_head : (p : X → Bool) (y : X) (rest : List X) (x : X) → y ≡ x → p x ≡ true → In (cond (p y) (y ∷ rest) rest) x
  kept_head p y rest x is passes =
      subst (λ (b : Bool). In (cond b (y ∷ rest) rest) x) (sym (ap p is ∙ passes)) (inl is)

  kept_tail : (b : Bool) (y : X) (rest : List X) (x : X) → In rest x → In (cond b (y ∷ rest) rest) x
  kept_tail true y rest x is = inr is
  kept_tail false y rest x is = is

  pub filter-In : (p : X → Bool) (xs : List X) (x : X) → In xs x → p x ≡ true → In (filter p xs) x
  filter-In p [] x is passes = absurd is
  filter-In p (y ∷ ys) x (inl is) passes = kept_head p y (filter p ys) x is passes
  filter-In p (y ∷ ys) x (inr is) passes = kept_tail (p y) y (filter p ys) x (filter-In p ys x is passes)

  pub any_there : (p : X → Bool) (xs : List X) (x : X) → In xs x → p x ≡ true → list_any p xs ≡ true
  any_there p [] x is passes = absurd is
  any_there p (y ∷ ys) x (inl is) passes = ap (λ b. b || list_any p ys) (ap p is ∙ passes)
  any_there p (y ∷ ys) x (inr is) passes = or_right (p y) (list_any p ys) (any_there p ys x is passes)

  found_at : (p : X → Bool) (y : X) (ys : List X)
      → (list_any p ys ≡ true → (x : X) × In ys x × (p x ≡ true))
      → (b : Bool)
      → p y ≡ b
      → (b || list_any p ys) ≡ true
      → (x : X) × In (y ∷ ys) x × (p x ≡ true)
  found_at p y ys later true passes any = (y, inl refl, passes)
  found_at p y ys later false fails any = ((later any).0, inr (later any).1, (later any).2)

  pub there_is : (p : X → Bool) (xs : List X) → list_any p xs ≡ true → (x : X) × In xs x × (p x ≡ true)
  there_is p [] any = absurd (false≢true any)
  there_is p (y ∷ ys) any = found_at p y ys (there_is p ys) (p y) refl any

  -- what holds of each that is in a list
  pub each_in : (P : X → Type 0) (xs : List X) → ((x : X) → In xs x → P x) → AllByRecursion P xs
  each_in P [] each = tt
  each_in P (y ∷ ys) each = (each y (inl refl), each_in P ys (λ x is. each x (inr is)))

-- two drivers of one name are one
pub one_named : (drivers : List Driver)
    → NamesDiffer drivers
    → (one other : Driver)
    → In drivers one
    → In drivers other
    → one.name ≡ other.name
    → one ≡ other
one_named drivers differ one other is it same =
    let p : (k : ℕ) × (k < length drivers) × (get_or drivers k one ≡ one) = place_of drivers one one is in
    let q : (k : ℕ) × (k < length drivers) × (get_or drivers k one ≡ other) = place_of drivers other one it in
    let P : Driver → Driver → Type 0 = λ a b. same_guid a.name b.name ≡ false in
    elim (cases_lt p.0 q.0) [
      | inl lt ↦ absurd (false≢true (sym (subst (λ (a : Driver). P a other) p.2 (subst (P (get_or drivers p.0 one)) q.2 (differ p.0 q.0 one lt q.1))) ∙ same_self one.name other.name same))
      | inr le ↦ elim (cases_lt q.0 p.0) [
        | inl lt ↦ absurd (false≢true (sym (subst (λ (a : Driver). P a one) q.2 (subst (P (get_or drivers q.0 one)) p.2 (differ q.0 p.0 one lt p.1))) ∙ same_self other.name one.name (sym same)))
        | inr ge ↦ sym p.2 ∙ (ap (λ k. get_or drivers k one) (omega (arith, le, ge)) ∙ q.2)
      ]
    ]

-- the driver that an expression names
abbrev pub parent : Option Expression → Option Guid
parent None = None
parent (Some (Condition _)) = None
parent (Some (Before guid)) = Some guid
parent (Some (After guid)) = Some guid

pub parent_before : (depex : Option Expression) (name : Guid) → names named_before depex name ≡ true → parent depex ≡ Some name
parent_before None name is = absurd (false≢true is)
parent_before (Some (Condition _)) name is = absurd (false≢true is)
parent_before (Some (Before guid)) name is = ap Some (same_is guid name is)
parent_before (Some (After _)) name is = absurd (false≢true is)

pub parent_after : (depex : Option Expression) (name : Guid) → names named_after depex name ≡ true → parent depex ≡ Some name
parent_after None name is = absurd (false≢true is)
parent_after (Some (Condition _)) name is = absurd (false≢true is)
parent_after (Some (Before _)) name is = absurd (false≢true is)
parent_after (Some (After guid)) name is = ap Some (same_is guid name is)

pub no_parent : (depex : Option Expression) → is_condition depex ≡ true → parent depex ≡ None
no_parent None is = absurd (false≢true is)
no_parent (Some (Condition _)) is = refl
no_parent (Some (Before _)) is = absurd (false≢true is)
no_parent (Some (After _)) is = absurd (false≢true is)

none_is_some : (guid : Guid) → None ≡ Some guid → ⊥
none_is_some guid is = cc

pub orphan : (depex : Option Expression) (name : Guid) → is_condition depex ≡ true → parent depex ≡ Some name → ⊥
orphan depex name is named = none_is_some name (sym (no_parent depex is) ∙ named)

some_same : (a b : Guid) → Some a ≡ Some b → a ≡ b
some_same a b is = cc

pub one_parent : (depex : Option Expression) (a b : Guid) → parent depex ≡ Some a → parent depex ≡ Some b → a ≡ b
one_parent depex a b one other = some_same a b (sym one ∙ other)
