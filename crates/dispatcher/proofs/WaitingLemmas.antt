-- The drivers that wait, before a round and after it.
use Rattle.std.proofs.Common.{◌≡◌, ℕ, zero, suc, Bool, true, false, not, ◌&&◌, ◌||◌, List, [], ◌∷◌, ◌++◌, cond, filter, Option, Some, None, refl, sym, ap, ◌∙◌, inl, inr}
use Rattle.std.specs.List.{flat_map}
use Rattle.std.proofs.Math.Bool.{or-false}
use Rattle.std.proofs.lemmas.Bool.{false≢true, false_from_ne_true}
use Rattle.std.proofs.lemmas.List.Folds.{list_any-append}
use Rattle.mm_base.specs.Guid.{same_guid}
use Rattle.mm_base.specs.declared.guid.Guid.{Guid}
use Rattle.depex.specs.Expressions.{Expression, Condition, Before, After}
use Rattle.depex.specs.Meaning.{named_before, named_after}
use Rattle.dispatcher.specs.Drivers.{NamesDiffer, after_drivers, before_drivers, holds_in, is_true, names}
use Rattle.dispatcher.specs.FamiliesInside.{families_at, has_condition, is_condition}
use Rattle.dispatcher.specs.Rounds.{family, family_of, is_scheduled, round}
use Rattle.dispatcher.specs.RoundsInside.{may_come}
use Rattle.dispatcher.specs.declared.driver.Driver.{Driver}
use Rattle.dispatcher.proofs.NameLemmas.{In, In-filter, any_there, filter-In, one_named, orphan, parent, parent_after, parent_before, same_is, same_self, there_is}

-- filters

module _ {X : Type 0} where
  filter_filter : (p q : X → Bool) (xs : List X) → filter q (filter p xs) ≡ filter (λ x. p x && q x) xs
  filter_filter p q [] = refl
  filter_filter p q (x ∷ xs) = at_head (p x) ∙ ap (λ rest. cond (p x && q x) (x ∷ rest) rest) (filter_filter p q xs)
    where
      at_head : (b : Bool) → filter q (cond b (x ∷ filter p xs) (filter p xs)) ≡ cond (b && q x) (x ∷ filter q (filter p xs)) (filter q (filter p xs))
      at_head true = refl
      at_head false = refl

  filter_same_in : (p q : X → Bool) (xs : List X) → ((x : X) → In xs x → p x ≡ q x) → filter p xs ≡ filter q xs
  filter_same_in p q [] same = refl
  filter_same_in p q (x ∷ xs) same =
      ap (λ b. cond b (x ∷ filter p xs) (filter p xs)) (same x (inl refl))
      ∙ ap (λ rest. cond (q x) (x ∷ rest) rest) (filter_same_in p q xs (λ y is. same y (inr is)))

module _ (drivers : List Driver) (differ : NamesDiffer drivers) where
  module _ (driver : Driver) (there : In drivers driver) (condition : has_condition driver ≡ true) where
    -- no family of drivers that name another has a driver with a condition
    none_in_families : (f : Driver → List Driver) (name : Guid) (some : List Driver)
        → ((child : Driver) → In drivers child → is_scheduled (f child) driver ≡ same_guid driver.name child.name)
        → ((child : Driver) → In some child → In drivers child × (parent child.depex ≡ Some name))
        → is_scheduled (flat_map f some) driver ≡ false
    none_in_families f name [] each named = refl
    none_in_families f name (child ∷ some) each named =
        let it : In drivers child × (parent child.depex ≡ Some name) = named child (inl refl) in
        let apart : same_guid driver.name child.name ≡ false =
        false_from_ne_true _ (λ same.
        let one : driver ≡ child = one_named drivers differ driver child there it.0 (same_is driver.name child.name same) in
        orphan driver.depex name condition (ap (λ (d : Driver). parent d.depex) one ∙ it.1)) in
        list_any-append (λ (other : Driver). same_guid driver.name other.name) (f child) (flat_map f some)
        ∙ (ap (λ b. b || is_scheduled (flat_map f some) driver) (each child it.0 ∙ apart)
        ∙ none_in_families f name some each (λ c is. named c (inr is)))

    -- a family has no driver with a condition but its first
    in_family : (links : ℕ) (first : Driver)
        → In drivers first
        → is_scheduled (family (before_drivers drivers) (after_drivers drivers) links first) driver ≡ same_guid driver.name first.name
    in_family zero first is = or-false (same_guid driver.name first.name)
    in_family (suc links) first is =
        let f : Driver → List Driver = family (before_drivers drivers) (after_drivers drivers) links in
        let here : Bool = same_guid driver.name first.name in
        let front : is_scheduled (flat_map f (before_drivers drivers first)) driver ≡ false =
        none_in_families f first.name (before_drivers drivers first) (in_family links) (λ child it.
        let kept : In drivers child × (names named_before child.depex first.name ≡ true) = In-filter (λ (other : Driver). names named_before other.depex first.name) drivers child it in
        (kept.0, parent_before child.depex first.name kept.1)) in
        let back : is_scheduled (flat_map f (after_drivers drivers first)) driver ≡ false =
        none_in_families f first.name (after_drivers drivers first) (in_family links) (λ child it.
        let kept : In drivers child × (names named_after child.depex first.name ≡ true) = In-filter (λ (other : Driver). names named_after other.depex first.name) drivers child it in
        (kept.0, parent_after child.depex first.name kept.1)) in
        list_any-append (λ (other : Driver). same_guid driver.name other.name) (flat_map f (before_drivers drivers first)) (first ∷ flat_map f (after_drivers drivers first))
        ∙ (ap (λ b. b || (here || is_scheduled (flat_map f (after_drivers drivers first)) driver)) front
        ∙ (ap (λ b. here || b) back ∙ or-false here))

    in_families : (roots : List Driver)
        → ((one : Driver) → In roots one → In drivers one)
        → is_scheduled (flat_map (family_of drivers) roots) driver ≡ is_scheduled roots driver
    in_families [] are = refl
    in_families (first ∷ roots) are =
        list_any-append (λ (other : Driver). same_guid driver.name other.name) (family_of drivers first) (flat_map (family_of drivers) roots)
        ∙ (ap (λ b. b || is_scheduled (flat_map (family_of drivers) roots) driver) (in_family _ first (are first (inl refl)))
        ∙ ap (λ b. same_guid driver.name first.name || b) (in_families roots (λ one is. are one (inr is))))

    in_kept : (p : Driver → Bool) (b : Bool) → p driver ≡ b → is_scheduled (filter p drivers) driver ≡ b
    in_kept p true passes =
        any_there (λ (other : Driver). same_guid driver.name other.name) (filter p drivers) driver (filter-In p drivers driver there passes) (same_self driver.name driver.name refl)
    in_kept p false fails =
        false_from_ne_true _ (λ any.
        let found : (x : Driver) × In (filter p drivers) x × (same_guid driver.name x.name ≡ true) = there_is (λ (other : Driver). same_guid driver.name other.name) (filter p drivers) any in
        let kept : In drivers found.0 × (p found.0 ≡ true) = In-filter p drivers found.0 found.1 in
        let one : driver ≡ found.0 = one_named drivers differ driver found.0 there kept.0 (same_is driver.name found.0.name found.2) in
        false≢true (sym (sym (ap p one) ∙ fails) ∙ kept.1))

  -- the rounds by what waits
  pub round_is : (installed : Guid → Bool) (done : List Driver)
      → families_at installed drivers (filter (may_come done) drivers) ≡ round installed drivers done
  round_is installed done =
      ap (flat_map (family_of drivers))
      (filter_filter (may_come done) (is_true installed) drivers
      ∙ filter_same_in (λ driver. may_come done driver && is_true installed driver) (λ driver. is_true installed driver && not (is_scheduled done driver)) drivers
      (λ driver _. both driver.depex (not (is_scheduled done driver))))
    where
      swapped : (a b : Bool) → (a && b) ≡ (b && a)
      swapped true true = refl
      swapped true false = refl
      swapped false true = refl
      swapped false false = refl

      both : (depex : Option Expression) (b : Bool) → ((is_condition depex && b) && holds_in installed depex) ≡ (holds_in installed depex && b)
      both None b = refl
      both (Some (Condition tree)) b = swapped b (holds_in installed (Some (Condition tree)))
      both (Some (Before _)) b = refl
      both (Some (After _)) b = refl

  pub waits_after : (installed : Guid → Bool) (done : List Driver)
      → filter (λ driver. not (is_true installed driver)) (filter (may_come done) drivers)
      ≡ filter (may_come (done ++ round installed drivers done)) drivers
  waits_after installed done =
      filter_filter (may_come done) (λ driver. not (is_true installed driver)) drivers
      ∙ filter_same_in (λ driver. may_come done driver && not (is_true installed driver)) (may_come (done ++ round installed drivers done)) drivers
      (λ driver there. by_condition driver there (has_condition driver) refl)
    where
      due : Driver → Bool
      due driver = is_true installed driver && not (is_scheduled done driver)

      table : (s t : Bool) → (not s && not t) ≡ not (s || (t && not s))
      table true true = refl
      table true false = refl
      table false true = refl
      table false false = refl

      scheduled_now : (driver : Driver) → In drivers driver → has_condition driver ≡ true → is_scheduled (round installed drivers done) driver ≡ due driver
      scheduled_now driver there condition =
          in_families driver there condition (filter due drivers) (λ one is. (In-filter due drivers one is).0)
          ∙ in_kept driver there condition due (due driver) refl

      by_condition : (driver : Driver) → In drivers driver → (b : Bool) → has_condition driver ≡ b
          → (may_come done driver && not (is_true installed driver)) ≡ may_come (done ++ round installed drivers done) driver
      by_condition driver there true condition =
          ap (λ b. (b && not (is_scheduled done driver)) && not (is_true installed driver)) condition
          ∙ (table (is_scheduled done driver) (is_true installed driver)
          ∙ (sym (ap not (list_any-append (λ (other : Driver). same_guid driver.name other.name) done (round installed drivers done)
          ∙ ap (λ b. is_scheduled done driver || b) (scheduled_now driver there condition)))
          ∙ sym (ap (λ b. b && not (is_scheduled (done ++ round installed drivers done) driver)) condition)))
      by_condition driver there false condition =
          ap (λ b. (b && not (is_scheduled done driver)) && not (is_true installed driver)) condition
          ∙ sym (ap (λ b. b && not (is_scheduled (done ++ round installed drivers done) driver)) condition)
