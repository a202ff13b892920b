-- Rounds as a whole: who is scheduled together, and who waits at the end.
use Rattle.std.proofs.Common.{◌≡◌, ℕ, zero, suc, ◌+◌, ◌<◌, ◌≤◌, Bool, true, false, not, ◌&&◌, ◌⊎◌, List, [], ◌∷◌, ◌++◌, length, filter, Option, Some, None, refl, sym, ap, ◌∙◌, subst, arith, inl, inr, append_assoc}
use Rattle.std.specs.List.{flat_map, AllByRecursion}
use Rattle.std.proofs.lemmas.Bool.{false≢true, false_from_ne_true}
use Rattle.std.proofs.lemmas.List.{append-nil}
use Rattle.std.proofs.lemmas.List.Elements.{All-from_recursion}
use Rattle.std.proofs.lemmas.List.Filters.{length-filter_both}
use Rattle.mm_base.specs.Guid.{same_guid}
use Rattle.mm_base.specs.declared.guid.Guid.{Guid}
use Rattle.depex.specs.Expressions.{Expression, Condition, Before, After}
use Rattle.depex.specs.Meaning.{named_before, named_after}
use Rattle.dispatcher.specs.Drivers.{NamesDiffer, after_drivers, before_drivers, holds_in, is_true, names}
use Rattle.dispatcher.specs.FamiliesInside.{families_at, has_condition, is_condition}
use Rattle.dispatcher.specs.Laws.{AreTogether, IsTogether, WaitRightly, WaitsRightly, scheduled_in}
use Rattle.dispatcher.specs.Rounds.{after_starts, all_starts, family, family_of, is_scheduled, round, rounds, rounds_from, starts_from, starts_in, up_to_empty}
use Rattle.dispatcher.specs.RoundsInside.{may_come}
use Rattle.dispatcher.specs.declared.driver.Driver.{Driver}
use Rattle.dispatcher.proofs.FamilyLemmas.{all_weaker, family_opens}
use Rattle.dispatcher.proofs.ListLemmas.{contained_in, each_of, in_contained, in_either, in_flat, in_left, in_right, of_flat, some_in_flat}
use Rattle.dispatcher.proofs.NameLemmas.{In, In-filter, any_there, each_in, filter-In, same_self}
use Rattle.dispatcher.proofs.RootLemmas.{root_fits}
use Rattle.dispatcher.proofs.RoundLemmas.{after_more}
use Rattle.dispatcher.proofs.WaitingLemmas.{round_is, waits_after}

-- a condition that holds is one
pub holding_condition : (installed : Guid → Bool) (depex : Option Expression) (b : Bool)
    → (holds_in installed depex && b) ≡ true
    → is_condition depex ≡ true
holding_condition installed None b holds = absurd (false≢true holds)
holding_condition installed (Some (Condition _)) b holds = refl
holding_condition installed (Some (Before _)) b holds = absurd (false≢true holds)
holding_condition installed (Some (After _)) b holds = absurd (false≢true holds)

module _ (drivers : List Driver) where
  abbrev links_of : ℕ → Driver → List Driver
  links_of links driver = family (before_drivers drivers) (after_drivers drivers) links driver

  abbrev GoesWith : Driver → Driver → Type 0
  GoesWith other driver = In (before_drivers drivers other) driver ⊎ In (after_drivers drivers other) driver

  pub self_in : (links : ℕ) (driver : Driver) → In (links_of links driver) driver
  self_in zero driver = inl refl
  self_in (suc links) driver = in_right (flat_map (links_of links) (before_drivers drivers driver)) _ driver (inl refl)

  next_in : (links : ℕ) (first driver : Driver) → GoesWith first driver → In (links_of (suc links) first) driver
  next_in links first driver (inl is) =
      in_left (flat_map (links_of links) (before_drivers drivers first)) _ driver (in_flat (links_of links) (before_drivers drivers first) driver driver is (self_in links driver))
  next_in links first driver (inr is) =
      in_right (flat_map (links_of links) (before_drivers drivers first)) (first ∷ flat_map (links_of links) (after_drivers drivers first)) driver
      (inr (in_flat (links_of links) (after_drivers drivers first) driver driver is (self_in links driver)))

  same_with : (first other driver : Driver) → first ≡ other → GoesWith other driver → GoesWith first driver
  same_with first other driver is goes = subst (λ (one : Driver). GoesWith one driver) (sym is) goes

  -- who goes with one of a family is in the family with one link more
  with_one : (links : ℕ) (first other driver : Driver) → In (links_of links first) other → GoesWith other driver → In (links_of (suc links) first) driver
  with_one zero first other driver (inl is) goes = next_in zero first driver (same_with first other driver is goes)
  with_one zero first other driver (inr is) goes = absurd is
  with_one (suc links) first other driver is goes =
      let front : List Driver = before_drivers drivers first in
      let back : List Driver = after_drivers drivers first in
      let more : Driver → List Driver = links_of (suc links) in
      elim (in_either (flat_map (links_of links) front) (first ∷ flat_map (links_of links) back) other is) [
        | inl left ↦
            (let at : (x : Driver) × In front x × In (links_of links x) other = of_flat (links_of links) front other left in
            in_left (flat_map more front) (first ∷ flat_map more back) driver
            (in_flat more front at.0 driver at.1 (with_one links at.0 other driver at.2 goes)))
        | inr right ↦ elim right [
          | inl same ↦ next_in (suc links) first driver (same_with first other driver same goes)
          | inr later ↦
              (let at : (x : Driver) × In back x × In (links_of links x) other = of_flat (links_of links) back other later in
              in_right (flat_map more front) (first ∷ flat_map more back) driver
              (inr (in_flat more back at.0 driver at.1 (with_one links at.0 other driver at.2 goes))))
        ]
      ]

  module _ (differ : NamesDiffer drivers) where
    with_one_of : (first other driver : Driver)
        → In drivers first
        → has_condition first ≡ true
        → In (family_of drivers first) other
        → GoesWith other driver
        → In (family_of drivers first) driver
    with_one_of first other driver there condition is goes =
        subst (λ (some : List Driver). In some driver)
        (sym (family_opens (before_drivers drivers) (after_drivers drivers) (length drivers) first (root_fits drivers differ first there condition)))
        (with_one (length drivers) first other driver is goes)

    together : (installed : Guid → Bool) (done : List Driver) (other driver : Driver)
        → In (round installed drivers done) other
        → GoesWith other driver
        → In (round installed drivers done) driver
    together installed done other driver is goes =
        let due : Driver → Bool = λ one. is_true installed one && not (is_scheduled done one) in
        let at : (x : Driver) × In (filter due drivers) x × In (family_of drivers x) other = of_flat (family_of drivers) (filter due drivers) other is in
        let kept : In drivers at.0 × (due at.0 ≡ true) = In-filter due drivers at.0 at.1 in
        in_flat (family_of drivers) (filter due drivers) at.0 driver at.1
        (with_one_of at.0 other driver kept.0 (holding_condition installed at.0.depex (not (is_scheduled done at.0)) kept.1) at.2 goes)

    abbrev Together : List Driver → Type 0
    Together scheduled = (driver other : Driver) → In scheduled other → GoesWith other driver → In scheduled driver

    module _ {State : Type 0} (installed : State → Guid → Bool) (started : State → ℕ → ℕ → State) where
      all_up_to : (scheduled : List Driver) (later : List (List Driver)) → Together scheduled → AllByRecursion Together later → AllByRecursion Together (up_to_empty scheduled later)
      all_up_to [] later here others = tt
      all_up_to (driver ∷ scheduled) later here others = (here, others)

      all_together : (most number : ℕ) (done : List Driver) (state : State) → AllByRecursion Together (rounds_from installed started drivers most number done state)
      all_together zero number done state = tt
      all_together (suc most) number done state =
          let scheduled : List Driver = round (installed state) drivers done in
          all_up_to scheduled (rounds_from installed started drivers most (number + 1) (done ++ scheduled) (after_starts started (starts_in number scheduled) state))
          (λ driver other is goes. together (installed state) done other driver is goes)
          (all_together most (number + 1) (done ++ scheduled) (after_starts started (starts_in number scheduled) state))

      -- the end

      ends_empty : (number : ℕ) (done scheduled : List Driver) (later : List (List Driver)) (state : State)
          → round (installed state) drivers done ≡ scheduled
          → (0 < length scheduled
          → round (installed (after_starts started (starts_from (number + 1) later) (after_starts started (starts_in number scheduled) state))) drivers ((done ++ scheduled) ++ scheduled_in later) ≡ [])
          → round (installed (after_starts started (starts_from number (up_to_empty scheduled later)) state)) drivers (done ++ scheduled_in (up_to_empty scheduled later)) ≡ []
      ends_empty number done [] later state is rest = ap (round (installed state) drivers) (append-nil done) ∙ is
      ends_empty number done (driver ∷ scheduled) later state is rest =
          ap (λ (now : State). round (installed now) drivers (done ++ scheduled_in ((driver ∷ scheduled) ∷ later)))
          (after_more started (starts_in number (driver ∷ scheduled)) (starts_from (number + 1) later) state)
          ∙ (ap (round (installed (after_starts started (starts_from (number + 1) later) (after_starts started (starts_in number (driver ∷ scheduled)) state))) drivers)
          (sym (append_assoc done (driver ∷ scheduled) (scheduled_in later)))
          ∙ rest (omega arith))

      none_of_none : (has : Guid → Bool) (done : List Driver) → length (filter (may_come done) drivers) ≤ 0 → round has drivers done ≡ []
      none_of_none has done none = sym (round_is drivers differ has done) ∙ ap (families_at has drivers) (no_more (filter (may_come done) drivers) none)
        where
          no_more : (some : List Driver) → length some ≤ 0 → some ≡ []
          no_more [] none = refl
          no_more (x ∷ some) none = absurd (omega arith)

      fewer_wait : (has : Guid → Bool) (done : List Driver)
          → 0 < length (round has drivers done)
          → length (filter (may_come (done ++ round has drivers done)) drivers) < length (filter (may_come done) drivers)
      fewer_wait has done some =
          let waiting : List Driver = filter (may_come done) drivers in
          let true_ones : 0 < length (filter (is_true has) waiting) =
          some_in_flat (family_of drivers) (filter (is_true has) waiting) (subst (λ (all : List Driver). 0 < length all) (sym (round_is drivers differ has done)) some) in
          omega (
            arith,
            true_ones,
            ap length (waits_after drivers differ has done),
            length-filter_both (is_true has) (λ driver. not (is_true has driver)) (λ driver. refl) waiting,
          )

      last_empty : (most number : ℕ) (done : List Driver) (state : State)
          → length (filter (may_come done) drivers) ≤ most
          → round (installed (after_starts started (starts_from number (rounds_from installed started drivers most number done state)) state)) drivers
          (done ++ scheduled_in (rounds_from installed started drivers most number done state)) ≡ []
      last_empty zero number done state few = ap (round (installed state) drivers) (append-nil done) ∙ none_of_none (installed state) done few
      last_empty (suc most) number done state few =
          let scheduled : List Driver = round (installed state) drivers done in
          ends_empty number done scheduled (rounds_from installed started drivers most (number + 1) (done ++ scheduled) (after_starts started (starts_in number scheduled) state)) state refl
          (λ some. last_empty most (number + 1) (done ++ scheduled) (after_starts started (starts_in number scheduled) state) (omega (arith, few, fewer_wait (installed state) done some)))

      few_wait : length (filter (may_come []) drivers) ≤ length drivers
      few_wait = omega (arith, length-filter_both (may_come []) (λ driver. not (may_come [] driver)) (λ driver. refl) drivers)

      waits : (has : Guid → Bool) (all : List (List Driver)) (driver : Driver)
          → AllByRecursion Together all
          → round has drivers (scheduled_in all) ≡ []
          → In drivers driver
          → is_scheduled (scheduled_in all) driver ≡ false
          → WaitsRightly has (scheduled_in all) driver
      waits has all driver each empty there unscheduled = record {
        untrue = false_from_ne_true _ (λ holds.
            let due : Driver → Bool = λ one. is_true has one && not (is_scheduled (scheduled_in all) one) in
            let passes : due driver ≡ true = ap (λ b. b && not (is_scheduled (scheduled_in all) driver)) holds ∙ ap not unscheduled in
            subst (λ (some : List Driver). In some driver) empty
            (in_flat (family_of drivers) (filter due drivers) driver driver (filter-In due drivers driver there passes) (self_in (length drivers) driver)));
        before = All-from_recursion _ (scheduled_in all) (each_in _ (scheduled_in all) (λ other is. false_from_ne_true _ (λ named.
            among other is (inl (filter-In (λ (one : Driver). names named_before one.depex other.name) drivers driver there named)))));
        after = All-from_recursion _ (scheduled_in all) (each_in _ (scheduled_in all) (λ other is. false_from_ne_true _ (λ named.
            among other is (inr (filter-In (λ (one : Driver). names named_after one.depex other.name) drivers driver there named)))));
      }
        where
          among : (other : Driver) → In (scheduled_in all) other → GoesWith other driver → ⊥
          among other is goes =
              let at : (x : List Driver) × In all x × In x other = of_flat (λ (scheduled : List Driver). scheduled) all other is in
              let it : In (scheduled_in all) driver = in_flat (λ (scheduled : List Driver). scheduled) all at.0 driver at.1 (each_of Together all each at.0 at.1 driver other at.2 goes) in
              false≢true (sym unscheduled ∙ any_there (λ (one : Driver). same_guid driver.name one.name) (scheduled_in all) driver it (same_self driver.name driver.name refl))

-- the laws

pub wait_rightly : {State : Type 0} (installed : State → Guid → Bool) (started : State → ℕ → ℕ → State) → WaitRightly installed started
wait_rightly installed started drivers state differ driver there unscheduled =
    waits drivers differ installed started (installed (after_starts started (all_starts installed started drivers state) state)) (rounds installed started drivers state) driver
    (all_together drivers differ installed started (length drivers) 1 [] state)
    (last_empty drivers differ installed started (length drivers) 1 [] state (few_wait drivers differ installed started))
    (contained_in drivers driver there) unscheduled

pub before_together : {State : Type 0} (installed : State → Guid → Bool) (started : State → ℕ → ℕ → State) → AreTogether named_before installed started
before_together installed started drivers state differ =
    All-from_recursion (IsTogether named_before drivers) (rounds installed started drivers state)
    (all_weaker (Together drivers differ) (IsTogether named_before drivers)
    (λ scheduled each driver other there is named. in_contained scheduled driver (each driver other (contained_in scheduled other is)
    (inl (filter-In (λ (one : Driver). names named_before one.depex other.name) drivers driver (contained_in drivers driver there) named))))
    (rounds installed started drivers state) (all_together drivers differ installed started (length drivers) 1 [] state))

pub after_together : {State : Type 0} (installed : State → Guid → Bool) (started : State → ℕ → ℕ → State) → AreTogether named_after installed started
after_together installed started drivers state differ =
    All-from_recursion (IsTogether named_after drivers) (rounds installed started drivers state)
    (all_weaker (Together drivers differ) (IsTogether named_after drivers)
    (λ scheduled each driver other there is named. in_contained scheduled driver (each driver other (contained_in scheduled other is)
    (inr (filter-In (λ (one : Driver). names named_after one.depex other.name) drivers driver (contained_in drivers driver there) named))))
    (rounds installed started drivers state) (all_together drivers differ installed started (length drivers) 1 [] state))
