-- How often a name stands in families: so no driver is scheduled twice.
use Rattle.std.proofs.Common.{◌≡◌, ℕ, zero, suc, ◌+◌, ◌<◌, ◌≤◌, Bool, true, false, cond, not, ◌&&◌, ◌||◌, List, [], ◌∷◌, ◌++◌, length, get_or, filter, Option, Some, None, refl, sym, ap, ◌∙◌, subst, arith, inl, inr}
use Rattle.std.specs.List.{flat_map, list_any}
use Rattle.std.proofs.lemmas.Bool.{false≢true, false_from_ne_true}
use Rattle.std.proofs.lemmas.List.Concat.{flat_map-append}
use Rattle.std.proofs.lemmas.List.Folds.{list_any-append}
use Rattle.mm_base.specs.Guid.{same_guid}
use Rattle.mm_base.specs.declared.guid.Guid.{Guid}
use Rattle.depex.specs.Expressions.{Expression, Condition, Before, After}
use Rattle.depex.specs.Meaning.{named_before, named_after}
use Rattle.dispatcher.specs.Drivers.{NamesDiffer, after_drivers, before_drivers, is_true, names}
use Rattle.dispatcher.specs.FamiliesInside.{has_condition}
use Rattle.dispatcher.specs.Laws.{NoneTwice, scheduled_in}
use Rattle.dispatcher.specs.Rounds.{after_starts, family, family_of, is_scheduled, round, rounds, rounds_from, starts_in, up_to_empty}
use Rattle.dispatcher.specs.declared.driver.Driver.{Driver}
use Rattle.dispatcher.proofs.LawLemmas.{holding_condition, self_in}
use Rattle.dispatcher.proofs.ListLemmas.{in_either, in_flat, of_flat}
use Rattle.dispatcher.proofs.NameLemmas.{In, In-filter, any_there, no_parent, one_named, parent, place_of, same_is, same_self, there_is}

abbrev one_if : Bool → ℕ
one_if b = cond b 1 0

-- how often a name stands in a list
abbrev times : Guid → List Driver → ℕ
times name [] = 0
times name (driver ∷ drivers) = one_if (same_guid name driver.name) + times name drivers

times-append : (name : Guid) (some more : List Driver) → times name (some ++ more) ≡ times name some + times name more
times-append name [] more = omega arith
times-append name (driver ∷ some) more = omega (arith, times-append name some more)

times_none : (name : Guid) (some : List Driver) → ((driver : Driver) → In some driver → same_guid name driver.name ≡ false) → times name some ≡ 0
times_none name [] apart = refl
times_none name (driver ∷ some) apart =
    omega (arith, ap one_if (apart driver (inl refl)), times_none name some (λ one is. apart one (inr is)))

at_most_one : (b : Bool) → one_if b ≤ 1
at_most_one true = omega arith
at_most_one false = omega arith

times_cond : (name : Guid) (b : Bool) (driver : Driver) (rest : List Driver)
    → times name (cond b (driver ∷ rest) rest) ≡ cond b (one_if (same_guid name driver.name)) 0 + times name rest
times_cond name true driver rest = refl
times_cond name false driver rest = omega arith

-- lists in which names differ

apart_from_first : (first : Driver) (others : List Driver) → NamesDiffer (first ∷ others) → (driver : Driver) → In others driver → same_guid first.name driver.name ≡ false
apart_from_first first others differ driver is =
    let p : (k : ℕ) × (k < length others) × (get_or others k driver ≡ driver) = place_of others driver driver is in
    subst (λ (one : Driver). same_guid first.name one.name ≡ false) p.2 (differ 0 (suc p.0) driver (omega arith) (omega (arith, p.1)))

others_differ : (first : Driver) (others : List Driver) → NamesDiffer (first ∷ others) → NamesDiffer others
others_differ first others differ i j d before within = differ (suc i) (suc j) d (omega arith) (omega arith)

turned_apart : (a b : Guid) → same_guid a b ≡ false → same_guid b a ≡ false
turned_apart a b apart = false_from_ne_true _ (λ same. false≢true (sym apart ∙ same_self a b (sym (same_is b a same))))

-- a driver's name stands once among those that a test keeps, if it is kept
times_kept : (p : Driver → Bool) (drivers : List Driver) → NamesDiffer drivers → (driver : Driver) → In drivers driver → times driver.name (filter p drivers) ≡ one_if (p driver)
times_kept p [] differ driver is = absurd is
times_kept p (first ∷ others) differ driver (inl is) =
    let none : times driver.name (filter p others) ≡ 0 =
    times_none driver.name (filter p others) (λ one it.
    subst (λ (d : Driver). same_guid d.name one.name ≡ false) is (apart_from_first first others differ one (In-filter p others one it).0)) in
    let here : same_guid driver.name first.name ≡ true = same_self driver.name first.name (ap (λ (d : Driver). d.name) (sym is)) in
    times_cond driver.name (p first) first (filter p others)
    ∙ (ap (λ b. cond (p first) (one_if b) 0 + times driver.name (filter p others)) here
    ∙ (ap (λ n. one_if (p first) + n) none ∙ (plus_zero (one_if (p first)) ∙ ap (λ (d : Driver). one_if (p d)) is)))
  where
    plus_zero : (n : ℕ) → n + 0 ≡ n
    plus_zero n = omega arith
times_kept p (first ∷ others) differ driver (inr is) =
    let apart : same_guid driver.name first.name ≡ false = turned_apart first.name driver.name (apart_from_first first others differ driver is) in
    times_cond driver.name (p first) first (filter p others)
    ∙ (ap (λ b. cond (p first) (one_if b) 0 + times driver.name (filter p others)) apart
    ∙ (none (p first) (times driver.name (filter p others)) ∙ times_kept p others (others_differ first others differ) driver is))
  where
    none : (b : Bool) (n : ℕ) → cond b 0 0 + n ≡ n
    none true n = omega arith
    none false n = omega arith

-- those that an expression names

abbrev times_of : Option Guid → List Driver → ℕ
times_of None some = 0
times_of (Some name) some = times name some

times_of-nil : (name : Option Guid) → times_of name [] ≡ 0
times_of-nil None = refl
times_of-nil (Some name) = refl

times_of-append : (name : Option Guid) (some more : List Driver) → times_of name (some ++ more) ≡ times_of name some + times_of name more
times_of-append None some more = refl
times_of-append (Some name) some more = times-append name some more

named_once : (depex : Option Expression) (driver : Driver)
    → one_if (names named_before depex driver.name) + one_if (names named_after depex driver.name) ≡ times_of (parent depex) (driver ∷ [])
named_once None driver = refl
named_once (Some (Condition _)) driver = refl
named_once (Some (Before name)) driver = refl
named_once (Some (After name)) driver = omega arith

module _ (drivers : List Driver) (differ : NamesDiffer drivers) where
  abbrev linked : ℕ → Driver → List Driver
  linked links driver = family (before_drivers drivers) (after_drivers drivers) links driver

  module _ (driver : Driver) (there : In drivers driver) where
    children : (other : Driver)
        → times driver.name (before_drivers drivers other) + times driver.name (after_drivers drivers other) ≡ times_of (parent driver.depex) (other ∷ [])
    children other =
        ap (λ n. n + times driver.name (after_drivers drivers other)) (times_kept (λ (one : Driver). names named_before one.depex other.name) drivers differ driver there)
        ∙ (ap (λ n. one_if (names named_before driver.depex other.name) + n) (times_kept (λ (one : Driver). names named_after one.depex other.name) drivers differ driver there)
        ∙ named_once driver.depex other)

    abbrev Around : ℕ → Type 0
    Around links = (other : Driver)
        → times driver.name (flat_map (linked links) (before_drivers drivers other)) + times driver.name (flat_map (linked links) (after_drivers drivers other))
        ≡ times_of (parent driver.depex) (linked links other)

    -- its name stands where it is one of them, and once for each time that the name stands there which it names
    times_linked : (links : ℕ)
        → Around links
        → (some : List Driver)
        → times driver.name (flat_map (linked (suc links)) some) ≡ times driver.name some + times_of (parent driver.depex) (flat_map (linked links) some)
    times_linked links around [] = omega (arith, times_of-nil (parent driver.depex))
    times_linked links around (other ∷ some) =
        let name : Guid = driver.name in
        let front : List Driver = flat_map (linked links) (before_drivers drivers other) in
        let back : List Driver = flat_map (linked links) (after_drivers drivers other) in
        omega (
          arith,
          times-append name (front ++ other ∷ back) (flat_map (linked (suc links)) some),
          times-append name front (other ∷ back),
          times_of-append (parent driver.depex) (linked links other) (flat_map (linked links) some),
          times_linked links around some,
          around other,
        )

    around : (links : ℕ) → Around links
    around zero other = ap (λ some. times driver.name some + times driver.name (flat_map (linked zero) (after_drivers drivers other))) (alone (before_drivers drivers other))
        ∙ (ap (λ some. times driver.name (before_drivers drivers other) + times driver.name some) (alone (after_drivers drivers other)) ∙ children other)
      where
        alone : (some : List Driver) → flat_map (linked zero) some ≡ some
        alone [] = refl
        alone (one ∷ some) = ap (λ rest. one ∷ rest) (alone some)
    around (suc links) other =
        let front : List Driver = flat_map (linked links) (before_drivers drivers other) in
        let back : List Driver = flat_map (linked links) (after_drivers drivers other) in
        omega (
          arith,
          times_linked links (around links) (before_drivers drivers other),
          times_linked links (around links) (after_drivers drivers other),
          times_of-append (parent driver.depex) front (other ∷ back),
          times_of-append (parent driver.depex) (other ∷ []) back,
          children other,
        )

  members_there : (links : ℕ) (first driver : Driver) → In drivers first → In (linked links first) driver → In drivers driver
  members_there zero first driver there (inl is) = subst (In drivers) is there
  members_there zero first driver there (inr is) = absurd is
  members_there (suc links) first driver there is =
      let front : List Driver = before_drivers drivers first in
      let back : List Driver = after_drivers drivers first in
      elim (in_either (flat_map (linked links) front) (first ∷ flat_map (linked links) back) driver is) [
        | inl left ↦
            (let at : (x : Driver) × In front x × In (linked links x) driver = of_flat (linked links) front driver left in
            members_there links at.0 driver (In-filter (λ (other : Driver). names named_before other.depex first.name) drivers at.0 at.1).0 at.2)
        | inr right ↦ elim right [
          | inl same ↦ subst (In drivers) same there
          | inr later ↦
              (let at : (x : Driver) × In back x × In (linked links x) driver = of_flat (linked links) back driver later in
              members_there links at.0 driver (In-filter (λ (other : Driver). names named_after other.depex first.name) drivers at.0 at.1).0 at.2)
        ]
      ]

  -- some drivers that have a condition, each once
  record AreRoots (roots : List Driver) : Type 0 where
    each : (driver : Driver) → In roots driver → In drivers driver × (has_condition driver ≡ true)
    once : (name : Guid) → times name roots ≤ 1

  module _ (roots : List Driver) (are : AreRoots roots) where
    once_more : (links : ℕ) (name : Guid) → ((other : Guid) → times other (flat_map (linked links) roots) ≤ 1)
        → (b : Bool) → list_any (λ (one : Driver). same_guid name one.name) drivers ≡ b
        → times name (flat_map (linked (suc links)) roots) ≤ 1
    once_more links name before true any =
        let found : (x : Driver) × In drivers x × (same_guid name x.name ≡ true) = there_is (λ (one : Driver). same_guid name one.name) drivers any in
        let P : Guid → Type 0 = λ n. times n (flat_map (linked (suc links)) roots) ≤ 1 in
        subst P (sym (same_is name found.0.name found.2)) (by_condition found.0 found.1 (has_condition found.0) refl)
      where
        up_once : (up : Option Guid) → times_of up (flat_map (linked links) roots) ≤ 1
        up_once None = omega arith
        up_once (Some other) = before other

        by_condition : (x : Driver) → In drivers x → (b : Bool) → has_condition x ≡ b → times x.name (flat_map (linked (suc links)) roots) ≤ 1
        by_condition x there true condition =
            omega (
              arith,
              times_linked x there links (around x there links) roots,
              ap (λ up. times_of up (flat_map (linked links) roots)) (no_parent x.depex condition),
              are.once x.name,
            )
        by_condition x there false condition =
            let none : times x.name roots ≡ 0 =
            times_none x.name roots (λ root is. false_from_ne_true _ (λ same.
            let one : x ≡ root = one_named drivers differ x root there (are.each root is).0 (same_is x.name root.name same) in
            false≢true (sym condition ∙ (ap has_condition one ∙ (are.each root is).1)))) in
            omega (arith, times_linked x there links (around x there links) roots, none, up_once (parent x.depex))
    once_more links name before false none =
        omega (
          arith,
          times_none name (flat_map (linked (suc links)) roots) (λ driver is. false_from_ne_true _ (λ same.
              let at : (x : Driver) × In roots x × In (linked (suc links) x) driver = of_flat (linked (suc links)) roots driver is in
              let there : In drivers driver = members_there (suc links) at.0 driver (are.each at.0 at.1).0 at.2 in
              false≢true (sym none ∙ any_there (λ (one : Driver). same_guid name one.name) drivers driver there same))),
        )

    once_in : (links : ℕ) (name : Guid) → times name (flat_map (linked links) roots) ≤ 1
    once_in zero name = subst (λ (some : List Driver). times name some ≤ 1) (sym (alone roots)) (are.once name)
      where
        alone : (some : List Driver) → flat_map (linked zero) some ≡ some
        alone [] = refl
        alone (one ∷ some) = ap (λ rest. one ∷ rest) (alone some)
    once_in (suc links) name = once_more links name (once_in links) (list_any (λ (one : Driver). same_guid name one.name) drivers) refl

  -- the drivers of rounds with a condition, none of which was scheduled before
  record HasRoots (done all : List Driver) : Type 0 where
    roots : List Driver
    families : all ≡ flat_map (family_of drivers) roots
    are : AreRoots roots
    fresh : (driver : Driver) → In roots driver → is_scheduled done driver ≡ false

  no_roots : (done : List Driver) → HasRoots done []
  no_roots done = record {
    roots = [];
    families = refl;
    are = record { each = λ driver is. absurd is; once = λ name. omega arith };
    fresh = λ driver is. absurd is;
  }

  once_kept : (p : Driver → Bool) (name : Guid) (b : Bool) → list_any (λ (one : Driver). same_guid name one.name) drivers ≡ b → times name (filter p drivers) ≤ 1
  once_kept p name true any =
      let found : (x : Driver) × In drivers x × (same_guid name x.name ≡ true) = there_is (λ (one : Driver). same_guid name one.name) drivers any in
      subst (λ (n : Guid). times n (filter p drivers) ≤ 1) (sym (same_is name found.0.name found.2))
      (omega (arith, times_kept p drivers differ found.0 found.1, at_most_one (p found.0)))
  once_kept p name false none =
      omega (
        arith,
        times_none name (filter p drivers) (λ driver is. false_from_ne_true _ (λ same.
            false≢true (sym none ∙ any_there (λ (one : Driver). same_guid name one.name) drivers driver (In-filter p drivers driver is).0 same))),
      )

  module _ (installed : Guid → Bool) (done : List Driver) (later : List Driver) (rest : HasRoots (done ++ round installed drivers done) later) where
    abbrev due : Driver → Bool
    due driver = is_true installed driver && not (is_scheduled done driver)

    abbrev now : List Driver
    now = filter due drivers

    not_false : (a b : Bool) → (a && not b) ≡ true → b ≡ false
    not_false true true is = absurd (false≢true is)
    not_false true false is = refl
    not_false false b is = absurd (false≢true is)

    scheduled_again : (root : Driver) → In rest.roots root → is_scheduled done root ≡ false × (is_scheduled (round installed drivers done) root ≡ false)
    scheduled_again root is =
        both (is_scheduled done root) (is_scheduled (round installed drivers done) root)
        (sym (list_any-append (λ (other : Driver). same_guid root.name other.name) done (round installed drivers done)) ∙ rest.fresh root is)
      where
        both : (a b : Bool) → (a || b) ≡ false → (a ≡ false) × (b ≡ false)
        both true b is = absurd (false≢true (sym is))
        both false b is = (refl, is)

    once_with : (name : Guid) (b : Bool) → list_any (λ (one : Driver). same_guid name one.name) now ≡ b → times name now + times name rest.roots ≤ 1
    once_with name true any =
        let found : (x : Driver) × In now x × (same_guid name x.name ≡ true) = there_is (λ (one : Driver). same_guid name one.name) now any in
        let it : In (round installed drivers done) found.0 = in_flat (family_of drivers) now found.0 found.0 found.1 (self_in drivers (length drivers) found.0) in
        omega (
          arith,
          once_kept due name (list_any (λ (one : Driver). same_guid name one.name) drivers) refl,
          times_none name rest.roots (λ root is. false_from_ne_true _ (λ same.
              false≢true (sym (scheduled_again root is).1 ∙ any_there (λ (other : Driver). same_guid root.name other.name) (round installed drivers done) found.0 it
              (same_self root.name found.0.name (sym (same_is name root.name same) ∙ same_is name found.0.name found.2))))),
        )
    once_with name false none =
        omega (
          arith,
          rest.are.once name,
          times_none name now (λ driver is. false_from_ne_true _ (λ same.
              false≢true (sym none ∙ any_there (λ (one : Driver). same_guid name one.name) now driver is same))),
        )

    with_later : HasRoots done (round installed drivers done ++ later)
    with_later = record {
      roots = now ++ rest.roots;
      families = ap (λ some. round installed drivers done ++ some) rest.families ∙ sym (flat_map-append (family_of drivers) now rest.roots);
      are = record {
        each = λ driver is. elim (in_either now rest.roots driver is) [
          | inl here ↦ ((In-filter due drivers driver here).0, holding_condition installed driver.depex (not (is_scheduled done driver)) (In-filter due drivers driver here).1)
          | inr later ↦ rest.are.each driver later
        ];
        once = λ name. omega (arith, times-append name now rest.roots, once_with name (list_any (λ (one : Driver). same_guid name one.name) now) refl);
      };
      fresh = λ driver is. elim (in_either now rest.roots driver is) [
        | inl here ↦ not_false (is_true installed driver) (is_scheduled done driver) (In-filter due drivers driver here).1
        | inr later ↦ (scheduled_again driver later).0
      ];
    }

  module _ {State : Type 0} (installed : State → Guid → Bool) (started : State → ℕ → ℕ → State) where
    up_to : (done scheduled : List Driver) (later : List (List Driver)) → HasRoots done (scheduled ++ scheduled_in later) → HasRoots done (scheduled_in (up_to_empty scheduled later))
    up_to done [] later has = no_roots done
    up_to done (driver ∷ scheduled) later has = has

    run_roots : (most number : ℕ) (done : List Driver) (state : State) → HasRoots done (scheduled_in (rounds_from installed started drivers most number done state))
    run_roots zero number done state = no_roots done
    run_roots (suc most) number done state =
        let scheduled : List Driver = round (installed state) drivers done in
        let next : State = after_starts started (starts_in number scheduled) state in
        up_to done scheduled (rounds_from installed started drivers most (number + 1) (done ++ scheduled) next)
        (with_later (installed state) done (scheduled_in (rounds_from installed started drivers most (number + 1) (done ++ scheduled) next)) (run_roots most (number + 1) (done ++ scheduled) next))

  once_of_roots : (done all : List Driver) → HasRoots done all → (name : Guid) → times name all ≤ 1
  once_of_roots done all has name = subst (λ (some : List Driver). times name some ≤ 1) (sym has.families) (once_in has.roots has.are (length drivers) name)

one_at : (name : Guid) (some : List Driver) (k : ℕ) (d : Driver) → k < length some → same_guid name (get_or some k d).name ≡ true → 1 ≤ times name some
one_at name [] k d within same = absurd (omega arith)
one_at name (driver ∷ some) zero d within same = omega (arith, ap one_if same)
one_at name (driver ∷ some) (suc k) d within same = omega (arith, one_at name some k d (omega arith) same)

two_at : (name : Guid) (some : List Driver) (i j : ℕ) (d : Driver)
    → i < j
    → j < length some
    → same_guid name (get_or some i d).name ≡ true
    → same_guid name (get_or some j d).name ≡ true
    → 2 ≤ times name some
two_at name [] i j d before within one other = absurd (omega arith)
two_at name (driver ∷ some) i zero d before within one other = absurd (omega arith)
two_at name (driver ∷ some) zero (suc j) d before within one other = omega (arith, ap one_if one, one_at name some j d (omega arith) other)
two_at name (driver ∷ some) (suc i) (suc j) d before within one other = omega (arith, two_at name some i j d (omega arith) (omega arith) one other)

differ_once : (some : List Driver) → ((name : Guid) → times name some ≤ 1) → NamesDiffer some
differ_once some once i j d before within =
    false_from_ne_true _ (λ same.
    let name : Guid = (get_or some i d).name in
    absurd (omega (arith, once name, two_at name some i j d before within (same_self name name refl) same)))

pub none_twice : {State : Type 0} (installed : State → Guid → Bool) (started : State → ℕ → ℕ → State) → NoneTwice installed started
none_twice installed started drivers state differ =
    differ_once (scheduled_in (rounds installed started drivers state))
    (once_of_roots drivers differ [] (scheduled_in (rounds installed started drivers state)) (run_roots drivers differ installed started (length drivers) 1 [] state))
