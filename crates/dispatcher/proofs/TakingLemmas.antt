-- Which drivers are waiting, place by place, and what a round takes of them.
use Rattle.std.proofs.Common.{◌≡◌, ℕ, zero, suc, ◌+◌, ◌<◌, Bool, true, false, cond, not, List, [], ◌∷◌, ◌++◌, length, map, filter, take, get_or, slice_get, All, Option, Some, None, option_to_list, flat_map, drop, sym, ap, ◌∙◌, subst, arith, inl, inr, append_assoc}
use Rattle.std.proofs.lemmas.List.{map-append, append-nil}
use Rattle.std.proofs.lemmas.List.Concat.{flat_map-append}
use Rattle.std.proofs.lemmas.List.Elements.{All-push, filter_more}
use Rattle.std.proofs.Math.Seq.{drop-cons}
use Rattle.std.proofs.lemmas.Option.{get_or_from_slice_get, slice_get-get_or}
use Rattle.mm_base.specs.declared.guid.Guid.{Guid}
use Rattle.depex.specs.Meaning.{named_before, named_after}
use Rattle.dispatcher.specs.Drivers.{NamesDiffer, after_drivers, before_drivers, is_true, member_of}
use Rattle.dispatcher.specs.FamiliesInside.{Fits, HasConditionAt, Taking, Tells, families_at, has_condition, listed_for, picked}
use Rattle.dispatcher.specs.Rounds.{family, family_of}
use Rattle.dispatcher.specs.declared.driver.Driver.{Driver}
use Rattle.dispatcher.specs.declared.driver.Member.{Member}
use Rattle.dispatcher.specs.declared.name_index.NameIndex.{NameIndex}
use Rattle.dispatcher.proofs.FamilyLemmas.{mapped_family, mapped_fits}
use Rattle.dispatcher.proofs.NameLemmas.{In}
use Rattle.dispatcher.proofs.RootLemmas.{root_fits}

pub slice_in : (drivers : List Driver) (place : ℕ) (driver : Driver) → slice_get drivers place ≡ Some driver → In drivers driver
slice_in [] place driver is = absurd (none_some driver is)
  where
    none_some : (driver : Driver) → None ≡ Some driver → ⊥
    none_some driver is = cc
slice_in (first ∷ drivers) zero driver is = inl (some_same first driver is)
  where
    some_same : (a b : Driver) → Some a ≡ Some b → a ≡ b
    some_same a b is = cc
slice_in (first ∷ drivers) (suc place) driver is = inr (slice_in drivers place driver is)

-- one place more

picked_more : (drivers : List Driver) (places : List ℕ) (place : ℕ) (driver : Driver)
    → slice_get drivers place ≡ Some driver
    → picked drivers (places ++ place ∷ []) ≡ picked drivers places ++ driver ∷ []
picked_more drivers places place driver is =
    flat_map-append (λ k. option_to_list (slice_get drivers k)) places (place ∷ [])
    ∙ ap (λ (one : Option Driver). picked drivers places ++ (option_to_list one ++ [])) is

module _ (drivers : List Driver) (place : ℕ) (driver : Driver) (within : place < length drivers) (is : driver ≡ get_or drivers place driver) where
  pub there : slice_get drivers place ≡ Some driver
  there = slice_get-get_or drivers place driver within ∙ ap Some (sym is)

  kept : (b : Bool) → has_condition driver ≡ b → filter has_condition (take (place + 1) drivers) ≡ filter has_condition (take place drivers) ++ cond b (driver ∷ []) []
  kept b condition =
      filter_more has_condition drivers place driver within
      ∙ (ap (λ (one : Driver). filter has_condition (take place drivers) ++ cond (has_condition one) (one ∷ []) []) (sym is)
      ∙ ap (λ c. filter has_condition (take place drivers) ++ cond c (driver ∷ []) []) condition)

  pub conditional : (old new : List ℕ)
      → has_condition driver ≡ true
      → picked drivers old ≡ filter has_condition (take place drivers)
      → new ≡ old ++ place ∷ []
      → picked drivers new ≡ filter has_condition (take (place + 1) drivers)
  conditional old new condition are more =
      ap (picked drivers) more
      ∙ (picked_more drivers old place driver there ∙ (ap (λ some. some ++ driver ∷ []) are ∙ sym (kept true condition)))

  pub conditional_each : (old new : List ℕ)
      → has_condition driver ≡ true
      → All (HasConditionAt drivers) old
      → new ≡ old ++ place ∷ []
      → All (HasConditionAt drivers) new
  conditional_each old new condition each more =
      subst (All (HasConditionAt drivers)) (sym more)
      (All-push (HasConditionAt drivers) old place each (record { driver = driver; there = there; conditional = condition }))

  pub passed : (old new : List ℕ)
      → has_condition driver ≡ false
      → picked drivers old ≡ filter has_condition (take place drivers)
      → new ≡ old
      → picked drivers new ≡ filter has_condition (take (place + 1) drivers)
  passed old new condition are same =
      ap (picked drivers) same ∙ (are ∙ (sym (append-nil (filter has_condition (take place drivers))) ∙ sym (kept false condition)))

-- a round

module _ (installed : Guid → Bool) (drivers : List Driver) (all rest later : List ℕ) (place : ℕ) (driver : Driver) (scheduled : List Member) (still : List ℕ)
    (first : rest ≡ place ∷ later) (there_is : slice_get drivers place ≡ Some driver) (taking : Taking installed drivers all rest scheduled still) where
  waiting : picked drivers rest ≡ driver ∷ picked drivers later
  waiting = ap (picked drivers) first ∙ ap (λ (one : Option Driver). option_to_list one ++ picked drivers later) there_is

  pub taken : (now : List Member) (answer : Bool)
      → answer ≡ is_true installed driver
      → answer ≡ true
      → now ≡ scheduled ++ map member_of (family_of drivers driver)
      → Taking installed drivers all later now still
  taken now answer asked told is =
      let holds : is_true installed driver ≡ true = sym asked ∙ told in
      record {
        members =
            ap (λ some. some ++ map member_of (families_at installed drivers (picked drivers later))) is
            ∙ (append_assoc scheduled (map member_of (family_of drivers driver)) (map member_of (families_at installed drivers (picked drivers later)))
            ∙ (ap (λ some. scheduled ++ some)
            (sym (map-append member_of (family_of drivers driver) (families_at installed drivers (picked drivers later)))
            ∙ sym (ap (λ b. map member_of (flat_map (family_of drivers) (cond b (driver ∷ filter (is_true installed) (picked drivers later)) (filter (is_true installed) (picked drivers later))))) holds)
            ∙ sym (ap (λ some. map member_of (families_at installed drivers some)) waiting))
            ∙ taking.members));
        left =
            ap (λ some. picked drivers still ++ some)
            (sym (ap (λ b. cond (not b) (driver ∷ filter (λ one. not (is_true installed one)) (picked drivers later)) (filter (λ one. not (is_true installed one)) (picked drivers later))) holds)
            ∙ sym (ap (filter (λ one. not (is_true installed one))) waiting))
            ∙ taking.left;
        each = taking.each;
      }

  pub stays : (now pushed : List ℕ) (answer : Bool)
      → has_condition driver ≡ true
      → answer ≡ is_true installed driver
      → answer ≡ false
      → now ≡ pushed
      → pushed ≡ still ++ place ∷ []
      → Taking installed drivers all later scheduled now
  stays now pushed answer condition asked told same is_pushed =
      let fails : is_true installed driver ≡ false = sym asked ∙ told in
      let is : now ≡ still ++ place ∷ [] = same ∙ is_pushed in
      record {
        members =
            ap (λ some. scheduled ++ some)
            (sym (ap (λ b. map member_of (flat_map (family_of drivers) (cond b (driver ∷ filter (is_true installed) (picked drivers later)) (filter (is_true installed) (picked drivers later))))) fails)
            ∙ sym (ap (λ some. map member_of (families_at installed drivers some)) waiting))
            ∙ taking.members;
        left =
            ap (λ some. some ++ filter (λ one. not (is_true installed one)) (picked drivers later)) (ap (picked drivers) is ∙ picked_more drivers still place driver there_is)
            ∙ (append_assoc (picked drivers still) (driver ∷ []) (filter (λ one. not (is_true installed one)) (picked drivers later))
            ∙ (ap (λ some. picked drivers still ++ some)
            (sym (ap (λ b. cond (not b) (driver ∷ filter (λ one. not (is_true installed one)) (picked drivers later)) (filter (λ one. not (is_true installed one)) (picked drivers later))) fails)
            ∙ sym (ap (filter (λ one. not (is_true installed one))) waiting))
            ∙ taking.left));
        each =
            subst (All (HasConditionAt drivers)) (sym is)
            (All-push (HasConditionAt drivers) still place taking.each (record { driver = driver; there = there_is; conditional = condition }));
      }

module _ (drivers : List Driver) (before after : NameIndex) (before_tells : Tells named_before drivers before) (after_tells : Tells named_after drivers after) where
  scheduled_family : (driver : Driver) → family (listed_for before) (listed_for after) (length drivers) (member_of driver) ≡ map member_of (family_of drivers driver)
  scheduled_family driver =
      sym (mapped_family member_of (before_drivers drivers) (after_drivers drivers) (listed_for before) (listed_for after)
      (λ one. before_tells one.name) (λ one. after_tells one.name) (length drivers) driver)

  -- what a family puts at the end of what was scheduled
  pub family_put : (driver : Driver) (member : Member) (old put now : List Member)
      → member ≡ member_of driver
      → now ≡ put
      → put ≡ old ++ family (listed_for before) (listed_for after) (length drivers) member
      → now ≡ old ++ map member_of (family_of drivers driver)
  family_put driver member old put now is same is_put =
      same
      ∙ (is_put
      ∙ (ap (λ (one : Member). old ++ family (listed_for before) (listed_for after) (length drivers) one) is
      ∙ ap (λ (some : List Member). old ++ some) (scheduled_family driver)))

  pub scheduled_fits : NamesDiffer drivers
      → (place : ℕ) (driver : Driver)
      → slice_get drivers place ≡ Some driver
      → has_condition driver ≡ true
      → Fits (listed_for before) (listed_for after) (length drivers) (member_of driver)
  scheduled_fits differ place driver is condition =
      mapped_fits member_of (before_drivers drivers) (after_drivers drivers) (listed_for before) (listed_for after)
      (λ one. before_tells one.name) (λ one. after_tells one.name) (length drivers) driver
      (root_fits drivers differ driver (slice_in drivers place driver is) condition)

-- the driver at one of the places that wait
pub at_place : (drivers : List Driver) (waiting items : List ℕ) (index : ℕ) (driver : Driver)
    → items ≡ waiting
    → All (HasConditionAt drivers) waiting
    → index < length items
    → driver ≡ get_or drivers (get_or items index 0) driver
    → (slice_get drivers (get_or items index 0) ≡ Some driver) × (has_condition driver ≡ true)
at_place drivers waiting items index driver same each within is =
    let here : HasConditionAt drivers (get_or items index 0) =
    subst (λ (places : List ℕ). HasConditionAt drivers (get_or places index 0)) (sym same) (each index 0 (omega (arith, within, ap length same))) in
    let one : driver ≡ here.driver = is ∙ get_or_from_slice_get drivers (get_or items index 0) here.driver driver here.there in
    (here.there ∙ ap Some (sym one), ap has_condition one ∙ here.conditional)

pub first_place : (items : List ℕ) (index : ℕ) → index < length items → drop index items ≡ get_or items index 0 ∷ drop (index + 1) items
first_place items index within =
    let next : suc index ≡ index + 1 = omega arith in
    drop-cons items index 0 within ∙ ap (λ k. get_or items index 0 ∷ drop k items) next
