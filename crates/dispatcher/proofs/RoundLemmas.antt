-- One round after another.
use Rattle.std.proofs.Common.{◌≡◌, ℕ, suc, ◌+◌, ◌-◌, ◌<◌, Bool, true, false, not, eqb, List, [], ◌∷◌, ◌++◌, length, map, filter, All, refl, sym, ap, ◌∙◌, subst, arith, append_assoc}
use Rattle.std.proofs.Math.Bool.{and-true}
use Rattle.std.proofs.lemmas.Bool.Decides.{nat_tests}
use Rattle.std.proofs.lemmas.List.{append-nil}
use Rattle.std.proofs.lemmas.List.Elements.{filter_agree}
use Rattle.mm_base.specs.declared.guid.Guid.{Guid}
use Rattle.dispatcher.specs.Drivers.{NamesDiffer, is_true, member_of}
use Rattle.dispatcher.specs.FamiliesInside.{HasConditionAt, families_at, has_condition, picked}
use Rattle.dispatcher.specs.Rounds.{after_starts, all_starts, round, rounds_from, starts_from, starts_in, up_to_empty}
use Rattle.dispatcher.specs.RoundsInside.{Going, may_come, started_in}
use Rattle.dispatcher.specs.declared.driver.Driver.{Driver}
use Rattle.dispatcher.specs.declared.driver.Member.{Member}
use Rattle.dispatcher.specs.declared.driver.Started.{Started}
use Rattle.dispatcher.proofs.WaitingLemmas.{round_is, waits_after}

started_members : (number : ℕ) (scheduled : List Driver) → started_in number (map member_of scheduled) ≡ starts_in number scheduled
started_members number [] = refl
started_members number (driver ∷ scheduled) = ap (λ rest. record { index = driver.index; round = number } ∷ rest) (started_members number scheduled)

pub after_more : {State : Type 0} (started : State → ℕ → ℕ → State) (some more : List Started) (state : State)
    → after_starts started (some ++ more) state ≡ after_starts started more (after_starts started some state)
after_more started [] more state = refl
after_more started (start ∷ some) more state = after_more started some more (started state start.index start.round)

some_scheduled : (scheduled : List Driver) (later : List (List Driver)) → 0 < length scheduled → up_to_empty scheduled later ≡ scheduled ∷ later
some_scheduled [] later some = absurd (omega arith)
some_scheduled (driver ∷ scheduled) later some = refl

none_scheduled : (scheduled : List Driver) (later : List (List Driver)) → length scheduled ≡ 0 → up_to_empty scheduled later ≡ []
none_scheduled [] later none = refl
none_scheduled (driver ∷ scheduled) later none = absurd (omega arith)

length_map : (scheduled : List Driver) → length (map member_of scheduled) ≡ length scheduled
length_map [] = refl
length_map (driver ∷ scheduled) = ap suc (length_map scheduled)

module _ {State : Type 0} (installed : State → Guid → Bool) (started : State → ℕ → ℕ → State) (drivers : List Driver) (initial : State) where
  pub begun : (places : List ℕ) (starts : List Started) (state : State)
      → picked drivers places ≡ filter has_condition drivers
      → All (HasConditionAt drivers) places
      → starts ≡ []
      → state ≡ initial
      → Going installed started drivers initial 0 places starts state
  begun places starts state waiting each none same = record {
    done = [];
    waiting = waiting ∙ filter_agree has_condition (may_come []) (λ driver. sym (and-true (has_condition driver))) drivers;
    each = each;
    rest =
        let run : ℕ → State → List Started = λ most first. starts_from 1 (rounds_from installed started drivers most 1 [] first) in
        let whole : length drivers - 0 ≡ length drivers = omega arith in
        ap (λ some. some ++ run (length drivers - 0) state) none ∙ (ap (λ most. run most state) whole ∙ ap (run (length drivers)) same);
    after = same ∙ sym (ap (λ some. after_starts started some initial) none);
  }

  module _ (count : ℕ) (places : List ℕ) (starts : List Started) (state : State) (members : List Member)
      (differ : NamesDiffer drivers)
      (going : Going installed started drivers initial count places starts state)
      (within : count < length drivers)
      (are : members ≡ map member_of (families_at (installed state) drivers (picked drivers places))) where
    abbrev scheduled : List Driver
    scheduled = round (installed state) drivers going.done

    are_scheduled : members ≡ map member_of scheduled
    are_scheduled =
        are ∙ ap (map member_of) (ap (families_at (installed state) drivers) going.waiting ∙ round_is drivers differ (installed state) going.done)

    abbrev most : ℕ
    most = length drivers - (count + 1)

    abbrev later : State → List (List Driver)
    later next = rounds_from installed started drivers most (count + 1 + 1) (going.done ++ scheduled) next

    abbrev opened_now : State
    opened_now = after_starts started (starts_in (count + 1) scheduled) state

    turned : starts ++ starts_from (count + 1) (up_to_empty scheduled (later opened_now)) ≡ all_starts installed started drivers initial
    turned =
        let one_more : length drivers - count ≡ suc (length drivers - (count + 1)) = omega (arith, within) in
        let P : ℕ → Type 0 = λ n. starts ++ starts_from (count + 1) (rounds_from installed started drivers n (count + 1) going.done state) ≡ all_starts installed started drivers initial in
        subst P one_more going.rest

    named : started_in (count + 1) members ≡ starts_in (count + 1) scheduled
    named = ap (started_in (count + 1)) are_scheduled ∙ started_members (count + 1) scheduled

    pub goes_on : (left : List ℕ) (now : List Started) (next : State) (all : List Member)
        → 0 < length members
        → picked drivers left ≡ filter (λ driver. not (is_true (installed state) driver)) (picked drivers places)
        → All (HasConditionAt drivers) left
        → all ≡ members
        → now ≡ starts ++ started_in (count + 1) all
        → next ≡ after_starts started (started_in (count + 1) all) state
        → Going installed started drivers initial (count + 1) left now next
    goes_on left now next all some waiting each same all_told all_made =
        let is : now ≡ starts ++ started_in (count + 1) members = all_told ∙ ap (λ made. starts ++ started_in (count + 1) made) same in
        let after : next ≡ after_starts started (started_in (count + 1) members) state = all_made ∙ ap (λ made. after_starts started (started_in (count + 1) made) state) same in
        record {
          done = going.done ++ scheduled;
          waiting = waiting
              ∙ (ap (filter (λ driver. not (is_true (installed state) driver))) going.waiting ∙ waits_after drivers differ (installed state) going.done);
          each = each;
          rest =
              let here : List Started = starts_in (count + 1) scheduled in
              let next_is : next ≡ opened_now = after ∙ ap (λ made. after_starts started made state) named in
              let some_here : 0 < length scheduled = omega (arith, some, ap length are_scheduled, length_map scheduled) in
              ap (λ made. made ++ starts_from (count + 1 + 1) (later next)) (is ∙ ap (λ made. starts ++ made) named)
              ∙ (ap (λ state. (starts ++ here) ++ starts_from (count + 1 + 1) (later state)) next_is
              ∙ (append_assoc starts here (starts_from (count + 1 + 1) (later opened_now))
              ∙ (ap (λ all. starts ++ starts_from (count + 1) all) (sym (some_scheduled scheduled (later opened_now) some_here)) ∙ turned)));
          after = after
              ∙ (ap (after_starts started (started_in (count + 1) members)) going.after
              ∙ (sym (after_more started starts (started_in (count + 1) members) initial) ∙ ap (λ made. after_starts started made initial) (sym is)));
        }

    pub ends : length members ≡ 0 → starts ≡ all_starts installed started drivers initial
    ends none =
        let none_here : length scheduled ≡ 0 = omega (arith, none, ap length are_scheduled, length_map scheduled) in
        sym (append-nil starts)
        ∙ (ap (λ all. starts ++ starts_from (count + 1) all) (sym (none_scheduled scheduled (later opened_now) none_here)) ∙ turned)

-- what is said of drivers that are the same, and by a test that is the same

pub waiting_first : (of drivers : List Driver) (places : List ℕ)
    → of ≡ drivers
    → picked of places ≡ filter has_condition of
    → picked drivers places ≡ filter has_condition drivers
waiting_first of drivers places same is = subst (λ (all : List Driver). picked all places ≡ filter has_condition all) same is

pub each_waits : (of drivers : List Driver) (places : List ℕ) → of ≡ drivers → All (HasConditionAt of) places → All (HasConditionAt drivers) places
each_waits of drivers places same each = subst (λ (all : List Driver). All (HasConditionAt all) places) same each

module _ (of drivers : List Driver) (has now : Guid → Bool) (places : List ℕ) (same : of ≡ drivers) (agrees : has ≡ now) where
  pub members_are : (members : List Member)
      → members ≡ map member_of (families_at has of (picked of places))
      → members ≡ map member_of (families_at now drivers (picked drivers places))
  members_are members are =
      are
      ∙ (ap (λ (all : List Driver). map member_of (families_at has all (picked all places))) same
      ∙ ap (λ (test : Guid → Bool). map member_of (families_at test drivers (picked drivers places))) agrees)

  pub left_waits : (left : List ℕ)
      → picked of left ≡ filter (λ driver. not (is_true has driver)) (picked of places)
      → picked drivers left ≡ filter (λ driver. not (is_true now driver)) (picked drivers places)
  left_waits left is =
      sym (ap (λ (all : List Driver). picked all left) same)
      ∙ (is
      ∙ (ap (λ (all : List Driver). filter (λ driver. not (is_true has driver)) (picked all places)) same
      ∙ ap (λ (test : Guid → Bool). filter (λ driver. not (is_true test driver)) (picked drivers places)) agrees))

pub is_empty_if : (n : ℕ) (b : Bool) → b ≡ eqb n 0 → b ≡ true → n ≡ 0
is_empty_if n b is empty = grind (arith, nat_tests)

pub is_some_if : (n : ℕ) (b : Bool) → b ≡ eqb n 0 → b ≡ false → 0 < n
is_some_if n b is some = grind (arith, nat_tests)
