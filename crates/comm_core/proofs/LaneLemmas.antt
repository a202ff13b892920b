-- Lists by place, one element of which is set or put at the end, and what this means for the lanes of a world.
use Rattle.std.proofs.Common.{◌≡◌, ◌≤◌, ◌<◌, ℕ, zero, suc, ◌+◌, ◌-◌, ◌*◌, ◌==◌, true, false, List, [], ◌∷◌, ◌++◌, length, get_or, Some, slice_set, refl, sym, ap, ◌∙◌, subst, arith, inl, inr, length-append, get_or-set_same}
use Rattle.std.specs.List.{slice_get, sum_by}
use Rattle.std.specs.Option.{option_map_or}
use Rattle.std.proofs.Math.ListN.{length-set}
use Rattle.std.proofs.lemmas.Bool.{cases_lt, eqb-true, eqb-false}
use Rattle.std.proofs.lemmas.List.Sums.{sum_by-set, sum_by-append, sum_by-cons, get_or-le-sum_by}
use Rattle.std.proofs.lemmas.Option.{none-some, same_Some, slice_get-get_or, slice_get_within, slice_get_read, get_or_from_slice_get}
use Rattle.comm_core.specs.Processor.{is_resting}
use Rattle.comm_core.specs.WorldState.{LaneState, WorldState}
use Rattle.comm_core.specs.WorldReadiness.{is_resting_at, turns_to_come}
use Rattle.comm_core.specs.TransitionsInside.{new_lane, new_lanes, no_lane, lane_at}
use Rattle.comm_core.specs.declared.processor.Stage.{Stage}
use Rattle.comm_core.specs.declared.processor.Stage.TheVariants.{Resting, Rung, Loading, Turning, Storing}
use Rattle.comm_core.proofs.PieceLemmas.{slice_get-front, slice_get-after}

-- one of a list with one more is one of the list, or that one
pub last_or_front : {X : Type 0} (xs : List X) (x y : X) (i : ℕ) (P : Type 0)
    → slice_get (xs ++ x ∷ []) i ≡ Some y
    → (slice_get xs i ≡ Some y → P)
    → (i ≡ length xs → x ≡ y → P)
    → P
last_or_front xs x y i P h front last =
    elim (cases_lt i (length xs)) [
      | inl less ↦ front (sym (slice_get-front xs (x ∷ []) i less) ∙ h)
      | inr more ↦ by (i - length xs) (omega (arith, more))
    ]
  where
    by : (j : ℕ) → i ≡ length xs + j → P
    by zero e = last (e ∙ omega arith) (same_Some x y (sym (slice_get-after xs (x ∷ []) i 0 e) ∙ h))
    by (suc j) e = absurd (none-some y (sym (slice_get-after xs (x ∷ []) i (suc j) e) ∙ h))

-- an element that is set, and the others
pub slice_get-set_same : {X : Type 0} (xs : List X) (i : ℕ) (y : X) → i < length xs → slice_get (slice_set xs i y) i ≡ Some y
slice_get-set_same xs i y h =
    slice_get-get_or (slice_set xs i y) i y (omega (arith, length-set xs i y)) ∙ ap Some (get_or-set_same xs i y y h)

pub slice_get-set_other : {X : Type 0} (xs : List X) (i k : ℕ) (y : X) → (i ≡ k → ⊥) → slice_get (slice_set xs i y) k ≡ slice_get xs k
slice_get-set_other [] i k y apart = refl
slice_get-set_other (x ∷ xs) zero zero y apart = absurd (apart refl)
slice_get-set_other (x ∷ xs) zero (suc k) y apart = refl
slice_get-set_other (x ∷ xs) (suc i) zero y apart = refl
slice_get-set_other (x ∷ xs) (suc i) (suc k) y apart = slice_get-set_other xs i k y (λ e. apart (ap suc e))

-- what holds of the element that is set and of the others holds of each
pub after_set : {X : Type 0} (xs : List X) (i : ℕ) (y : X) (P : ℕ → X → Type 0)
    → i < length xs
    → P i y
    → ((k : ℕ) (x : X) → (i ≡ k → ⊥) → slice_get xs k ≡ Some x → P k x)
    → (k : ℕ) (x : X)
    → slice_get (slice_set xs i y) k ≡ Some x
    → P k x
after_set xs i y P within own other k x h =
    elim (i == k) as (λ b. (i == k) ≡ b → P k x) [
      | true ↦ λ e.
          let same : i ≡ k = eqb-true i k e in
          let at : slice_get (slice_set xs i y) i ≡ Some x = ap (slice_get (slice_set xs i y)) same ∙ h in
          let is : y ≡ x = same_Some y x (sym (slice_get-set_same xs i y within) ∙ at) in
          let Q : ℕ → Type 0 = λ n. P n x in
          subst Q same (subst (P i) is own)
      | false ↦ λ e.
          let apart : i ≡ k → ⊥ = eqb-false i k e in
          other k x apart (sym (slice_get-set_other xs i k y apart) ∙ h)
    ] refl

module _ {X : Type 0} (f : X → ℕ) where
  -- a sum goes on by what one element gives more
  pub sum_changed : (xs : List X) (i : ℕ) (x y : X) → slice_get xs i ≡ Some x → sum_by f (slice_set xs i y) + f x ≡ sum_by f xs + f y
  sum_changed xs i x y h =
      ap (λ z. sum_by f (slice_set xs i y) + f z) (sym (get_or_from_slice_get xs i x x h))
      ∙ sum_by-set f xs i y x (slice_get_within xs i x h)

  -- a sum of elements, each of which gives at most so much
  pub sum_within : (most : ℕ) (xs : List X) → ((x : X) → f x ≤ most) → sum_by f xs ≤ most * length xs
  sum_within most [] h = omega arith
  sum_within most (x ∷ xs) h = omega (arith, sum_by-cons f x xs, h x, sum_within most xs h)

  -- one element gives no more than all
  pub part_of_sum : (xs : List X) (i : ℕ) (x : X) → slice_get xs i ≡ Some x → f x ≤ sum_by f xs
  part_of_sum xs i x h =
      let P : ℕ → Type 0 = λ n. n ≤ sum_by f xs in
      subst P (ap f (get_or_from_slice_get xs i x x h)) (get_or-le-sum_by f xs i x (slice_get_within xs i x h))

-- two sums over the same places
pub same_sum : {X : Type 0} (f g : X → ℕ) (xs : List X)
    → ((k : ℕ) (x : X) → slice_get xs k ≡ Some x → f x ≡ g x)
    → sum_by f xs ≡ sum_by g xs
same_sum f g [] h = refl
same_sum f g (x ∷ xs) h =
    omega (arith, sum_by-cons f x xs, sum_by-cons g x xs, h 0 x refl, same_sum f g xs (λ k. h (suc k)))

module _ {X : Type 0} (xs : List X) (i : ℕ) where
  -- the element that was read at a place
  pub read_there : (x : X) → i < length xs → x ≡ get_or xs i x → slice_get xs i ≡ Some x
  read_there x h e = slice_get_read xs (length xs) i x refl h e

  -- two elements that were read at one place
  pub same_there : (x y : X) → i < length xs → x ≡ get_or xs i x → y ≡ get_or xs i y → x ≡ y
  same_there x y h xe ye = same_Some x y (sym (read_there x h xe) ∙ read_there y h ye)

module _ {M : Type 0} (w : WorldState M) (lane : ℕ) where
  -- the lane that stands at a number
  pub lane_there : lane < length w.lanes → slice_get w.lanes lane ≡ Some (lane_at w lane)
  lane_there h = slice_get-get_or w.lanes lane no_lane h

  pub lane_at-is : (seen : LaneState) → slice_get w.lanes lane ≡ Some seen → lane_at w lane ≡ seen
  lane_at-is seen h = get_or_from_slice_get w.lanes lane seen no_lane h

pub resting_there : (lanes : List LaneState) (lane : ℕ) (seen : LaneState)
    → slice_get lanes lane ≡ Some seen
    → is_resting_at lane lanes ≡ is_resting seen.processor.stage
resting_there lanes lane seen h = ap (λ o. option_map_or (λ (at : LaneState). is_resting at.processor.stage) o true) h

-- new lanes
pub length-new_lanes : (words n : ℕ) → length (new_lanes words n) ≡ n
length-new_lanes words zero = refl
length-new_lanes words (suc n) = omega (arith, length-append (new_lanes words n) (new_lane words n ∷ []), length-new_lanes words n)

pub new_lane_there : (words n lane : ℕ) (seen : LaneState) → slice_get (new_lanes words n) lane ≡ Some seen → seen ≡ new_lane words lane
new_lane_there words zero lane seen h = absurd (none-some seen h)
new_lane_there words (suc n) lane seen h =
    last_or_front (new_lanes words n) (new_lane words n) seen lane (seen ≡ new_lane words lane) h
    (new_lane_there words n lane seen)
    (λ at is. sym is ∙ ap (new_lane words) (sym (at ∙ length-new_lanes words n)))

pub sum-new_lanes : (f : LaneState → ℕ) (words n : ℕ) → ((lane : ℕ) → f (new_lane words lane) ≡ 0) → sum_by f (new_lanes words n) ≡ 0
sum-new_lanes f words zero h = refl
sum-new_lanes f words (suc n) h =
    omega (
      arith,
      sum_by-append f (new_lanes words n) (new_lane words n ∷ []),
      sum_by-cons f (new_lane words n) [],
      sum-new_lanes f words n h,
      h n,
    )

-- a ring under way has at most one turn to come
pub turns_within : (stage : Stage) → turns_to_come stage ≤ 1
turns_within Resting = omega arith
turns_within (Rung prepared saved) = omega arith
turns_within (Loading prepared saved len loaded) = omega arith
turns_within (Turning bytes) = omega arith
turns_within (Storing receipt stored) = omega arith
