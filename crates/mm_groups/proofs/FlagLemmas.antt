-- Flags that fall by one test after another.
use Rattle.std.proofs.Common.{◌≡◌, ℕ, ◌+◌, ◌<◌, ◌≤◌, Bool, true, false, List, length, get_or, set, drop, Some}
use Rattle.std.proofs.Common.{inl, inr, refl, sym, ap, ◌∙◌, arith}
use Rattle.std.specs.Prelude.{◌==◌, ◌&&◌, ◌||◌, nat_lt, not, slice_get}
use Rattle.std.specs.List.{list_all}
use Rattle.std.proofs.Math.Bool.{and_assoc, or-true}
use Rattle.std.proofs.lemmas.Bool.{cases_eq, eq-eqb, ne_eqb}
use Rattle.std.proofs.lemmas.Bool.Decides.{nat_tests}
use Rattle.std.proofs.lemmas.List.{get_or-set_other, get_or-set_same, length-set}
use Rattle.mm_groups.specs.FlagsInside.{Lowered}
use Rattle.mm_groups.proofs.WalkLemmas.{all_end, all_from}

and-true : (b : Bool) → (b && true) ≡ b
and-true true = refl
and-true false = refl

and-false : (b : Bool) → (b && false) ≡ false
and-false true = refl
and-false false = refl

-- no flag falls by a test that all pass
pub lowered_none : (test : ℕ → Bool) (flags : List Bool) → ((image : ℕ) → test image ≡ true) → Lowered test flags flags
lowered_none test flags passes = record {
  count = refl;
  each = λ image within. sym (ap (λ b. get_or flags image false && b) (passes image) ∙ and-true (get_or flags image false));
}

pub lowered_same : (test other : ℕ → Bool) (before after : List Bool)
    → ((image : ℕ) → image < length before → test image ≡ other image)
    → Lowered test before after
    → Lowered other before after
lowered_same test other before after same lowered = record {
  count = lowered.count;
  each = λ image within. lowered.each image within ∙ ap (λ b. get_or before image false && b) (same image within);
}

-- one after another
pub lowered_then : (first second : ℕ → Bool) (before between after : List Bool)
    → Lowered first before between
    → Lowered second between after
    → Lowered (λ image. first image && second image) before after
lowered_then first second before between after one two = record {
  count = two.count ∙ one.count;
  each = λ image within.
      two.each image (omega (arith, one.count))
      ∙ (ap (λ b. b && second image) (one.each image within)
      ∙ and_assoc (get_or before image false) (first image) (second image));
}

-- Under way: what is left of the tests does to these flags what all of them do to those at the start.
pub record Lowering (left all : ℕ → Bool) (before now : List Bool) : Type 0 where
  pub count : length now ≡ length before
  pub each : (image : ℕ) → image < length before → (get_or now image false && left image) ≡ (get_or before image false && all image)

pub lowering_on : (left one more all : ℕ → Bool) (before now next : List Bool)
    → Lowering left all before now
    → Lowered one now next
    → ((image : ℕ) → left image ≡ (one image && more image))
    → Lowering more all before next
lowering_on left one more all before now next lowering lowered is = record {
  count = lowered.count ∙ lowering.count;
  each = λ image within.
      ap (λ b. b && more image) (lowered.each image (omega (arith, lowering.count)))
      ∙ (and_assoc (get_or now image false) (one image) (more image)
      ∙ (ap (λ b. get_or now image false && b) (sym (is image)) ∙ lowering.each image within));
}

pub lowering_ended : (left all : ℕ → Bool) (before now : List Bool)
    → Lowering left all before now
    → ((image : ℕ) → image < length before → left image ≡ true)
    → Lowered all before now
lowering_ended left all before now lowering none = record {
  count = lowering.count;
  each = λ image within.
      sym (ap (λ b. get_or now image false && b) (none image within) ∙ and-true (get_or now image false)) ∙ lowering.each image within;
}

-- by each element of a list

module _ {A : Type 0} (test : ℕ → A → Bool) (items : List A) where
  -- those that are left from k on
  abbrev pub OverRest : ℕ → List Bool → List Bool → Type 0
  OverRest k before now = Lowering (λ image. list_all (test image) (drop k items)) (λ image. list_all (test image) items) before now

  pub over_begun : (flags : List Bool) → OverRest 0 flags flags
  over_begun flags = record { count = refl; each = λ image within. refl }

  pub over_on : (k : ℕ) (item : A) (before now next : List Bool)
      → OverRest k before now
      → slice_get items k ≡ Some item
      → Lowered (λ image. test image item) now next
      → OverRest (k + 1) before next
  over_on k item before now next rest here lowered =
      lowering_on (λ image. list_all (test image) (drop k items)) (λ image. test image item)
      (λ image. list_all (test image) (drop (k + 1) items)) (λ image. list_all (test image) items) before now next rest lowered
      (λ image. all_from (test image) items k item here)

  pub over_ended : (k : ℕ) (before now : List Bool)
      → OverRest k before now
      → length items ≤ k
      → Lowered (λ image. list_all (test image) items) before now
  over_ended k before now rest past =
      lowering_ended (λ image. list_all (test image) (drop k items)) (λ image. list_all (test image) items) before now rest
      (λ image within. all_end (test image) items k past)

-- image by image

module _ (test : ℕ → Bool) where
  -- the test of the images that are left from k on
  abbrev pub left_from : ℕ → ℕ → Bool
  left_from k image = nat_lt image k || test image

  unfoldable at_one : ℕ → ℕ → Bool
  at_one k image = not (image == k) || test image

  abbrev pub ImagesFrom : ℕ → List Bool → List Bool → Type 0
  ImagesFrom k before now = Lowering (left_from k) test before now

  from_zero : (image : ℕ) → left_from 0 image ≡ test image
  from_zero image = grind (arith, nat_tests)

  pub images_begun : (flags : List Bool) → ImagesFrom 0 flags flags
  images_begun flags = record { count = refl; each = λ image within. ap (λ b. get_or flags image false && b) (from_zero image) }

  split_bits : (k image : ℕ) (t : Bool)
      → (nat_lt image k || t) ≡ ((not (image == k) || t) && (nat_lt image (k + 1) || t))
  split_bits k image t = grind (arith, nat_tests)

  split : (k image : ℕ) → left_from k image ≡ (at_one k image && left_from (k + 1) image)
  unfolding at_one
  split k image = split_bits k image (test image)

  passes_at : (k image : ℕ) → test k ≡ true → at_one k image ≡ true
  unfolding at_one
  passes_at k image passes =
      elim (cases_eq image k) [
        | inl e ↦ ap (λ b. not (image == k) || b) (ap test e ∙ passes) ∙ or-true (not (image == k))
        | inr ne ↦ ap (λ b. not b || test image) (ne_eqb image k ne)
      ]

  same_flag : (k : ℕ) (flags : List Bool) → test k ≡ true → Lowered (at_one k) flags flags
  same_flag k flags passes = lowered_none (at_one k) flags (λ image. passes_at k image passes)

  fallen_flag : (k : ℕ) (flags : List Bool) → k < length flags → test k ≡ false → Lowered (at_one k) flags (set flags k false)
  unfolding at_one
  fallen_flag k flags within fails = record {
    count = length-set flags k false;
    each = λ image inside.
        elim (cases_eq image k) [
          | inl e ↦
              ap (λ n. get_or (set flags k false) n false) e
              ∙ (get_or-set_same flags k false false within
              ∙ sym
              (ap (λ b. get_or flags image false && (not b || test image)) (eq-eqb image k e)
              ∙ (ap (λ b. get_or flags image false && b) (ap test e ∙ fails) ∙ and-false (get_or flags image false))))
          | inr ne ↦
              get_or-set_other flags k image false false ne
              ∙ sym
              (ap (λ b. get_or flags image false && (not b || test image)) (ne_eqb image k ne)
              ∙ and-true (get_or flags image false))
        ];
  }

  pub image_stays : (k : ℕ) (before now : List Bool) (passes : Bool)
      → ImagesFrom k before now → passes ≡ test k → passes ≡ true → ImagesFrom (k + 1) before now
  image_stays k before now passes rest is holds =
      lowering_on (left_from k) (at_one k) (left_from (k + 1)) test before now now rest (same_flag k now (sym is ∙ holds)) (split k)

  pub image_falls : (k : ℕ) (before now : List Bool) (passes : Bool)
      → ImagesFrom k before now → k < length before → passes ≡ test k → passes ≡ false → ImagesFrom (k + 1) before (set now k false)
  image_falls k before now passes rest within is fails =
      lowering_on (left_from k) (at_one k) (left_from (k + 1)) test before now (set now k false) rest
      (fallen_flag k now (omega (arith, rest.count)) (sym is ∙ fails)) (split k)

  pub images_ended : (k : ℕ) (before now : List Bool) → ImagesFrom k before now → length before ≤ k → Lowered test before now
  images_ended k before now rest past = lowering_ended (left_from k) test before now rest (λ image within. all_passed k image (omega arith))
    where
      all_passed : (k image : ℕ) → image < k → left_from k image ≡ true
      all_passed k image within = grind (arith, nat_tests)
