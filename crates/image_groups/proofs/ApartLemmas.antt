-- The test at the ends is exact: it comes out true where no unit that an image outside may write is granted to the group.
use Rattle.std.proofs.Common.{◌≡◌, ◌↔◌, ℕ, ◌<◌, Bool, true, false, List, [], ◌∷◌, length, refl, ap, ◌∙◌}
use Rattle.std.specs.Prelude.{◌&&◌, ◌||◌, not}
use Rattle.std.specs.List.{list_all}
use Rattle.std.proofs.lemmas.Bool.{and_from, and_parts, not-true, not_from_false}
use Rattle.mm_base.specs.declared.access.Kind.{Kind}
use Rattle.mm_base.specs.declared.access.Kind.TheVariants.{Memory, Io, Msr, Saved}
use Rattle.mm_base.specs.declared.access.Right.TheVariants.{Read, Write, Execute}
use Rattle.supervisor_calls.specs.Tables.{Site}
use Rattle.image_groups.specs.ClosedInside.{is_apart, is_apart_at, is_written_outside}
use Rattle.image_groups.specs.Ends.{ends_of, last_up_to}
use Rattle.image_groups.specs.Groups.{Group, granted}
use Rattle.image_groups.specs.Reach.{reach}
use Rattle.image_groups.proofs.EndsLemmas.{at_last}
use Rattle.image_groups.proofs.ReachLemmas.{image-from_some, some_image-from, some_image-same}
use Rattle.image_groups.proofs.SameLemmas.{reach_changes_at_ends}

-- 0 is one of the ends of each kind
at_zero : (test : ℕ → Bool) (kind : Kind) (site : Site) → list_all test (ends_of kind site) ≡ true → test 0 ≡ true
at_zero test Memory site all = (and_parts (test 0) _ all).0
at_zero test Io site all = (and_parts (test 0) _ all).0
at_zero test Msr site all = (and_parts (test 0) _ all).0
at_zero test Saved site all = (and_parts (test 0) _ all).0

not_both : (one other : Bool) → not (one && other) ≡ true → one ≡ true → other ≡ false
not_both true other e is = not-true other e
not_both false other e is = absurd cc

to_not_both : (one other : Bool) → (one ≡ true → other ≡ false) → not (one && other) ≡ true
to_not_both true other e = not_from_false other (e refl)
to_not_both false other e = refl

everywhere : (test : ℕ → Bool) (xs : List ℕ) → ((x : ℕ) → test x ≡ true) → list_all test xs ≡ true
everywhere test [] each = refl
everywhere test (x ∷ xs) each = and_from (test x) (list_all test xs) (each x) (everywhere test xs each)

module _ (group : Group) (site : Site) (kind : Kind) where
  -- What no image outside that is there may write isn't granted to the group, for one kind.
  abbrev pub AreApart : Type 0
  AreApart = (image unit : ℕ) → image < length site.images → group image ≡ false → reach site image kind unit Write ≡ true
      → granted group site kind unit ≡ false

  -- the test of a unit is that of the last end that isn't above it
  module _ (unit : ℕ) where
    last : ℕ
    last = last_up_to unit (ends_of kind site)

    written_same : is_written_outside group site kind unit ≡ is_written_outside group site kind last
    unfolding last
    written_same =
        some_image-same site _ _ (λ image. ap (λ (b : Bool). not (group image) && b) (reach_changes_at_ends site image kind unit Write))

    granted_same : granted group site kind unit ≡ granted group site kind last
    unfolding granted last
    granted_same =
        some_image-same site _ _
        (λ image i.
        group image
        && (reach_changes_at_ends site image kind unit Read i
        || (reach_changes_at_ends site image kind unit Write i || reach_changes_at_ends site image kind unit Execute i)))

    apart_at_unit : is_apart group site kind ≡ true → is_apart_at group site kind unit ≡ true
    unfolding last
    apart_at_unit apart =
        (λ i. not (written_same i && granted_same i))
        ∙ at_last unit (is_apart_at group site kind) (ends_of kind site) (at_zero (is_apart_at group site kind) kind site apart) apart

  from_test : is_apart group site kind ≡ true → AreApart
  from_test apart image unit there outside written =
      not_both (is_written_outside group site kind unit) (granted group site kind unit) (apart_at_unit unit apart)
      (some_image-from site _ image there (and_from (not (group image)) _ (not_from_false (group image) outside) written))

  to_test : AreApart → is_apart group site kind ≡ true
  to_test apart =
      everywhere (is_apart_at group site kind) (ends_of kind site)
      (λ unit.
      to_not_both (is_written_outside group site kind unit) (granted group site kind unit)
      (λ some.
      let found = image-from_some site (λ image. not (group image) && reach site image kind unit Write) some in
      let parts = and_parts (not (group found.number)) (reach site found.number kind unit Write) found.passed in
      apart found.number unit found.there (not-true (group found.number) parts.0) parts.1))

  pub apart_exactly : (is_apart group site kind ≡ true) ↔ AreApart
  apart_exactly = (from_test, to_test)
