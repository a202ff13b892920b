-- The verdict by the place of an access.
use Rattle.std.proofs.Common.{◌≡◌, ℕ, Bool, true, false, List, sym, ap, ◌∙◌}
use Rattle.mm_base.specs.declared.access.Kind.{Kind}
use Rattle.mm_base.specs.declared.access.Right.{Right}
use Rattle.mm_base.specs.declared.access.Verdict.{Verdict}
use Rattle.mm_base.specs.declared.access.Verdict.TheVariants.{Pass, Deny}
use Rattle.mm_base.specs.declared.access.Why.TheVariants as whys
use Rattle.mm_base.specs.declared.guid.Guid.{Guid}
use Rattle.mm_base.specs.declared.policy.Rule.{Rule}
use Rattle.secure_policy.specs.declared.place.Place.{Place}
use Rattle.secure_policy.specs.declared.place.Place.TheVariants.{Mmram, Cells}
use Rattle.secure_policy.specs.Places.{place_of}
use Rattle.secure_policy.specs.Verdicts.{Basis, verdict_on, verdict_at, verdict_by_rules, units_from}

module _ (basis : Basis) (image : ℕ) (kind : Kind) (base n : ℕ) (right : Right) (trapped : ℕ) where
  abbrev ruled : Verdict
  ruled = verdict_by_rules basis.rules 0 (basis.name_of image) kind (units_from base n) right

  -- the verdict where the place is known
  pub at_place : (place : Place) → place ≡ place_of kind (units_from base n)
      → verdict_at place (basis.is_home image (units_from base n) right) ruled ≡ verdict_on basis image kind base n right trapped
  unfolding verdict_on
  at_place place is =
      ap (λ (p : Place). verdict_at p (basis.is_home image (units_from base n) right) ruled) is

  pub at_home : (home : Bool) → home ≡ basis.is_home image (units_from base n) right → home ≡ true
      → Mmram ≡ place_of kind (units_from base n) → Pass whys.Home ≡ verdict_on basis image kind base n right trapped
  at_home home is passed place =
      ap (λ (b : Bool). verdict_at Mmram b ruled) (sym passed ∙ is) ∙ at_place Mmram place

  pub not_home : (home : Bool) → home ≡ basis.is_home image (units_from base n) right → home ≡ false
      → Mmram ≡ place_of kind (units_from base n) → Deny whys.Mmram ≡ verdict_on basis image kind base n right trapped
  not_home home is missed place =
      ap (λ (b : Bool). verdict_at Mmram b ruled) (sym missed ∙ is) ∙ at_place Mmram place

  pub by_the_rules : (rules : List Rule) (name : Guid) (verdict : Verdict)
      → verdict ≡ verdict_by_rules rules 0 name kind (units_from base n) right → rules ≡ basis.rules → name ≡ basis.name_of image
      → Cells ≡ place_of kind (units_from base n) → verdict ≡ verdict_on basis image kind base n right trapped
  by_the_rules rules name verdict is rules_are name_is place =
      is
      ∙ ap (λ (rs : List Rule). verdict_by_rules rs 0 name kind (units_from base n) right) rules_are
      ∙ ap (λ (g : Guid). verdict_by_rules basis.rules 0 g kind (units_from base n) right) name_is
      ∙ at_place Cells place
