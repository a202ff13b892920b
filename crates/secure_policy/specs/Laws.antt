-- Laws of verdicts.
use Rattle.std.specs.Prelude.{◌≡◌, ◌≢◌, ◌⊎◌, ℕ, Bool, true, false, List, ◌∷◌, ◌++◌, length, All}
use Rattle.mm_base.specs.Platform.{mmram}
use Rattle.mm_base.specs.Range.{Has, encloses, share_a_unit}
use Rattle.mm_base.specs.declared.access.Kind.{Kind}
use Rattle.mm_base.specs.declared.access.Right.{Right}
use Rattle.mm_base.specs.declared.access.Right.TheVariants.{Execute}
use Rattle.mm_base.specs.declared.access.Verdict.{Verdict}
use Rattle.mm_base.specs.declared.access.Verdict.TheVariants.{Pass, Deny}
use Rattle.mm_base.specs.declared.access.Why.{Why}
use Rattle.mm_base.specs.declared.access.Why.TheVariants as whys
use Rattle.mm_base.specs.declared.guid.Guid.{Guid}
use Rattle.mm_base.specs.declared.policy.Rule.{Rule}
use Rattle.mm_base.specs.declared.range.Range.{Range}
use Rattle.secure_policy.specs.Verdicts.{Basis, verdict_on, is_about, is_allowed_by, is_for}
use Rattle.secure_policy.specs.Verdicts.{units_from, verdict_by_rules, with_rules}

-- whether the access may be made
abbrev pub passes : Verdict → Bool
passes (Pass why) = true
passes (Deny why) = false

-- What is home to an image lies in MMRAM, and is home unit by unit.
pub record AreHomes (is_home : Range → Right → Bool) : Type 0 where
  pub within : (range : Range) (right : Right) → is_home range right ≡ true → encloses mmram range ≡ true
  pub units : (range : Range) (right : Right) (unit : ℕ)
      → is_home range right ≡ true → Has range unit → is_home (units_from unit 1) right ≡ true

-- An access that passes passes at each of its units, for the same image and right.
abbrev pub PassesAtEachUnit : Type 0
PassesAtEachUnit =
    (basis : Basis) (image : ℕ) (kind : Kind) (base n : ℕ) (right : Right) (trapped unit : ℕ)
    → AreHomes (basis.is_home image)
    → Has (units_from base n) unit
    → passes (verdict_on basis image kind base n right trapped) ≡ true
    → passes (verdict_on basis image kind unit 1 right trapped) ≡ true

-- A rule has nothing to say of an access that is of another kind, another image's, or in another place.
abbrev pub IsBeside : Guid → Kind → Range → Rule → Type 0
IsBeside name kind access rule =
    (rule.kind ≢ kind) ⊎ ((is_for name rule ≡ false) ⊎ (share_a_unit rule.range access ≡ false))

-- Such a rule may be exchanged for another such rule: the verdict stays, and so does the number of the rule that it
-- names.
abbrev pub OthersMayBeExchanged : Type 0
OthersMayBeExchanged =
    (basis : Basis) (before after : List Rule) (rule other : Rule)
    (image : ℕ) (kind : Kind) (base n : ℕ) (right : Right) (trapped : ℕ)
    → IsBeside (basis.name_of image) kind (units_from base n) rule
    → IsBeside (basis.name_of image) kind (units_from base n) other
    → verdict_on (with_rules (before ++ rule ∷ after) basis) image kind base n right trapped
    ≡ verdict_on (with_rules (before ++ other ∷ after) basis) image kind base n right trapped

-- The first rule that isn't beside an access decides it, and is named by how many stand before it.
abbrev pub FirstRuleDecides : Type 0
FirstRuleDecides =
    (before after : List Rule) (rule : Rule) (name : Guid) (kind : Kind) (access : Range) (right : Right)
    → All (IsBeside name kind access) before
    → is_about name kind access rule ≡ true
    → ((is_allowed_by access right rule ≡ true)
    → verdict_by_rules (before ++ rule ∷ after) 0 name kind access right ≡ Pass (whys.Rule (length before)))
    × ((is_allowed_by access right rule ≡ false)
    → verdict_by_rules (before ++ rule ∷ after) 0 name kind access right ≡ Deny (whys.Rule (length before)))

-- Where each rule is beside an access, none decides it.
abbrev pub NoRuleDecides : Type 0
NoRuleDecides =
    (rules : List Rule) (name : Guid) (kind : Kind) (access : Range) (right : Right)
    → All (IsBeside name kind access) rules
    → verdict_by_rules rules 0 name kind access right ≡ Deny whys.NoRule

-- What may be executed is home.
abbrev pub ExecutesHomeAlone : Type 0
ExecutesHomeAlone =
    (basis : Basis) (image : ℕ) (kind : Kind) (base n trapped : ℕ) (why : Why)
    → verdict_on basis image kind base n Execute trapped ≡ Pass why
    → why ≡ whys.Home

-- No verdict is by the number of writes: that limit is kept elsewhere.
abbrev pub NeverQuota : Type 0
NeverQuota =
    (basis : Basis) (image : ℕ) (kind : Kind) (base n : ℕ) (right : Right) (trapped : ℕ)
    → (verdict_on basis image kind base n right trapped ≢ Pass whys.Quota)
    × (verdict_on basis image kind base n right trapped ≢ Deny whys.Quota)
