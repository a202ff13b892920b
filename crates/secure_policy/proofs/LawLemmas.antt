-- What rules say of an access, one after another.
use Rattle.std.proofs.Common.{◌≡◌, ◌≢◌, inl, inr, ℕ, suc, ◌+◌, Bool, true, false, ◌&&◌, List, [], ◌∷◌, ◌++◌, length, refl, sym, ap, ◌∙◌}
use Rattle.std.proofs.Common.{zero-add, arith}
use Rattle.std.specs.Prelude.{if◌then◌else◌}
use Rattle.std.specs.List.{All}
use Rattle.std.proofs.lemmas.List.Elements.{All-head, All-tail}
use Rattle.mm_base.specs.Kinds.{same_kind}
use Rattle.mm_base.specs.Range.{encloses, share_a_unit}
use Rattle.mm_base.specs.declared.access.Kind.{Kind}
use Rattle.mm_base.specs.declared.access.Kind.TheVariants.{Memory, Io, Msr, Saved}
use Rattle.mm_base.specs.declared.access.Right.{Right}
use Rattle.mm_base.specs.declared.access.Right.TheVariants.{Execute}
use Rattle.mm_base.specs.declared.access.Verdict.{Verdict}
use Rattle.mm_base.specs.declared.access.Verdict.TheVariants.{Pass, Deny}
use Rattle.mm_base.specs.declared.access.Why.{Why}
use Rattle.mm_base.specs.declared.access.Why.TheVariants as whys
use Rattle.mm_base.specs.declared.guid.Guid.{Guid}
use Rattle.mm_base.specs.declared.policy.Rule.{Rule}
use Rattle.mm_base.specs.declared.range.Range.{Range}
use Rattle.secure_policy.specs.declared.place.Place.{Place}
use Rattle.secure_policy.specs.declared.place.Place.TheVariants.{Nowhere, Mmram, LaneWindow, Cells}
use Rattle.secure_policy.specs.Places.{place_of}
use Rattle.secure_policy.specs.Verdicts.{Basis, verdict_on, verdict_at, verdict_by_rules, units_from, with_rules}
use Rattle.secure_policy.specs.Verdicts.{is_for, is_about}
use Rattle.secure_policy.specs.Verdicts.{is_allowed_by}
use Rattle.secure_policy.specs.Laws.{IsBeside}

-- ---- rules beside an access

same_kind_tells : (a b : Kind) → same_kind a b ≡ true → a ≡ b
same_kind_tells Memory Memory e = refl
same_kind_tells Io Io e = refl
same_kind_tells Msr Msr e = refl
same_kind_tells Saved Saved e = refl
same_kind_tells a b e = cc

other_kind : (a b : Kind) (told : Bool) → same_kind a b ≡ told → a ≢ b → told ≡ false
other_kind a b true e ne = absurd (ne (same_kind_tells a b e))
other_kind a b false e ne = refl

false_first : (a b c : Bool) → a ≡ false → (a && b && c) ≡ false
false_first a b c e = ap (λ x. x && b && c) e

false_second : (a b c : Bool) → b ≡ false → (a && b && c) ≡ false
false_second true b c e = ap (λ x. x && c) e
false_second false b c e = refl

false_last : (a b c : Bool) → c ≡ false → (a && b && c) ≡ false
false_last true true c e = e
false_last true false c e = refl
false_last false b c e = refl

module _ (name : Guid) (kind : Kind) (access : Range) where
  pub not_about : (rule : Rule) → IsBeside name kind access rule → is_about name kind access rule ≡ false
  not_about rule (inl ne) =
      false_first (same_kind rule.kind kind) (is_for name rule) (share_a_unit rule.range access) (other_kind rule.kind kind _ refl ne)
  not_about rule (inr (inl e)) = false_second (same_kind rule.kind kind) (is_for name rule) (share_a_unit rule.range access) e
  not_about rule (inr (inr e)) = false_last (same_kind rule.kind kind) (is_for name rule) (share_a_unit rule.range access) e

  module _ (right : Right) where
    -- what a rule says that is about the access
    abbrev pub said_by : ℕ → Rule → Verdict
    said_by k rule = if is_allowed_by access right rule then Pass (whys.Rule k) else Deny (whys.Rule k)

    abbrev by : List Rule → ℕ → Verdict
    by rules k = verdict_by_rules rules k name kind access right

    passed_over : (rule : Rule) (rules : List Rule) (k : ℕ) → IsBeside name kind access rule → by (rule ∷ rules) k ≡ by rules (suc k)
    passed_over rule rules k beside =
        ap (λ (b : Bool). if b then said_by k rule else by rules (suc k)) (not_about rule beside)

    -- a rule beside the access for another such rule
    pub exchanged : (before after : List Rule) (rule other : Rule) (k : ℕ)
        → IsBeside name kind access rule → IsBeside name kind access other
        → by (before ++ rule ∷ after) k ≡ by (before ++ other ∷ after) k
    exchanged [] after rule other k beside too = passed_over rule after k beside ∙ sym (passed_over other after k too)
    exchanged (x ∷ before) after rule other k beside too =
        ap (λ (v : Verdict). if is_about name kind access x then said_by k x else v) (exchanged before after rule other (suc k) beside too)

    -- the first rule about the access
    pub first_decides : (before after : List Rule) (rule : Rule) (k : ℕ) → All (IsBeside name kind access) before
        → is_about name kind access rule ≡ true → by (before ++ rule ∷ after) k ≡ said_by (k + length before) rule
    first_decides [] after rule k beside about =
        let here : k ≡ k + 0 = omega arith in
        ap (λ (b : Bool). if b then said_by k rule else by after (suc k)) about ∙ ap (λ j. said_by j rule) here
    first_decides (x ∷ before) after rule k beside about =
        let here : suc k + length before ≡ k + length (x ∷ before) = omega arith in
        passed_over x (before ++ rule ∷ after) k (All-head (IsBeside name kind access) x before beside)
        ∙ first_decides before after rule (suc k) (All-tail (IsBeside name kind access) x before beside) about
        ∙ ap (λ j. said_by j rule) here

    pub allowed_or_denied : (before after : List Rule) (rule : Rule) → All (IsBeside name kind access) before
        → is_about name kind access rule ≡ true
        → ((is_allowed_by access right rule ≡ true) → by (before ++ rule ∷ after) 0 ≡ Pass (whys.Rule (length before)))
        × ((is_allowed_by access right rule ≡ false) → by (before ++ rule ∷ after) 0 ≡ Deny (whys.Rule (length before)))
    allowed_or_denied before after rule beside about =
        let decides : by (before ++ rule ∷ after) 0 ≡ said_by (length before) rule =
        first_decides before after rule 0 beside about ∙ ap (λ j. said_by j rule) (zero-add (length before)) in (
          λ allowed. decides ∙ ap (λ (b : Bool). if b then Pass (whys.Rule (length before)) else Deny (whys.Rule (length before))) allowed,
          λ denied. decides ∙ ap (λ (b : Bool). if b then Pass (whys.Rule (length before)) else Deny (whys.Rule (length before))) denied,
        )

    pub none_decides : (rules : List Rule) (k : ℕ) → All (IsBeside name kind access) rules → by rules k ≡ Deny whys.NoRule
    none_decides [] k beside = refl
    none_decides (rule ∷ rules) k beside =
        passed_over rule rules k (All-head (IsBeside name kind access) rule rules beside)
        ∙ none_decides rules (suc k) (All-tail (IsBeside name kind access) rule rules beside)

    -- a fact of what each rule says, and of no rule, is one of the verdict
    pub of_each_rule : (P : Verdict → Type 0) → P (Deny whys.NoRule) → ((k : ℕ) (rule : Rule) → P (said_by k rule))
        → (rules : List Rule) (k : ℕ) → P (by rules k)
    of_each_rule P none each [] k = none
    of_each_rule P none each (rule ∷ rules) k =
        elim (is_about name kind access rule) as (λ b. P (if b then said_by k rule else by rules (suc k))) [
          | true ↦ each k rule
          | false ↦ of_each_rule P none each rules (suc k)
        ]

-- a fact of each verdict by place and by rules is one of the verdict
pub of_each_place : (P : Verdict → Type 0) (place : Place) (home : Bool) (ruled : Verdict)
    → P (Deny whys.Range) → P (Pass whys.Home) → P (Deny whys.Mmram) → P (Deny whys.Buffer) → P ruled → P (verdict_at place home ruled)
of_each_place P Nowhere home ruled range at_home mmram buffer by_rules = range
of_each_place P Mmram true ruled range at_home mmram buffer by_rules = at_home
of_each_place P Mmram false ruled range at_home mmram buffer by_rules = mmram
of_each_place P LaneWindow home ruled range at_home mmram buffer by_rules = buffer
of_each_place P Cells home ruled range at_home mmram buffer by_rules = by_rules

-- ---- what may be executed, and what no verdict says

abbrev pub IsNotQuota : Verdict → Type 0
IsNotQuota verdict = (verdict ≢ Pass whys.Quota) × (verdict ≢ Deny whys.Quota)

abbrev pub PassesAtHome : Verdict → Type 0
PassesAtHome verdict = (why : Why) → verdict ≡ Pass why → why ≡ whys.Home

rule_is_not_quota : (k : ℕ) (b : Bool) → IsNotQuota (if b then Pass (whys.Rule k) else Deny (whys.Rule k))
rule_is_not_quota k true = (λ e. cc, λ e. cc)
rule_is_not_quota k false = (λ e. cc, λ e. cc)

never_executed : (access : Range) (rule : Rule) → is_allowed_by access Execute rule ≡ false
never_executed access rule =
    elim rule.allow as (λ b. (b && false && encloses rule.range access) ≡ false) [ true ↦ refl | false ↦ refl ]

rule_is_denied : (k : ℕ) (b : Bool) → b ≡ false → PassesAtHome (if b then Pass (whys.Rule k) else Deny (whys.Rule k))
rule_is_denied k true is = absurd cc
rule_is_denied k false is = λ why e. cc

module _ (basis : Basis) (image : ℕ) (kind : Kind) (base n : ℕ) (trapped : ℕ) where
  pub never_quota : (right : Right) → IsNotQuota (verdict_on basis image kind base n right trapped)
  unfolding verdict_on
  never_quota right =
      of_each_place IsNotQuota (place_of kind (units_from base n)) (basis.is_home image (units_from base n) right) _
      (λ e. cc, λ e. cc) (λ e. cc, λ e. cc) (λ e. cc, λ e. cc) (λ e. cc, λ e. cc)
      (of_each_rule (basis.name_of image) kind (units_from base n) right IsNotQuota (λ e. cc, λ e. cc)
      (λ k rule. rule_is_not_quota k (is_allowed_by (units_from base n) right rule)) basis.rules 0)

  pub executes_home_alone : PassesAtHome (verdict_on basis image kind base n Execute trapped)
  unfolding verdict_on
  executes_home_alone =
      of_each_place PassesAtHome (place_of kind (units_from base n)) (basis.is_home image (units_from base n) Execute) _
      (λ why e. cc) (λ why e. cc) (λ why e. cc) (λ why e. cc)
      (of_each_rule (basis.name_of image) kind (units_from base n) Execute PassesAtHome (λ why e. cc)
      (λ k rule. rule_is_denied k _ (never_executed (units_from base n) rule)) basis.rules 0)

-- ---- exchanges in whole verdicts

pub verdict_exchanged : (basis : Basis) (before after : List Rule) (rule other : Rule)
    → (image : ℕ) (kind : Kind) (base n : ℕ) (right : Right) (trapped : ℕ)
    → IsBeside (basis.name_of image) kind (units_from base n) rule → IsBeside (basis.name_of image) kind (units_from base n) other
    → verdict_on (with_rules (before ++ rule ∷ after) basis) image kind base n right trapped
    ≡ verdict_on (with_rules (before ++ other ∷ after) basis) image kind base n right trapped
unfolding verdict_on
verdict_exchanged basis before after rule other image kind base n right trapped beside too =
    ap (verdict_at (place_of kind (units_from base n)) (basis.is_home image (units_from base n) right))
    (exchanged (basis.name_of image) kind (units_from base n) right before after rule other 0 beside too)
