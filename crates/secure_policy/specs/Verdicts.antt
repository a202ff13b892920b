-- The verdict on an access of an image: the platform's map, the image's own ranges, and the rules of a policy. It is
-- this project's own.
use Rattle.std.specs.Prelude.{ℕ, suc, Bool, true, false, ◌&&◌, ◌||◌, if◌then◌else◌, List, [], ◌∷◌, replicate}
use Rattle.mm_base.specs.Guid.{same_guid}
use Rattle.mm_base.specs.Kinds.{same_kind}
use Rattle.mm_base.specs.Range.{share_a_unit, encloses}
use Rattle.mm_base.specs.Rights.{have_right}
use Rattle.mm_base.specs.declared.access.Kind.{Kind}
use Rattle.mm_base.specs.declared.access.Right.{Right}
use Rattle.mm_base.specs.declared.access.Right.TheVariants.{Read, Write, Execute}
use Rattle.mm_base.specs.declared.access.Verdict.{Verdict}
use Rattle.mm_base.specs.declared.access.Verdict.TheVariants.{Pass, Deny}
use Rattle.mm_base.specs.declared.access.Why.TheVariants as whys
use Rattle.mm_base.specs.declared.guid.Guid.{Guid}
use Rattle.mm_base.specs.declared.policy.Rule.{Rule}
use Rattle.mm_base.specs.declared.range.Range.{Range}
use Rattle.secure_policy.specs.declared.place.Place.{Place}
use Rattle.secure_policy.specs.declared.place.Place.TheVariants.{Nowhere, Mmram, LaneWindow, Cells}
use Rattle.secure_policy.specs.Places.{place_of}

-- What verdicts rest on: which ranges are an image's own and for which right, the name of each image, and the rules.
pub record Basis : Type 0 where
  pub is_home : ℕ → Range → Right → Bool
  pub name_of : ℕ → Guid
  pub rules : List Rule

-- the same homes and names with other rules
abbrev pub with_rules : List Rule → Basis → Basis
with_rules rules basis = record { is_home = basis.is_home; name_of = basis.name_of; rules = rules }

-- the owner of the rules that are for all images: the GUID of zeros
abbrev pub every_image : Guid
every_image = record { 0 = replicate 16 0 }

-- whether a rule is for the image of this name
abbrev pub is_for : Guid → Rule → Bool
is_for name rule = same_guid rule.owner every_image || same_guid rule.owner name

-- whether a rule is about an access: it is of the access's kind, for the image, and has a unit in common with it
abbrev pub is_about : Guid → Kind → Range → Rule → Bool
is_about name kind access rule = same_kind rule.kind kind && is_for name rule && share_a_unit rule.range access

-- whether rights give one; no rule gives the right to execute
abbrev pub is_given_by : ℕ → Right → Bool
is_given_by rights Read = have_right rights Read
is_given_by rights Write = have_right rights Write
is_given_by rights Execute = false

-- whether a rule allows an access: it is an allow rule, gives the right, and covers the whole access
abbrev pub is_allowed_by : Range → Right → Rule → Bool
is_allowed_by access right rule = rule.allow && is_given_by rule.rights right && encloses rule.range access

-- The first rule about the access decides it, and is named, the rules being counted from k on.
abbrev pub verdict_by_rules : List Rule → ℕ → Guid → Kind → Range → Right → Verdict
verdict_by_rules [] k name kind access right = Deny whys.NoRule
verdict_by_rules (rule ∷ rules) k name kind access right =
    if is_about name kind access rule
    then (if is_allowed_by access right rule then Pass (whys.Rule k) else Deny (whys.Rule k))
    else verdict_by_rules rules (suc k) name kind access right

-- By the place of an access: nothing passes that lies nowhere, or in the lanes' window; in MMRAM, what is home; on
-- cells the rules decide.
abbrev pub verdict_at : Place → Bool → Verdict → Verdict
verdict_at Nowhere home by_rules = Deny whys.Range
verdict_at Mmram home by_rules = if home then Pass whys.Home else Deny whys.Mmram
verdict_at LaneWindow home by_rules = Deny whys.Buffer
verdict_at Cells home by_rules = by_rules

-- the n units from a base on
abbrev pub units_from : ℕ → ℕ → Range
units_from base n = record { base = base; length = n }

-- The verdict on an access of an image: n units of a kind from a base on, for a right. The access that the processor
-- was trapped at is no part of it yet.
unfoldable pub verdict_on : Basis → ℕ → Kind → ℕ → ℕ → Right → ℕ → Verdict
verdict_on basis image kind base n right trapped =
    let access = units_from base n in
    verdict_at
    (place_of kind access)
    (basis.is_home image access right)
    (verdict_by_rules basis.rules 0 (basis.name_of image) kind access right)
