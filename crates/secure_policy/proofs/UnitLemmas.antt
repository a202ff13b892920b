-- Accesses, unit by unit.
use Rattle.std.proofs.Common.{◌≡◌, ◌⊎◌, inl, inr, ℕ, zero, suc, ◌+◌, ◌≤◌, ◌<◌, Bool, true, false, ◌&&◌, List, [], ◌∷◌, refl, ap, ◌∙◌, arith}
use Rattle.std.proofs.Common.{nat_lt}
use Rattle.std.specs.Prelude.{if◌then◌else◌, ◌^◌}
use Rattle.std.proofs.lemmas.Bool.Decides.{nat_tests, eqb_tells}
use Rattle.mm_base.specs.Kinds.{same_kind}
use Rattle.mm_base.specs.Platform.{mmram, lane_window, device_window}
use Rattle.mm_base.specs.Range.{Has, encloses, share_a_unit}
use Rattle.mm_base.specs.declared.access.Kind.{Kind}
use Rattle.mm_base.specs.declared.access.Kind.TheVariants.{Memory, Io, Msr, Saved}
use Rattle.mm_base.specs.declared.access.Right.{Right}
use Rattle.mm_base.specs.declared.access.Verdict.{Verdict}
use Rattle.mm_base.specs.declared.access.Verdict.TheVariants.{Pass, Deny}
use Rattle.mm_base.specs.declared.access.Why.TheVariants as whys
use Rattle.mm_base.specs.declared.guid.Guid.{Guid}
use Rattle.mm_base.specs.declared.policy.Rule.{Rule}
use Rattle.mm_base.specs.declared.range.Range.{Range}
use Rattle.secure_policy.specs.declared.place.Place.{Place}
use Rattle.secure_policy.specs.declared.place.Place.TheVariants.{Nowhere, Mmram, LaneWindow, Cells}
use Rattle.secure_policy.specs.Places.{place_of, place_of_bytes, place_of_cells, have_cells, has_cell}
use Rattle.secure_policy.specs.Verdicts.{Basis, verdict_on, verdict_at, verdict_by_rules, units_from, is_for, is_given_by}
use Rattle.secure_policy.specs.Laws.{passes, AreHomes}

-- both, where both hold
both : (a b : Bool) → (a && b) ≡ true → (a ≡ true) × (b ≡ true)
both true b e = (refl, e)
both false b e = absurd cc

-- ---- ranges

module _ (range : Range) (base n unit : ℕ) (has : Has (units_from base n) unit) where
  -- a range that encloses the access shares each of its units
  pub shares_each : encloses range (units_from base n) ≡ true → share_a_unit range (units_from unit 1) ≡ true
  shares_each e =
      let from = has.from in
      let to = has.to in
      grind (arith, nat_tests)

  pub encloses_each : encloses range (units_from base n) ≡ true → encloses range (units_from unit 1) ≡ true
  encloses_each e =
      let from = has.from in
      let to = has.to in
      grind (arith, nat_tests)

  -- a range that shares no unit of the access shares none of its units
  pub shares_none : share_a_unit range (units_from base n) ≡ false → share_a_unit range (units_from unit 1) ≡ false
  shares_none e =
      let from = has.from in
      let to = has.to in
      grind (arith, nat_tests)

-- ---- rules

-- the verdict of one rule on an access and on a unit of it, from that of the others
rule_step : (k : ℕ) (a s t g e f : Bool) (v w : Verdict) → (e ≡ true → t ≡ true) → (e ≡ true → f ≡ true) → (s ≡ false → t ≡ false)
    → (passes v ≡ true → passes w ≡ true)
    → passes (if a && s then (if g && e then Pass (whys.Rule k) else Deny (whys.Rule k)) else v) ≡ true
    → passes (if a && t then (if g && f then Pass (whys.Rule k) else Deny (whys.Rule k)) else w) ≡ true
rule_step k false s t g e f v w shares encloses apart later pass = later pass
rule_step k true false t g e f v w shares encloses apart later pass =
    ap (λ b. passes (if b then (if g && f then Pass (whys.Rule k) else Deny (whys.Rule k)) else w)) (apart refl) ∙ later pass
rule_step k true true t false e f v w shares encloses apart later pass = absurd cc
rule_step k true true t true false f v w shares encloses apart later pass = absurd cc
rule_step k true true t true true f v w shares encloses apart later pass =
    ap (λ b. passes (if b then (if f then Pass (whys.Rule k) else Deny (whys.Rule k)) else w)) (shares refl)
    ∙ ap (λ b. passes (if b then Pass (whys.Rule k) else Deny (whys.Rule k))) (encloses refl)

module _ (name : Guid) (kind : Kind) (right : Right) (base n unit : ℕ) (has : Has (units_from base n) unit) where
  -- what the rules let pass, they let pass at each unit
  pub rules_at_unit : (rules : List Rule) (k : ℕ) → passes (verdict_by_rules rules k name kind (units_from base n) right) ≡ true
      → passes (verdict_by_rules rules k name kind (units_from unit 1) right) ≡ true
  rules_at_unit [] k pass = pass
  rules_at_unit (rule ∷ rules) k pass =
      rule_step k (same_kind rule.kind kind && is_for name rule) (share_a_unit rule.range (units_from base n))
      (share_a_unit rule.range (units_from unit 1)) (rule.allow && is_given_by rule.rights right)
      (encloses rule.range (units_from base n)) (encloses rule.range (units_from unit 1)) _ _
      (shares_each rule.range base n unit has) (encloses_each rule.range base n unit has) (shares_none rule.range base n unit has)
      (rules_at_unit rules (suc k)) pass

-- ---- cells

module _ (kind : Kind) where
  -- each unit of those that have cells has one
  pub cell_at : (n base unit : ℕ) → base ≤ unit → unit < base + n → have_cells kind base n ≡ true → has_cell kind unit ≡ true
  cell_at zero base unit from to all = absurd (omega arith)
  cell_at (suc n) base unit from to all =
      let parts = both (has_cell kind base) (have_cells kind (suc base) n) all in
      elim (eqb_tells unit base) [
        | inl first ↦ ap (has_cell kind) first.1 ∙ parts.0
        | inr later ↦
            let ne = later.1 in
            cell_at n (suc base) unit (omega arith) (omega arith) parts.1
      ]

-- the place of bytes, by its four tests
abbrev place_by : Bool → Bool → Bool → Bool → Place
place_by past mmram lanes device =
    if past then Nowhere else if mmram then Mmram else if lanes then LaneWindow else if device then Cells else Nowhere

cells_of_bytes : (past mmram lanes device : Bool) → place_by past mmram lanes device ≡ Cells → device ≡ true
cells_of_bytes true mmram lanes device e = cc
cells_of_bytes false true lanes device e = cc
cells_of_bytes false false true device e = cc
cells_of_bytes false false false true e = refl
cells_of_bytes false false false false e = cc

cells_there : (there : Bool) → place_of_cells there ≡ Cells → there ≡ true
cells_there true e = refl
cells_there false e = cc

cells_not_mmram : (there : Bool) → place_of_cells there ≡ Mmram → ⊥
cells_not_mmram true e = cc
cells_not_mmram false e = cc

module _ (base n unit : ℕ) (has : Has (units_from base n) unit) where
  unit_has_cell : (kind : Kind) → have_cells kind base n ≡ true → have_cells kind unit 1 ≡ true
  unit_has_cell kind all = ap (λ b. b && true) (cell_at kind n base unit has.from has.to all)

  -- a unit of an access that lies in MMRAM is one of MMRAM
  byte_of_mmram : encloses mmram (units_from base n) ≡ true → place_of_bytes (units_from unit 1) ≡ Mmram
  byte_of_mmram e =
      let from = has.from in
      let to = has.to in
      let near : nat_lt (2 ^ 64) (unit + 1) ≡ false = grind (arith, nat_tests) in
      let shares : share_a_unit mmram (units_from unit 1) ≡ true = shares_each mmram base n unit has e in
      λ i. place_by (near i) (shares i) (share_a_unit lane_window (units_from unit 1)) (encloses device_window (units_from unit 1))

  -- a byte of the device window lies in no other
  device_byte : encloses device_window (units_from base n) ≡ true → place_of_bytes (units_from unit 1) ≡ Cells
  device_byte e =
      let from = has.from in
      let to = has.to in
      let near : nat_lt (2 ^ 64) (unit + 1) ≡ false = grind (arith, nat_tests) in
      let above : share_a_unit mmram (units_from unit 1) ≡ false = grind (arith, nat_tests) in
      let higher : share_a_unit lane_window (units_from unit 1) ≡ false = grind (arith, nat_tests) in
      let inside : encloses device_window (units_from unit 1) ≡ true = encloses_each device_window base n unit has e in
      λ i. place_by (near i) (above i) (higher i) (inside i)

  unit_of_mmram : (kind : Kind) → place_of kind (units_from base n) ≡ Mmram → encloses mmram (units_from base n) ≡ true
      → place_of kind (units_from unit 1) ≡ Mmram
  unit_of_mmram Memory place e = byte_of_mmram e
  unit_of_mmram Io place e = absurd (cells_not_mmram _ place)
  unit_of_mmram Msr place e = absurd (cells_not_mmram _ place)
  unit_of_mmram Saved place e = absurd (cells_not_mmram _ place)

  unit_of_cells : (kind : Kind) → place_of kind (units_from base n) ≡ Cells → place_of kind (units_from unit 1) ≡ Cells
  unit_of_cells Memory place = device_byte (cells_of_bytes _ _ _ _ place)
  unit_of_cells Io place = ap place_of_cells (unit_has_cell Io (cells_there _ place))
  unit_of_cells Msr place = ap place_of_cells (unit_has_cell Msr (cells_there _ place))
  unit_of_cells Saved place = ap place_of_cells (unit_has_cell Saved (cells_there _ place))

-- ---- the verdict

-- an access passes at home, or by the rules on cells
passes_by : (place : Place) (home : Bool) (ruled : Verdict) → passes (verdict_at place home ruled) ≡ true
    → ((place ≡ Mmram) × (home ≡ true)) ⊎ ((place ≡ Cells) × (passes ruled ≡ true))
passes_by Nowhere home ruled pass = absurd cc
passes_by Mmram true ruled pass = inl (refl, refl)
passes_by Mmram false ruled pass = absurd cc
passes_by LaneWindow home ruled pass = absurd cc
passes_by Cells home ruled pass = inr (refl, pass)

module _ (basis : Basis) (image : ℕ) (kind : Kind) (base n : ℕ) (right : Right) (trapped unit : ℕ) (homes : AreHomes (basis.is_home image))
    (has : Has (units_from base n) unit) where
  abbrev ruled : Verdict
  ruled = verdict_by_rules basis.rules 0 (basis.name_of image) kind (units_from unit 1) right

  -- what passes, passes at each of its units
  pub passes_at_unit : passes (verdict_on basis image kind base n right trapped) ≡ true
      → passes (verdict_on basis image kind unit 1 right trapped) ≡ true
  unfolding verdict_on
  passes_at_unit pass =
      elim (passes_by (place_of kind (units_from base n)) (basis.is_home image (units_from base n) right) _ pass) [
        | inl home ↦
            let there = unit_of_mmram base n unit has kind home.0 (homes.within (units_from base n) right home.1) in
            let own = homes.units (units_from base n) right unit home.1 has in
            λ i. passes (verdict_at (there i) (own i) ruled)
        | inr cells ↦
            let there = unit_of_cells base n unit has kind cells.0 in
            ap (λ (p : Place). passes (verdict_at p (basis.is_home image (units_from unit 1) right) ruled)) there
            ∙ rules_at_unit (basis.name_of image) kind right base n unit has basis.rules 0 cells.1
      ]
