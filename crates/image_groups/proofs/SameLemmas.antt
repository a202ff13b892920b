-- A verdict on one unit is the same at two units where no end lies past the first and up to the second.
use Rattle.std.proofs.Common.{◌≡◌, ℕ, zero, suc, ◌+◌, ◌<◌, ◌≤◌, ◌^◌, Bool, true, false, List, [], ◌∷◌, ◌++◌, refl, sym, ap, ◌∙◌, arith}
use Rattle.std.specs.Prelude.{◌&&◌, ◌||◌, nat_lt, if◌then◌else◌, cond, filter}
use Rattle.std.specs.List.{list_any, flat_map}
use Rattle.std.proofs.lemmas.Bool.{and_parts}
use Rattle.std.proofs.lemmas.Bool.Decides.{nat_tests}
use Rattle.image_table.specs.HomeRanges.{Home, grants, home_ranges}
use Rattle.image_table.specs.ImageTable.{is_home_at, name_at}
use Rattle.image_table.specs.declared.placed_image.PlacedImage.{PlacedImage}
use Rattle.mm_base.specs.Kinds.{same_kind}
use Rattle.mm_base.specs.Platform.{mmram, lane_window, device_window}
use Rattle.mm_base.specs.Range.{encloses, share_a_unit}
use Rattle.mm_base.specs.Rights.{have_right}
use Rattle.mm_base.specs.declared.access.Kind.{Kind}
use Rattle.mm_base.specs.declared.access.Kind.TheVariants.{Memory, Io, Msr, Saved}
use Rattle.mm_base.specs.declared.access.Right.{Right}
use Rattle.mm_base.specs.declared.access.Verdict.{Verdict}
use Rattle.mm_base.specs.declared.access.Verdict.TheVariants.{Pass, Deny}
use Rattle.mm_base.specs.declared.access.Why.TheVariants as whys
use Rattle.mm_base.specs.declared.guid.Guid.{Guid}
use Rattle.mm_base.specs.declared.policy.Rule.{Rule}
use Rattle.mm_base.specs.declared.range.Range.{Range}
use Rattle.secure_policy.specs.Laws.{passes}
use Rattle.secure_policy.specs.Places.{has_cell, place_of, place_of_bytes, place_of_cells}
use Rattle.secure_policy.specs.Verdicts.{verdict_on, verdict_at, verdict_by_rules, is_for, is_given_by, units_from}
use Rattle.secure_policy.specs.declared.place.Place.{Place}
use Rattle.secure_policy.specs.declared.place.Place.TheVariants.{Nowhere, Mmram, LaneWindow, Cells}
use Rattle.supervisor_calls.specs.Accesses.{decided}
use Rattle.supervisor_calls.specs.Tables.{Site}
use Rattle.image_groups.specs.Ends.{ends_of, home_ends, last_up_to, range_ends, rule_ends, window_ends}
use Rattle.image_groups.specs.Laws.{ReachChangesAtEnds}
use Rattle.image_groups.specs.Reach.{reach}
use Rattle.image_groups.proofs.EndsLemmas.{IsClear, clear_parts, clear_past_last, is_beside, last_at_most}

-- ---- places

-- the place of bytes, by its four tests
abbrev place_by : Bool → Bool → Bool → Bool → Place
place_by past memory lanes device =
    if past then Nowhere else if memory then Mmram else if lanes then LaneWindow else if device then Cells else Nowhere

-- a byte that lies in no window lies nowhere, wherever it ends
without_past : (past memory lanes device : Bool)
    → (past ≡ true → memory ≡ false) → (past ≡ true → lanes ≡ false) → (past ≡ true → device ≡ false)
    → place_by past memory lanes device ≡ place_by false memory lanes device
without_past false memory lanes device first second third = refl
without_past true memory lanes device first second third =
    sym (λ i. place_by false (first refl i) (second refl i) (third refl i))

-- the place of one byte
byte_place : (unit : ℕ)
    → place_of_bytes (units_from unit 1)
    ≡ place_by false (share_a_unit mmram (units_from unit 1)) (share_a_unit lane_window (units_from unit 1))
    (encloses device_window (units_from unit 1))
byte_place unit =
    without_past (nat_lt (2 ^ 64) (unit + 1)) (share_a_unit mmram (units_from unit 1)) (share_a_unit lane_window (units_from unit 1))
    (encloses device_window (units_from unit 1))
    (λ e. grind (arith, nat_tests, e)) (λ e. grind (arith, nat_tests, e)) (λ e. grind (arith, nat_tests, e))

somewhere : (past memory lanes device : Bool) → (place_by past memory lanes device ≡ Nowhere → ⊥) → past ≡ false
somewhere true memory lanes device some = absurd (some refl)
somewhere false memory lanes device some = refl

no_memory : (there : Bool) → place_of_cells there ≡ Mmram → ⊥
no_memory true e = cc
no_memory false e = cc

with_cell : (there : Bool) → (place_of_cells there ≡ Nowhere → ⊥) → there ≡ true
with_cell true some = refl
with_cell false some = absurd (some refl)

-- a unit that lies somewhere is below 2 ^ 64
below : (kind : Kind) (unit : ℕ) → (place_of kind (units_from unit 1) ≡ Nowhere → ⊥) → unit < 2 ^ 64
below Memory unit some =
    let near = somewhere (nat_lt (2 ^ 64) (unit + 1)) _ _ _ some in
    grind (arith, nat_tests, near)
below Io unit some = let there = with_cell (has_cell Io unit && true) some in grind (arith, nat_tests, there)
below Msr unit some = let there = with_cell (has_cell Msr unit && true) some in grind (arith, nat_tests, there)
below Saved unit some = let there = with_cell (has_cell Saved unit && true) some in grind (arith, nat_tests, there)

-- what a verdict looks at, in each place
at_one_place : (place : Place) (home other_home : Bool) (ruled other_ruled : Verdict)
    → (place ≡ Mmram → home ≡ other_home) → (place ≡ Cells → ruled ≡ other_ruled)
    → verdict_at place home ruled ≡ verdict_at place other_home other_ruled
at_one_place Nowhere home other_home ruled other_ruled homes rules = refl
at_one_place Mmram home other_home ruled other_ruled homes rules = ap (λ (b : Bool). if b then Pass whys.Home else Deny whys.Mmram) (homes refl)
at_one_place LaneWindow home other_home ruled other_ruled homes rules = refl
at_one_place Cells home other_home ruled other_ruled homes rules = rules refl

module _ (low high : ℕ) (up : low ≤ high) where
  -- ---- places of two units

  memory_same : IsClear low high (window_ends Memory) → share_a_unit mmram (units_from low 1) ≡ share_a_unit mmram (units_from high 1)
  memory_same clear = grind (arith, nat_tests, clear)

  lanes_same : IsClear low high (window_ends Memory)
      → share_a_unit lane_window (units_from low 1) ≡ share_a_unit lane_window (units_from high 1)
  lanes_same clear = grind (arith, nat_tests, clear)

  device_same : IsClear low high (window_ends Memory)
      → encloses device_window (units_from low 1) ≡ encloses device_window (units_from high 1)
  device_same clear = grind (arith, nat_tests, clear)

  port_same : IsClear low high (window_ends Io) → (has_cell Io low && true) ≡ (has_cell Io high && true)
  port_same clear = grind (arith, nat_tests, clear)

  register_same : IsClear low high (window_ends Msr) → (has_cell Msr low && true) ≡ (has_cell Msr high && true)
  register_same clear = grind (arith, nat_tests, clear)

  saved_same : IsClear low high (window_ends Saved) → (has_cell Saved low && true) ≡ (has_cell Saved high && true)
  saved_same clear = grind (arith, nat_tests, clear)

  place_same : (kind : Kind) → IsClear low high (window_ends kind) → place_of kind (units_from low 1) ≡ place_of kind (units_from high 1)
  place_same Memory clear =
      byte_place low
      ∙ (λ i. place_by false (memory_same clear i) (lanes_same clear i) (device_same clear i))
      ∙ sym (byte_place high)
  place_same Io clear = ap place_of_cells (port_same clear)
  place_same Msr clear = ap place_of_cells (register_same clear)
  place_same Saved clear = ap place_of_cells (saved_same clear)

  -- ---- ranges

  module _ (small : high < 2 ^ 64) where
    -- the end of a range is one of its ends, or past all units that there are
    past_beside : (past : ℕ) (there : Bool) → there ≡ nat_lt past (2 ^ 64) → is_beside low high (if there then past else 0) ≡ true
        → is_beside low high past ≡ true
    past_beside past true is beside = beside
    past_beside past false is beside = grind (arith, nat_tests, is)

    -- both ends of a range
    ends_beside : (range : Range) → IsClear low high (range_ends range)
        → (is_beside low high range.base ≡ true) × (is_beside low high (range.base + range.length) ≡ true)
    ends_beside range clear =
        let parts = and_parts _ _ clear in
        let rest = and_parts _ _ parts.1 in
        (parts.0, past_beside (range.base + range.length) (nat_lt (range.base + range.length) (2 ^ 64)) refl rest.0)

    covers_same : (range : Range) → IsClear low high (range_ends range)
        → encloses range (units_from low 1) ≡ encloses range (units_from high 1)
    covers_same range clear =
        let beside = ends_beside range clear in
        let first = beside.0 in
        let second = beside.1 in
        grind (arith, nat_tests, first, second)

    shares_same : (range : Range) → IsClear low high (range_ends range)
        → share_a_unit range (units_from low 1) ≡ share_a_unit range (units_from high 1)
    shares_same range clear =
        let beside = ends_beside range clear in
        let first = beside.0 in
        let second = beside.1 in
        grind (arith, nat_tests, first, second)

    -- ---- rules

    -- a rule of another kind says nothing, and one of the kind says the same of both
    rule_step : (k : ℕ) (is owners given shares other_shares covers other_covers : Bool) (later other_later : Verdict)
        → (is ≡ true → shares ≡ other_shares) → (is ≡ true → covers ≡ other_covers) → later ≡ other_later
        → (if is && owners && shares then (if given && covers then Pass (whys.Rule k) else Deny (whys.Rule k)) else later)
        ≡ (if is && owners && other_shares then (if given && other_covers then Pass (whys.Rule k) else Deny (whys.Rule k)) else other_later)
    rule_step k false owners given shares other_shares covers other_covers later other_later sharing covering rest = rest
    rule_step k true owners given shares other_shares covers other_covers later other_later sharing covering rest =
        λ i. if owners && sharing refl i then (if given && covering refl i then Pass (whys.Rule k) else Deny (whys.Rule k)) else rest i

    -- the ends of one rule's range, where it is of the kind, and those of the others
    rule_parts : (is : Bool) (rule : Rule) (rules : List Rule)
        → IsClear low high (flat_map (λ (rule : Rule). range_ends rule.range) (cond is (rule ∷ rules) rules))
        → (is ≡ true → IsClear low high (range_ends rule.range)) × IsClear low high (flat_map (λ (rule : Rule). range_ends rule.range) rules)
    rule_parts true rule rules clear =
        let parts = clear_parts low high (range_ends rule.range) (flat_map (λ (rule : Rule). range_ends rule.range) rules) clear in
        (λ e. parts.0, parts.1)
    rule_parts false rule rules clear = (λ e. absurd cc, clear)

    rules_same : (kind : Kind) (name : Guid) (right : Right) (rules : List Rule) (k : ℕ) → IsClear low high (rule_ends kind rules)
        → verdict_by_rules rules k name kind (units_from low 1) right ≡ verdict_by_rules rules k name kind (units_from high 1) right
    rules_same kind name right [] k clear = refl
    rules_same kind name right (rule ∷ rules) k clear =
        let parts = rule_parts (same_kind rule.kind kind) rule (filter (λ (rule : Rule). same_kind rule.kind kind) rules) clear in
        rule_step k (same_kind rule.kind kind) (is_for name rule) (rule.allow && is_given_by rule.rights right)
        (share_a_unit rule.range (units_from low 1)) (share_a_unit rule.range (units_from high 1))
        (encloses rule.range (units_from low 1)) (encloses rule.range (units_from high 1)) _ _
        (λ e. shares_same rule.range (parts.0 e)) (λ e. covers_same rule.range (parts.0 e))
        (rules_same kind name right rules (suc k) parts.1)

    -- ---- homes

    own_same : (right : Right) (homes : List Home) → IsClear low high (flat_map (λ (home : Home). range_ends home.0) homes)
        → list_any (grants right (units_from low 1)) homes ≡ list_any (grants right (units_from high 1)) homes
    own_same right [] clear = refl
    own_same right (home ∷ homes) clear =
        let parts = clear_parts low high (range_ends home.0) (flat_map (λ (home : Home). range_ends home.0) homes) clear in
        λ i. (have_right home.1 right && covers_same home.0 parts.0 i) || own_same right homes parts.1 i

    -- the ends of one image's home ranges, and those of the others
    image_parts : (image : PlacedImage) (images : List PlacedImage) → IsClear low high (home_ends (image ∷ images))
        → IsClear low high (flat_map (λ (home : Home). range_ends home.0) (home_ranges image)) × IsClear low high (home_ends images)
    image_parts image images clear =
        clear_parts low high (flat_map (λ (home : Home). range_ends home.0) (home_ranges image)) (home_ends images) clear

    homes_same : (right : Right) (images : List PlacedImage) (number : ℕ) → IsClear low high (home_ends images)
        → is_home_at images number (units_from low 1) right ≡ is_home_at images number (units_from high 1) right
    homes_same right [] number clear = refl
    homes_same right (image ∷ images) zero clear =
        own_same right (home_ranges image) (image_parts image images clear).0
    homes_same right (image ∷ images) (suc number) clear =
        homes_same right images number (image_parts image images clear).1

  -- ---- the verdict

  -- the ends of all images count where the kind is that of bytes
  homes_clear : (kind : Kind) → kind ≡ Memory → (images : List PlacedImage)
      → IsClear low high (if same_kind kind Memory then home_ends images else []) → IsClear low high (home_ends images)
  homes_clear Memory is images clear = clear
  homes_clear Io is images clear = absurd cc
  homes_clear Msr is images clear = absurd cc
  homes_clear Saved is images clear = absurd cc

  of_bytes : (kind : Kind) (range : Range) → place_of kind range ≡ Mmram → kind ≡ Memory
  of_bytes Memory range e = refl
  of_bytes Io range e = absurd (no_memory _ e)
  of_bytes Msr range e = absurd (no_memory _ e)
  of_bytes Saved range e = absurd (no_memory _ e)

  mmram_somewhere : (place : Place) → place ≡ Mmram → place ≡ Nowhere → ⊥
  mmram_somewhere place is none = let e : Mmram ≡ Nowhere = sym is ∙ none in cc

  cells_somewhere : (place : Place) → place ≡ Cells → place ≡ Nowhere → ⊥
  cells_somewhere place is none = let e : Cells ≡ Nowhere = sym is ∙ none in cc

  pub decided_same : (site : Site) (image : ℕ) (kind : Kind) (right : Right) → IsClear low high (ends_of kind site)
      → decided site image kind low 1 right 0 ≡ decided site image kind high 1 right 0
  unfolding decided verdict_on
  decided_same site image kind right clear =
      let first = clear_parts low high (window_ends kind ++ rule_ends kind site.policy.rules) _ clear in
      let second = clear_parts low high (window_ends kind) (rule_ends kind site.policy.rules) first.0 in
      let there : Place = place_of kind (units_from high 1) in
      let name : Guid = name_at site.images image in
      let ruled : ℕ → Verdict = λ unit. verdict_by_rules site.policy.rules 0 name kind (units_from unit 1) right in
      ap (λ (place : Place). verdict_at place (is_home_at site.images image (units_from low 1) right) (ruled low)) (place_same kind second.0)
      ∙ at_one_place there _ _ (ruled low) (ruled high)
      (λ e.
      homes_same (below kind high (mmram_somewhere there e)) right site.images image
      (homes_clear kind (of_bytes kind (units_from high 1) e) site.images first.1))
      (λ e. rules_same (below kind high (cells_somewhere there e)) kind name right site.policy.rules 0 second.1)

pub reach_changes_at_ends : ReachChangesAtEnds
unfolding reach
reach_changes_at_ends site image kind unit right =
    let ends : List ℕ = ends_of kind site in
    sym (ap passes (decided_same (last_up_to unit ends) unit (last_at_most unit ends) site image kind right (clear_past_last unit ends)))
