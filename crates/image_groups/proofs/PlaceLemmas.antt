-- Where an access lies that passes: of each kind in its cells, of bytes in memory or in the device window. It has some unit.
use Rattle.std.proofs.Common.{◌≡◌, ◌≢◌, ◌⊎◌, inl, inr, ℕ, zero, suc, ◌+◌, ◌≤◌, ◌^◌, Bool, true, false, ◌&&◌, if◌then◌else◌, nat_lt, List}
use Rattle.std.proofs.Common.{[], ◌∷◌, refl, sym, ap, ◌∙◌, arith}
use Rattle.std.proofs.lemmas.Bool.Decides.{nat_tests}
use Rattle.image_table.specs.ImageTable.{name_at}
use Rattle.mm_base.specs.Cells.{is_msr}
use Rattle.mm_base.specs.Platform.{mmram, lane_window, device_window}
use Rattle.mm_base.specs.Range.{encloses, share_a_unit}
use Rattle.mm_base.specs.declared.access.Kind.{Kind}
use Rattle.mm_base.specs.declared.access.Kind.TheVariants.{Memory, Io, Msr, Saved}
use Rattle.mm_base.specs.declared.access.Right.{Right}
use Rattle.mm_base.specs.declared.access.Verdict.{Verdict}
use Rattle.mm_base.specs.declared.access.Verdict.TheVariants.{Pass, Deny}
use Rattle.mm_base.specs.declared.access.Why.TheVariants as whys
use Rattle.mm_base.specs.declared.policy.Rule.{Rule}
use Rattle.mm_base.specs.declared.range.Range.{Range}
use Rattle.secure_policy.specs.Laws.{passes}
use Rattle.secure_policy.specs.Places.{have_cells, place_of, place_of_bytes, place_of_cells}
use Rattle.secure_policy.specs.Verdicts.{verdict_on, verdict_at, verdict_by_rules, is_about, is_allowed_by, units_from}
use Rattle.secure_policy.specs.declared.place.Place.TheVariants.{Nowhere, Mmram, LaneWindow, Cells}
use Rattle.supervisor_calls.specs.Accesses.{decided}
use Rattle.supervisor_calls.specs.Domains.{DomainState}
use Rattle.supervisor_calls.specs.Laws.{IsSite}
use Rattle.supervisor_calls.specs.Tables.{Site}
use Rattle.supervisor_calls.proofs.OutsideLemmas.{LiesIn, passed_lies}
use Rattle.supervisor_calls.proofs.WhereLemmas.{InDevice, by_place}
use Rattle.supervisor_calls.specs.Services.{region_in}

-- ---- an access without units never passes

no_unit_shared : (range : Range) (at : ℕ) → share_a_unit range (units_from at 0) ≡ false
no_unit_shared range at = grind (arith, nat_tests)

no_rule_about : (rules : List Rule) (k : ℕ) (name : _) (kind : Kind) (at : ℕ) (right : Right)
    → passes (verdict_by_rules rules k name kind (units_from at 0) right) ≡ false
no_rule_about [] k name kind at right = refl
no_rule_about (rule ∷ rules) k name kind at right =
    ap (λ (b : Bool). passes (if b then (if is_allowed_by (units_from at 0) right rule then Pass (whys.Rule k) else Deny (whys.Rule k))
    else verdict_by_rules rules (suc k) name kind (units_from at 0) right))
    about
    ∙ no_rule_about rules (suc k) name kind at right
  where
    about : is_about name kind (units_from at 0) rule ≡ false
    about = grind (arith, nat_tests, no_unit_shared rule.range at)

no_place : (at : ℕ) → place_of_bytes (units_from at 0) ≡ Mmram → ⊥
no_place at is = by_tests (nat_lt (2 ^ 64) (at + 0)) (share_a_unit mmram (units_from at 0)) (no_unit_shared mmram at) is
  where
    by_tests : (past inside : Bool) → inside ≡ false
        → (if past then Nowhere else if inside then Mmram else if share_a_unit lane_window (units_from at 0) then LaneWindow
        else if encloses device_window (units_from at 0) then Cells else Nowhere) ≡ Mmram → ⊥
    by_tests true inside none e = cc
    by_tests false true none e = cc
    by_tests false false none e = rest (share_a_unit lane_window (units_from at 0)) (encloses device_window (units_from at 0)) e
      where
        rest : (lanes device : Bool) → (if lanes then LaneWindow else if device then Cells else Nowhere) ≡ Mmram → ⊥
        rest true device e = cc
        rest false true e = cc
        rest false false e = cc

no_cells : (kind : Kind) (at n : ℕ) → n ≡ 0 → place_of kind (units_from at n) ≡ Mmram → ⊥
no_cells Memory at n none is = no_place at (ap (λ (k : ℕ). place_of_bytes (units_from at k)) (sym none) ∙ is)
no_cells Io at n none is = not_there (have_cells Io at n) is
  where
    not_there : (there : Bool) → place_of_cells there ≡ Mmram → ⊥
    not_there true e = cc
    not_there false e = cc
no_cells Msr at n none is = not_there (have_cells Msr at n) is
  where
    not_there : (there : Bool) → place_of_cells there ≡ Mmram → ⊥
    not_there true e = cc
    not_there false e = cc
no_cells Saved at n none is = not_there (have_cells Saved at n) is
  where
    not_there : (there : Bool) → place_of_cells there ≡ Mmram → ⊥
    not_there true e = cc
    not_there false e = cc

module _ (site : Site) (image : ℕ) (right : Right) (trapped : ℕ) where
  not_none : (kind : Kind) (at n : ℕ) → n ≡ 0 → passes (decided site image kind at n right trapped) ≡ true → ⊥
  unfolding decided verdict_on
  not_none kind at n none pass = by_case (by_place _ _ _ pass)
    where
      by_case : {P Q : Type 0}
          → ((place_of kind (units_from at n) ≡ Mmram) × P)
          ⊎ (Q × (passes (verdict_by_rules site.policy.rules 0 (name_at site.images image) kind (units_from at n) right) ≡ true)) → ⊥
      by_case (inl home) = no_cells kind at n none home.0
      by_case (inr cells) =
          let no : passes (verdict_by_rules site.policy.rules 0 (name_at site.images image) kind (units_from at n) right) ≡ false =
          ap (λ (k : ℕ). passes (verdict_by_rules site.policy.rules 0 (name_at site.images image) kind (units_from at k) right)) none
          ∙ no_rule_about site.policy.rules 0 (name_at site.images image) kind at right in
          let e : true ≡ false = sym cells.1 ∙ no in
          cc

  pub some_unit : (kind : Kind) (at n : ℕ) → passes (decided site image kind at n right trapped) ≡ true → 1 ≤ n
  some_unit kind at zero pass = absurd (not_none kind at zero refl pass)
  some_unit kind at (suc n) pass = omega arith

  -- ---- where cells are

  on_cells : (there : Bool) (home : Bool) (ruled : Verdict) → passes (verdict_at (place_of_cells there) home ruled) ≡ true → there ≡ true
  on_cells true home ruled pass = refl
  on_cells false home ruled pass = absurd cc

  pub cells_there : (kind : Kind) (at n : ℕ) → kind ≢ Memory → passes (decided site image kind at n right trapped) ≡ true
      → have_cells kind at n ≡ true
  unfolding decided verdict_on
  cells_there Memory at n other pass = absurd (other refl)
  cells_there Io at n other pass = on_cells (have_cells Io at n) _ _ pass
  cells_there Msr at n other pass = on_cells (have_cells Msr at n) _ _ pass
  cells_there Saved at n other pass = on_cells (have_cells Saved at n) _ _ pass

both : (a b : Bool) → (a && b) ≡ true → (a ≡ true) × (b ≡ true)
both true b e = (refl, e)
both false b e = absurd cc

ports_end : (n port : ℕ) → have_cells Io port (suc n) ≡ true → port + suc n ≤ 65536
ports_end zero port there = grind (arith, nat_tests, there)
ports_end (suc n) port there = omega (arith, ports_end n (suc port) (both _ (have_cells Io (suc port) (suc n)) there).1)

pub ports_within : (port n : ℕ) → 1 ≤ n → have_cells Io port n ≡ true → port + n ≤ 65536
ports_within port zero some there = absurd (omega (arith, some))
ports_within port (suc n) some there = ports_end n port there

pub register_there : (index n : ℕ) → 1 ≤ n → have_cells Msr index n ≡ true → is_msr index ≡ true
register_there index zero some there = absurd (omega (arith, some))
register_there index (suc n) some there = (both (is_msr index) (have_cells Msr (suc index) n) there).0

-- ---- where bytes are

-- n bytes from an address lie in memory
pub record InMmram (at n : ℕ) : Type 0 where
  pub from : 0x80000000 ≤ at
  pub to : at + n ≤ 0x82000000

pub bytes_where : (domain : DomainState) → IsSite domain.tables.site → (at n trapped : ℕ) (right : Right)
    → passes (decided domain.tables.site domain.image Memory at n right trapped) ≡ true → InMmram at n ⊎ InDevice at n
bytes_where domain placed at n trapped right pass = by_case (passed_lies domain placed at n trapped right pass)
  where
    by_case : LiesIn (region_in domain) at n ⊎ InDevice at n → InMmram at n ⊎ InDevice at n
    by_case (inl inside) = inl (record {
      from = omega (arith, inside.low, inside.begins);
      to = omega (arith, inside.high, inside.ends);
    })
    by_case (inr device) = inr device
