-- Which cells an access is of that a verdict lets pass.
use Rattle.std.proofs.Common.{◌≡◌, inl, inr, ℕ, zero, suc, ◌+◌, ◌≤◌, ◌<◌, Bool, true, false, ◌&&◌, refl, sym, ap, ◌∙◌, subst, arith}
use Rattle.std.proofs.lemmas.Bool.Decides.{nat_tests}
use Rattle.mm_base.specs.Cells.{is_msr}
use Rattle.mm_base.specs.Records.{RecordsState}
use Rattle.mm_base.specs.declared.access.Kind.{Kind}
use Rattle.mm_base.specs.declared.access.Kind.TheVariants.{Io, Msr, Saved}
use Rattle.mm_base.specs.declared.access.Right.{Right}
use Rattle.mm_base.specs.declared.access.Verdict.{Verdict}
use Rattle.mm_base.specs.declared.access.Verdict.TheVariants.{Pass, Deny}
use Rattle.platform_model.specs.Cells.{IsPortWidth}
use Rattle.secure_policy.specs.Laws.{passes}
use Rattle.secure_policy.specs.Places.{have_cells, place_of_cells}
use Rattle.secure_policy.specs.Verdicts.{verdict_on, verdict_at}
use Rattle.supervisor_calls.specs.Accesses.{decided, with_quota}
use Rattle.supervisor_calls.specs.Tables.{Site}

there_by : (there home : Bool) (ruled : Verdict) → passes (verdict_at (place_of_cells there) home ruled) ≡ true → there ≡ true
there_by true home ruled pass = refl
there_by false home ruled pass = absurd cc

both_pass : (a b : Bool) → (a && b) ≡ true → (a ≡ true) × (b ≡ true)
both_pass true true e = (refl, refl)
both_pass true false e = absurd cc
both_pass false b e = absurd cc

ports_end : (n port : ℕ) → have_cells Io port (suc n) ≡ true → port + suc n ≤ 65536
ports_end zero port there = grind (arith, nat_tests, there)
ports_end (suc n) port there =
    omega (arith, ports_end n (suc port) ((both_pass _ (have_cells Io (suc port) (suc n)) there).1))

some_width : (n : ℕ) → IsPortWidth n → (m : ℕ) × (n ≡ suc m)
some_width n (inl e) = (0, e)
some_width n (inr (inl e)) = (1, e)
some_width n (inr (inr e)) = (3, e)

module _ (site : Site) (image : ℕ) (right : Right) (trapped : ℕ) where
  -- an access to ports that passes ends at the last port
  pub ports_within : (port n : ℕ) → IsPortWidth n → passes (decided site image Io port n right trapped) ≡ true → port + n ≤ 65536
  unfolding decided verdict_on
  ports_within port n width pass =
      let m = some_width n width in
      let there : have_cells Io port n ≡ true = there_by (have_cells Io port n) _ _ pass in
      subst (λ (k : ℕ). port + k ≤ 65536) (sym m.1) (ports_end m.0 port (ap (have_cells Io port) (sym m.1) ∙ there))

  -- one to a model-specific register is of one that is there, and one to a saved register too
  pub register_there : (index : ℕ) → passes (decided site image Msr index 1 right trapped) ≡ true → is_msr index ≡ true
  unfolding decided verdict_on
  register_there index pass = (both_pass (is_msr index) true (there_by (have_cells Msr index 1) _ _ pass)).0

  pub saved_there : (register : ℕ) → passes (decided site image Saved register 1 right trapped) ≡ true → register < 19
  unfolding decided verdict_on
  saved_there register pass =
      let there : have_cells Saved register 1 ≡ true = there_by (have_cells Saved register 1) _ _ pass in
      grind (arith, nat_tests, there)

-- a write that passes with the quota passes without it
pub passes_without_quota : (kind : Kind) (at : ℕ) (records : RecordsState) (verdict : Verdict)
    → passes (with_quota kind at records verdict) ≡ true → passes verdict ≡ true
passes_without_quota kind at records (Pass why) pass = refl
passes_without_quota kind at records (Deny why) pass = absurd cc
