-- What checks come to, one after another.
use Rattle.std.proofs.Common.{◌≡◌, ℕ, zero, suc, get_or, take, ◌<◌, Bool, true, false, List, [], ◌∷◌, length, Some, None, refl, sym, ◌∙◌}
use Rattle.std.proofs.Common.{arith}
use Rattle.mm_base.specs.Checks.{Check, first_failing}

module _ {K : Type 0} where
  -- each of these checks is passed
  abbrev pub AllPass : List (Check K) → Type 0
  AllPass [] = Unit {0}
  AllPass (check ∷ others) = (check.passes ≡ true) × AllPass others

  -- a check that is passed is not the first that fails
  passes_on : (check : Check K) (others : List (Check K)) → check.passes ≡ true → first_failing (check ∷ others) ≡ first_failing others
  passes_on check others e = rw e

  -- one that isn't is
  stops_at : (check : Check K) (others : List (Check K)) → check.passes ≡ false → first_failing (check ∷ others) ≡ Some check
  stops_at check others e = rw e

  -- a check that fails after others that pass is the first that fails
  pub first_at : (all : List (Check K)) (k : ℕ) (none : Check K) → k < length all → AllPass (take k all)
      → (get_or all k none).passes ≡ false → first_failing all ≡ Some (get_or all k none)
  first_at [] k none h pass e = absurd (omega arith)
  first_at (check ∷ others) zero none h pass e = stops_at check others e
  first_at (check ∷ others) (suc k) none h pass e = passes_on check others pass.0 ∙ first_at others k none (omega arith) pass.1 e

  -- where no check fails, each is passed
  passed_first : (check : Check K) (others : List (Check K)) (passes : Bool) → check.passes ≡ passes
      → first_failing (check ∷ others) ≡ None → (check.passes ≡ true) × (first_failing others ≡ None)
  passed_first check others true is none = (is, sym (passes_on check others is) ∙ none)
  passed_first check others false is none =
      let e : Some check ≡ None = sym (stops_at check others is) ∙ none in
      cc

  pub all_pass : (all : List (Check K)) → first_failing all ≡ None → AllPass all
  all_pass [] none = tt
  all_pass (check ∷ others) none =
      let h = passed_first check others check.passes refl none in
      (h.0, all_pass others h.1)

  -- and where each is passed, no check fails
  pub none_fails : (all : List (Check K)) → AllPass all → first_failing all ≡ None
  none_fails [] pass = refl
  none_fails (check ∷ others) pass = passes_on check others pass.0 ∙ none_fails others pass.1
