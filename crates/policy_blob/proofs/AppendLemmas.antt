-- Checks behind others.
use Rattle.std.proofs.Common.{◌≡◌, ℕ, Bool, true, false, List, [], ◌∷◌, ◌++◌, Some, None, refl, sym, ◌∙◌}
use Rattle.mm_base.specs.Checks.{Check, first_failing}
use Rattle.mm_base.proofs.CheckLemmas.{AllPass, all_pass, none_fails}
use Rattle.courses.specs.FirstCheck.{FailsFirst}

module _ {K : Type 0} where
  passes_on : (check : Check K) (others : List (Check K)) → check.passes ≡ true → first_failing (check ∷ others) ≡ first_failing others
  passes_on check others e = rw e

  stops_at : (check : Check K) (others : List (Check K)) → check.passes ≡ false → first_failing (check ∷ others) ≡ Some check
  stops_at check others e = rw e

  all_over : (front behind : List (Check K)) → AllPass front → first_failing (front ++ behind) ≡ first_failing behind
  all_over [] behind pass = refl
  all_over (check ∷ front) behind pass = passes_on check (front ++ behind) pass.0 ∙ all_over front behind pass.1

  -- where the checks in front pass, the first that fails is one behind them
  pub passed_over : (front behind : List (Check K)) → first_failing front ≡ None → first_failing (front ++ behind) ≡ first_failing behind
  passed_over front behind none = all_over front behind (all_pass front none)

  stays_by : (check found : Check K) (front behind : List (Check K)) (passes : Bool) → check.passes ≡ passes
      → (first_failing front ≡ Some found → first_failing (front ++ behind) ≡ Some found)
      → first_failing (check ∷ front) ≡ Some found → first_failing (check ∷ front ++ behind) ≡ Some found
  stays_by check found front behind true is on e = passes_on check (front ++ behind) is ∙ on (sym (passes_on check front is) ∙ e)
  stays_by check found front behind false is on e = stops_at check (front ++ behind) is ∙ sym (stops_at check front is) ∙ e

  -- what fails first in front fails first
  stays : (found : Check K) (front behind : List (Check K)) → first_failing front ≡ Some found → first_failing (front ++ behind) ≡ Some found
  stays found [] behind e = absurd cc
  stays found (check ∷ front) behind e = stays_by check found front behind check.passes refl (stays found front behind) e

  pub fails_in_front : (front behind : List (Check K)) (kind : K) (at : ℕ) → FailsFirst front kind at → FailsFirst (front ++ behind) kind at
  fails_in_front front behind kind at fails =
      record { check = fails.check; first = stays fails.check front behind fails.first; kind_is = fails.kind_is; place_is = fails.place_is }

  -- what fails first behind checks that pass fails first
  pub fails_behind : (front behind : List (Check K)) (kind : K) (at : ℕ) → first_failing front ≡ None → FailsFirst behind kind at
      → FailsFirst (front ++ behind) kind at
  fails_behind front behind kind at none fails = record {
    check = fails.check;
    first = passed_over front behind none ∙ fails.first;
    kind_is = fails.kind_is;
    place_is = fails.place_is;
  }

  parts_pass : (front behind : List (Check K)) → AllPass (front ++ behind) → AllPass front × AllPass behind
  parts_pass [] behind pass = (tt, pass)
  parts_pass (check ∷ front) behind pass = let rest = parts_pass front behind pass.1 in ((pass.0, rest.0), rest.1)

  -- where all checks pass, those in front do, and those behind
  pub both_pass : (front behind : List (Check K)) → first_failing (front ++ behind) ≡ None
      → (first_failing front ≡ None) × (first_failing behind ≡ None)
  both_pass front behind none =
      let parts = parts_pass front behind (all_pass (front ++ behind) none) in
      (none_fails front parts.0, none_fails behind parts.1)
