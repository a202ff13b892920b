-- The first check that fails is one, and is there where not all pass.
use Rattle.std.proofs.Common.{◌≡◌, ◌⊎◌, inl, inr, ℕ, ◌<◌, false, List, length, take, get_or, Option, Some, None, refl, sym, ap, ◌∙◌}
use Rattle.mm_base.specs.Checks.{Check, first_failing}
use Rattle.mm_base.proofs.CheckLemmas.{AllPass, first_at}
use Rattle.courses.specs.FirstCheck.{FailsFirst}

-- two faults have one kind and one place
pub record SameFault {Kind : Type 0} (one other : Kind) (here there : ℕ) : Type 0 where
  pub kinds : one ≡ other
  pub places : here ≡ there

module _ {Kind : Type 0} (checks : List (Check Kind)) where
  -- the k-th check fails, after others that pass
  pub fails : (k : ℕ) (none : Check Kind) → k < length checks → AllPass (take k checks) → (get_or checks k none).passes ≡ false
      → FailsFirst checks (get_or checks k none).kind (get_or checks k none).at
  fails k none h pass fail =
      record { check = get_or checks k none; first = first_at checks k none h pass fail; kind_is = refl; place_is = refl }

  -- one check fails first
  pub one_first : (one other : Kind) (here there : ℕ) → FailsFirst checks one here → FailsFirst checks other there → SameFault one other here there
  one_first one other here there a b =
      let e : Some a.check ≡ Some b.check = sym a.first ∙ b.first in
      let same : a.check ≡ b.check = cc in
      record {
        kinds = a.kind_is ∙ ap (λ (check : Check Kind). check.kind) same ∙ sym b.kind_is;
        places = a.place_is ∙ ap (λ (check : Check Kind). check.at) same ∙ sym b.place_is;
      }

  -- none does where all pass
  pub never_first : (kind : Kind) (place : ℕ) → FailsFirst checks kind place → first_failing checks ≡ None → ⊥
  never_first kind place fails none = let e : Some fails.check ≡ None = sym fails.first ∙ none in cc

  -- and one does where not all pass
  pub none_or_first : (first_failing checks ≡ None) ⊎ ((check : Check Kind) × FailsFirst checks check.kind check.at)
  none_or_first = by_first (first_failing checks) refl
    where
      by_first : (first : Option (Check Kind)) → first_failing checks ≡ first
          → (first_failing checks ≡ None) ⊎ ((check : Check Kind) × FailsFirst checks check.kind check.at)
      by_first None is = inl is
      by_first (Some check) is = inr (check, record { check = check; first = is; kind_is = refl; place_is = refl })
