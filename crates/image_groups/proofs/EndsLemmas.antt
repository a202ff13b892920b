-- The last of some ends that isn't above a unit: no end lies between the two.
use Rattle.std.proofs.Common.{◌≡◌, ℕ, ◌≤◌, Bool, true, false, List, [], ◌∷◌, ◌++◌, max, refl, sym, subst, ◌∙◌, inl, inr, arith}
use Rattle.std.specs.Prelude.{◌&&◌, not, nat_lt, nat_le, if◌then◌else◌}
use Rattle.std.specs.List.{list_all}
use Rattle.std.proofs.lemmas.Bool.{and_parts, and_from, cases_lt}
use Rattle.std.proofs.lemmas.Bool.Decides.{nat_tests}
use Rattle.std.proofs.lemmas.List.Folds.{list_all-append}
use Rattle.image_groups.specs.Ends.{last_up_to}

-- whether an end doesn't lie past one unit and up to another
abbrev pub is_beside : ℕ → ℕ → ℕ → Bool
is_beside low high end = not (nat_lt low end && nat_le end high)

-- No end lies there.
abbrev pub IsClear : ℕ → ℕ → List ℕ → Type 0
IsClear low high ends = list_all (is_beside low high) ends ≡ true

pub clear_parts : (low high : ℕ) (ends others : List ℕ) → IsClear low high (ends ++ others) → IsClear low high ends × IsClear low high others
clear_parts low high ends others clear =
    and_parts (list_all (is_beside low high) ends) (list_all (is_beside low high) others)
    (sym (list_all-append (is_beside low high) ends others) ∙ clear)

-- the same above a higher unit
clear_above : (low higher high : ℕ) (ends : List ℕ) → low ≤ higher → IsClear low high ends → IsClear higher high ends
clear_above low higher high [] above clear = clear
clear_above low higher high (end ∷ ends) above clear =
    let parts = and_parts (is_beside low high end) (list_all (is_beside low high) ends) clear in
    let first = parts.0 in
    and_from (is_beside higher high end) (list_all (is_beside higher high) ends) (grind (arith, nat_tests, first, above))
    (clear_above low higher high ends above parts.1)

module _ (unit : ℕ) where
  pub last_at_most : (ends : List ℕ) → last_up_to unit ends ≤ unit
  last_at_most [] = omega arith
  last_at_most (end ∷ ends) = grind (arith, nat_tests, last_at_most ends)

  -- none lies between the last one and the unit
  pub clear_past_last : (ends : List ℕ) → IsClear (last_up_to unit ends) unit ends
  clear_past_last [] = refl
  clear_past_last (end ∷ ends) = grind (arith, nat_tests, clear_past_last ends, clear_above (last_up_to unit ends) end unit ends)

  -- what holds at 0 and at each of the ends holds at the last one
  pub at_last : (test : ℕ → Bool) (ends : List ℕ) → test 0 ≡ true → list_all test ends ≡ true → test (last_up_to unit ends) ≡ true
  at_last test [] zero all = zero
  at_last test (end ∷ ends) zero all =
      let parts = and_parts (test end) (list_all test ends) all in
      step (nat_le end unit) (last_up_to unit ends) parts.0 (at_last test ends zero parts.1)
    where
      the_greater : (last : ℕ) → test end ≡ true → test last ≡ true → test (max end last) ≡ true
      the_greater last here there = elim (cases_lt end last) [
        | inl less ↦ let is : last ≡ max end last = omega arith in subst (λ (k : ℕ). test k ≡ true) is there
        | inr more ↦ let is : end ≡ max end last = omega arith in subst (λ (k : ℕ). test k ≡ true) is here
      ]

      step : (is : Bool) (last : ℕ) → test end ≡ true → test last ≡ true → test (if is then max end last else last) ≡ true
      step true last here there = the_greater last here there
      step false last here there = there
