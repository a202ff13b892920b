-- Units that all have cells, by their ends.
use Rattle.std.proofs.Common.{◌≡◌, ℕ, zero, suc, ◌+◌, ◌<◌, Bool, true, false, ◌&&◌, ◌||◌, nat_lt, arith, sym, ap, ◌∙◌}
use Rattle.std.specs.Prelude.{nat_le}
use Rattle.std.proofs.lemmas.Bool.Decides.{nat_tests}
use Rattle.mm_base.specs.Cells.{is_msr}
use Rattle.mm_base.specs.declared.access.Kind.{Kind}
use Rattle.mm_base.specs.declared.access.Kind.TheVariants.{Memory, Io, Msr, Saved}
use Rattle.secure_policy.specs.Places.{have_cells}

-- whether the units from a base to an end lie in a window
abbrev pub in_window : ℕ → ℕ → ℕ → ℕ → Bool
in_window from to base end = nat_le from base && nat_le end to

-- one more unit in front
window_step : (from to base n : ℕ) → (rest : Bool) → rest ≡ in_window from to (suc base) (suc base + suc n)
    → ((nat_le from base && nat_lt base to) && rest) ≡ in_window from to base (base + suc (suc n))
window_step from to base n rest is = grind (arith, nat_tests)

window_one : (from to base : ℕ) → ((nat_le from base && nat_lt base to) && true) ≡ in_window from to base (base + 1)
window_one from to base = grind (arith, nat_tests)

low_step : (to base n : ℕ) → (rest : Bool) → rest ≡ in_window 0 to (suc base) (suc base + suc n)
    → (nat_lt base to && rest) ≡ in_window 0 to base (base + suc (suc n))
low_step to base n rest is = grind (arith, nat_tests)

low_one : (to base : ℕ) → (nat_lt base to && true) ≡ in_window 0 to base (base + 1)
low_one to base = grind (arith, nat_tests)

-- of the two windows of registers, which lie apart
abbrev pub in_msrs : ℕ → ℕ → Bool
in_msrs base end = in_window 0 0x2000 base end || in_window 0xc0000000 0xc0002000 base end

msr_step : (base n : ℕ) → (rest : Bool) → rest ≡ in_msrs (suc base) (suc base + suc n)
    → (is_msr base && rest) ≡ in_msrs base (base + suc (suc n))
msr_step base n rest is = grind (arith, nat_tests)

msr_one : (base : ℕ) → (is_msr base && true) ≡ in_msrs base (base + 1)
msr_one base = grind (arith, nat_tests)

pub have_cells-memory : (n base : ℕ) → have_cells Memory base (suc n) ≡ in_window 0xfe000000 0xfe010000 base (base + suc n)
have_cells-memory zero base = window_one 0xfe000000 0xfe010000 base
have_cells-memory (suc n) base = window_step 0xfe000000 0xfe010000 base n _ (have_cells-memory n (suc base))

pub have_cells-io : (n base : ℕ) → have_cells Io base (suc n) ≡ in_window 0 0x10000 base (base + suc n)
have_cells-io zero base = low_one 0x10000 base
have_cells-io (suc n) base = low_step 0x10000 base n _ (have_cells-io n (suc base))

pub have_cells-msr : (n base : ℕ) → have_cells Msr base (suc n) ≡ in_msrs base (base + suc n)
have_cells-msr zero base = msr_one base
have_cells-msr (suc n) base = msr_step base n _ (have_cells-msr n (suc base))

pub have_cells-saved : (n base : ℕ) → have_cells Saved base (suc n) ≡ in_window 0 19 base (base + suc n)
have_cells-saved zero base = low_one 19 base
have_cells-saved (suc n) base = low_step 19 base n _ (have_cells-saved n (suc base))

-- the same of any access that isn't empty
module _ (base : ℕ) where
  pub memory_cells : (n : ℕ) → 0 < n → have_cells Memory base n ≡ in_window 0xfe000000 0xfe010000 base (base + n)
  memory_cells zero some = absurd (omega arith)
  memory_cells (suc n) some = have_cells-memory n base

  pub port_cells : (n : ℕ) → 0 < n → have_cells Io base n ≡ in_window 0 0x10000 base (base + n)
  port_cells zero some = absurd (omega arith)
  port_cells (suc n) some = have_cells-io n base

  pub msr_cells : (n : ℕ) → 0 < n → have_cells Msr base n ≡ in_msrs base (base + n)
  msr_cells zero some = absurd (omega arith)
  msr_cells (suc n) some = have_cells-msr n base

  pub saved_cells : (n : ℕ) → 0 < n → have_cells Saved base n ≡ in_window 0 19 base (base + n)
  saved_cells zero some = absurd (omega arith)
  saved_cells (suc n) some = have_cells-saved n base

-- one window of registers after the other
module _ (kind : Kind) (base n : ℕ) (lower : Bool) where
  pub first_window : kind ≡ Msr → lower ≡ in_window 0 0x2000 base (base + n) → lower ≡ true
      → have_cells Msr base n ≡ in_msrs base (base + n) → lower ≡ have_cells kind base n
  first_window is lower_is passed all =
      let there : in_msrs base (base + n) ≡ true =
      ap (λ b. b || in_window 0xc0000000 0xc0002000 base (base + n)) (sym lower_is ∙ passed) in
      passed ∙ sym there ∙ sym all ∙ ap (λ (k : Kind). have_cells k base n) (sym is)

  pub second_window : (upper : Bool) → kind ≡ Msr → lower ≡ in_window 0 0x2000 base (base + n) → lower ≡ false
      → upper ≡ in_window 0xc0000000 0xc0002000 base (base + n)
      → have_cells Msr base n ≡ in_msrs base (base + n) → upper ≡ have_cells kind base n
  second_window upper is lower_is missed upper_is all =
      let there : in_msrs base (base + n) ≡ in_window 0xc0000000 0xc0002000 base (base + n) =
      ap (λ b. b || in_window 0xc0000000 0xc0002000 base (base + n)) (sym lower_is ∙ missed) in
      upper_is ∙ sym there ∙ sym all ∙ ap (λ (k : Kind). have_cells k base n) (sym is)
