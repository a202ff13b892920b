-- Memory where a region is zero: in a run of free pages, after a start that was withdrawn, and outside a region.
use Rattle.std.proofs.Common.{◌≡◌, ◌⊎◌, inl, inr, ℕ, ◌+◌, ◌*◌, ◌-◌, ◌/◌, ◌≤◌, ◌<◌, Bool, true, false, List, ◌++◌, length, take, drop, get_or, sym, ap, ◌∙◌, length-append, arith}
use Rattle.std.proofs.lemmas.Bool.{cases_lt}
use Rattle.std.proofs.lemmas.Grind.{same_number_lists}
use Rattle.std.proofs.lemmas.List.{get_or-append_right, get_or-drop, get_or-replicate, get_or-take, get_or_append_left, length-take-le}
use Rattle.mm_base.specs.Frames.{zeros}
use Rattle.mm_base.specs.Numbers.{overwritten}
use Rattle.mm_memory.proofs.PageLemmas.{length-overwritten, length-zeros}
use Rattle.page_runs.specs.RunLaws.{ChangesRun}
use Rattle.page_runs.specs.Runs.{is_taken, IsRun, with_run}
use Rattle.page_runs.proofs.ChangeLemmas.{changes_these_alone}

module _ (bytes piece : List ℕ) (at : ℕ) (fits : at + length piece ≤ length bytes) where
  front_long : length (take at bytes) ≡ at
  front_long = length-take-le at bytes (omega (arith, fits))

  both_long : length (take at bytes ++ piece) ≡ at + length piece
  both_long = omega (arith, front_long, length-append (take at bytes) piece)

  pub over_before : (i : ℕ) → i < at → get_or (overwritten bytes at piece) i 0 ≡ get_or bytes i 0
  over_before i below =
      get_or_append_left (take at bytes ++ piece) (drop (at + length piece) bytes) 0 i (omega (arith, both_long, below))
      ∙ get_or_append_left (take at bytes) piece 0 i (omega (arith, front_long, below))
      ∙ get_or-take at bytes i 0 below

  pub over_after : (i : ℕ) → at + length piece ≤ i → get_or (overwritten bytes at piece) i 0 ≡ get_or bytes i 0
  over_after i from =
      get_or-append_right (take at bytes ++ piece) (drop (at + length piece) bytes) (at + length piece) i 0 both_long from
      ∙ get_or-drop (at + length piece) bytes (i - (at + length piece)) 0
      ∙ ap (λ k. get_or bytes k 0) (omega (arith, from))

  pub over_inside : (i : ℕ) → at ≤ i → i < at + length piece → get_or (overwritten bytes at piece) i 0 ≡ get_or piece (i - at) 0
  over_inside i from to =
      get_or_append_left (take at bytes ++ piece) (drop (at + length piece) bytes) 0 i (omega (arith, both_long, to))
      ∙ get_or-append_right (take at bytes) piece at i 0 front_long from

get_or-zeros : (n i : ℕ) → i < n → get_or (zeros n) i 0 ≡ 0
unfolding zeros
get_or-zeros n i within = get_or-replicate n i 0 0 within

-- memory is the same outside a place where both are zero in the end
module _ (old new : List ℕ) (at n : ℕ) (old_fits : at + n ≤ length old) (new_fits : at + n ≤ length new)
    (same : overwritten new at (zeros n) ≡ overwritten old at (zeros n)) where
  old_in : at + length (zeros n) ≤ length old
  old_in = omega (arith, old_fits, length-zeros n)

  new_in : at + length (zeros n) ≤ length new
  new_in = omega (arith, new_fits, length-zeros n)

  pub same_outside : (i : ℕ) → (i < at) ⊎ (at + n ≤ i) → get_or new i 0 ≡ get_or old i 0
  same_outside i (inl below) =
      sym (over_before new (zeros n) at new_in i below) ∙ ap (λ m. get_or m i 0) same ∙ over_before old (zeros n) at old_in i below
  same_outside i (inr above) =
      let past : at + length (zeros n) ≤ i = omega (arith, above, length-zeros n) in
      sym (over_after new (zeros n) at new_in i past) ∙ ap (λ m. get_or m i 0) same ∙ over_after old (zeros n) at old_in i past

-- memory whose bytes in pages that aren't taken are 0
abbrev pub IsClean : List Bool → List ℕ → Type 0
IsClean taken memory = (at : ℕ) → is_taken taken (at / 4096) ≡ false → get_or memory at 0 ≡ 0

module _ (taken : List Bool) (memory : List ℕ) (page n : ℕ) (run : IsRun taken n page) (whole : length memory ≡ 33554432) (within : page + n ≤ 8192) where
  fits_run : 4096 * page + 4096 * n ≤ length memory
  fits_run = omega (arith, whole, within)

  zeros_fit : 4096 * page + length (zeros (4096 * n)) ≤ length memory
  zeros_fit = omega (arith, fits_run, length-zeros (4096 * n))

  of_run : (at : ℕ) → 4096 * page ≤ at → at < 4096 * page + 4096 * n → is_taken taken (at / 4096) ≡ false
  of_run at from to = run.free (at / 4096) (omega (arith, from)) (omega (arith, to))

  -- zeros over a free run change nothing
  pub zero_run : IsClean taken memory → overwritten memory (4096 * page) (zeros (4096 * n)) ≡ memory
  zero_run clean =
      same_number_lists (overwritten memory (4096 * page) (zeros (4096 * n))) memory (length-overwritten memory (zeros (4096 * n)) (4096 * page) zeros_fit)
      (λ i _. elim (cases_lt i (4096 * page)) [
        | inl below ↦ over_before memory (zeros (4096 * n)) (4096 * page) zeros_fit i below
        | inr from ↦ elim (cases_lt i (4096 * page + 4096 * n)) [
          | inl to ↦
              over_inside memory (zeros (4096 * n)) (4096 * page) zeros_fit i from (omega (arith, to, length-zeros (4096 * n)))
              ∙ get_or-zeros (4096 * n) (i - 4096 * page) (omega (arith, from, to))
              ∙ sym (clean i (of_run i from to))
          | inr past ↦ over_after memory (zeros (4096 * n)) (4096 * page) zeros_fit i (omega (arith, past, length-zeros (4096 * n)))
        ]
      ])

  -- memory that is the same outside the run is clean where the run is taken
  pub still_clean : (after : List ℕ) → length after ≡ 33554432 → IsClean taken memory
      → overwritten after (4096 * page) (zeros (4096 * n)) ≡ overwritten memory (4096 * page) (zeros (4096 * n))
      → IsClean (with_run true page n taken) after
  still_clean after long clean same at free =
      let change : ChangesRun true page n taken (with_run true page n taken) = changes_these_alone true page n taken run.inside in
      let apart : (i : ℕ) → (i < 4096 * page) ⊎ (4096 * page + 4096 * n ≤ i) → get_or after i 0 ≡ get_or memory i 0 =
      same_outside memory after (4096 * page) (4096 * n) fits_run (omega (arith, long, within)) same in
      elim (cases_lt at (4096 * page)) [
        | inl below ↦ apart at (inl below) ∙ clean at (sym (change.before (at / 4096) (omega (arith, below))) ∙ free)
        | inr from ↦ elim (cases_lt at (4096 * page + 4096 * n)) [
          | inl to ↦
              let is : is_taken (with_run true page n taken) (at / 4096) ≡ true =
              change.changed (at / 4096) (omega (arith, from)) (omega (arith, to)) in
              let clash : true ≡ false = sym is ∙ free in
              cc
          | inr past ↦ apart at (inr past) ∙ clean at (sym (change.after (at / 4096) (omega (arith, past))) ∙ free)
        ]
      ]
