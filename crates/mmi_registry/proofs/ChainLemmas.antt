-- What a whole chain comes to.
use Rattle.std.proofs.Common.{◌≡◌, ℕ, Bool, true, false, cond, not, ◌==◌, ◌&&◌, ◌||◌, List, [], ◌∷◌, Some, unwrap_or, refl, ap, ◌∙◌}
use Rattle.std.specs.List.{find, list_any}
use Rattle.std.proofs.lemmas.Bool.{eqb-true}
use Rattle.mm_base.specs.Statuses.{success, not_found, source_pending}
use Rattle.mmi_registry.specs.ChainRule.{is_final, is_quiesced, result_after}
use Rattle.mmi_registry.specs.ChainLaws.{result_from, best_of}

-- whether a status says that the source is pending
abbrev is_pending : ℕ → Bool
is_pending status = status == source_pending

-- the best of what was said so far and of these statuses
abbrev best_with : ℕ → Bool → Bool → ℕ
best_with so_far quiesced pending = cond quiesced success (cond (pending && not (so_far == success)) source_pending so_far)

-- the result after a status that stops nothing
abbrev after : ℕ → ℕ → Bool → Bool → ℕ
after so_far status quiesced pending = cond quiesced success (cond (pending && not (so_far == success)) status so_far)

module _ (so_far status : ℕ) where
  -- one status more: whether it is pending (p), whether a later one is (ps), whether the result was SUCCESS (s)
  pending-step : (p ps s : Bool) → (p ≡ true → status ≡ source_pending) → (so_far == success) ≡ s
      → (let rest = cond (p && not s) status so_far in
      cond (ps && not (rest == success)) source_pending rest ≡ cond ((p || ps) && not s) source_pending so_far)
  pending-step true true true is e = ap (λ b. cond (not b) source_pending so_far) e
  pending-step true true false is e = ap (λ n. cond (not (n == success)) source_pending n) (is refl)
  pending-step true false true is e = refl
  pending-step true false false is e = is refl
  pending-step false true s is e = ap (λ b. cond (not b) source_pending so_far) e
  pending-step false false s is e = refl

  -- and whether it is quiesced (q), and a later one (qs)
  best_with-step : (q p qs ps : Bool) → (p ≡ true → status ≡ source_pending)
      → best_with (after so_far status q p) qs ps ≡ best_with so_far (q || qs) (p || ps)
  best_with-step true p true ps is = refl
  best_with-step true p false true is = refl
  best_with-step true p false false is = refl
  best_with-step false p true ps is = refl
  best_with-step false p false ps is = pending-step p ps (so_far == success) is refl

best_with-first : (quiesced pending : Bool)
    → best_with not_found quiesced pending ≡ cond quiesced success (cond pending source_pending not_found)
best_with-first quiesced true = refl
best_with-first quiesced false = refl

-- the step at a status
step : (so_far status : ℕ) (statuses : List ℕ)
    → (let quiesced = list_any is_quiesced statuses in
    let pending = list_any is_pending statuses in
    best_with (after so_far status (is_quiesced status) (is_pending status)) quiesced pending
    ≡ best_with so_far (is_quiesced status || quiesced) (is_pending status || pending))
step so_far status statuses =
    best_with-step so_far status (is_quiesced status) (is_pending status) (list_any is_quiesced statuses) (list_any is_pending statuses)
    (eqb-true status source_pending)

root_from : (so_far : ℕ) (statuses : List ℕ)
    → result_from true so_far statuses ≡ best_with so_far (list_any is_quiesced statuses) (list_any is_pending statuses)
root_from so_far [] = refl
root_from so_far (status ∷ statuses) = root_from (result_after true so_far status) statuses ∙ step so_far status statuses

pub root_comes_to_best : (statuses : List ℕ) → result_from true not_found statuses ≡ best_of statuses
root_comes_to_best statuses =
    root_from not_found statuses ∙ best_with-first (list_any is_quiesced statuses) (list_any is_pending statuses)

module _ (so_far status : ℕ) (statuses : List ℕ) where
  guid_from-step : (final : Bool)
      → (let rest = after so_far status (is_quiesced status) (is_pending status) in
      let quiesced = list_any is_quiesced statuses in
      let pending = list_any is_pending statuses in
      result_from false rest statuses ≡ unwrap_or (find is_final statuses) (best_with rest quiesced pending)
      → cond final (cond final status rest) (result_from false (cond final status rest) statuses)
      ≡ unwrap_or (cond final (Some status) (find is_final statuses))
      (best_with so_far (is_quiesced status || quiesced) (is_pending status || pending)))
  guid_from-step true later = refl
  guid_from-step false later = later ∙ ap (unwrap_or (find is_final statuses)) (step so_far status statuses)

guid_from : (so_far : ℕ) (statuses : List ℕ)
    → result_from false so_far statuses
    ≡ unwrap_or (find is_final statuses) (best_with so_far (list_any is_quiesced statuses) (list_any is_pending statuses))
guid_from so_far [] = refl
guid_from so_far (status ∷ statuses) =
    guid_from-step so_far status statuses (is_final status)
    (guid_from (after so_far status (is_quiesced status) (is_pending status)) statuses)

pub guid_comes_to_first : (statuses : List ℕ) → result_from false not_found statuses ≡ unwrap_or (find is_final statuses) (best_of statuses)
guid_comes_to_first statuses =
    guid_from not_found statuses
    ∙ ap (unwrap_or (find is_final statuses)) (best_with-first (list_any is_quiesced statuses) (list_any is_pending statuses))
