-- What a whole chain comes to, said of all its statuses at once.
use Rattle.std.specs.Prelude.{◌≡◌, ℕ, Bool, true, false, if◌then◌else◌, ◌==◌, List, [], ◌∷◌, find, unwrap_or}
use Rattle.std.specs.List.{list_any}
use Rattle.mm_base.specs.Statuses.{success, not_found, source_pending}
use Rattle.mmi_registry.specs.ChainRule.{is_final, stops, is_quiesced, result_after}

-- the result of a chain whose handlers return these statuses, called one after another until one stops it
abbrev pub result_from : Bool → ℕ → List ℕ → ℕ
result_from root so_far [] = so_far
result_from root so_far (status ∷ statuses) =
    if stops root status
    then result_after root so_far status
    else result_from root (result_after root so_far status) statuses

-- the best that any of them says: the interrupt was quiesced; or it is pending; or nobody knows it
abbrev pub best_of : List ℕ → ℕ
best_of statuses =
    if list_any is_quiesced statuses then success
    else if list_any (λ status. status == source_pending) statuses then source_pending
    else not_found

-- The root chain comes to the best that any of its handlers says, in whatever order they are called.
abbrev pub RootComesToBest : Type 0
RootComesToBest = (statuses : List ℕ) → result_from true not_found statuses ≡ best_of statuses

-- The chain of a GUID comes to the first SUCCESS or INTERRUPT_PENDING, and where there is none to the best that any of
-- its handlers says.
abbrev pub GuidComesToFirst : Type 0
GuidComesToFirst =
    (statuses : List ℕ) → result_from false not_found statuses ≡ unwrap_or (find is_final statuses) (best_of statuses)
