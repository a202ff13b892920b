-- A replay goes on by one request.
use Rattle.std.proofs.Common.{◌≡◌, suc, List, [], ◌∷◌, ◌++◌, length, map, refl, ap, ◌∙◌}
use Rattle.std.proofs.lemmas.List.{length-map, map-append}
use Rattle.mm_base.specs.Replay.{replayed, left_by, outcomes}
use Rattle.mm_base.specs.declared.entry.Entry.{Entry}
use Rattle.mm_base.specs.declared.entry.Outcome.{Outcome}
use Rattle.mm_base.specs.declared.entry.Request.{Request}
use Rattle.mm_history.proofs.RunLemmas.{replayed-snoc}

module _ {M : Type 0} (step : M → Request → Outcome × M) where
  pub length-replayed : (m : M) (rs : List Request) → length (replayed step m rs) ≡ length rs
  length-replayed m [] = refl
  length-replayed m (q ∷ rs) = ap suc (length-replayed (step m q).1 rs)

  module _ (m : M) (rs : List Request) where
    pub length-outcomes : length (outcomes step m rs) ≡ length rs
    length-outcomes = length-map (replayed step m rs) (λ (e : Entry). e.outcome) ∙ length-replayed m rs

    pub outcomes-snoc : (r : Request) → outcomes step m (rs ++ r ∷ []) ≡ outcomes step m rs ++ (step (left_by step m rs) r).0 ∷ []
    outcomes-snoc r =
        ap (map (λ (e : Entry). e.outcome)) (replayed-snoc step m rs r)
        ∙ map-append (λ (e : Entry). e.outcome) (replayed step m rs) (record { request = r; outcome = (step (left_by step m rs) r).0 } ∷ [])
