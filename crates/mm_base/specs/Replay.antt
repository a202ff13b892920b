-- The replay of requests on a machine, which is given by one function from its value and a request to the outcome
-- and the value after it.
use Rattle.std.specs.Prelude.{List, [], ◌∷◌, map}
use Rattle.mm_base.specs.declared.entry.Request.{Request}
use Rattle.mm_base.specs.declared.entry.Outcome.{Outcome}
use Rattle.mm_base.specs.declared.entry.Entry.{Entry}

-- the requests in order, each with the outcome that it has after those before it
abbrev pub replayed : {M : Type 0} → (M → Request → Outcome × M) → M → List Request → List Entry
replayed step machine [] = []
replayed step machine (request ∷ requests) =
    record { request = request; outcome = (step machine request).0 } ∷ replayed step (step machine request).1 requests

-- the value that stepping through these requests leaves
abbrev pub left_by : {M : Type 0} → (M → Request → Outcome × M) → M → List Request → M
left_by step machine [] = machine
left_by step machine (request ∷ requests) = left_by step (step machine request).1 requests

-- the outcomes of the replay
abbrev pub outcomes : {M : Type 0} → (M → Request → Outcome × M) → M → List Request → List Outcome
outcomes step machine requests = map (λ entry. entry.outcome) (replayed step machine requests)
