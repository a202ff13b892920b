-- What it means for a history to be the replay of its requests, for every machine.
use Rattle.std.specs.Prelude.{◌≡◌, ℕ, take, Some, slice_get}
use Rattle.mm_base.specs.Replay.{replayed, left_by}
use Rattle.mm_base.specs.declared.entry.Entry.{Entry}
use Rattle.mm_base.specs.declared.entry.Outcome.{Outcome}
use Rattle.mm_base.specs.declared.entry.Request.{Request}
use Rattle.mm_history.specs.History.{KeptState, IsReplay, requests_of}

-- Two histories from one machine value that have the same requests are the same: outcomes and machine.
abbrev pub RequestsDecide : {M : Type 0} → (M → Request → Outcome × M) → Type 0
RequestsDecide {M} step =
    (start : M) (one other : KeptState M)
    → IsReplay step start one
    → IsReplay step start other
    → requests_of one.entries ≡ requests_of other.entries
    → one ≡ other

-- The first n entries are the replay of the first n requests, whatever came after them.
abbrev pub FrontsAreReplayed : {M : Type 0} → (M → Request → Outcome × M) → Type 0
FrontsAreReplayed {M} step =
    (start : M) (kept : KeptState M) (n : ℕ)
    → IsReplay step start kept
    → take n kept.entries ≡ replayed step start (take n (requests_of kept.entries))

-- The outcome of each entry is what the machine, as the requests before it left it, gives for the entry's request.
abbrev pub EachInItsPlace : {M : Type 0} → (M → Request → Outcome × M) → Type 0
EachInItsPlace {M} step =
    (start : M) (kept : KeptState M) (place : ℕ) (entry : Entry)
    → IsReplay step start kept
    → slice_get kept.entries place ≡ Some entry
    → entry.outcome ≡ (step (left_by step start (take place (requests_of kept.entries))) entry.request).0
