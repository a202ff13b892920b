-- A machine with the entries that it served, and when such a history is the replay of its requests.
use Rattle.std.specs.Prelude.{◌≡◌, List, map}
use Rattle.mm_base.specs.Replay.{replayed, left_by}
use Rattle.mm_base.specs.declared.entry.Entry.{Entry}
use Rattle.mm_base.specs.declared.entry.Outcome.{Outcome}
use Rattle.mm_base.specs.declared.entry.Request.{Request}

-- What contracts see of a history: its machine as it is now, and its entries in recorded order.
pub record KeptState (M : Type 0) : Type 0 where
  pub machine : M
  pub entries : List Entry

-- the requests of entries, in order
abbrev pub requests_of : List Entry → List Request
requests_of entries = map (λ entry. entry.request) entries

-- A history is the replay of its requests from a machine value: its entries are what the machine, from this value on,
-- makes of these requests one after another, and its machine is what they leave.
pub record IsReplay {M : Type 0} (step : M → Request → Outcome × M) (start : M) (kept : KeptState M) : Type 0 where
  pub entries : kept.entries ≡ replayed step start (requests_of kept.entries)
  pub machine : kept.machine ≡ left_by step start (requests_of kept.entries)
