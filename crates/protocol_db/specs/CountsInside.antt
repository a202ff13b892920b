-- No public clause cites this file.
-- How many rows each GUID has, by a list of GUIDs with their counts.
use Rattle.std.specs.Prelude.{◌≡◌, ℕ, List, length, is_some, nat_lt}
use Rattle.std.specs.Map.{lookup, count_at}
use Rattle.mm_base.specs.Guid.{same_guid}
use Rattle.mm_base.specs.declared.guid.Guid.{Guid}
use Rattle.protocol_db.specs.Rows.{rows_of}
use Rattle.protocol_db.specs.declared.protocol_row.Row.{Row}

-- how often a GUID is counted: 0 where it has no entry
abbrev pub count_in : Guid → List (Guid × ℕ) → ℕ
count_in guid counts = count_at (λ one. lookup (same_guid one) counts) guid

-- A GUID has an entry exactly where its count is above 0.
abbrev pub AreAboveZero : List (Guid × ℕ) → Type 0
AreAboveZero counts = (guid : Guid) → is_some (lookup (same_guid guid) counts) ≡ nat_lt 0 (count_in guid counts)

-- The count of each GUID is how many rows are of it.
abbrev pub AreCounts : List (Guid × ℕ) → List Row → Type 0
AreCounts counts rows = (guid : Guid) → count_in guid counts ≡ length (rows_of guid rows)
