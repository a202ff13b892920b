-- No public clause cites this file.
-- What a row is looked up by, and what holds of the rows under their keys and of the counts beside them.
use Rattle.std.specs.Prelude.{◌≡◌, ℕ, All, List}
use Rattle.std.specs.Map.{values_of}
use Rattle.mm_base.specs.declared.guid.Guid.{Guid}
use Rattle.protocol_db.specs.CountsInside.{AreCounts}
use Rattle.protocol_db.specs.declared.protocol_row.Row.{Row}
use Rattle.protocol_db.specs.declared.row_map.Key.{Key}

-- the key of a row
abbrev pub key_of : Row → Key
key_of row = record { handle = row.handle; guid = row.guid }

-- Each row stands under its own key.
abbrev pub AreKeyed : List (Key × Row) → Type 0
AreKeyed = All (λ entry. entry.0 ≡ key_of entry.1)

-- So it is of all rows, and the counts are theirs.
pub record AreRows (entries : List (Key × Row)) (counts : List (Guid × ℕ)) : Type 0 where
  pub keyed : AreKeyed entries
  pub counted : AreCounts counts (values_of entries)
