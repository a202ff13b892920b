-- What contracts see of a database, what holds of each, and when a call refuses.
use Rattle.std.specs.Prelude.{ℕ, ◌+◌, ◌-◌, ◌^◌, ◌<◌, ◌≤◌, Bool, if◌then◌else◌, ◌==◌, ◌&&◌, ◌||◌, not, is_some, nat_le, List, [], ◌∷◌, ◌++◌, length}
use Rattle.std.specs.Prelude.{All}
use Rattle.mm_base.specs.declared.guid.Guid.{Guid}
use Rattle.protocol_db.specs.Rows.{AreApart, has_handle, owned_by, row_at}
use Rattle.protocol_db.specs.declared.protocol_row.Row.{Row}

-- The rows in order of installation, the handle that the next new one gets, and whether installation is over.
pub record DbState : Type 0 where
  pub rows : List Row
  pub next : ℕ
  pub frozen : Bool

-- What holds of each database: each row's handle is below the next one, rows of one handle and one GUID are one, and no
-- image owns more than 16 rows.
pub record IsDb (rows : List Row) (next : ℕ) : Type 0 where
  pub below : All (λ row. row.handle < next) rows
  pub apart : AreApart rows
  pub few : (owner : ℕ) → length (owned_by owner rows) ≤ 16

-- Handle 0 asks for a new handle, which is the next one; any other is itself.
abbrev pub handle_for : ℕ → ℕ → ℕ
handle_for handle next = if handle == 0 then next else handle

-- The next handle after an installation: one higher where a new handle was asked for.
abbrev pub next_after : ℕ → ℕ → ℕ
next_after handle next = if handle == 0 then next + 1 else next

-- whether a handle is asked for that has no interface
abbrev pub is_unknown : ℕ → List Row → Bool
is_unknown handle rows = not (handle == 0) && not (has_handle handle rows)

-- whether a handle is asked for that has an interface for the GUID already
abbrev pub is_duplicate : ℕ → Guid → List Row → Bool
is_duplicate handle guid rows = not (handle == 0) && is_some (row_at handle guid rows)

-- whether a row is one too many: its image has 16, or a new handle is asked for and none is left
abbrev pub is_at_limit : ℕ → ℕ → DbState → Bool
is_at_limit handle owner db = nat_le 16 (length (owned_by owner db.rows)) || ((handle == 0) && (db.next == 2 ^ 64 - 1))

-- the row that is installed
abbrev pub row_for : ℕ → Guid → ℕ → ℕ → DbState → Row
row_for handle guid interface owner db =
    record { handle = handle_for handle db.next; guid = guid; interface = interface; owner = owner }

-- the database with that row, which is the last
abbrev pub with_row : ℕ → Guid → ℕ → ℕ → DbState → DbState
with_row handle guid interface owner db = record db {
  rows = db.rows ++ row_for handle guid interface owner db ∷ [];
  next = next_after handle db.next;
}
