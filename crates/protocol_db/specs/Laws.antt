-- What follows of rows, of what is installed and of what is removed, in the words of the services that images call.
use Rattle.std.specs.Prelude.{◌≡◌, ℕ, ◌≤◌, ◌==◌, ◌&&◌, true, false, List, [], ◌∷◌, ◌++◌, slice_get, All, None, Some}
use Rattle.mm_base.specs.Guid.{same_guid}
use Rattle.mm_base.specs.declared.guid.Guid.{Guid}
use Rattle.protocol_db.specs.ProtocolDb.{DbState, IsDb, handle_for, is_duplicate, row_for, with_row}
use Rattle.protocol_db.specs.Rows.{AreApart, first_of, has_handle, is_at, owned_by, row_at, rows_of, without_owner, without_row}
use Rattle.protocol_db.specs.declared.protocol_row.Row.{Row}

-- Rows of one handle and GUID are one: what is found by a row's handle and GUID is that row.
abbrev pub EachIsFound : Type 0
EachIsFound = (rows : List Row) → AreApart rows → All (λ row. row_at row.handle row.guid rows ≡ Some row) rows

-- A handle without an interface has none for any GUID.
abbrev pub UnknownHasNone : Type 0
UnknownHasNone = (handle : ℕ) (guid : Guid) (rows : List Row) → has_handle handle rows ≡ false → row_at handle guid rows ≡ None

-- A handle that has an interface for a GUID is there.
abbrev pub FoundIsThere : Type 0
FoundIsThere =
    (handle : ℕ) (guid : Guid) (rows : List Row) (row : Row)
    → row_at handle guid rows ≡ Some row
    → has_handle handle rows ≡ true

-- What was installed is found by the handle that was answered.
abbrev pub InstalledIsFound : Type 0
InstalledIsFound =
    (handle : ℕ) (guid : Guid) (interface owner : ℕ) (db : DbState)
    → IsDb db.rows db.next
    → is_duplicate handle guid db.rows ≡ false
    → row_at (handle_for handle db.next) guid (with_row handle guid interface owner db).rows
    ≡ Some (row_for handle guid interface owner db)

-- Whatever is of another handle or another GUID is found as before.
abbrev pub OthersAreFound : Type 0
OthersAreFound =
    (handle : ℕ) (guid : Guid) (interface owner other : ℕ) (its : Guid) (db : DbState)
    → is_at other its (row_for handle guid interface owner db) ≡ false
    → row_at other its (with_row handle guid interface owner db).rows ≡ row_at other its db.rows

-- Of the rows of its GUID it is the last: so the places that were told of them stay.
abbrev pub InstalledIsLast : Type 0
InstalledIsLast =
    (handle : ℕ) (guid : Guid) (interface owner : ℕ) (db : DbState)
    → rows_of guid (with_row handle guid interface owner db).rows
    ≡ rows_of guid db.rows ++ row_for handle guid interface owner db ∷ []

-- The first of a GUID stays the first, whatever is installed.
abbrev pub FirstStays : Type 0
FirstStays =
    (handle : ℕ) (guid its : Guid) (interface owner : ℕ) (db : DbState) (first : Row)
    → first_of its db.rows ≡ Some first
    → first_of its (with_row handle guid interface owner db).rows ≡ Some first

-- Removing what was installed gives the rows back.
abbrev pub RemovedGivesBack : Type 0
RemovedGivesBack =
    (handle : ℕ) (guid : Guid) (interface owner : ℕ) (db : DbState)
    → IsDb db.rows db.next
    → is_duplicate handle guid db.rows ≡ false
    → without_row (handle_for handle db.next) guid (with_row handle guid interface owner db).rows ≡ db.rows

-- What was removed isn't found.
abbrev pub RemovedIsGone : Type 0
RemovedIsGone = (handle : ℕ) (guid : Guid) (rows : List Row) → row_at handle guid (without_row handle guid rows) ≡ None

-- Whatever is of another handle or another GUID is found as before.
abbrev pub OthersStay : Type 0
OthersStay =
    (handle other : ℕ) (guid its : Guid) (rows : List Row)
    → ((handle == other) && same_guid guid its) ≡ false
    → row_at other its (without_row handle guid rows) ≡ row_at other its rows

-- An image that is forgotten has no interface left.
abbrev pub ForgottenHasNone : Type 0
ForgottenHasNone = (owner : ℕ) (rows : List Row) → owned_by owner (without_owner owner rows) ≡ []

-- Each other image keeps its own, in their order.
abbrev pub OthersKeepTheirs : Type 0
OthersKeepTheirs =
    (owner other : ℕ) (rows : List Row)
    → (other == owner) ≡ false
    → owned_by other (without_owner owner rows) ≡ owned_by other rows

-- The first of a GUID is the one at place 0 of those of the GUID.
abbrev pub FirstIsAtZero : Type 0
FirstIsAtZero = (guid : Guid) (rows : List Row) → first_of guid rows ≡ slice_get (rows_of guid rows) 0

-- Each handle that is told for a GUID has an interface for it, which is found there.
abbrev pub LocatedIsFound : Type 0
LocatedIsFound =
    (guid : Guid) (rows : List Row)
    → AreApart rows
    → All (λ row. row_at row.handle guid rows ≡ Some row) (rows_of guid rows)

-- A new handle has no interface when it is handed out.
abbrev pub NewIsFresh : Type 0
NewIsFresh = (db : DbState) → IsDb db.rows db.next → has_handle db.next db.rows ≡ false

-- The next handle never falls where an interface is installed, and no removal sets it: so no handle is handed out again.
abbrev pub NextNeverFalls : Type 0
NextNeverFalls =
    (handle : ℕ) (guid : Guid) (interface owner : ℕ) (db : DbState)
    → db.next ≤ (with_row handle guid interface owner db).next
