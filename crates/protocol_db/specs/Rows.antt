-- The rows of a database: each is one interface that an image installed on a handle for a GUID. They stand in order of
-- installation.
use Rattle.std.specs.Prelude.{◌≡◌, ℕ, Bool, false, ◌==◌, ◌&&◌, not, List, filter, find, AllPairs, Option}
use Rattle.std.specs.List.{list_any}
use Rattle.mm_base.specs.Guid.{same_guid}
use Rattle.mm_base.specs.declared.guid.Guid.{Guid}
use Rattle.protocol_db.specs.declared.protocol_row.Row.{Row}

-- whether a row is of this handle
abbrev pub is_of_handle : ℕ → Row → Bool
is_of_handle handle row = handle == row.handle

-- whether it is of this GUID
abbrev pub is_of_guid : Guid → Row → Bool
is_of_guid guid row = same_guid guid row.guid

-- whether it is this handle's for this GUID
abbrev pub is_at : ℕ → Guid → Row → Bool
is_at handle guid row = is_of_handle handle row && is_of_guid guid row

-- whether it is this handle's for this GUID, with this interface
abbrev pub is_interface : ℕ → Guid → ℕ → Row → Bool
is_interface handle guid interface row = is_at handle guid row && (row.interface == interface)

-- whether this image installed it
abbrev pub is_owned_by : ℕ → Row → Bool
is_owned_by owner row = row.owner == owner

-- whether a handle has an interface, for whatever GUID: a handle is there as long as it has one
abbrev pub has_handle : ℕ → List Row → Bool
has_handle handle rows = list_any (is_of_handle handle) rows

-- the row of this handle and this GUID, if there is one
abbrev pub row_at : ℕ → Guid → List Row → Option Row
row_at handle guid rows = find (is_at handle guid) rows

-- the same, where it has this interface
abbrev pub row_with : ℕ → Guid → ℕ → List Row → Option Row
row_with handle guid interface rows = find (is_interface handle guid interface) rows

-- the rows of a GUID, and the first of them
abbrev pub rows_of : Guid → List Row → List Row
rows_of guid rows = filter (is_of_guid guid) rows

abbrev pub first_of : Guid → List Row → Option Row
first_of guid rows = find (is_of_guid guid) rows

-- the rows that an image installed
abbrev pub owned_by : ℕ → List Row → List Row
owned_by owner rows = filter (is_owned_by owner) rows

-- the rows but for that of this handle and this GUID
abbrev pub without_row : ℕ → Guid → List Row → List Row
without_row handle guid rows = filter (λ row. not (is_at handle guid row)) rows

-- the rows but for those of an image
abbrev pub without_owner : ℕ → List Row → List Row
without_owner owner rows = filter (λ row. not (is_owned_by owner row)) rows

-- Rows of one handle and one GUID are one.
abbrev pub AreApart : List Row → Type 0
AreApart = AllPairs (λ row later. is_at row.handle row.guid later ≡ false)
