-- What follows of rows, of what is installed and of what is removed.
use Rattle.std.proofs.Common.{◌≡◌, ℕ, ◌==◌, ◌&&◌, ◌||◌, Bool, true, false, cond, not, List, [], ◌∷◌, ◌++◌}
use Rattle.std.proofs.Common.{Option, None, Some, refl, sym, ap, ◌∙◌, eq-eqb, true≢false}
use Rattle.std.specs.List.{find, All, slice_index_or}
use Rattle.std.specs.Option.{option_or}
use Rattle.std.specs.Str.{bytes_eq}
use Rattle.std.proofs.lemmas.Bool.{eqb-true, ne_eqb}
use Rattle.std.proofs.lemmas.List.{append-nil}
use Rattle.std.proofs.lemmas.List.Elements.{All-cons, All-filter, All-nil, filter-append}
use Rattle.std.proofs.lemmas.List.Folds.{find-append, list_any_none}
use Rattle.std.proofs.lemmas.Slice.Eq.{bytes_eq-Decides}
use Rattle.mm_base.specs.Guid.{same_guid}
use Rattle.mm_base.specs.declared.guid.Guid.{Guid}
use Rattle.protocol_db.specs.ProtocolDb.{DbState, IsDb, is_duplicate, row_for}
use Rattle.protocol_db.specs.Rows.{AreApart, first_of, has_handle, is_at, is_of_guid, is_of_handle, is_owned_by, owned_by, row_at, rows_of, without_owner, without_row}
use Rattle.protocol_db.specs.declared.protocol_row.Row.{Row}
use Rattle.protocol_db.proofs.DbLemmas.{absent, new-fresh}
use Rattle.protocol_db.proofs.ListLemmas.{AllPairs-head, AllPairs-tail, filter-apart, filter-passes, find-none-all, none≢some}
use Rattle.protocol_db.proofs.RowLemmas.{Differ, is_at-back, is_at-same, is_at-self, same_bytes, same_handle, without_row-later}

pub each_is_found : (rows : List Row) → AreApart rows → All (λ row. row_at row.handle row.guid rows ≡ Some row) rows
each_is_found [] apart = All-nil (λ row. row_at row.handle row.guid [] ≡ Some row)
each_is_found (row ∷ rows) apart =
    All-cons (λ r. row_at r.handle r.guid (row ∷ rows) ≡ Some r) row rows
    (ap (λ b. cond b (Some row) (row_at row.handle row.guid rows)) (is_at-self row))
    (λ k d in'.
    let later : Row = slice_index_or rows k d in
    ap (λ b. cond b (Some row) (row_at later.handle later.guid rows))
    (is_at-back later row ∙ AllPairs-head Differ row rows apart k d in')
    ∙ each_is_found rows (AllPairs-tail Differ row rows apart) k d in')

pub unknown_has_none : (handle : ℕ) (guid : Guid) (rows : List Row) → has_handle handle rows ≡ false → row_at handle guid rows ≡ None
unknown_has_none handle guid [] none = refl
unknown_has_none handle guid (row ∷ rows) none =
    elim (handle == row.handle) as (λ b. (b || has_handle handle rows) ≡ false
    → cond (b && bytes_eq guid.0 row.guid.0) (Some row) (row_at handle guid rows) ≡ None) [
      | true ↦ λ e. absurd (true≢false e)
      | false ↦ λ e. unknown_has_none handle guid rows e
    ] none

pub found_is_there : (handle : ℕ) (guid : Guid) (rows : List Row) (row : Row)
    → row_at handle guid rows ≡ Some row → has_handle handle rows ≡ true
found_is_there handle guid rows row found =
    elim (has_handle handle rows) as (λ b. has_handle handle rows ≡ b → b ≡ true) [
      | true ↦ λ _. refl
      | false ↦ λ none. absurd (none≢some row (sym (unknown_has_none handle guid rows none) ∙ found))
    ] refl

option_or-none : {X : Type 0} (found : Option X) → option_or found None ≡ found
option_or-none None = refl
option_or-none (Some x) = refl

module _ (handle : ℕ) (guid : Guid) (interface owner : ℕ) (db : DbState) where
  abbrev row : Row
  row = row_for handle guid interface owner db

  pub others_are_found : (other : ℕ) (its : Guid) → is_at other its row ≡ false → row_at other its (db.rows ++ row ∷ []) ≡ row_at other its db.rows
  others_are_found other its apart =
      find-append (is_at other its) db.rows (row ∷ [])
      ∙ ap (λ b. option_or (row_at other its db.rows) (cond b (Some row) None)) apart
      ∙ option_or-none (row_at other its db.rows)

  pub installed_is_last : rows_of guid (db.rows ++ row ∷ []) ≡ rows_of guid db.rows ++ row ∷ []
  installed_is_last =
      filter-append (is_of_guid guid) db.rows (row ∷ [])
      ∙ ap (λ b. rows_of guid db.rows ++ cond b (row ∷ []) []) ((bytes_eq-Decides guid.0 guid.0).1 refl)

  pub first_stays : (its : Guid) (first : Row) → first_of its db.rows ≡ Some first → first_of its (db.rows ++ row ∷ []) ≡ Some first
  first_stays its first found =
      find-append (is_of_guid its) db.rows (row ∷ []) ∙ ap (λ o. option_or o (first_of its (row ∷ []))) found

  module _ (is : IsDb db.rows db.next) (single : is_duplicate handle guid db.rows ≡ false) where
    none_yet : row_at row.handle guid db.rows ≡ None
    none_yet = absent db.rows db.next is handle guid single

    pub installed_is_found : row_at row.handle guid (db.rows ++ row ∷ []) ≡ Some row
    installed_is_found =
        find-append (is_at row.handle guid) db.rows (row ∷ [])
        ∙ ap (λ o. option_or o (row_at row.handle guid (row ∷ []))) none_yet
        ∙ ap (λ b. cond b (Some row) None) (is_at-self row)

    pub removed_gives_back : without_row row.handle guid (db.rows ++ row ∷ []) ≡ db.rows
    removed_gives_back =
        filter-append (λ r. not (is_at row.handle guid r)) db.rows (row ∷ [])
        ∙ ap (λ b. without_row row.handle guid db.rows ++ cond (not b) (row ∷ []) []) (is_at-self row)
        ∙ append-nil (without_row row.handle guid db.rows)
        ∙ without_row-later row.handle guid db.rows (find-none-all (is_at row.handle guid) db.rows none_yet)

pub removed_is_gone : (handle : ℕ) (guid : Guid) (rows : List Row) → row_at handle guid (without_row handle guid rows) ≡ None
removed_is_gone handle guid [] = refl
removed_is_gone handle guid (row ∷ rows) =
    let left : List Row = without_row handle guid rows in
    elim (is_at handle guid row) as (λ b. is_at handle guid row ≡ b → row_at handle guid (cond (not b) (row ∷ left) left) ≡ None) [
      | true ↦ λ _. removed_is_gone handle guid rows
      | false ↦ λ fails. ap (λ b. cond b (Some row) (row_at handle guid left)) fails ∙ removed_is_gone handle guid rows
    ] refl

false-from : (b : Bool) → (b ≡ true → ⊥) → b ≡ false
false-from true never = absurd (never refl)
false-from false never = refl

module _ (handle other : ℕ) (guid its : Guid) (apart : ((handle == other) && same_guid guid its) ≡ false) where
  -- no row is of both
  of-one : (row : Row) → is_at handle guid row ≡ true → is_at other its row ≡ false
  of-one row at =
      false-from (is_at other its row)
      (λ too. true≢false (sym (is_at-same handle guid (record { handle = other; guid = its; interface = 0; owner = 0 })
      (same_handle handle guid row at ∙ sym (same_handle other its row too))
      (same_bytes handle guid row at ∙ sym (same_bytes other its row too))) ∙ apart))

  pub others_stay : (rows : List Row) → row_at other its (without_row handle guid rows) ≡ row_at other its rows
  others_stay [] = refl
  others_stay (row ∷ rows) =
      let left : List Row = without_row handle guid rows in
      elim (is_at handle guid row) as (λ b. is_at handle guid row ≡ b
      → row_at other its (cond (not b) (row ∷ left) left) ≡ cond (is_at other its row) (Some row) (row_at other its rows)) [
        | true ↦ λ at. others_stay rows ∙ sym (ap (λ b. cond b (Some row) (row_at other its rows)) (of-one row at))
        | false ↦ λ _. ap (λ rest. cond (is_at other its row) (Some row) rest) (others_stay rows)
      ] refl

pub located_is_found : (guid : Guid) (rows : List Row) → AreApart rows → All (λ row. row_at row.handle guid rows ≡ Some row) (rows_of guid rows)
located_is_found guid rows apart =
    λ k d in'.
    let row : Row = slice_index_or (rows_of guid rows) k d in
    let of_guid : guid.0 ≡ row.guid.0 = (bytes_eq-Decides guid.0 row.guid.0).0 (filter-passes (is_of_guid guid) rows k d in') in
    ap (λ bytes. find (λ (r : Row). (row.handle == r.handle) && bytes_eq bytes r.guid.0) rows) of_guid
    ∙ All-filter (is_of_guid guid) (λ r. row_at r.handle r.guid rows ≡ Some r) rows (each_is_found rows apart) k d in'

pub new_is_fresh : (db : DbState) → IsDb db.rows db.next → has_handle db.next db.rows ≡ false
new_is_fresh db is = list_any_none (is_of_handle db.next) db.rows (new-fresh db.rows db.next is)

pub others_keep_theirs : (owner other : ℕ) (rows : List Row) → (other == owner) ≡ false
    → owned_by other (without_owner owner rows) ≡ owned_by other rows
others_keep_theirs owner other rows apart =
    filter-apart (is_owned_by other) (is_owned_by owner)
    (λ row own. ne_eqb row.owner other
    (λ same. true≢false (sym (eq-eqb other owner (sym same ∙ eqb-true row.owner owner own)) ∙ apart)))
    rows
