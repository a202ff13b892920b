-- Rows by handle and GUID: when two are of one, and what is found where they are apart.
use Rattle.std.proofs.Common.{◌≡◌, ℕ, ◌+◌, ◌==◌, ◌&&◌, Bool, true, false, cond, not, List, [], ◌∷◌, length, Option, None, Some}
use Rattle.std.proofs.Common.{refl, sym, ap, ◌∙◌, arith, eq-eqb}
use Rattle.std.specs.List.{All, slice_index_or}
use Rattle.std.specs.Str.{bytes_eq}
use Rattle.std.proofs.lemmas.Bool.{eqb-true}
use Rattle.std.proofs.lemmas.Slice.Eq.{bytes_eq-Decides}
use Rattle.mm_base.specs.declared.guid.Guid.{Guid}
use Rattle.protocol_db.specs.Rows.{AreApart, is_at, is_interface, row_at, row_with, without_row}
use Rattle.protocol_db.specs.declared.protocol_row.Row.{Row}
use Rattle.protocol_db.proofs.ListLemmas.{AllPairs-head, AllPairs-tail, both_ways, filter-all, find-none, find-none-all, none≢some}

-- The second is not of the first's handle and GUID.
abbrev pub Differ : Row → Row → Type 0
Differ row later = is_at row.handle row.guid later ≡ false

and-true-left : (a b : Bool) → (a && b) ≡ true → a ≡ true
and-true-left true b e = refl
and-true-left false b e = e

and-true-right : (a b : Bool) → (a && b) ≡ true → b ≡ true
and-true-right true b e = e
and-true-right false true e = refl
and-true-right false false e = e

and-true-both : (a b : Bool) → a ≡ true → b ≡ true → (a && b) ≡ true
and-true-both a b left right = ap (λ v. v && b) left ∙ right

module _ (handle : ℕ) (guid : Guid) (row : Row) where
  pub same_handle : is_at handle guid row ≡ true → handle ≡ row.handle
  same_handle at = eqb-true handle row.handle (and-true-left (handle == row.handle) (bytes_eq guid.0 row.guid.0) at)

  pub same_bytes : is_at handle guid row ≡ true → guid.0 ≡ row.guid.0
  same_bytes at =
      (bytes_eq-Decides guid.0 row.guid.0).0 (and-true-right (handle == row.handle) (bytes_eq guid.0 row.guid.0) at)

  pub is_at-same : handle ≡ row.handle → guid.0 ≡ row.guid.0 → is_at handle guid row ≡ true
  is_at-same handles bytes =
      and-true-both (handle == row.handle) (bytes_eq guid.0 row.guid.0) (eq-eqb handle row.handle handles)
      ((bytes_eq-Decides guid.0 row.guid.0).1 bytes)

  -- what is of the row's handle and GUID is of these, where the row is
  pub is_at-along : is_at handle guid row ≡ true → (other : Row) → is_at handle guid other ≡ is_at row.handle row.guid other
  is_at-along at other =
      ap (λ n. (n == other.handle) && bytes_eq guid.0 other.guid.0) (same_handle at)
      ∙ ap (λ bytes. (row.handle == other.handle) && bytes_eq bytes other.guid.0) (same_bytes at)

pub is_at-self : (row : Row) → is_at row.handle row.guid row ≡ true
is_at-self row = is_at-same row.handle row.guid row refl refl

-- of two rows each is of the other's handle and GUID, or neither
pub is_at-back : (row other : Row) → is_at row.handle row.guid other ≡ is_at other.handle other.guid row
is_at-back row other =
    both_ways (is_at row.handle row.guid other) (is_at other.handle other.guid row)
    (λ at. is_at-same other.handle other.guid row (sym (same_handle row.handle row.guid other at)) (sym (same_bytes row.handle row.guid other at)))
    (λ at. is_at-same row.handle row.guid other (sym (same_handle other.handle other.guid row at)) (sym (same_bytes other.handle other.guid row at)))

module _ (handle : ℕ) (guid : Guid) where
  -- where rows are apart and the first is of this handle and GUID, no later one is
  pub none_later : (row : Row) (rows : List Row) → AreApart (row ∷ rows) → is_at handle guid row ≡ true
      → All (λ later. is_at handle guid later ≡ false) rows
  none_later row rows apart at =
      λ k d in'. is_at-along handle guid row at (slice_index_or rows k d) ∙ AllPairs-head Differ row rows apart k d in'

  -- so that nothing is removed of them
  pub without_row-later : (rows : List Row) → All (λ later. is_at handle guid later ≡ false) rows → without_row handle guid rows ≡ rows
  without_row-later rows none = filter-all (λ row. not (is_at handle guid row)) rows (λ k d in'. ap not (none k d in'))

  -- removing a row that is there removes one
  pub without_row-alone : (rows : List Row) (row : Row) → AreApart rows → row_at handle guid rows ≡ Some row
      → length rows ≡ length (without_row handle guid rows) + 1
  without_row-alone [] row apart found = cc
  without_row-alone (first ∷ rows) row apart found =
      elim (is_at handle guid first) as (λ b. is_at handle guid first ≡ b
      → cond b (Some first) (row_at handle guid rows) ≡ Some row
      → length (first ∷ rows) ≡ length (cond (not b) (first ∷ without_row handle guid rows) (without_row handle guid rows)) + 1) [
        | true ↦ λ at _. omega (arith, ap length (without_row-later rows (none_later first rows apart at)))
        | false ↦ λ _ later. omega (arith, without_row-alone rows row (AllPairs-tail Differ first rows apart) later)
      ] refl found

  module _ (interface : ℕ) where
    -- no row of this handle and GUID has an interface, where there is none
    pub row_with-later : (rows : List Row) → All (λ later. is_at handle guid later ≡ false) rows → row_with handle guid interface rows ≡ None
    row_with-later rows none =
        find-none (is_interface handle guid interface) rows
        (λ k d in'. ap (λ b. b && ((slice_index_or rows k d).interface == interface)) (none k d in'))

    -- the one row of this handle and GUID has the interface, or none has
    pub row_with-found : (rows : List Row) (row : Row) → AreApart rows → row_at handle guid rows ≡ Some row
        → row_with handle guid interface rows ≡ cond (row.interface == interface) (Some row) None
    row_with-found [] row apart found = cc
    row_with-found (first ∷ rows) row apart found =
        elim (is_at handle guid first) as (λ b. is_at handle guid first ≡ b
        → cond b (Some first) (row_at handle guid rows) ≡ Some row
        → cond (b && (first.interface == interface)) (Some first) (row_with handle guid interface rows)
        ≡ cond (row.interface == interface) (Some row) None) [
          | true ↦ λ at here.
              let same : first ≡ row = cc in
              ap (λ rest. cond (first.interface == interface) (Some first) rest) (row_with-later rows (none_later first rows apart at))
              ∙ ap {A = Row} {B = Option Row} (λ r. cond (r.interface == interface) (Some r) None) same
          | false ↦ λ _ later. row_with-found rows row (AllPairs-tail Differ first rows apart) later
        ] refl found

    -- where there is no row of this handle and GUID, none has the interface
    pub row_with-none : (rows : List Row) → row_at handle guid rows ≡ None → row_with handle guid interface rows ≡ None
    row_with-none rows none = row_with-later rows (find-none-all (is_at handle guid) rows none)

    -- so where one has it, removing it removes one
    pub without_row-alone_with : (rows : List Row) (row : Row) → AreApart rows → row_with handle guid interface rows ≡ Some row
        → length rows ≡ length (without_row handle guid rows) + 1
    without_row-alone_with rows row apart found =
        elim (row_at handle guid rows) as (λ at. row_at handle guid rows ≡ at → length rows ≡ length (without_row handle guid rows) + 1) [
          | None ↦ λ none. absurd (none≢some row (sym (row_with-none rows none) ∙ found))
          | Some one ↦ λ there. without_row-alone rows one apart there
        ] refl
