-- Rows under their keys: what a look-up by key finds, and what its removal leaves.
use Rattle.std.proofs.Common.{◌≡◌, ℕ, Bool, true, false, cond, not, List, [], ◌∷◌, ◌++◌, None, Some, refl, sym, ap, subst, ◌∙◌}
use Rattle.std.specs.List.{filter, All}
use Rattle.std.specs.Map.{values_of, lookup, remove_entry}
use Rattle.std.specs.Map.Calls.{RetainsPairs}
use Rattle.std.proofs.lemmas.List.Elements.{All-cons, All-filter, All-head, All-push, All-tail}
use Rattle.indexmap.specs.IndexMap.{IndexMap, insert_entry, values}
use Rattle.indexmap.proofs.CallerLemmas.{filter-RetainsPairs, insert_entry-new}
use Rattle.mm_base.specs.declared.guid.Guid.{Guid}
use Rattle.protocol_db.specs.KeysInside.{AreKeyed, key_of}
use Rattle.protocol_db.specs.Rows.{AreApart, is_at, row_at, without_row}
use Rattle.protocol_db.specs.declared.protocol_row.Row.{Row}
use Rattle.protocol_db.specs.declared.row_map.Key.{Key}
use Rattle.protocol_db.proofs.ListLemmas.{AllPairs-tail}
use Rattle.protocol_db.proofs.RowLemmas.{Differ, none_later, without_row-later}

-- An entry stands under the key of its row.
abbrev pub IsKeyed : Key × Row → Type 0
IsKeyed entry = entry.0 ≡ key_of entry.1

module _ (handle : ℕ) (guid : Guid) (test : Key → Bool) (same : (row : Row) → test (key_of row) ≡ is_at handle guid row) where
  -- a key passes the test of a look-up where its row is of the handle and the GUID
  pub tested : (entry : Key × Row) → IsKeyed entry → test entry.0 ≡ is_at handle guid entry.1
  tested entry keyed = ap test keyed ∙ same entry.1

  pub lookup-row_at : (entries : List (Key × Row)) → AreKeyed entries → lookup test entries ≡ row_at handle guid (values_of entries)
  lookup-row_at [] keyed = refl
  lookup-row_at (entry ∷ entries) keyed =
      ap (λ b. cond b (Some entry.1) (lookup test entries)) (tested entry (All-head IsKeyed entry entries keyed))
      ∙ ap (λ rest. cond (is_at handle guid entry.1) (Some entry.1) rest) (lookup-row_at entries (All-tail IsKeyed entry entries keyed))

  pub values-remove_entry : (entries : List (Key × Row)) → AreKeyed entries → AreApart (values_of entries)
      → values_of (remove_entry test entries) ≡ without_row handle guid (values_of entries)
  values-remove_entry [] keyed apart = refl
  values-remove_entry (entry ∷ entries) keyed apart =
      let rows : List Row = values_of entries in
      ap (λ b. values_of (cond b entries (entry ∷ remove_entry test entries))) (tested entry (All-head IsKeyed entry entries keyed))
      ∙ elim (is_at handle guid entry.1) as (λ b. is_at handle guid entry.1 ≡ b
      → values_of (cond b entries (entry ∷ remove_entry test entries))
      ≡ cond (not b) (entry.1 ∷ without_row handle guid rows) (without_row handle guid rows)) [
        | true ↦ λ at. sym (without_row-later handle guid rows (none_later handle guid entry.1 rows apart at))
        | false ↦ λ _.
            ap (λ rest. entry.1 ∷ rest)
            (values-remove_entry entries (All-tail IsKeyed entry entries keyed) (AllPairs-tail Differ entry.1 rows apart))
      ] refl

-- what is left after a removal is a part of what was there
pub All-remove_entry : {K X : Type 0} (P : K × X → Type 0) (test : K → Bool) (entries : List (K × X))
    → All P entries → All P (remove_entry test entries)
All-remove_entry P test [] each = each
All-remove_entry P test (entry ∷ entries) each =
    elim (test entry.0) as (λ b. All P (cond b entries (entry ∷ remove_entry test entries))) [
      | true ↦ All-tail P entry entries each
      | false ↦
          All-cons P entry (remove_entry test entries) (All-head P entry entries each)
          (All-remove_entry P test entries (All-tail P entry entries each))
    ]

-- filtering entries by their values filters the values
pub values-filter : {K X : Type 0} (p : X → Bool) (entries : List (K × X))
    → values_of (filter (λ entry. p entry.1) entries) ≡ filter p (values_of entries)
values-filter p [] = refl
values-filter p (entry ∷ entries) =
    elim (p entry.1) as (λ b. values_of (cond b (entry ∷ filter (λ e. p e.1) entries) (filter (λ e. p e.1) entries))
    ≡ cond b (entry.1 ∷ filter p (values_of entries)) (filter p (values_of entries))) [
      | true ↦ ap (λ rest. entry.1 ∷ rest) (values-filter p entries)
      | false ↦ values-filter p entries
    ]

-- one more row under its key
pub AreKeyed-push : (entries : List (Key × Row)) (key : Key) (row : Row) → AreKeyed entries → key ≡ key_of row → AreKeyed (entries ++ (key, row) ∷ [])
AreKeyed-push entries key row keyed its = All-push IsKeyed entries (key, row) keyed its

-- a row whose handle and GUID no row has goes last, under its key
pub insert_entry-row : {S : Type 0} (map : IndexMap Key Row S) (eq : Key → Key → Bool) (key : Key) (row : Row) → AreKeyed map.entries
    → key ≡ key_of row → ((other : Row) → eq (key_of row) (key_of other) ≡ is_at row.handle row.guid other)
    → row_at row.handle row.guid (values map) ≡ None → insert_entry eq map.entries key row ≡ map.entries ++ (key, row) ∷ []
insert_entry-row map eq key row keyed its same none =
    insert_entry-new eq map key row
    (ap (λ k. lookup (eq k) map.entries) its ∙ lookup-row_at row.handle row.guid (eq (key_of row)) same map.entries keyed ∙ none)

-- What is kept of entries by a test of their rows, which keeps no state and leaves each row as it was.
module _ {F : Type 0} (T : F → Key → Row → Bool → Row → F → Type 0) (stays : Row → Bool) (f : F)
    (says : (k : Key) (v : Row) (b : Bool) (w : Row) (g : F) → T f k v b w g → (b ≡ stays v) × (w ≡ v) × (g ≡ f))
    (entries kept : List (Key × Row)) (retained : RetainsPairs T f entries kept) where
  kept-filter : kept ≡ filter (λ entry. stays entry.1) entries
  kept-filter = filter-RetainsPairs T (λ entry. stays entry.1) f says entries kept retained

  pub AreKeyed-retained : AreKeyed entries → AreKeyed kept
  AreKeyed-retained keyed = subst AreKeyed (sym kept-filter) (All-filter (λ entry. stays entry.1) IsKeyed entries keyed)

  pub values-retained : values_of kept ≡ filter stays (values_of entries)
  values-retained = ap values_of kept-filter ∙ values-filter stays entries
