-- What holds of a database still holds where a row comes, and where some go.
use Rattle.std.proofs.Common.{◌≡◌, ◌<◌, ◌≤◌, ℕ, ◌+◌, ◌==◌, ◌&&◌, ◌||◌, Bool, true, false, cond, not, nat_le, is_some, List, [], ◌∷◌, ◌++◌, length}
use Rattle.std.proofs.Common.{Option, None, Some, refl, sym, ap, subst, ◌∙◌, arith, inl, inr, true≢false}
use Rattle.std.specs.List.{filter, All, slice_index_or}
use Rattle.std.specs.Str.{bytes_eq}
use Rattle.std.proofs.lemmas.Bool.{cases_eq, eqb-true, leb-false, ne_eqb}
use Rattle.std.proofs.lemmas.List.Elements.{All-filter, All-head, All-push, All-tail}
use Rattle.std.proofs.lemmas.List.Kept.{AllPairs-filter}
use Rattle.std.proofs.lemmas.List.Quantifiers.{all_pairs_push}
use Rattle.mm_base.specs.declared.guid.Guid.{Guid}
use Rattle.protocol_db.specs.ProtocolDb.{IsDb, handle_for, is_at_limit, is_duplicate, is_unknown, next_after}
use Rattle.protocol_db.specs.Rows.{has_handle, is_at, is_owned_by, owned_by, row_at}
use Rattle.protocol_db.specs.declared.protocol_row.Row.{Row}
use Rattle.protocol_db.proofs.ListLemmas.{find-none, find-none-all, length-filter_filter, length-filter_push}
use Rattle.protocol_db.proofs.RowLemmas.{Differ, is_at-back}

none-from : {X : Type 0} (found : Option X) → is_some found ≡ false → found ≡ None
none-from None e = refl
none-from (Some x) e = cc

or-false-left : (a b : Bool) → (a || b) ≡ false → a ≡ false
or-false-left true b e = e
or-false-left false b e = refl

cond-le-one : (b : Bool) → cond b 1 0 ≤ 1
cond-le-one true = omega arith
cond-le-one false = omega arith

-- a handle that has an interface is below the next one
handle-below : (handle next : ℕ) (rows : List Row) → All (λ row. row.handle < next) rows → has_handle handle rows ≡ true → handle < next
handle-below handle next [] below any = absurd (true≢false (sym any))
handle-below handle next (row ∷ rows) below any =
    let Below : Row → Type 0 = λ row. row.handle < next in
    elim (handle == row.handle) as (λ b. (handle == row.handle) ≡ b → (b || has_handle handle rows) ≡ true → handle < next) [
      | true ↦ λ same _. omega (arith, eqb-true handle row.handle same, All-head Below row rows below)
      | false ↦ λ _ later. handle-below handle next rows (All-tail Below row rows below) later
    ] refl any

-- the next handle never falls where one is installed
pub next-rises : (handle next : ℕ) → next ≤ next_after handle next
next-rises handle next = elim (handle == 0) as (λ b. next ≤ cond b (next + 1) next) [ true ↦ omega arith | false ↦ omega arith ]

module _ (rows : List Row) (next : ℕ) (is : IsDb rows next) where
  -- a new handle has no interface
  pub new-fresh : All (λ row. (next == row.handle) ≡ false) rows
  new-fresh = λ k d in'. ne_eqb next (slice_index_or rows k d).handle (λ same. absurd (omega (arith, is.below k d in', same)))

  new-absent : (guid : Guid) → row_at next guid rows ≡ None
  new-absent guid =
      find-none (is_at next guid) rows
      (λ k d in'. ap (λ b. b && bytes_eq guid.0 (slice_index_or rows k d).guid.0) (new-fresh k d in'))

  -- what is installed on has no interface for the GUID
  pub absent : (handle : ℕ) (guid : Guid) → is_duplicate handle guid rows ≡ false → row_at (handle_for handle next) guid rows ≡ None
  absent handle guid =
      elim (handle == 0) as (λ b. (not b && is_some (row_at handle guid rows)) ≡ false → row_at (cond b next handle) guid rows ≡ None) [
        | true ↦ λ _. new-absent guid
        | false ↦ λ none. none-from (row_at handle guid rows) none
      ]

  -- what is installed on is below the next handle after it
  taken-below : (handle : ℕ) → is_unknown handle rows ≡ false → handle_for handle next < next_after handle next
  taken-below handle =
      elim (handle == 0) as (λ b. (not b && not (has_handle handle rows)) ≡ false → cond b next handle < cond b (next + 1) next) [
        | true ↦ λ _. omega arith
        | false ↦ λ known. handle-below handle next rows is.below (from_not (has_handle handle rows) known)
      ]
    where
      from_not : (b : Bool) → not b ≡ false → b ≡ true
      from_not true e = refl
      from_not false e = sym e

  few-push : (row : Row) → nat_le 16 (length (owned_by row.owner rows)) ≡ false → (owner : ℕ) → length (owned_by owner (rows ++ row ∷ [])) ≤ 16
  few-push row unused owner =
      rw length-filter_push
      (elim (cases_eq row.owner owner) [
        | inl same ↦
            let P : ℕ → Type 0 = λ o. nat_le 16 (length (owned_by o rows)) ≡ false in
            omega (arith, leb-false 16 (length (owned_by owner rows)) (subst P same unused), cond-le-one (row.owner == owner))
        | inr other ↦ omega (arith, is.few owner, ap {B = ℕ} (λ b. cond b 1 0) (ne_eqb row.owner owner other))
      ])

  -- what is installed leaves a database
  module _ (frozen : Bool) (handle : ℕ) (guid : Guid) (interface owner : ℕ) (known : is_unknown handle rows ≡ false)
      (single : is_duplicate handle guid rows ≡ false)
      (unused : is_at_limit handle owner (record { rows = rows; next = next; frozen = frozen }) ≡ false) where
    abbrev installed : ℕ → Row
    installed taken = record { handle = taken; guid = guid; interface = interface; owner = owner }

    IsDb-push : IsDb (rows ++ installed (handle_for handle next) ∷ []) (next_after handle next)
    IsDb-push = record {
      below = All-push (λ row. row.handle < next_after handle next) rows (installed (handle_for handle next))
          (λ k d in'. omega (arith, is.below k d in', next-rises handle next)) (taken-below handle known);
      apart = all_pairs_push Differ rows (installed (handle_for handle next)) is.apart
          (λ k d in'. is_at-back (slice_index_or rows k d) (installed (handle_for handle next))
          ∙ find-none-all (is_at (handle_for handle next) guid) rows (absent handle guid single) k d in');
      few = few-push (installed (handle_for handle next)) (or-false-left _ _ unused);
    }

    -- as the code has its rows and its next handle
    pub IsDb-pushed : (new : List Row) (taken after : ℕ) → new ≡ rows ++ installed taken ∷ [] → taken ≡ handle_for handle next
        → after ≡ next_after handle next → IsDb new after
    IsDb-pushed new taken after new_is taken_is after_is =
        subst (λ n. IsDb new n) (sym after_is)
        (subst (λ l. IsDb l (next_after handle next)) (sym (new_is ∙ ap (λ t. rows ++ installed t ∷ []) taken_is)) IsDb-push)

  pub IsDb-filter : (p : Row → Bool) → IsDb (filter p rows) next
  IsDb-filter p = record {
    below = All-filter p (λ row. row.handle < next) rows is.below;
    apart = AllPairs-filter Differ p rows is.apart;
    few = λ owner. omega (arith, length-filter_filter p (is_owned_by owner) rows, is.few owner);
  }

  -- the next handle may go back to one that is above all
  pub IsDb-back : (back : ℕ) → All (λ row. row.handle < back) rows → IsDb rows back
  IsDb-back back above = record { below = above; apart = is.apart; few = is.few }
