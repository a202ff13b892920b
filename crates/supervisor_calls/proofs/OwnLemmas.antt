-- Handlers and interfaces that an image adds or removes are its own: those of the others stay.
use Rattle.std.proofs.Common.{◌≡◌, ℕ, ◌==◌, ◌&&◌, Bool, true, false, cond, not, List, [], ◌∷◌, ◌++◌, Option, None, Some, refl, sym, ap, ◌∙◌, arith, append-nil}
use Rattle.std.proofs.lemmas.Bool.{eq-eqb}
use Rattle.std.proofs.lemmas.List.Elements.{filter-append}
use Rattle.mm_base.specs.declared.guid.Guid.{Guid}
use Rattle.mm_base.specs.declared.handler.Handler.{Handler}
use Rattle.mm_base.specs.declared.handler.HandlerBody.TheVariants.{Code}
use Rattle.mmi_registry.specs.Handlers.{handler_at, is_of, without_image, without_number}
use Rattle.mmi_registry.specs.Registry.{IsNumbered, RegistryState, with_handler}
use Rattle.mmi_registry.proofs.NumberLemmas.{IsNumbered-filter, IsNumbered-push, without_image-without_number}
use Rattle.protocol_db.specs.ProtocolDb.{DbState, IsDb, handle_for, is_at_limit, is_duplicate, is_unknown, next_after, row_for, with_row}
use Rattle.protocol_db.specs.Rows.{AreApart, is_at, is_owned_by, row_with, without_owner, without_row}
use Rattle.protocol_db.specs.declared.protocol_row.Row.{Row}
use Rattle.supervisor_calls.specs.Within.{KeepsHandlers, KeepsInterfaces}
use Rattle.protocol_db.proofs.DbLemmas.{IsDb-filter, IsDb-pushed, next-rises}
use Rattle.protocol_db.proofs.ListLemmas.{AllPairs-tail, none≢some}
use Rattle.protocol_db.proofs.RowLemmas.{Differ, none_later, row_with-later, without_row-later}

-- ---- handlers

-- the other handlers stay, and numbers rise as before
pub record SameHandlers (image : ℕ) (old new : RegistryState) : Type 0 where
  pub stays : KeepsHandlers image old new
  pub numbered : IsNumbered new.handlers new.next

module _ (image : ℕ) (registry : RegistryState) (is : IsNumbered registry.handlers registry.next) where
  pub registered : (guid : Option Guid) (address : ℕ) → SameHandlers image registry (with_handler guid (Code image address) registry)
  registered guid address =
      let handler : Handler = record { number = registry.next; guid = guid; body = Code image address } in
      record {
        stays = record {
          others = filter-append (λ h. not (is_of image h)) registry.handlers (handler ∷ [])
              ∙ ap (λ b. without_image image registry.handlers ++ cond (not b) (handler ∷ []) []) (eq-eqb image image refl)
              ∙ append-nil (without_image image registry.handlers);
          next = omega arith;
          frozen = refl;
        };
        numbered = IsNumbered-push registry.handlers registry.next is handler refl;
      }

  pub unregistered : (number : ℕ) (handler : Handler) → handler_at number registry.handlers ≡ Some handler → is_of image handler ≡ true
      → SameHandlers image registry (record registry { handlers = without_number number registry.handlers })
  unregistered number handler found mine = record {
    stays = record {
      others = without_image-without_number image number handler mine registry.handlers is.rising found;
      next = omega arith;
      frozen = refl;
    };
    numbered = IsNumbered-filter registry.handlers registry.next is (λ h. not (h.number == number));
  }

-- ---- interfaces

-- where nothing is found later, what is found is the first
found_first : (b : Bool) (first row : Row) (later : Option Row) → later ≡ None → cond b (Some first) later ≡ Some row → first ≡ row
found_first true first row later none found = cc
found_first false first row later none found = absurd (none≢some row (sym none ∙ found))

module _ (image handle : ℕ) (guid : Guid) (interface : ℕ) (row : Row) (mine : is_owned_by image row ≡ true) where
  own_removed : (rows : List Row) → AreApart rows → row_with handle guid interface rows ≡ Some row
      → without_owner image (without_row handle guid rows) ≡ without_owner image rows
  own_removed [] apart found = refl
  own_removed (first ∷ rows) apart found =
      elim (is_at handle guid first) as (λ b. is_at handle guid first ≡ b
      → cond (b && (first.interface == interface)) (Some first) (row_with handle guid interface rows) ≡ Some row
      → without_owner image (cond (not b) (first ∷ without_row handle guid rows) (without_row handle guid rows))
      ≡ without_owner image (first ∷ rows)) [
        | true ↦ λ at here.
            let none = none_later handle guid first rows apart at in
            let same : first ≡ row =
            found_first (first.interface == interface) first row (row_with handle guid interface rows)
            (row_with-later handle guid interface rows none) here in
            ap (without_owner image) (without_row-later handle guid rows none)
            ∙ sym (ap (λ b. cond (not b) (first ∷ without_owner image rows) (without_owner image rows))
            (ap (is_owned_by image) same ∙ mine))
        | false ↦ λ _ later.
            ap (λ rest. cond (not (is_owned_by image first)) (first ∷ rest) rest)
            (own_removed rows (AllPairs-tail Differ first rows apart) later)
      ] refl found

-- the other interfaces stay, and rows are as they must be
pub record SameInterfaces (image : ℕ) (old new : DbState) : Type 0 where
  pub stays : KeepsInterfaces image old new
  pub installed : IsDb new.rows new.next

module _ (image : ℕ) (db : DbState) (is : IsDb db.rows db.next) (handle : ℕ) (guid : Guid) (interface : ℕ) where
  pub installed : is_unknown handle db.rows ≡ false → is_duplicate handle guid db.rows ≡ false → is_at_limit handle image db ≡ false
      → SameInterfaces image db (with_row handle guid interface image db)
  installed known single unused =
      let row : Row = row_for handle guid interface image db in
      record {
        stays = record {
          others = filter-append (λ r. not (is_owned_by image r)) db.rows (row ∷ [])
              ∙ ap (λ b. without_owner image db.rows ++ cond (not b) (row ∷ []) []) (eq-eqb image image refl)
              ∙ append-nil (without_owner image db.rows);
          next = next-rises handle db.next;
          frozen = refl;
        };
        installed = IsDb-pushed db.rows db.next is db.frozen handle guid interface image known single unused
            (db.rows ++ row ∷ []) (handle_for handle db.next) (next_after handle db.next) refl refl refl;
      }

  pub removed : (row : Row) → row_with handle guid interface db.rows ≡ Some row → is_owned_by image row ≡ true
      → SameInterfaces image db (record db { rows = without_row handle guid db.rows })
  removed row found mine = record {
    stays = record {
      others = own_removed image handle guid interface row mine db.rows is.apart found;
      next = omega arith;
      frozen = refl;
    };
    installed = IsDb-filter db.rows db.next is (λ r. not (is_at handle guid r));
  }
