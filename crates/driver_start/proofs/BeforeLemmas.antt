-- What a list has of images that are there, and what stays of it where those of the last image are taken out.
use Rattle.std.proofs.Common.{◌≡◌, ◌≢◌, ℕ, ◌+◌, ◌≤◌, Bool, true, false, cond, not, List, [], ◌∷◌, filter, All, refl, sym, ap, ◌∙◌, subst, ◌==◌, arith}
use Rattle.std.proofs.lemmas.Bool.Decides.{nat_tests}
use Rattle.std.proofs.lemmas.List.Elements.{All-nil, All-cons, All-head, All-tail}
use Rattle.mm_base.specs.declared.handler.Handler.{Handler}
use Rattle.mm_base.specs.declared.handler.HandlerBody.{HandlerBody}
use Rattle.mm_base.specs.declared.handler.HandlerBody.TheVariants.{Version, Stub, Code}
use Rattle.mmi_registry.specs.Handlers.{is_code_of, is_of}
use Rattle.pool_tree.proofs.BlockLemmas.{filter_all}
use Rattle.protocol_db.specs.Rows.{is_owned_by}
use Rattle.protocol_db.specs.declared.protocol_row.Row.{Row}
use Rattle.driver_start.specs.Hosts.{AreBefore}

one_owner : (owner one other : ℕ) → (owner == one) ≡ true → one ≢ other → (owner == other) ≡ false
one_owner owner one other is differs = grind (arith, nat_tests, is, differs)

body_of_one : (body : HandlerBody) (one other : ℕ) → is_code_of one body ≡ true → one ≢ other → is_code_of other body ≡ false
body_of_one Version one other is differs = refl
body_of_one (Stub status) one other is differs = refl
body_of_one (Code owner address) one other is differs = one_owner owner one other is differs

pub handler_of_one : (handler : Handler) (one other : ℕ) → is_of one handler ≡ true → one ≢ other → is_of other handler ≡ false
handler_of_one handler one other is differs = body_of_one handler.body one other is differs

pub row_of_one : (row : Row) (one other : ℕ) → is_owned_by one row ≡ true → one ≢ other → is_owned_by other row ≡ false
row_of_one row one other is differs = one_owner row.owner one other is differs

module _ {A : Type 0} (is_owned : ℕ → A → Bool) (count : ℕ) where
  abbrev Before : ℕ → A → Type 0
  Before n item = (image : ℕ) → n ≤ image → is_owned image item ≡ false

  abbrev others : List A → List A
  others items = filter (λ item. not (is_owned count item)) items

  -- a list of earlier images has nothing of the next one
  pub others_stay : (items after : List A) → AreBefore is_owned count items → others after ≡ others items → others after ≡ items
  others_stay items after before same =
      same ∙ filter_all (λ item. not (is_owned count item)) items (λ k d within. ap not (before k d within count (omega arith)))

  module _ (of_one : (item : A) (one other : ℕ) → is_owned one item ≡ true → one ≢ other → is_owned other item ≡ false) where
    own : (item : A) → is_owned count item ≡ true → Before (count + 1) item
    own item is image from = of_one item count image is (λ e. absurd (omega (arith, from, e)))

    later : (item : A) → Before count item → Before (count + 1) item
    later item before image from = before image (omega (arith, from))

    by_test : (item : A) (rest : List A) (b : Bool) → is_owned count item ≡ b
        → All (Before count) (cond (not b) (item ∷ others rest) (others rest))
        → (All (Before count) (others rest) → All (Before (count + 1)) rest)
        → All (Before (count + 1)) (item ∷ rest)
    by_test item rest true is kept then = All-cons (Before (count + 1)) item rest (own item is) (then kept)
    by_test item rest false is kept then =
        All-cons (Before (count + 1)) item rest (later item (All-head (Before count) item (others rest) kept))
        (then (All-tail (Before count) item (others rest) kept))

    -- one with other things of the next image has them of one image more
    all_later : (after : List A) → All (Before count) (others after) → All (Before (count + 1)) after
    all_later [] kept = All-nil (Before (count + 1))
    all_later (item ∷ rest) kept = by_test item rest (is_owned count item) refl kept (all_later rest)

    pub are_before : (items after : List A) → AreBefore is_owned count items → others after ≡ others items → AreBefore is_owned (count + 1) after
    are_before items after before same =
        let P : List A → Type 0 = λ xs. All (Before count) xs in
        all_later after (subst P (sym (others_stay items after before same)) before)
