-- Lists of live blocks that are joined: places in them, a block more, a block fewer.
use Rattle.std.proofs.Common.{◌≡◌, ◌⊎◌, ℕ, ◌+◌, ◌<◌, ◌≤◌, Bool, true, false, not, eqb, ltb, refl, sym, ap, ap₂, ◌∙◌, subst, inl, inr, arith}
use Rattle.std.proofs.Common.{List, [], ◌∷◌, ◌++◌, length, map, filter, All, Contains, append_assoc, append-nil}
use Rattle.std.proofs.Common.{lt-ltb, le-ltb, ne_eqb, take_at, drop_at}
use Rattle.std.proofs.lemmas.Bool.{cond-true, cond-false, not_from_false}
use Rattle.std.proofs.lemmas.List.{map-append}
use Rattle.std.proofs.lemmas.List.Elements.{All-head, All-tail, All-weaker, All-take, All-drop, All-map, All-contains}
use Rattle.std.proofs.lemmas.List.Elements.{filter-append, Contains-append_left, Contains-append_right, Contains-append_cases}
use Rattle.pool_tree.specs.Pool.{Block, PoolState, IsApart, IsLive, with_block, without_block}

-- what passes stays, and what doesn't goes
pub filter_all : {X : Type 0} (p : X → Bool) (xs : List X) → All (λ x. p x ≡ true) xs → filter p xs ≡ xs
filter_all p [] h = refl
filter_all p (x ∷ xs) h =
    cond-true (p x) _ _ (All-head (λ x. p x ≡ true) x xs h)
    ∙ ap (λ ys. x ∷ ys) (filter_all p xs (All-tail (λ x. p x ≡ true) x xs h))

pub filter_none : {X : Type 0} (p : X → Bool) (xs : List X) → All (λ x. p x ≡ false) xs → filter p xs ≡ []
filter_none p [] h = refl
filter_none p (x ∷ xs) h =
    cond-false (p x) _ _ (All-head (λ x. p x ≡ false) x xs h) ∙ filter_none p xs (All-tail (λ x. p x ≡ false) x xs h)

pub All-left : {X : Type 0} (P : X → Type 0) (xs ys : List X) → All P (xs ++ ys) → All P xs
All-left P xs ys all = subst (All P) (take_at xs ys (length xs) refl) (All-take P (length xs) (xs ++ ys) all)

pub All-right : {X : Type 0} (P : X → Type 0) (xs ys : List X) → All P (xs ++ ys) → All P ys
All-right P xs ys all = subst (All P) (drop_at xs ys (length xs) refl) (All-drop P (length xs) (xs ++ ys) all)

-- ---- apart

-- what lies apart from bytes lies apart from fewer of them
pub apart_within : (size place inner_size inner : ℕ) → place ≤ inner → inner + inner_size ≤ place + size
    → (live : PoolState) → All (IsApart size place) live → All (IsApart inner_size inner) live
apart_within size place inner_size inner from to live all =
    All-weaker (IsApart size place) (IsApart inner_size inner)
    (λ block apart. elim apart [ inl before ↦ inl (omega arith) | inr after ↦ inr (omega arith) ])
    live all

-- ---- halves: blocks that lie before a seam, and blocks that lie after it

-- a block ends at a seam or before
abbrev pub IsBefore : ℕ → Block → Type 0
IsBefore seam block = (block.place + block.size ≤ seam) × (block.place < seam)

-- a block begins at a seam or after
abbrev pub IsAfter : ℕ → Block → Type 0
IsAfter seam block = seam ≤ block.place

pub apart_from_before : (seam size place : ℕ) → seam ≤ place → (live : PoolState) → All (IsBefore seam) live → All (IsApart size place) live
apart_from_before seam size place after live all =
    All-weaker (IsBefore seam) (IsApart size place) (λ block before. inr (omega (arith, before.0))) live all

pub apart_from_after : (seam size place : ℕ) → place + size ≤ seam → (live : PoolState) → All (IsAfter seam) live
    → All (IsApart size place) live
apart_from_after seam size place before live all =
    All-weaker (IsAfter seam) (IsApart size place) (λ block after. inl (omega (arith, after))) live all

module _ (seam : ℕ) (left right : PoolState) (place : ℕ) where
  -- a block joins those before the seam
  pub with_block-left : (size : ℕ) → place < seam → All (IsAfter seam) right
      → with_block (left ++ right) place size ≡ with_block left place size ++ right
  with_block-left size before after =
      let lower : Block → Bool = λ block. ltb block.place place in
      let higher : Block → Bool = λ block. ltb place block.place in
      let none : filter lower right ≡ [] =
      filter_none lower right
      (All-weaker (IsAfter seam) (λ block. lower block ≡ false)
      (λ block above. le-ltb block.place place (omega (arith, above))) right after) in
      let all : filter higher right ≡ right =
      filter_all higher right
      (All-weaker (IsAfter seam) (λ block. higher block ≡ true)
      (λ block above. lt-ltb place block.place (omega (arith, above))) right after) in
      let new : Block = record { place = place; size = size } in
      ap₂ (λ (xs ys : PoolState). xs ++ new ∷ ys)
      (filter-append lower left right ∙ ap (λ (xs : PoolState). filter lower left ++ xs) none ∙ append-nil (filter lower left))
      (filter-append higher left right ∙ ap (λ (xs : PoolState). filter higher left ++ xs) all)
      ∙ sym (append_assoc (filter lower left) (new ∷ filter higher left) right)

  -- a block joins those after the seam
  pub with_block-right : (size : ℕ) → seam ≤ place → All (IsBefore seam) left
      → with_block (left ++ right) place size ≡ left ++ with_block right place size
  with_block-right size after before =
      let lower : Block → Bool = λ block. ltb block.place place in
      let higher : Block → Bool = λ block. ltb place block.place in
      let all : filter lower left ≡ left =
      filter_all lower left
      (All-weaker (IsBefore seam) (λ block. lower block ≡ true)
      (λ block below. lt-ltb block.place place (omega (arith, below.1))) left before) in
      let none : filter higher left ≡ [] =
      filter_none higher left
      (All-weaker (IsBefore seam) (λ block. higher block ≡ false)
      (λ block below. le-ltb place block.place (omega (arith, below.1))) left before) in
      let new : Block = record { place = place; size = size } in
      ap₂ (λ (xs ys : PoolState). xs ++ new ∷ ys)
      (filter-append lower left right ∙ ap (λ (xs : PoolState). xs ++ filter lower right) all)
      (filter-append higher left right ∙ ap (λ (xs : PoolState). xs ++ filter higher right) none)
      ∙ append_assoc left (filter lower right) (new ∷ filter higher right)

  -- a block goes from those before the seam
  pub without_block-left : place < seam → All (IsAfter seam) right → without_block (left ++ right) place ≡ without_block left place ++ right
  without_block-left before after =
      let other : Block → Bool = λ block. not (eqb block.place place) in
      let all : filter other right ≡ right =
      filter_all other right
      (All-weaker (IsAfter seam) (λ block. other block ≡ true)
      (λ block above. not_from_false _ (ne_eqb block.place place (λ same. omega (arith, above, same)))) right after) in
      filter-append other left right ∙ ap (λ (xs : PoolState). filter other left ++ xs) all

  -- a block goes from those after the seam
  pub without_block-right : seam ≤ place → All (IsBefore seam) left
      → without_block (left ++ right) place ≡ left ++ without_block right place
  without_block-right after before =
      let other : Block → Bool = λ block. not (eqb block.place place) in
      let all : filter other left ≡ left =
      filter_all other left
      (All-weaker (IsBefore seam) (λ block. other block ≡ true)
      (λ block below. not_from_false _ (ne_eqb block.place place (λ same. omega (arith, below.1, same)))) left before) in
      filter-append other left right ∙ ap (λ (xs : PoolState). xs ++ filter other right) all

-- no block begins at a place at which none of them does
pub not_live : (live : PoolState) (place : ℕ) → All (λ block. block.place ≡ place → ⊥) live → IsLive live place → ⊥
not_live live place all is_live =
    All-contains (λ q. q ≡ place → ⊥) (map (λ (block : Block). block.place) live) place
    (All-map (λ q. q ≡ place → ⊥) (λ (block : Block). block.place) live all) is_live refl

places-append : (left right : PoolState)
    → map (λ (block : Block). block.place) (left ++ right)
    ≡ map (λ (block : Block). block.place) left ++ map (λ (block : Block). block.place) right
places-append left right = map-append (λ (block : Block). block.place) left right

pub live_left : (left right : PoolState) (place : ℕ) → IsLive left place → IsLive (left ++ right) place
live_left left right place is_live =
    subst (λ (places : List ℕ). Contains places place) (sym (places-append left right))
    (Contains-append_left (map (λ (block : Block). block.place) left) (map (λ (block : Block). block.place) right) place is_live)

pub live_right : (left right : PoolState) (place : ℕ) → IsLive right place → IsLive (left ++ right) place
live_right left right place is_live =
    subst (λ (places : List ℕ). Contains places place) (sym (places-append left right))
    (Contains-append_right (map (λ (block : Block). block.place) left) (map (λ (block : Block). block.place) right) place is_live)

pub live_either : (left right : PoolState) (place : ℕ) → IsLive (left ++ right) place → IsLive left place ⊎ IsLive right place
live_either left right place is_live =
    Contains-append_cases (map (λ (block : Block). block.place) left) (map (λ (block : Block). block.place) right) place
    (subst (λ (places : List ℕ). Contains places place) (places-append left right) is_live)
