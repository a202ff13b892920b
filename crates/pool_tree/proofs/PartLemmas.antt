-- Taking and freeing a block in a part, by what its halves do.
use Rattle.std.proofs.Common.{◌≡◌, ℕ, suc, ◌+◌, ◌*◌, ◌<◌, ◌≤◌, refl, sym, ap, ap₂, ◌∙◌, subst, inl, inr, arith}
use Rattle.std.proofs.Common.{List, [], ◌∷◌, ◌++◌, All, Option, Some, None, Result, Ok, Err, le_refl, eq-eqb, lit<}
use Rattle.std.proofs.lemmas.Bool.{cases_lt, not_from_true, cond-false, true≢false}
use Rattle.std.proofs.lemmas.List.Elements.{All-nil, All-cons, All-append, All-weaker}
use Rattle.pool_tree.specs.declared.pool.NotLive.{NotLive}
use Rattle.pool_tree.specs.declared.tree.Node.{Node}
use Rattle.pool_tree.specs.declared.tree.Node.TheVariants.{Free, Live}
use Rattle.pool_tree.specs.Pool.{Block, PoolState, IsMultiple, IsApart, IsLive, with_block, without_block}
use Rattle.pool_tree.specs.PoolInside.{IsPlaceIn, IsTaken, IsFull, IsPart, Gives, Frees}
use Rattle.pool_tree.specs.TreeInside.{part_bytes, node_first, left_half, right_half, joined_node, node_over, FitsBelow, is_live_node}
use Rattle.pool_tree.specs.TreeInside.{IsKept, IsKeptBelow, live_in}
use Rattle.pool_tree.proofs.SizeLemmas.{ends_before}
use Rattle.pool_tree.proofs.BlockLemmas.{IsBefore, IsAfter, apart_from_before, apart_from_after, with_block-left, with_block-right}
use Rattle.pool_tree.proofs.BlockLemmas.{without_block-left, without_block-right, not_live, live_left, live_right, live_either}
use Rattle.pool_tree.proofs.TreeLemmas.{place_left, place_right, free_is_empty, live_in-live}
use Rattle.pool_tree.proofs.TreeLemmas.{kept_from, kept_halves, kept_fits, free_below, joined-not_live}

-- ---- two halves

module _ (base bytes size : ℕ) (left right : PoolState) where
  -- the lowest place of the left half is that of the whole
  pub taken_left : (later : PoolState) (place : ℕ) → 16 ≤ size → All (IsAfter (base + bytes)) right
      → IsTaken base bytes size left later place → IsTaken base (2 * bytes) size (left ++ right) (later ++ right) place
  taken_left later place some after taken = record {
    is_place = record {
      after = taken.is_place.after;
      before = omega (arith, taken.is_place.before);
      aligned = taken.is_place.aligned;
      apart = All-append (IsApart size place) left right taken.is_place.apart
          (apart_from_after (base + bytes) size place taken.is_place.before right after);
    };
    lowest = λ other is_place. elim (cases_lt other place) [
      | inr above ↦ above
      | inl below ↦ taken.lowest other (place_left base bytes left right size other is_place (omega (arith, taken.is_place.before)))
    ];
    joins = ap (λ (live : PoolState). live ++ right) taken.joins
        ∙ sym (with_block-left (base + bytes) left right place size (omega (arith, taken.is_place.before)) after);
  }

  module _ (later_left later : PoolState) (full : IsFull base bytes size left later_left)
      (aligned : IsMultiple (base + bytes) size) (before : All (IsBefore (base + bytes)) left) where
    -- where the left half has none, a place of the whole lies in the right one
    in_right : (place : ℕ) → IsPlaceIn base (2 * bytes) (left ++ right) size place → IsPlaceIn (base + bytes) bytes right size place
    in_right place is_place = elim (cases_lt place (base + bytes)) [
      | inr after ↦ place_right base bytes left right size place is_place after
      | inl lower ↦
          absurd (full.none place (place_left base bytes left right size place is_place
          (ends_before size place (base + bytes) is_place.aligned aligned lower)))
    ]

    -- where the left half has none, the lowest place of the right half is that of the whole
    pub taken_right : (place : ℕ) → IsTaken (base + bytes) bytes size right later place
        → IsTaken base (2 * bytes) size (left ++ right) (later_left ++ later) place
    taken_right place taken = record {
      is_place = record {
        after = omega (arith, taken.is_place.after);
        before = omega (arith, taken.is_place.before);
        aligned = taken.is_place.aligned;
        apart = All-append (IsApart size place) left right
            (apart_from_before (base + bytes) size place taken.is_place.after left before) taken.is_place.apart;
      };
      lowest = λ other is_place. taken.lowest other (in_right other is_place);
      joins = ap₂ (λ (xs ys : PoolState). xs ++ ys) full.unchanged taken.joins
          ∙ sym (with_block-right (base + bytes) left right place size taken.is_place.after before);
    }

    -- where neither half has a place, the whole has none
    pub full_both : IsFull (base + bytes) bytes size right later → IsFull base (2 * bytes) size (left ++ right) (later_left ++ later)
    full_both other = record {
      none = λ place is_place. other.none place (in_right place is_place);
      unchanged = ap₂ (λ (xs ys : PoolState). xs ++ ys) full.unchanged other.unchanged;
    }

    pub gives_right : (result : Option ℕ) → Gives (base + bytes) bytes size right later result
        → Gives base (2 * bytes) size (left ++ right) (later_left ++ later) result
    gives_right None gives = full_both gives
    gives_right (Some place) gives = taken_right place gives

module _ (seam : ℕ) (left right : PoolState) (place : ℕ) where
  -- a block of the left half is freed
  pub frees_left : (later : PoolState) (result : Result (Unit {0}) NotLive) → place < seam → All (IsAfter seam) right
      → Frees place left later result → Frees place (left ++ right) (later ++ right) result
  frees_left later (Ok done) before after frees = (
    live_left left right place frees.0,
    ap (λ (live : PoolState). live ++ right) frees.1 ∙ sym (without_block-left seam left right place before after),
  )
  frees_left later (Err fault) before after frees = (
    λ is_live. elim (live_either left right place is_live) [
      | inl here ↦ frees.0 here
      | inr there ↦
          not_live right place
          (All-weaker (IsAfter seam) (λ block. block.place ≡ place → ⊥) (λ block above same. omega (arith, above, same)) right after) there
    ],
    ap (λ (live : PoolState). live ++ right) frees.1,
  )

  -- a block of the right half is freed
  pub frees_right : (later : PoolState) (result : Result (Unit {0}) NotLive) → seam ≤ place → All (IsBefore seam) left
      → Frees place right later result → Frees place (left ++ right) (left ++ later) result
  frees_right later (Ok done) after before frees = (
    live_right left right place frees.0,
    ap (λ (live : PoolState). left ++ live) frees.1 ∙ sym (without_block-right seam left right place after before),
  )
  frees_right later (Err fault) after before frees = (
    λ is_live. elim (live_either left right place is_live) [
      | inr here ↦ frees.0 here
      | inl there ↦
          not_live left place
          (All-weaker (IsBefore seam) (λ block. block.place ≡ place → ⊥)
          (λ block below same. omega (arith, below.1, same)) left before) there
    ],
    ap (λ (live : PoolState). left ++ live) frees.1,
  )

-- ---- a whole part

-- a part whose node is free becomes one live block
pub taken_whole : (level base : ℕ) (below : List Node) → IsPart (suc level) base → IsKept (suc level) (Free ∷ below)
    → IsTaken base (part_bytes (suc level)) (part_bytes (suc level))
    (live_in (suc level) base (Free ∷ below)) (live_in (suc level) base (Live ∷ below)) base
taken_whole level base below part kept =
    let bytes : ℕ = part_bytes (suc level) in
    let empty : live_in (suc level) base (Free ∷ below) ≡ [] = free_is_empty (suc level) base (Free ∷ below) kept refl in
    record {
      is_place = record {
        after = le_refl base;
        before = le_refl (base + bytes);
        aligned = part.aligned;
        apart = subst (All (IsApart bytes base)) (sym empty) (All-nil (IsApart bytes base));
      };
      lowest = λ other is_place. is_place.after;
      joins = live_in-live level base (Live ∷ below) refl ∙ sym (ap (λ (live : PoolState). with_block live base bytes) empty);
    }

pub kept_whole : (level : ℕ) (below : List Node) → IsKept (suc level) (Free ∷ below) → IsKept (suc level) (Live ∷ below)
kept_whole level below kept =
    let both = free_below level Free below (kept_fits level (Free ∷ below) kept) refl in
    kept_from level (Live ∷ below) (kept_halves level (Free ∷ below) kept) (inl (refl, both.0, both.1))

-- below a live node, what the halves make is free
over_free : (level : ℕ) (below : List Node) → FitsBelow level Live below → node_over level below ≡ Free
over_free level below fits = elim fits [
  | inl live ↦ ap₂ (joined_node level) live.1 live.2
  | inr joined ↦
      absurd (true≢false (ap is_live_node joined
      ∙ joined-not_live level (node_first (left_half level below)) (node_first (right_half level below))))
]

-- a part that is one live block becomes free
pub kept_freed : (level : ℕ) (below : List Node) → IsKept (suc level) (Live ∷ below) → IsKept (suc level) (Free ∷ below)
kept_freed level below kept =
    kept_from level (Free ∷ below) (kept_halves level (Live ∷ below) kept)
    (inr (sym (over_free level below (kept_fits level (Live ∷ below) kept))))

-- its block is freed, and no other place is live
pub freed_whole : (level base : ℕ) (below : List Node) → IsKept (suc level) (Live ∷ below)
    → IsLive (live_in (suc level) base (Live ∷ below)) base
    × (live_in (suc level) base (Free ∷ below) ≡ without_block (live_in (suc level) base (Live ∷ below)) base)
freed_whole level base below kept =
    let one = live_in-live level base (Live ∷ below) refl in
    let empty = free_is_empty (suc level) base (Free ∷ below) (kept_freed level below kept) refl in (
      subst (λ (live : PoolState). IsLive live base) (sym one) (0, lit< tt, refl),
      empty ∙ sym (cond-false _ _ _ (not_from_true _ (eq-eqb base base refl)))
          ∙ sym (ap (λ (live : PoolState). without_block live base) one),
    )

pub other_place : (level base place : ℕ) (below : List Node) → (place ≡ base → ⊥)
    → IsLive (live_in (suc level) base (Live ∷ below)) place → ⊥
other_place level base place below other is_live =
    let one = live_in-live level base (Live ∷ below) refl in
    not_live (record { place = base; size = part_bytes (suc level) } ∷ []) place
    (All-cons (λ (block : Block). block.place ≡ place → ⊥) _ [] (λ same. other (sym same))
    (All-nil (λ (block : Block). block.place ≡ place → ⊥)))
    (subst (λ (live : PoolState). IsLive live place) one is_live)

-- ---- a part whose node is made anew

pub kept_joined : (level : ℕ) (below : List Node) → IsKeptBelow level below → IsKept (suc level) (node_over level below ∷ below)
kept_joined level below halves = kept_from level (node_over level below ∷ below) halves (inr refl)
