-- Whole arenas: a new one, and what is true of the live blocks of each.
use Rattle.std.proofs.Common.{◌≡◌, ℕ, zero, suc, ◌+◌, ◌-◌, ◌<◌, ◌≤◌, Bool, not, eqb, refl, sym, ap, ap₂, ◌∙◌, subst, inl, inr, arith}
use Rattle.std.proofs.Common.{List, [], ◌∷◌, ◌++◌, length, drop, filter, All, AllPairs, Contains, get_or, length-append}
use Rattle.std.proofs.lemmas.Bool.{cases_lt, cases_order, cases_Bool, cond-true, not-true, eqb-false}
use Rattle.std.proofs.lemmas.List.{get_or_append_left, get_or-append_right}
use Rattle.std.proofs.lemmas.List.Elements.{All-nil, All-cons, All-head, All-append, All-take, All-drop, All-contains, All-filter}
use Rattle.std.proofs.lemmas.List.Elements.{All-get_or}
use Rattle.std.proofs.lemmas.List.Elements.{All-contains_itself, filter_passes, at_from_Contains}
use Rattle.std.proofs.Common.{lit≤}
use Rattle.pool_tree.specs.declared.tree.Node.{Node}
use Rattle.pool_tree.specs.declared.tree.Node.TheVariants.{Free}
use Rattle.std.proofs.Common.{◌↔◌, Option, Some, None, Result, Ok, Err, IfSome, IfNone, OnOk, OnErr, IsErr}
use Rattle.std.proofs.lemmas.Bool.{false≢true}
use Rattle.pool_tree.specs.declared.pool.NotLive.{NotLive}
use Rattle.pool_tree.specs.Pool.{Block, PoolState, IsApart, IsPlace, IsLowestPlace, IsLive, IsBlock, IsBlockSize, IsArena, with_block}
use Rattle.pool_tree.specs.Pool.{without_block}
use Rattle.pool_tree.specs.PoolInside.{IsPart, IsPlaceIn, Gives, Frees}
use Rattle.pool_tree.specs.TreeInside.{part_bytes, node_first, left_half, right_half, joined_node, is_live_node, IsKept, live_in, AllFree}
use Rattle.pool_tree.specs.TreeInside.{pool_of}
use Rattle.pool_tree.proofs.SizeLemmas.{bytes_some, bytes-pow, part_left, part_right, size_unique}
use Rattle.pool_tree.proofs.BlockLemmas.{IsBefore, IsAfter}
use Rattle.pool_tree.proofs.TreeLemmas.{kept_from, free_is_empty, live_in-below, left_is_before, part_is_after}

-- ---- a new arena

first_free : (nodes : List Node) → AllFree nodes → node_first nodes ≡ Free
first_free [] all = refl
first_free (node ∷ below) all = All-head (λ n. n ≡ Free) node below all

pub kept_free : (level : ℕ) (nodes : List Node) → AllFree nodes → IsKept level nodes
unfolding IsKept
kept_free zero nodes all = first_free nodes all
kept_free (suc level) nodes all =
    let below = All-drop (λ n. n ≡ Free) 1 nodes all in
    let left = All-take (λ n. n ≡ Free) _ (drop 1 nodes) below in
    let right = All-drop (λ n. n ≡ Free) _ (drop 1 nodes) below in
    kept_from level nodes (kept_free level (left_half level (drop 1 nodes)) left, kept_free level (right_half level (drop 1 nodes)) right)
    (inr (first_free nodes all
    ∙ sym (ap₂ (joined_node level) (first_free (left_half level (drop 1 nodes)) left)
    (first_free (right_half level (drop 1 nodes)) right))))

pub pool_free : (nodes : List Node) → AllFree nodes → pool_of nodes ≡ []
unfolding pool_of
pool_free nodes all = free_is_empty 12 0 nodes (kept_free 12 nodes all) (first_free nodes all)

-- ---- live blocks

blocks_in : (level base : ℕ) (nodes : List Node) → IsPart level base → All IsBlock (live_in level base nodes)
unfolding live_in
blocks_in zero base nodes part = All-nil IsBlock
blocks_in (suc level) base nodes part =
    elim (cases_Bool (is_live_node (node_first nodes))) [
      | inl live ↦
          subst (All IsBlock) (sym (cond-true _ _ _ live))
          (All-cons IsBlock _ [] record {
            power = (suc level + 4, bytes-pow (suc level));
            floor = omega (arith, bytes_some level);
            aligned = part.aligned;
            within = part.within;
          } (All-nil IsBlock))
      | inr other ↦
          subst (All IsBlock) (sym (live_in-below level base nodes other))
          (All-append IsBlock (live_in level base (left_half level (drop 1 nodes)))
          (live_in level (base + part_bytes level) (right_half level (drop 1 nodes)))
          (blocks_in level base (left_half level (drop 1 nodes)) (part_left level base part))
          (blocks_in level (base + part_bytes level) (right_half level (drop 1 nodes)) (part_right level base part)))
    ]

-- a block ends before another begins
abbrev Precedes : Block → Block → Type 0
Precedes before after = before.place + before.size ≤ after.place

pairs_append : {X : Type 0} (R : X → X → Type 0) (xs ys : List X) → AllPairs R xs → AllPairs R ys
    → ((i j : ℕ) (d : X) → i < length xs → j < length ys → R (get_or xs i d) (get_or ys j d))
    → AllPairs R (xs ++ ys)
pairs_append R xs ys first second across i j d before within =
    let long : length (xs ++ ys) ≡ length xs + length ys = length-append xs ys in
    elim (cases_lt j (length xs)) [
      | inl left ↦
          subst (λ x. R x (get_or (xs ++ ys) j d)) (sym (get_or_append_left xs ys d i (omega arith)))
          (subst (λ y. R (get_or xs i d) y) (sym (get_or_append_left xs ys d j left)) (first i j d before left))
      | inr right ↦ elim (cases_lt i (length xs)) [
        | inl left ↦
            subst (λ x. R x (get_or (xs ++ ys) j d)) (sym (get_or_append_left xs ys d i left))
            (subst (λ y. R (get_or xs i d) y) (sym (get_or-append_right xs ys (length xs) j d refl right))
            (across i (j - length xs) d left (omega arith)))
        | inr both ↦
            subst (λ x. R x (get_or (xs ++ ys) j d)) (sym (get_or-append_right xs ys (length xs) i d refl both))
            (subst (λ y. R (get_or ys (i - length xs) d) y) (sym (get_or-append_right xs ys (length xs) j d refl right))
            (second (i - length xs) (j - length xs) d (omega arith) (omega arith)))
      ]
    ]

order_in : (level base : ℕ) (nodes : List Node) → AllPairs Precedes (live_in level base nodes)
unfolding live_in
order_in zero base nodes = λ i j d before within. absurd (omega arith)
order_in (suc level) base nodes =
    elim (cases_Bool (is_live_node (node_first nodes))) [
      | inl live ↦ subst (AllPairs Precedes) (sym (cond-true _ _ _ live)) (λ i j d before within. absurd (omega arith))
      | inr other ↦
          let left : PoolState = live_in level base (left_half level (drop 1 nodes)) in
          let right : PoolState = live_in level (base + part_bytes level) (right_half level (drop 1 nodes)) in
          subst (AllPairs Precedes) (sym (live_in-below level base nodes other))
          (pairs_append Precedes left right (order_in level base (left_half level (drop 1 nodes)))
          (order_in level (base + part_bytes level) (right_half level (drop 1 nodes)))
          (λ i j d here there.
          let ends = All-get_or (IsBefore (base + part_bytes level)) left i d here
          (left_is_before level base (left_half level (drop 1 nodes))) in
          let begins = All-get_or (IsAfter (base + part_bytes level)) right j d there
          (part_is_after level (base + part_bytes level) (right_half level (drop 1 nodes))) in
          omega (arith, ends.0, begins)))
    ]

whole_part : IsPart 12 0
whole_part = record { aligned = (0, refl); within = lit≤ tt }

pub pool_is_arena : (nodes : List Node) → IsArena (pool_of nodes)
unfolding pool_of
pool_is_arena nodes = record { blocks = blocks_in 12 0 nodes whole_part; in_order = order_in 12 0 nodes }

-- ---- a block that is freed

two_blocks : (live : PoolState) (a b : Block) → AllPairs Precedes live → Contains live a → Contains live b → (b.place ≡ a.place → ⊥)
    → IsApart a.size a.place b
two_blocks live a b ordered has_a has_b other =
    let at_a = at_from_Contains live a has_a in
    let at_b = at_from_Contains live b has_b in
    elim (cases_order at_a.0 at_b.0) [
      | inl same ↦
          let one : a ≡ b = sym (at_a.2 a) ∙ ap (λ k. get_or live k a) same ∙ at_b.2 a in
          absurd (other (ap (λ (block : Block). block.place) (sym one)))
      | inr apart ↦ elim apart [
        | inl before ↦
            inl (subst (λ (x : Block). x.place + x.size ≤ b.place) (at_a.2 a)
            (subst (λ (y : Block). Precedes (get_or live at_a.0 a) y) (at_b.2 a) (ordered at_a.0 at_b.0 a before at_b.1)))
        | inr after ↦
            inr (subst (λ (x : Block). x.place + x.size ≤ a.place) (at_b.2 a)
            (subst (λ (y : Block). Precedes (get_or live at_b.0 a) y) (at_a.2 a) (ordered at_b.0 at_a.0 a after at_a.1)))
      ]
    ]

pub freed_is_a_place : (live : PoolState) (block : Block) → IsArena live → Contains live block
    → IsPlace (without_block live block.place) block.size block.place
freed_is_a_place live block arena has =
    let is_block = All-contains IsBlock live block arena.blocks has in
    let other : Block → Bool = λ b. not (eqb b.place block.place) in
    record {
      aligned = is_block.aligned;
      within = is_block.within;
      apart = λ k d here.
          let member = All-filter other (Contains live) live (All-contains_itself live) k d here in
          let passes = filter_passes other live k d here in
          two_blocks live block (get_or (filter other live) k d) arena.in_order has member (eqb-false _ _ (not-true _ passes));
    }

-- ---- what the code's calls say of a whole arena

module _ (nodes slice later final : List Node) (state : PoolState)
    (same : slice ≡ nodes) (last : final ≡ later) (is : pool_of nodes ≡ state) where
  pub pool_gives : (size : ℕ) (result : Option ℕ)
      → Gives 0 (part_bytes 12) size (live_in 12 0 slice) (live_in 12 0 later) result → Gives 0 65536 size state (pool_of final) result
  unfolding pool_of
  pool_gives size result gives =
      subst (λ (l : PoolState). Gives 0 65536 size l (pool_of final) result) (ap pool_of same ∙ is)
      (subst (λ (l : PoolState). Gives 0 65536 size (pool_of slice) l result) (sym (ap pool_of last)) gives)

  pub pool_frees : (place : ℕ) (result : Result (Unit {0}) NotLive)
      → Frees place (live_in 12 0 slice) (live_in 12 0 later) result → Frees place state (pool_of final) result
  unfolding pool_of
  pool_frees place result frees =
      subst (λ (l : PoolState). Frees place l (pool_of final) result) (ap pool_of same ∙ is)
      (subst (λ (l : PoolState). Frees place (pool_of slice) l result) (sym (ap pool_of last)) frees)

-- ---- the clauses of a call, by its answer

module _ (live later : PoolState) (n size : ℕ) (is_size : IsBlockSize n size) where
  place_within : (place : ℕ) → IsPlace live size place → IsPlaceIn 0 65536 live size place
  place_within place p = record { after = omega arith; before = p.within; aligned = p.aligned; apart = p.apart }

  place_of : (place : ℕ) → IsPlaceIn 0 65536 live size place → IsPlace live size place
  place_of place p = record { aligned = p.aligned; within = p.before; apart = p.apart }

  pub gives-lowest : (result : Option ℕ) → Gives 0 65536 size live later result
      → IfSome result (λ place. (other : ℕ) → IsBlockSize n other → IsLowestPlace live other place)
  gives-lowest None gives = tt
  gives-lowest (Some place) gives = λ other is_other.
      subst (λ s. IsLowestPlace live s place) (size_unique n size other is_size is_other)
      record { is_place = place_of place gives.is_place; lowest = λ q p. gives.lowest q (place_within q p) }

  pub gives-joins : (result : Option ℕ) → Gives 0 65536 size live later result
      → IfSome result (λ place. (other : ℕ) → IsBlockSize n other → later ≡ with_block live place other)
  gives-joins None gives = tt
  gives-joins (Some place) gives = λ other is_other.
      subst (λ s. later ≡ with_block live place s) (size_unique n size other is_size is_other) gives.joins

  pub gives-none : (result : Option ℕ) → Gives 0 65536 size live later result
      → (result ≡ None) ↔ ((other place : ℕ) → IsBlockSize n other → IsPlace live other place → ⊥)
  gives-none None gives = (
    λ _ other place is_other p.
        gives.none place (place_within place (subst (λ s. IsPlace live s place) (size_unique n other size is_other is_size) p)),
    λ _. refl,
  )
  gives-none (Some place) gives = (
    λ e. cc,
    λ no. absurd (no size place is_size (place_of place gives.is_place)),
  )

  pub gives-unchanged : (result : Option ℕ) → Gives 0 65536 size live later result → IfNone result (later ≡ live)
  gives-unchanged None gives = gives.unchanged
  gives-unchanged (Some place) gives = tt

module _ (place : ℕ) (live later : PoolState) where
  pub frees-ok : (result : Result (Unit {0}) NotLive) → Frees place live later result
      → OnOk result (IsLive live place × (later ≡ without_block live place))
  frees-ok (Ok done) frees = frees
  frees-ok (Err fault) frees = tt

  pub frees-not_live : (result : Result (Unit {0}) NotLive) → Frees place live later result → IsErr result ↔ (IsLive live place → ⊥)
  frees-not_live (Ok done) frees = (λ e. absurd (false≢true e), λ no. absurd (no frees.0))
  frees-not_live (Err fault) frees = (λ _. frees.0, λ _. refl)

  pub frees-err : (result : Result (Unit {0}) NotLive) → Frees place live later result → OnErr result (later ≡ live)
  frees-err (Ok done) frees = tt
  frees-err (Err fault) frees = frees.1
