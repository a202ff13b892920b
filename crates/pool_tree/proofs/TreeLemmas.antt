-- Nodes and the blocks that they stand for.
use Rattle.std.proofs.Common.{◌≡◌, ℕ, zero, suc, ◌+◌, ◌*◌, ◌<◌, ◌≤◌, false, refl, sym, ap, ap₂, ◌∙◌, subst, inl, inr, arith}
use Rattle.std.proofs.Common.{List, [], ◌∷◌, ◌++◌, drop, All, le_refl}
use Rattle.std.proofs.lemmas.Bool.{cases_lt, cond-true, cond-false, cases_Bool}
use Rattle.std.proofs.lemmas.List.Elements.{All-nil, All-cons, All-head, All-append, All-weaker}
use Rattle.pool_tree.specs.declared.tree.Node.{Node}
use Rattle.pool_tree.specs.declared.tree.Node.TheVariants.{Free, Live}
use Rattle.pool_tree.specs.Pool.{Block, PoolState, IsMultiple, IsApart}
use Rattle.pool_tree.specs.PoolInside.{IsPlaceIn}
use Rattle.pool_tree.specs.TreeInside.{part_bytes, is_live_node, node_first, room_in, left_half, right_half, joined_node, node_over}
use Rattle.pool_tree.specs.TreeInside.{FitsBelow, IsKept, IsKeptBelow, live_in, live_below}
use Rattle.pool_tree.proofs.SizeLemmas.{bytes_some, bytes_rise, bytes_divide, multiple_trans, multiple_add, ends_before}
use Rattle.pool_tree.proofs.BlockLemmas.{IsBefore, IsAfter, All-left, All-right, apart_within}

-- ---- one node

joined_room : (level : ℕ) (a b : Node) → room_in level a ≤ level → room_in level b ≤ level
    → room_in (suc level) (joined_node level a b) ≤ suc level
joined_room level Free Free p q = le_refl (suc level)
joined_room level a b p q = omega arith

joined_free : (level : ℕ) (a b : Node) → joined_node level a b ≡ Free → (a ≡ Free) × (b ≡ Free)
joined_free level Free Free e = (refl, refl)
joined_free level a b e = cc

pub joined-not_live : (level : ℕ) (a b : Node) → is_live_node (joined_node level a b) ≡ false
joined-not_live level Free Free = refl
joined-not_live level a b = refl

-- a node with room for the whole is free
joined_full : (level : ℕ) (a b : Node) → room_in level a ≤ level → room_in level b ≤ level
    → suc level ≤ room_in (suc level) (joined_node level a b) → joined_node level a b ≡ Free
joined_full level Free Free p q h = refl
joined_full level a b p q h = absurd (omega arith)

-- where a node has too little room for a smaller part, so have its halves
joined_short : (level wanted : ℕ) (a b : Node) → wanted ≤ level → room_in (suc level) (joined_node level a b) < wanted
    → (room_in level a < wanted) × (room_in level b < wanted)
joined_short level wanted Free Free w h = absurd (omega arith)
joined_short level wanted a b w h = (omega arith, omega arith)

-- below a free node both halves are free
pub free_below : (level : ℕ) (node : Node) (below : List Node) → FitsBelow level node below → node ≡ Free
    → (node_first (left_half level below) ≡ Free) × (node_first (right_half level below) ≡ Free)
free_below level node below fits free = elim fits [
  | inl live ↦ (live.1, live.2)
  | inr joined ↦ joined_free level (node_first (left_half level below)) (node_first (right_half level below)) (sym joined ∙ free)
]

-- ---- one step down

module _ (level base : ℕ) (nodes : List Node) where
  pub live_in-live : node_first nodes ≡ Live → live_in (suc level) base nodes ≡ record { place = base; size = part_bytes (suc level) } ∷ []
  unfolding live_in
  live_in-live live = cond-true _ _ _ (ap is_live_node live)

  pub live_in-below : is_live_node (node_first nodes) ≡ false → live_in (suc level) base nodes ≡ live_below level base (drop 1 nodes)
  unfolding live_in
  live_in-below other = cond-false _ _ _ other

  pub live_in-joined : node_first nodes ≡ node_over level (drop 1 nodes)
      → live_in (suc level) base nodes ≡ live_below level base (drop 1 nodes)
  live_in-joined joined =
      live_in-below
      (ap is_live_node joined
      ∙ joined-not_live level (node_first (left_half level (drop 1 nodes))) (node_first (right_half level (drop 1 nodes))))

pub kept_halves : (level : ℕ) (nodes : List Node) → IsKept (suc level) nodes → IsKeptBelow level (drop 1 nodes)
unfolding IsKept
kept_halves level nodes kept = (kept.0, kept.1)

pub kept_fits : (level : ℕ) (nodes : List Node) → IsKept (suc level) nodes → FitsBelow level (node_first nodes) (drop 1 nodes)
unfolding IsKept
kept_fits level nodes kept = kept.2

pub kept_from : (level : ℕ) (nodes : List Node) → IsKeptBelow level (drop 1 nodes) → FitsBelow level (node_first nodes) (drop 1 nodes)
    → IsKept (suc level) nodes
unfolding IsKept
kept_from level nodes halves fits = (halves.0, halves.1, fits)

kept_zero : (nodes : List Node) → IsKept zero nodes → node_first nodes ≡ Free
unfolding IsKept
kept_zero nodes kept = kept

-- ---- what a node says of its part

-- no part has more room than its level
pub room_most : (level : ℕ) (nodes : List Node) → IsKept level nodes → room_in level (node_first nodes) ≤ level
room_most zero nodes kept = subst (λ node. room_in 0 node ≤ 0) (sym (kept_zero nodes kept)) (le_refl 0)
room_most (suc level) nodes kept =
    let halves = kept_halves level nodes kept in
    elim (kept_fits level nodes kept) [
      | inl live ↦ subst (λ node. room_in (suc level) node ≤ suc level) (sym live.0) (omega arith)
      | inr joined ↦
          subst (λ node. room_in (suc level) node ≤ suc level) (sym joined)
          (joined_room level (node_first (left_half level (drop 1 nodes))) (node_first (right_half level (drop 1 nodes)))
          (room_most level (left_half level (drop 1 nodes)) halves.0)
          (room_most level (right_half level (drop 1 nodes)) halves.1))
    ]

-- where the room is the whole, the node is free
pub full_room_free : (level : ℕ) (nodes : List Node) → IsKept level nodes → level ≤ room_in level (node_first nodes)
    → node_first nodes ≡ Free
full_room_free zero nodes kept full = kept_zero nodes kept
full_room_free (suc level) nodes kept full =
    let halves = kept_halves level nodes kept in
    elim (kept_fits level nodes kept) [
      | inl live ↦
          let none : room_in (suc level) (node_first nodes) ≡ 0 = ap (room_in (suc level)) live.0 in
          absurd (omega arith)
      | inr joined ↦
          let room : room_in (suc level) (node_first nodes) ≡ room_in (suc level) (node_over level (drop 1 nodes)) =
          ap (room_in (suc level)) joined in
          joined
          ∙ joined_full level (node_first (left_half level (drop 1 nodes))) (node_first (right_half level (drop 1 nodes)))
          (room_most level (left_half level (drop 1 nodes)) halves.0)
          (room_most level (right_half level (drop 1 nodes)) halves.1)
          (subst (λ n. suc level ≤ n) room full)
    ]

-- a part whose node is free has no live block
pub free_is_empty : (level base : ℕ) (nodes : List Node) → IsKept level nodes → node_first nodes ≡ Free → live_in level base nodes ≡ []
unfolding live_in
free_is_empty zero base nodes kept free = refl
free_is_empty (suc level) base nodes kept free =
    let halves = kept_halves level nodes kept in
    let both = free_below level (node_first nodes) (drop 1 nodes) (kept_fits level nodes kept) free in
    live_in-below level base nodes (ap is_live_node free)
    ∙ ap₂ (λ (xs ys : PoolState). xs ++ ys)
    (free_is_empty level base (left_half level (drop 1 nodes)) halves.0 both.0)
    (free_is_empty level (base + part_bytes level) (right_half level (drop 1 nodes)) halves.1 both.1)

-- the blocks of a part lie within it
pub record IsWithin (base bytes : ℕ) (block : Block) : Type 0 where
  pub from : base ≤ block.place
  pub to : block.place + block.size ≤ base + bytes
  pub some : 16 ≤ block.size

pub within_part : (level base : ℕ) (nodes : List Node) → All (IsWithin base (part_bytes level)) (live_in level base nodes)
unfolding live_in
within_part zero base nodes = All-nil (IsWithin base 16)
within_part (suc level) base nodes =
    let whole : Block → Type 0 = IsWithin base (part_bytes (suc level)) in
    elim (cases_Bool (is_live_node (node_first nodes))) [
      | inl live ↦
          subst (All whole) (sym (cond-true _ _ _ live))
          (All-cons whole _ []
          record { from = le_refl base; to = le_refl (base + part_bytes (suc level)); some = bytes_some (suc level) } (All-nil whole))
      | inr other ↦
          subst (All whole) (sym (live_in-below level base nodes other))
          (All-append whole (live_in level base (left_half level (drop 1 nodes)))
          (live_in level (base + part_bytes level) (right_half level (drop 1 nodes)))
          (All-weaker (IsWithin base (part_bytes level)) whole
          (λ block h. record { from = h.from; to = omega (arith, h.to); some = h.some })
          _ (within_part level base (left_half level (drop 1 nodes))))
          (All-weaker (IsWithin (base + part_bytes level) (part_bytes level)) whole
          (λ block h. record { from = omega (arith, h.from); to = omega (arith, h.to); some = h.some })
          _ (within_part level (base + part_bytes level) (right_half level (drop 1 nodes)))))
    ]

pub left_is_before : (level base : ℕ) (nodes : List Node) → All (IsBefore (base + part_bytes level)) (live_in level base nodes)
left_is_before level base nodes =
    All-weaker (IsWithin base (part_bytes level)) (IsBefore (base + part_bytes level))
    (λ block h. (h.to, omega (arith, h.to, h.some))) (live_in level base nodes) (within_part level base nodes)

pub part_is_after : (level base : ℕ) (nodes : List Node) → All (IsAfter base) (live_in level base nodes)
part_is_after level base nodes =
    All-weaker (IsWithin base (part_bytes level)) (IsAfter base) (λ block h. h.from)
    (live_in level base nodes) (within_part level base nodes)

-- ---- no room

-- a part whose bytes lie apart from all of its live blocks is free
pub apart_is_free : (level base : ℕ) (nodes : List Node) → IsKept level nodes
    → All (IsApart (part_bytes level) base) (live_in level base nodes) → node_first nodes ≡ Free
apart_is_free zero base nodes kept apart = kept_zero nodes kept
apart_is_free (suc level) base nodes kept apart =
    let halves = kept_halves level nodes kept in
    let left : List Node = left_half level (drop 1 nodes) in
    let right : List Node = right_half level (drop 1 nodes) in
    elim (kept_fits level nodes kept) [
      | inl live ↦
          let one = subst (All (IsApart (part_bytes (suc level)) base)) (live_in-live level base nodes live.0) apart in
          absurd (not_apart (part_bytes (suc level)) (bytes_some (suc level))
          (All-head (IsApart (part_bytes (suc level)) base) _ [] one))
      | inr joined ↦
          let both = subst (All (IsApart (part_bytes (suc level)) base)) (live_in-joined level base nodes joined) apart in
          let left_free = apart_is_free level base left halves.0
          (apart_within (part_bytes (suc level)) base (part_bytes level) base (le_refl base) (omega arith) (live_in level base left)
          (All-left (IsApart (part_bytes (suc level)) base) (live_in level base left)
          (live_in level (base + part_bytes level) right) both)) in
          let right_free = apart_is_free level (base + part_bytes level) right halves.1
          (apart_within (part_bytes (suc level)) base (part_bytes level) (base + part_bytes level) (omega arith) (omega arith)
          (live_in level (base + part_bytes level) right)
          (All-right (IsApart (part_bytes (suc level)) base) (live_in level base left)
          (live_in level (base + part_bytes level) right) both)) in
          joined ∙ ap₂ (joined_node level) left_free right_free
    ]
  where
    not_apart : (bytes : ℕ) → 16 ≤ bytes → IsApart bytes base (record { place = base; size = bytes }) → ⊥
    not_apart bytes some apart = elim apart [ inl before ↦ omega arith | inr after ↦ omega arith ]

-- the left half of a place in a part, where the place lies before the seam
module _ (base bytes : ℕ) (left right : PoolState) (size place : ℕ) (is_place : IsPlaceIn base (2 * bytes) (left ++ right) size place) where
  pub place_left : place + size ≤ base + bytes → IsPlaceIn base bytes left size place
  place_left before = record {
    after = is_place.after;
    before = before;
    aligned = is_place.aligned;
    apart = All-left (IsApart size place) left right is_place.apart;
  }

  pub place_right : base + bytes ≤ place → IsPlaceIn (base + bytes) bytes right size place
  place_right after = record {
    after = after;
    before = omega (arith, is_place.before);
    aligned = is_place.aligned;
    apart = All-right (IsApart size place) left right is_place.apart;
  }

-- where a part has too little room, it has no place
pub no_room : (level base wanted : ℕ) (nodes : List Node) → IsKept level nodes → IsMultiple base (part_bytes level)
    → room_in level (node_first nodes) < wanted → (place : ℕ)
    → IsPlaceIn base (part_bytes level) (live_in level base nodes) (part_bytes wanted) place → ⊥
no_room zero base wanted nodes kept aligned short place is_place =
    omega (arith, is_place.after, is_place.before, bytes_rise 1 wanted (omega arith))
no_room (suc level) base wanted nodes kept aligned short place is_place =
    elim (cases_lt (suc level) wanted) [
      | inl larger ↦ omega (arith, is_place.after, is_place.before, bytes_some level, bytes_rise (suc (suc level)) wanted larger)
      | inr fits ↦ elim (kept_fits level nodes kept) [
        | inl live ↦
            let one = subst (All (IsApart (part_bytes wanted) place)) (live_in-live level base nodes live.0) is_place.apart in
            elim (All-head (IsApart (part_bytes wanted) place) _ [] one) [
              | inl before ↦ omega (arith, is_place.after, bytes_some wanted)
              | inr after ↦ omega (arith, is_place.before, bytes_some wanted)
            ]
        | inr joined ↦
            let room : room_in (suc level) (node_over level (drop 1 nodes)) < wanted =
            subst (λ node. room_in (suc level) node < wanted) joined short in
            elim (cases_lt wanted (suc level)) [
              | inl smaller ↦
                  let rooms = joined_short level wanted (node_first left) (node_first right) (omega arith) room in
                  let inside : IsPlaceIn base (2 * part_bytes level) (lefts ++ rights) (part_bytes wanted) place =
                  subst (λ live. IsPlaceIn base (2 * part_bytes level) live (part_bytes wanted) place)
                  (live_in-joined level base nodes joined) is_place in
                  let halved = multiple_trans base (part_bytes (suc level)) (part_bytes level) aligned (2, refl) in
                  let seam = multiple_add base (part_bytes level) (part_bytes level) halved (1, omega arith) in
                  elim (cases_lt place (base + part_bytes level)) [
                    | inl before ↦
                        no_room level base wanted left halves.0 halved rooms.0 place
                        (place_left base (part_bytes level) lefts rights (part_bytes wanted) place inside
                        (ends_before (part_bytes wanted) place (base + part_bytes level) is_place.aligned
                        (multiple_trans (base + part_bytes level) (part_bytes level) (part_bytes wanted) seam
                        (bytes_divide wanted level (omega arith))) before))
                    | inr after ↦
                        no_room level (base + part_bytes level) wanted right halves.1 seam rooms.1 place
                        (place_right base (part_bytes level) lefts rights (part_bytes wanted) place inside after)
                  ]
              | inr whole ↦
                  let level_is : wanted ≡ suc level = omega arith in
                  let same : part_bytes wanted ≡ part_bytes (suc level) = ap part_bytes level_is in
                  let free : node_first nodes ≡ Free = apart_is_free (suc level) base nodes kept
                  (apart_within (part_bytes wanted) place (part_bytes (suc level)) base
                  (omega (arith, is_place.before, same)) (omega (arith, is_place.after, same))
                  (live_in (suc level) base nodes) is_place.apart) in
                  let room_is : room_in (suc level) (node_first nodes) ≡ suc level = ap (room_in (suc level)) free in
                  omega (arith, room_is, short)
            ]
      ]
    ]
  where
    left : List Node
    left = left_half level (drop 1 nodes)

    right : List Node
    right = right_half level (drop 1 nodes)

    lefts : PoolState
    lefts = live_in level base left

    rights : PoolState
    rights = live_in level (base + part_bytes level) right

    halves : IsKeptBelow level (drop 1 nodes)
    halves = kept_halves level nodes kept
