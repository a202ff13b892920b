-- One step of taking and freeing, on the list of nodes that the code has.
use Rattle.std.proofs.Common.{◌≡◌, ℕ, suc, ◌+◌, ◌-◌, ◌*◌, ◌<◌, ◌≤◌, true, false, refl, sym, ap, ap₂, ◌∙◌, subst, arith}
use Rattle.std.proofs.Common.{List, [], ◌∷◌, ◌++◌, length, take, drop, set, Option, Some, None, is_some, Result, Ok, append-nil, take_at}
use Rattle.std.proofs.Common.{drop_at, length-drop}
use Rattle.std.proofs.lemmas.Bool.{true≢false, false≢true}
use Rattle.std.proofs.lemmas.List.{take_rest, drop_all}
use borrow.Rule.Slice.PartMut.{put_mid}
use Rattle.pool_tree.specs.declared.pool.NotLive.{NotLive}
use Rattle.pool_tree.specs.declared.tree.Node.{Node}
use Rattle.pool_tree.specs.declared.tree.Node.TheVariants.{Free, Live, Halved}
use Rattle.pool_tree.specs.Pool.{PoolState, IsMultiple, IsLive}
use Rattle.pool_tree.specs.PoolInside.{IsTaken, IsPart, Gives, Frees}
use Rattle.pool_tree.specs.TreeInside.{part_bytes, node_count, is_live_node, node_first, room_in, node_over}
use Rattle.pool_tree.specs.TreeInside.{IsKept, IsKeptBelow, live_in, live_below}
use Rattle.pool_tree.proofs.SizeLemmas.{bytes_some, bytes_divide, multiple_trans, part_right}
use Rattle.pool_tree.proofs.TreeLemmas.{kept_halves, full_room_free, live_in-below, live_in-joined, left_is_before, part_is_after}
use Rattle.pool_tree.proofs.PartLemmas.{taken_left, gives_right, frees_left, frees_right, taken_whole, kept_whole, kept_freed, freed_whole}
use Rattle.pool_tree.proofs.PartLemmas.{other_place, kept_joined}

-- a node with some room isn't live
pub room_not_live : (level : ℕ) (node : Node) → 1 ≤ room_in level node → is_live_node node ≡ false
room_not_live level Free some = refl
room_not_live level Live some = absurd (omega arith)
room_not_live level (Halved room) some = refl

pub live_node : (node : Node) → is_live_node node ≡ true → node ≡ Live
live_node Free is = absurd (false≢true is)
live_node Live is = refl
live_node (Halved room) is = absurd (false≢true is)

-- the first node and the others
nodes_are : (nodes : List Node) → 0 < length nodes → nodes ≡ node_first nodes ∷ drop 1 nodes
nodes_are [] some = absurd (omega arith)
nodes_are (node ∷ below) some = refl

set_first : (nodes : List Node) (node : Node) → 0 < length nodes → set nodes 0 node ≡ node ∷ drop 1 nodes
set_first [] node some = absurd (omega arith)
set_first (other ∷ below) node some = refl

-- after a write to all nodes but the first
pub written_below : (nodes later : List Node) → 0 < length nodes → put_mid 1 (length nodes - 1) nodes later ≡ node_first nodes ∷ later
written_below [] later some = absurd (omega arith)
written_below (node ∷ below) later some =
    let all : length below ≤ length (node ∷ below) - 1 = omega arith in
    ap (λ (xs : List Node). node ∷ (later ++ xs)) (drop_all (length (node ∷ below) - 1) below all)
    ∙ ap (λ (xs : List Node). node ∷ xs) (append-nil later)

gives_same : (base size : ℕ) (result : Option ℕ) (bytes bytes' : ℕ) (live live' later later' : PoolState)
    → bytes ≡ bytes' → live ≡ live' → later ≡ later' → Gives base bytes size live later result → Gives base bytes' size live' later' result
gives_same base size result bytes bytes' live live' later later' e f g gives =
    subst (λ b. Gives base b size live' later' result) e
    (subst (λ (l : PoolState). Gives base bytes size l later' result) f
    (subst (λ (l : PoolState). Gives base bytes size live l result) g gives))

frees_same : (place : ℕ) (result : Result (Unit {0}) NotLive) (live live' later later' : PoolState)
    → live ≡ live' → later ≡ later' → Frees place live later result → Frees place live' later' result
frees_same place result live live' later later' f g frees =
    subst (λ (l : PoolState). Frees place l later' result) f (subst (λ (l : PoolState). Frees place live l result) g frees)

-- ---- a part of level `level`, whose halves have level `lower`

module _ (level lower : ℕ) (above : level ≡ suc lower) (nodes : List Node) (long : length nodes ≡ node_count level) where
  count_above : node_count level ≡ 1 + 2 * node_count lower
  count_above = ap node_count above

  pub some_nodes : 0 < length nodes
  some_nodes = omega (arith, long, count_above)

  below_is : take (length nodes - 1) (drop 1 nodes) ≡ drop 1 nodes
  below_is = take_rest nodes 1

  pub below_long : length (take (length nodes - 1) (drop 1 nodes)) ≡ 2 * node_count lower
  below_long = omega (arith, ap length below_is, length-drop 1 nodes, long, count_above)

  kept_above : IsKept level nodes → IsKept (suc lower) nodes
  kept_above kept = subst (λ n. IsKept n nodes) above kept

  pub kept_below : IsKept level nodes → IsKeptBelow lower (take (length nodes - 1) (drop 1 nodes))
  kept_below kept = subst (IsKeptBelow lower) (sym below_is) (kept_halves lower nodes (kept_above kept))

  pub part_below : (base : ℕ) → IsPart level base → IsPart (lower + 1) base
  part_below base part =
      let same : level ≡ lower + 1 = omega arith in
      subst (λ n. IsPart n base) same part

  -- the blocks, where the node isn't live
  live_before : (base : ℕ) → is_live_node (node_first nodes) ≡ false
      → live_below lower base (take (length nodes - 1) (drop 1 nodes)) ≡ live_in level base nodes
  live_before base other =
      ap (live_below lower base) below_is ∙ sym (live_in-below lower base nodes other) ∙ ap (λ n. live_in n base nodes) (sym above)

  module _ (later : List Node) (node : Node) (is_over : node ≡ node_over lower later) where
    rebuilt : set (put_mid 1 (length nodes - 1) nodes later) 0 node ≡ node_over lower later ∷ later
    rebuilt =
        ap (λ (xs : List Node). set xs 0 node) (written_below nodes later some_nodes) ∙ ap (λ (n : Node). n ∷ later) is_over

    pub kept_after : IsKeptBelow lower later → IsKept level (set (put_mid 1 (length nodes - 1) nodes later) 0 node)
    kept_after halves =
        subst (λ n. IsKept n (set (put_mid 1 (length nodes - 1) nodes later) 0 node)) (sym above)
        (subst (IsKept (suc lower)) (sym rebuilt) (kept_joined lower later halves))

    live_after : (base : ℕ) → live_below lower base later ≡ live_in level base (set (put_mid 1 (length nodes - 1) nodes later) 0 node)
    live_after base =
        sym (live_in-joined lower base (node_over lower later ∷ later) refl) ∙ ap (live_in (suc lower) base) (sym rebuilt)
        ∙ ap (λ n. live_in n base (set (put_mid 1 (length nodes - 1) nodes later) 0 node)) (sym above)

    pub gives_after : (base size : ℕ) (result : Option ℕ) → is_live_node (node_first nodes) ≡ false
        → Gives base (2 * part_bytes lower) size (live_below lower base (take (length nodes - 1) (drop 1 nodes)))
        (live_below lower base later) result
        → Gives base (part_bytes level) size (live_in level base nodes)
        (live_in level base (set (put_mid 1 (length nodes - 1) nodes later) 0 node)) result
    gives_after base size result other gives =
        gives_same base size result (2 * part_bytes lower) (part_bytes level) _ _ _ _
        (ap part_bytes (sym above)) (live_before base other) (live_after base) gives

    pub frees_after : (base place : ℕ) (result : Result (Unit {0}) NotLive) → is_live_node (node_first nodes) ≡ false
        → Frees place (live_below lower base (take (length nodes - 1) (drop 1 nodes))) (live_below lower base later) result
        → Frees place (live_in level base nodes) (live_in level base (set (put_mid 1 (length nodes - 1) nodes later) 0 node)) result
    frees_after base place result other frees =
        frees_same place result _ _ _ _ (live_before base other) (live_after base) frees

  -- the whole part is taken
  module _ (kept : IsKept level nodes) (full : level ≤ room_in level (node_first nodes)) where
    are_free : nodes ≡ Free ∷ drop 1 nodes
    are_free = nodes_are nodes some_nodes ∙ ap (λ (n : Node). n ∷ drop 1 nodes) (full_room_free level nodes kept full)

    kept_free_node : IsKept (suc lower) (Free ∷ drop 1 nodes)
    kept_free_node = subst (IsKept (suc lower)) are_free (kept_above kept)

    pub kept_live : IsKept level (set nodes 0 Live)
    kept_live =
        subst (λ n. IsKept n (set nodes 0 Live)) (sym above)
        (subst (IsKept (suc lower)) (sym (set_first nodes Live some_nodes)) (kept_whole lower (drop 1 nodes) kept_free_node))

    pub taken_live : (base : ℕ) → IsPart level base
        → IsTaken base (part_bytes level) (part_bytes level) (live_in level base nodes) (live_in level base (set nodes 0 Live)) base
    taken_live base part =
        let taken = taken_whole lower base (drop 1 nodes) (subst (λ n. IsPart n base) above part) kept_free_node in
        let same_nodes = subst (λ (xs : List Node). IsTaken base (part_bytes (suc lower)) (part_bytes (suc lower))
        (live_in (suc lower) base xs) (live_in (suc lower) base (Live ∷ drop 1 nodes)) base) (sym are_free) taken in
        let same_later = subst (λ (xs : List Node). IsTaken base (part_bytes (suc lower)) (part_bytes (suc lower))
        (live_in (suc lower) base nodes) (live_in (suc lower) base xs) base) (sym (set_first nodes Live some_nodes)) same_nodes in
        subst (λ n. IsTaken base (part_bytes n) (part_bytes n) (live_in n base nodes) (live_in n base (set nodes 0 Live)) base)
        (sym above) same_later

  -- the whole part is freed
  module _ (kept : IsKept level nodes) (live : is_live_node (node_first nodes) ≡ true) where
    are_live : nodes ≡ Live ∷ drop 1 nodes
    are_live = nodes_are nodes some_nodes ∙ ap (λ (n : Node). n ∷ drop 1 nodes) (live_node (node_first nodes) live)

    kept_live_node : IsKept (suc lower) (Live ∷ drop 1 nodes)
    kept_live_node = subst (IsKept (suc lower)) are_live (kept_above kept)

    pub kept_free_again : IsKept level (set nodes 0 Free)
    kept_free_again =
        subst (λ n. IsKept n (set nodes 0 Free)) (sym above)
        (subst (IsKept (suc lower)) (sym (set_first nodes Free some_nodes)) (kept_freed lower (drop 1 nodes) kept_live_node))

    same_live : (base : ℕ) → live_in (suc lower) base (Live ∷ drop 1 nodes) ≡ live_in level base nodes
    same_live base = ap (live_in (suc lower) base) (sym are_live) ∙ ap (λ n. live_in n base nodes) (sym above)

    pub freed_live : (base place : ℕ) (done : Unit {0}) → place ≡ base
        → Frees place (live_in level base nodes) (live_in level base (set nodes 0 Free)) (Ok done)
    freed_live base place done same =
        let later : live_in (suc lower) base (Free ∷ drop 1 nodes) ≡ live_in level base (set nodes 0 Free) =
        ap (live_in (suc lower) base) (sym (set_first nodes Free some_nodes)) ∙ ap (λ n. live_in n base (set nodes 0 Free)) (sym above) in
        subst (λ p. Frees p (live_in level base nodes) (live_in level base (set nodes 0 Free)) (Ok done)) (sym same)
        (frees_same base (Ok done) _ _ _ _ (same_live base) later (freed_whole lower base (drop 1 nodes) kept_live_node))

    pub other_not_live : (base place : ℕ) → (place ≡ base → ⊥) → IsLive (live_in level base nodes) place → ⊥
    other_not_live base place other is_live =
        other_place lower base place (drop 1 nodes) other (subst (λ (l : PoolState). IsLive l place) (sym (same_live base)) is_live)

-- ---- two halves of level `level`, as the code has them

halves_live : (level base : ℕ) (left right : List Node) → length left ≡ node_count level
    → live_below level base (left ++ right) ≡ live_in level base left ++ live_in level (base + part_bytes level) right
halves_live level base left right long =
    ap₂ (λ (xs ys : List Node). live_in level base xs ++ live_in level (base + part_bytes level) ys)
    (take_at left right (node_count level) long) (drop_at left right (node_count level) long)

pub halves_kept : (level : ℕ) (left right : List Node) → length left ≡ node_count level → IsKept level left → IsKept level right
    → IsKeptBelow level (left ++ right)
halves_kept level left right long kept_left kept_right = (
  subst (IsKept level) (sym (take_at left right (node_count level) long)) kept_left,
  subst (IsKept level) (sym (drop_at left right (node_count level) long)) kept_right,
)

module _ (level base : ℕ) (left right later : List Node)
    (long : length left ≡ node_count level) (long_later : length later ≡ node_count level) where
  pub gives_first : (wanted : ℕ) (result : Option ℕ) → is_some result ≡ true
      → Gives base (part_bytes level) (part_bytes wanted) (live_in level base left) (live_in level base later) result
      → Gives base (2 * part_bytes level) (part_bytes wanted) (live_below level base (left ++ right))
      (live_below level base (later ++ right)) result
  gives_first wanted None some gives = absurd (false≢true some)
  gives_first wanted (Some place) some gives =
      gives_same base (part_bytes wanted) (Some place) (2 * part_bytes level) (2 * part_bytes level) _ _ _ _ refl
      (sym (halves_live level base left right long)) (sym (halves_live level base later right long_later))
      (taken_left base (part_bytes level) (part_bytes wanted) (live_in level base left) (live_in level (base + part_bytes level) right)
      (live_in level base later) place (bytes_some wanted) (part_is_after level (base + part_bytes level) right) gives)

  pub gives_second : (wanted : ℕ) (right_later : List Node) (first result : Option ℕ)
      → is_some first ≡ false → wanted ≤ level → IsPart (suc level) base
      → Gives base (part_bytes level) (part_bytes wanted) (live_in level base left) (live_in level base later) first
      → Gives (base + part_bytes level) (part_bytes level) (part_bytes wanted) (live_in level (base + part_bytes level) right)
      (live_in level (base + part_bytes level) right_later) result
      → Gives base (2 * part_bytes level) (part_bytes wanted) (live_below level base (left ++ right))
      (live_below level base (later ++ right_later)) result
  gives_second wanted right_later (Some place) result some fits part first gives = absurd (true≢false some)
  gives_second wanted right_later None result some fits part first gives =
      let aligned : IsMultiple (base + part_bytes level) (part_bytes wanted) =
      multiple_trans (base + part_bytes level) (part_bytes level) (part_bytes wanted)
      (part_right level base part).aligned (bytes_divide wanted level fits) in
      gives_same base (part_bytes wanted) result (2 * part_bytes level) (2 * part_bytes level) _ _ _ _ refl
      (sym (halves_live level base left right long)) (sym (halves_live level base later right_later long_later))
      (gives_right base (part_bytes level) (part_bytes wanted) (live_in level base left) (live_in level (base + part_bytes level) right)
      (live_in level base later) (live_in level (base + part_bytes level) right_later)
      first aligned (left_is_before level base left) result gives)

  pub frees_first : (place : ℕ) (result : Result (Unit {0}) NotLive) → place < base + part_bytes level
      → Frees place (live_in level base left) (live_in level base later) result
      → Frees place (live_below level base (left ++ right)) (live_below level base (later ++ right)) result
  frees_first place result before frees =
      frees_same place result _ _ _ _ (sym (halves_live level base left right long)) (sym (halves_live level base later right long_later))
      (frees_left (base + part_bytes level) (live_in level base left) (live_in level (base + part_bytes level) right) place
      (live_in level base later) result before (part_is_after level (base + part_bytes level) right) frees)

pub frees_second : (level base place : ℕ) (left right right_later : List Node) (result : Result (Unit {0}) NotLive)
    → length left ≡ node_count level
    → base + part_bytes level ≤ place
    → Frees place (live_in level (base + part_bytes level) right) (live_in level (base + part_bytes level) right_later) result
    → Frees place (live_below level base (left ++ right)) (live_below level base (left ++ right_later)) result
frees_second level base place left right right_later result long after frees =
    frees_same place result _ _ _ _ (sym (halves_live level base left right long)) (sym (halves_live level base left right_later long))
    (frees_right (base + part_bytes level) (live_in level base left) (live_in level (base + part_bytes level) right) place
    (live_in level (base + part_bytes level) right_later) result after (left_is_before level base left) frees)

-- a part of level 0 has no block
pub none_at_zero : (level base place : ℕ) (nodes : List Node) → level ≡ 0 → IsLive (live_in level base nodes) place → ⊥
unfolding live_in
none_at_zero level base place nodes zero_is is_live =
    let none : IsLive [] place = subst (λ n. IsLive (live_in n base nodes) place) zero_is is_live in
    let within = none.1 in
    omega arith
