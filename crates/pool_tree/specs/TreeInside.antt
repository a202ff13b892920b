-- No public clause cites this file.
-- The tree of halves: how its nodes lie in one list, and which blocks they stand for.
use Rattle.std.specs.Prelude.{◌≡◌, ◌⊎◌, ℕ, zero, suc, ◌+◌, ◌*◌, max, Bool, true, false, ◌&&◌, if◌then◌else◌}
use Rattle.std.specs.Prelude.{List, [], ◌∷◌, ◌++◌, length, take, drop, All}
use Rattle.pool_tree.specs.declared.tree.Node.{Node}
use Rattle.pool_tree.specs.declared.tree.Node.TheVariants.{Free, Live, Halved}
use Rattle.pool_tree.specs.Pool.{PoolState}

-- the bytes of a part: 16 at level 0, and twice as many one level up
abbrev pub part_bytes : ℕ → ℕ
part_bytes zero = 16
part_bytes (suc level) = 2 * part_bytes level

-- how many nodes a part has: its own and those of its halves, and none at level 0
abbrev pub node_count : ℕ → ℕ
node_count zero = 0
node_count (suc level) = 1 + 2 * node_count level

-- whether a node says that its part is free
abbrev pub is_free_node : Node → Bool
is_free_node Free = true
is_free_node Live = false
is_free_node (Halved room) = false

-- whether a node says that its part is one live block
abbrev pub is_live_node : Node → Bool
is_live_node Free = false
is_live_node Live = true
is_live_node (Halved room) = false

-- the node of the whole part, which stands first; a part without nodes is free
abbrev pub node_first : List Node → Node
node_first [] = Free
node_first (node ∷ below) = node

-- the level of the largest free part within a part, by its node
abbrev pub room_in : ℕ → Node → ℕ
room_in level Free = level
room_in level Live = 0
room_in level (Halved room) = room

-- the nodes of the left half, of those below a node whose halves have this level
abbrev pub left_half : ℕ → List Node → List Node
left_half level below = take (node_count level) below

-- and those of the right half
abbrev pub right_half : ℕ → List Node → List Node
right_half level below = drop (node_count level) below

-- the node over two halves of this level with these nodes: free where both are, else with the larger room of the two
abbrev pub joined_node : ℕ → Node → Node → Node
joined_node level left right =
    if is_free_node left && is_free_node right then Free else Halved (max (room_in level left) (room_in level right))

-- the node over these nodes of two halves
abbrev pub node_over : ℕ → List Node → Node
node_over level below = joined_node level (node_first (left_half level below)) (node_first (right_half level below))

-- a node fits what lies below it: it is live and nothing below it is, or it is what its halves make it
abbrev pub FitsBelow : ℕ → Node → List Node → Type 0
FitsBelow level node below =
    ((node ≡ Live) × (node_first (left_half level below) ≡ Free) × (node_first (right_half level below) ≡ Free))
    ⊎ (node ≡ node_over level below)

-- each node of a part fits what lies below it
unfoldable pub IsKept : ℕ → List Node → Type 0
IsKept zero nodes = node_first nodes ≡ Free
IsKept (suc level) nodes =
    IsKept level (left_half level (drop 1 nodes)) × IsKept level (right_half level (drop 1 nodes))
    × FitsBelow level (node_first nodes) (drop 1 nodes)

-- each node of both halves fits what lies below it
abbrev pub IsKeptBelow : ℕ → List Node → Type 0
IsKeptBelow level below = IsKept level (left_half level below) × IsKept level (right_half level below)

-- the live blocks of a part that begins at this place
unfoldable pub live_in : ℕ → ℕ → List Node → PoolState
live_in zero base nodes = []
live_in (suc level) base nodes =
    if is_live_node (node_first nodes) then record { place = base; size = part_bytes (suc level) } ∷ []
    else live_in level base (left_half level (drop 1 nodes))
    ++ live_in level (base + part_bytes level) (right_half level (drop 1 nodes))

-- the live blocks of both halves
abbrev pub live_below : ℕ → ℕ → List Node → PoolState
live_below level base below =
    live_in level base (left_half level below) ++ live_in level (base + part_bytes level) (right_half level below)

-- all nodes are of free parts
abbrev pub AllFree : List Node → Type 0
AllFree nodes = All (λ node. node ≡ Free) nodes

-- these are the nodes of an arena
pub record IsPool (nodes : List Node) : Type 0 where
  pub count : length nodes ≡ 4095
  pub kept : IsKept 12 nodes

-- the live blocks of an arena
unfoldable pub pool_of : List Node → PoolState
pool_of nodes = live_in 12 0 nodes
