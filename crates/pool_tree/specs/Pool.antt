-- A pool arena of 65,536 bytes, as its live blocks.
use Rattle.std.specs.Prelude.{◌≡◌, ◌⊎◌, ℕ, ◌+◌, ◌*◌, ◌≤◌, ◌==◌, not, nat_lt, List, ◌∷◌, ◌++◌, map, filter, All}
use Rattle.std.specs.Prelude.{AllPairs, Contains}
use Rattle.std.specs.Int.{IsPowerOfTwo}

-- a block of memory: the place of its first byte in the arena, and how many bytes it has
pub record Block : Type 0 where
  pub place : ℕ
  pub size : ℕ

-- the bytes of an arena
abbrev pub arena_bytes : ℕ
arena_bytes = 65536

-- a pool is the list of its live blocks, in rising order of place
abbrev pub PoolState : Type 0
PoolState = List Block

-- a number is a multiple of another
abbrev pub IsMultiple : ℕ → ℕ → Type 0
IsMultiple number unit = (count : ℕ) × (number ≡ count * unit)

-- the size of a block for n bytes: the least power of two that is at least 32 and at least n
pub record IsBlockSize (n size : ℕ) : Type 0 where
  pub power : IsPowerOfTwo size
  pub floor : 32 ≤ size
  pub holds : n ≤ size
  pub least : (other : ℕ) → IsPowerOfTwo other → 32 ≤ other → n ≤ other → size ≤ other

-- a block and the bytes of this size from this place on have no byte in common: the one ends before the other begins
abbrev pub IsApart : ℕ → ℕ → Block → Type 0
IsApart size place block = (place + size ≤ block.place) ⊎ (block.place + block.size ≤ place)

-- a block of this size may lie at this place: a multiple of the size, within the arena, apart from each live block
pub record IsPlace (live : PoolState) (size place : ℕ) : Type 0 where
  pub aligned : IsMultiple place size
  pub within : place + size ≤ arena_bytes
  pub apart : All (IsApart size place) live

-- it may lie at this place, and at no lower one
pub record IsLowestPlace (live : PoolState) (size place : ℕ) : Type 0 where
  pub is_place : IsPlace live size place
  pub lowest : (other : ℕ) → IsPlace live size other → place ≤ other

-- a live block begins at this place
abbrev pub IsLive : PoolState → ℕ → Type 0
IsLive live place = Contains (map (λ block. block.place) live) place

-- the live blocks with one more, after those of lower places and before those of higher ones
abbrev pub with_block : PoolState → ℕ → ℕ → PoolState
with_block live place size =
    filter (λ block. nat_lt block.place place) live ++ record { place = place; size = size }
    ∷ filter (λ block. nat_lt place block.place) live

-- the live blocks without the one at this place
abbrev pub without_block : PoolState → ℕ → PoolState
without_block live place = filter (λ block. not (block.place == place)) live

-- a block as an arena has it: a power of two of at least 32 bytes, at a multiple of its size, within the arena
pub record IsBlock (block : Block) : Type 0 where
  pub power : IsPowerOfTwo block.size
  pub floor : 32 ≤ block.size
  pub aligned : IsMultiple block.place block.size
  pub within : block.place + block.size ≤ arena_bytes

-- what is true of the live blocks of every arena: each is such a block, and each ends before the next ones begin
pub record IsArena (live : PoolState) : Type 0 where
  pub blocks : All IsBlock live
  pub in_order : AllPairs (λ before after. before.place + before.size ≤ after.place) live
