-- No public clause cites this file.
-- What taking and freeing a block mean in a part of the arena.
use Rattle.std.specs.Prelude.{◌≡◌, ℕ, ◌+◌, ◌≤◌, All, Option, Some, None, Result, Ok, Err}
use Rattle.pool_tree.specs.declared.pool.NotLive.{NotLive}
use Rattle.pool_tree.specs.Pool.{PoolState, arena_bytes, IsMultiple, IsApart, IsLive, with_block, without_block}
use Rattle.pool_tree.specs.TreeInside.{part_bytes}

-- a part of this level begins at this place: a multiple of its bytes, within the arena
pub record IsPart (level base : ℕ) : Type 0 where
  pub aligned : IsMultiple base (part_bytes level)
  pub within : base + part_bytes level ≤ arena_bytes

-- a block of this size may lie at this place within the part that has n bytes from its base on, n being `bytes`
pub record IsPlaceIn (base bytes : ℕ) (live : PoolState) (size place : ℕ) : Type 0 where
  pub after : base ≤ place
  pub before : place + size ≤ base + bytes
  pub aligned : IsMultiple place size
  pub apart : All (IsApart size place) live

-- the lowest place of a part is taken
pub record IsTaken (base bytes size : ℕ) (live later : PoolState) (place : ℕ) : Type 0 where
  pub is_place : IsPlaceIn base bytes live size place
  pub lowest : (other : ℕ) → IsPlaceIn base bytes live size other → place ≤ other
  pub joins : later ≡ with_block live place size

-- a part has no place, and stays as it is
pub record IsFull (base bytes size : ℕ) (live later : PoolState) : Type 0 where
  pub none : (place : ℕ) → IsPlaceIn base bytes live size place → ⊥
  pub unchanged : later ≡ live

-- the lowest place of a part is taken and answered, or there is none
abbrev pub Gives : (base bytes size : ℕ) → (live later : PoolState) → Option ℕ → Type 0
Gives base bytes size live later None = IsFull base bytes size live later
Gives base bytes size live later (Some place) = IsTaken base bytes size live later place

-- the block at a place is freed, or no live block begins there
abbrev pub Frees : (place : ℕ) → (live later : PoolState) → Result (Unit {0}) NotLive → Type 0
Frees place live later (Ok done) = IsLive live place × (later ≡ without_block live place)
Frees place live later (Err fault) = (IsLive live place → ⊥) × (later ≡ live)
