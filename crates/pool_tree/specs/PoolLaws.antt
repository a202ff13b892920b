-- What follows for the blocks of an arena.
use Rattle.std.specs.Prelude.{◌≡◌, ℕ, ◌+◌, ◌≤◌, false, All, Contains}
use Rattle.mm_base.specs.declared.range.Range.{Range}
use Rattle.mm_base.specs.Range.{share_a_unit}
use Rattle.pool_tree.specs.Pool.{Block, PoolState, arena_bytes, IsMultiple, IsBlockSize, IsPlace, IsLowestPlace}
use Rattle.pool_tree.specs.Pool.{IsArena}
use Rattle.pool_tree.specs.Pool.{without_block}

-- the bytes of a block, as a range
abbrev pub range_of : Block → Range
range_of block = record { base = block.place; length = block.size }

-- a block that is handed out lies in the arena, at a multiple of its size
abbrev pub HandedOutIsAligned : Type 0
HandedOutIsAligned = (live : PoolState) (size place : ℕ)
    → IsLowestPlace live size place → (place + size ≤ arena_bytes) × IsMultiple place size

-- a block that is handed out has no byte in common with a live one
abbrev pub HandedOutIsApart : Type 0
HandedOutIsApart = (live : PoolState) (size place : ℕ)
    → IsLowestPlace live size place
    → All (λ block. share_a_unit (range_of block) (record { base = place; length = size }) ≡ false) live

-- once a block is freed, a block of its size may lie where it lay
abbrev pub FreedIsAPlace : Type 0
FreedIsAPlace = (live : PoolState) (block : Block)
    → IsArena live → Contains live block → IsPlace (without_block live block.place) block.size block.place

-- each count of bytes has a block size
abbrev pub EachHasASize : Type 0
EachHasASize = (n : ℕ) → (size : ℕ) × IsBlockSize n size

-- and it has one alone
abbrev pub SizeIsOne : Type 0
SizeIsOne = (n one other : ℕ) → IsBlockSize n one → IsBlockSize n other → one ≡ other
