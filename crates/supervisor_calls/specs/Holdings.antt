-- What an image holds: the blocks of its pool and the pages of its reserve, and which of them are found or given back
-- next.
use Rattle.std.specs.Prelude.{ℕ, ◌+◌, ◌-◌, ◌/◌, ◌%◌, Bool, ◌==◌, ◌&&◌, ◌||◌, not, nat_le, List, [], ◌∷◌, length, take, drop, find, Option, Some, None}
use Rattle.std.specs.List.{range_with_len, list_any, list_all}
use Rattle.std.specs.Option.{option_map}
use Rattle.pool_tree.specs.Pool.{Block, arena_bytes}

-- the lowest number below a bound that passes a test
abbrev pub lowest_below : ℕ → (ℕ → Bool) → Option ℕ
lowest_below bound test = find test (range_with_len 0 bound)

-- the sizes of blocks: the powers of two from 32 to the whole arena
abbrev pub block_sizes : List ℕ
block_sizes = 32 ∷ 64 ∷ 128 ∷ 256 ∷ 512 ∷ 1024 ∷ 2048 ∷ 4096 ∷ 8192 ∷ 16384 ∷ 32768 ∷ 65536 ∷ []

-- the size of a block for n bytes: the least that holds them
unfoldable pub size_for : ℕ → Option ℕ
size_for n = find (nat_le n) block_sizes

-- whether the bytes of this size from a place on and a block have no byte in common
abbrev pub is_apart : ℕ → ℕ → Block → Bool
is_apart size place block = nat_le (place + size) block.place || nat_le (block.place + block.size) place

-- whether a block of this size may lie at a place: a multiple of its size, within the arena, apart from each live block
abbrev pub may_lie : List Block → ℕ → ℕ → Bool
may_lie pool size place =
    (place % size == 0) && (nat_le (place + size) arena_bytes && list_all (is_apart size place) pool)

-- the block for n bytes that comes next: it has the lowest place where it may lie
unfoldable pub block_of_size : List Block → Option ℕ → Option Block
block_of_size pool None = None
block_of_size pool (Some size) =
    option_map (λ place. record { place = place; size = size }) (lowest_below arena_bytes (may_lie pool size))

abbrev pub next_block : List Block → ℕ → Option Block
next_block pool n = block_of_size pool (size_for n)

-- whether a live block begins at an address of an arena that begins at a base
abbrev pub is_live_at : ℕ → List Block → ℕ → Bool
is_live_at base pool address = nat_le base address && list_any (λ block. block.place == address - base) pool

-- whether n pages from a start on are there, and each is taken, or each is free
abbrev pub are_taken : List Bool → ℕ → ℕ → Bool
are_taken reserve start n =
    nat_le (start + n) (length reserve) && list_all (λ taken. taken) (take n (drop start reserve))

abbrev pub are_free : List Bool → ℕ → ℕ → Bool
are_free reserve start n = nat_le (start + n) (length reserve) && list_all not (take n (drop start reserve))

-- the first page of the lowest run of n free pages
unfoldable pub next_run : List Bool → ℕ → Option ℕ
next_run reserve n = lowest_below (length reserve) (λ start. are_free reserve start n)

-- the page of an address in a reserve that begins at a base
abbrev pub page_at : ℕ → ℕ → ℕ
page_at base address = (address - base) / 4096

-- whether n pages of a reserve begin at an address, and each is taken
abbrev pub are_taken_at : ℕ → List Bool → ℕ → ℕ → Bool
are_taken_at base reserve address n =
    nat_le base address && (((address - base) % 4096 == 0) && are_taken reserve (page_at base address) n)
