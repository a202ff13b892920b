-- Which block or run of pages comes next: what a pool and a reserve find is what the definitions name.
use Rattle.std.proofs.Common.{◌≡◌, ◌⊎◌, inl, inr, ℕ, zero, suc, ◌+◌, ◌-◌, ◌/◌, ◌%◌, ◌≤◌, ◌<◌, Bool, true, false, not, ◌&&◌, ◌||◌, Decides, List, [], ◌∷◌, length, take, drop, get_or, map, Some, None, All, Contains, leb, eqb, refl, sym, ap, ◌∙◌, ◌==◌, arith}
use Rattle.std.proofs.Math.Nat.{mul-mod_left}
use Rattle.std.specs.List.{list_any, list_all}
use Rattle.std.specs.Option.{option_map}
use Rattle.std.proofs.lemmas.Bool.{cases_lt}
use Rattle.std.proofs.lemmas.Bool.Decides.{nat_tests, Decides-and, Decides-or, Decides-eqb, Decides-like, Decides-by_and}
use Rattle.std.proofs.lemmas.List.{length-take, length-drop, get_or-take, get_or-drop, get_or_default}
use Rattle.page_runs.specs.Runs.{is_taken, IsRun, IsLowestRun, HasNoRun, AreTaken}
use Rattle.pool_tree.specs.Pool.{Block, IsApart, IsBlockSize, IsLive, IsLowestPlace, IsMultiple, IsPlace, arena_bytes}
use Rattle.pool_tree.proofs.SizeLemmas.{size_exists}
use Rattle.supervisor_calls.specs.Holdings.{is_apart, may_lie, block_of_size, next_block, are_taken, are_free, next_run}
use Rattle.supervisor_calls.proofs.LowestLemmas.{lowest_is, lowest_none, size_is, size_none}

pub decides_le : (a b : ℕ) → Decides (leb a b) (a ≤ b)
decides_le a b = (λ e. grind (arith, nat_tests, e), λ h. grind (arith, nat_tests, h))

-- ---- places of blocks

module _ (pool : List Block) (size : ℕ) (some : 1 ≤ size) where
  decides_apart : (place : ℕ) (block : Block) → Decides (is_apart size place block) (IsApart size place block)
  decides_apart place block = Decides-or _ _ (decides_le (place + size) block.place) (decides_le (block.place + block.size) place)

  decides_all_apart : (place : ℕ) → Decides (list_all (is_apart size place) pool) (All (IsApart size place) pool)
  decides_all_apart place =
      Decides-by_and (is_apart size place) (IsApart size place) (list_all (is_apart size place)) (decides_apart place) refl (λ _ _. refl) pool

  multiple : (place : ℕ) → Decides (eqb (place % size) 0) (IsMultiple place size)
  multiple place = (
    λ e.
        let none : place % size ≡ 0 = (Decides-eqb (place % size) 0).0 e in
        (place / size, omega (arith, none, some)),
    λ is. (Decides-eqb (place % size) 0).1 (ap (λ k. k % size) is.1 ∙ mul-mod_left is.0 size),
  )

  decides_place : (place : ℕ) → Decides (may_lie pool size place) (IsPlace pool size place)
  decides_place place =
      Decides-like (may_lie pool size place) (λ parts. record { aligned = parts.0; within = parts.1.0; apart = parts.1.1 })
      (λ is. (is.aligned, (is.within, is.apart)))
      (Decides-and _ _ (multiple place) (Decides-and _ _ (decides_le (place + size) arena_bytes) (decides_all_apart place)))

  -- the lowest place for a block is the one that the definition finds
  pub found_place : (place : ℕ) → IsLowestPlace pool size place → block_of_size pool (Some size) ≡ Some (record { place = place; size = size })
  unfolding block_of_size
  found_place place is =
      let within : place + size ≤ 65536 = is.is_place.within in
      ap (option_map (λ (k : ℕ). record { place = k; size = size }))
      (lowest_is (IsPlace pool size) (may_lie pool size) decides_place arena_bytes place (omega (arith, within, some)) is.is_place is.lowest)

  pub no_place : ((place : ℕ) → IsPlace pool size place → ⊥) → block_of_size pool (Some size) ≡ None
  unfolding block_of_size
  no_place none =
      ap (option_map (λ (k : ℕ). record { place = k; size = size }))
      (lowest_none (IsPlace pool size) (may_lie pool size) decides_place arena_bytes none)

no_size : (pool : List Block) → block_of_size pool None ≡ None
unfolding block_of_size
no_size pool = refl

module _ (pool : List Block) (n : ℕ) where
  -- the block that is found for n bytes
  pub next_found : (size place : ℕ) → IsBlockSize n size → IsLowestPlace pool size place
      → next_block pool n ≡ Some (record { place = place; size = size })
  next_found size place is lowest =
      let within : place + size ≤ 65536 = lowest.is_place.within in
      ap (block_of_size pool) (size_is n size is (omega (arith, within)))
      ∙ found_place pool size (omega (arith, is.floor)) place lowest

  pub next_none : ((size place : ℕ) → IsBlockSize n size → IsPlace pool size place → ⊥) → next_block pool n ≡ None
  next_none none =
      let found : (size : ℕ) × IsBlockSize n size = size_exists n in
      elim (cases_lt 65536 found.0) [
        | inl more ↦ ap (block_of_size pool) (size_none n found.0 found.1 more) ∙ no_size pool
        | inr most ↦
            ap (block_of_size pool) (size_is n found.0 found.1 most)
            ∙ no_place pool found.0 (omega (arith, found.1.floor)) (λ place. none found.0 place found.1)
      ]

-- ---- live blocks

contains_either : (first : ℕ) (rest : List ℕ) (x : ℕ) → Contains (first ∷ rest) x → (first ≡ x) ⊎ Contains rest x
contains_either first rest x (zero, below, is) = inl is
contains_either first rest x (suc k, below, is) = inr (k, omega (arith, below), is)

contains_one : (first : ℕ) (rest : List ℕ) (x : ℕ) → (first ≡ x) ⊎ Contains rest x → Contains (first ∷ rest) x
contains_one first rest x (inl is) = (0, omega arith, is)
contains_one first rest x (inr (k, below, is)) = (suc k, omega (arith, below), is)

-- a block of a list begins at a place
pub decides_live : (pool : List Block) (place : ℕ) → Decides (list_any (λ block. block.place == place) pool) (IsLive pool place)
decides_live [] place = (λ e. absurd cc, λ has. absurd (omega (arith, has.1)))
decides_live (block ∷ pool) place =
    Decides-like (block.place == place || list_any (λ block. block.place == place) pool)
    (contains_one block.place (map (λ (b : Block). b.place) pool) place)
    (contains_either block.place (map (λ (b : Block). b.place) pool) place)
    (Decides-or _ _ (Decides-eqb block.place place) (decides_live pool place))

-- ---- pages

decides_and_then : {P Q : Type 0} (x y : Bool) → Decides x P → (P → Decides y Q) → Decides (x && y) (P × Q)
decides_and_then true y first second =
    let is = first.0 refl in
    (λ e. (is, (second is).0 e), λ both. (second both.0).1 both.1)
decides_and_then false y first second = (λ e. absurd cc, λ both. absurd (let e : false ≡ true = first.1 both.0 in cc))

decides_not : (b : Bool) → Decides (not b) (b ≡ false)
decides_not true = (λ e. absurd cc, λ e. absurd cc)
decides_not false = (λ e. refl, λ e. refl)

decides_it : (b : Bool) → Decides b (b ≡ true)
decides_it b = (λ e. e, λ e. e)

-- each of n pages from a start on is so
module _ (value : Bool) (test : Bool → Bool) (each : (b : Bool) → Decides (test b) (b ≡ value)) (taken : List Bool) (start n : ℕ) (inside : start + n ≤ length taken) where
  abbrev those : List Bool
  those = take n (drop start taken)

  length-those : length those ≡ n
  length-those = omega (arith, inside, length-take n (drop start taken), length-drop start taken)

  page_of : (page : ℕ) → start ≤ page → page < start + n → get_or those (page - start) false ≡ is_taken taken page
  page_of page from to =
      let same : start + (page - start) ≡ page = omega arith in
      get_or-take n (drop start taken) (page - start) false (omega arith) ∙ get_or-drop start taken (page - start) false ∙ ap (is_taken taken) same

  decides_each : Decides (list_all test those) ((page : ℕ) → start ≤ page → page < start + n → is_taken taken page ≡ value)
  decides_each =
      Decides-like (list_all test those)
      (λ (all : All (λ b. b ≡ value) those) page from to. sym (page_of page from to) ∙ all (page - start) false (omega (arith, length-those, from, to)))
      (λ all k d below.
      let few : k < n = omega (arith, below, length-those) in
      get_or_default those k d false below ∙ get_or-take n (drop start taken) k false few ∙ get_or-drop start taken k false
      ∙ all (start + k) (omega arith) (omega (arith, few)))
      (Decides-by_and test (λ b. b ≡ value) (list_all test) each refl (λ _ _. refl) those)

decides_run : (reserve : List Bool) (n start : ℕ) → Decides (are_free reserve start n) (IsRun reserve n start)
decides_run reserve n start =
    Decides-like (are_free reserve start n) (λ parts. record { inside = parts.0; free = parts.1 }) (λ is. (is.inside, is.free))
    (decides_and_then _ _ (decides_le (start + n) (length reserve)) (decides_each false not decides_not reserve start n))

pub decides_taken : (reserve : List Bool) (start n : ℕ) → Decides (are_taken reserve start n) (AreTaken reserve start n)
decides_taken reserve start n =
    Decides-like (are_taken reserve start n) (λ parts. record { inside = parts.0; each = parts.1 }) (λ is. (is.inside, is.each))
    (decides_and_then _ _ (decides_le (start + n) (length reserve)) (decides_each true (λ b. b) decides_it reserve start n))

module _ (reserve : List Bool) (n : ℕ) where
  pub run_found : 1 ≤ n → (start : ℕ) → IsLowestRun reserve n start → next_run reserve n ≡ Some start
  unfolding next_run
  run_found some start is =
      let inside : start + n ≤ length reserve = is.run.inside in
      lowest_is (IsRun reserve n) (λ start. are_free reserve start n) (decides_run reserve n) (length reserve) start (omega (arith, inside, some)) is.run is.lowest

  pub run_none : HasNoRun reserve n → next_run reserve n ≡ None
  unfolding next_run
  run_none none = lowest_none (IsRun reserve n) (λ start. are_free reserve start n) (decides_run reserve n) (length reserve) none
