-- What tables are after a block of an image was taken or freed, or a run of pages taken.
use Rattle.std.proofs.Common.{◌≡◌, ◌↔◌, ℕ, ◌-◌, ◌≤◌, ◌<◌, Bool, true, false, List, [], length, get_or, Option, Some, None, Result, Ok, Err, All, IfSome, IfNone, IsErr, OnOk, OnErr, leb, ◌==◌, refl, sym, ap, ◌∙◌, subst, arith}
use Rattle.std.specs.List.{list_any}
use Rattle.std.specs.Result.{is_ok}
use Rattle.std.proofs.lemmas.Bool.{and_left, and_from, and_right}
use Rattle.std.proofs.lemmas.Bool.Decides.{nat_tests}
use Rattle.std.proofs.lemmas.List.{get_or_default, set-get_or}
use Rattle.std.proofs.lemmas.List.{length-set}
use Rattle.std.proofs.lemmas.List.Elements.{All-set}
use Rattle.mm_base.specs.Bus.{Answers}
use Rattle.page_runs.proofs.ChangeLemmas.{length-with_run}
use Rattle.page_runs.specs.Runs.{IsLowestRun, HasNoRun, with_run}
use Rattle.pool_tree.specs.Pool.{Block, IsBlockSize, IsLive, IsLowestPlace, IsPlace, with_block, without_block}
use Rattle.pool_tree.specs.declared.pool.NotLive.{NotLive}
use Rattle.pool_tree.proofs.SizeLemmas.{size_exists}
use Rattle.supervisor_calls.specs.Holdings.{next_block, is_live_at, next_run}
use Rattle.supervisor_calls.specs.HoldingsInside.{pool_at, pool_put, reserve_at, reserve_put, block_taken, block_freed, run_taken}
use Rattle.supervisor_calls.specs.Tables.{TablesState, IsTables}
use Rattle.supervisor_calls.proofs.HoldingLemmas.{next_found, next_none, decides_live, run_found, run_none}
use Rattle.supervisor_calls.proofs.LowestLemmas.{fails}

-- an image that is there has a pool and a reserve
module _ (tables now : TablesState) (image : ℕ) (same : tables ≡ now) (keeps : IsTables tables) (there : image < length now.site.images) where
  as_many : length tables.site.images ≡ length now.site.images
  as_many = ap (λ (t : TablesState). length t.site.images) same

  pub has_pool : image < length tables.live.pools
  has_pool = omega (arith, as_many, keeps.pools, there)

  pub has_reserve : image < length tables.live.reserves
  has_reserve = omega (arith, as_many, keeps.reserves, there)

-- what is put back as it was changes nothing
pool_same : (tables : TablesState) (image : ℕ) → pool_put image (pool_at image tables) tables ≡ tables
pool_same tables image =
    ap (λ (pools : List (List Block)). record tables { live = record tables.live { pools = pools } }) (set-get_or tables.live.pools image [])

reserve_same : (tables : TablesState) (image : ℕ) → reserve_put image (reserve_at image tables) tables ≡ tables
reserve_same tables image =
    ap (λ (reserves : List (List Bool)). record tables { live = record tables.live { reserves = reserves } }) (set-get_or tables.live.reserves image [])

-- ---- a block is taken

-- what a pool answers and leaves where a block for n bytes is asked for
pub record Allocates (n : ℕ) (pool after : List Block) (result : Option ℕ) : Type 0 where
  pub lowest : IfSome result (λ place. (size : ℕ) → IsBlockSize n size → IsLowestPlace pool size place)
  pub joins : IfSome result (λ place. (size : ℕ) → IsBlockSize n size → after ≡ with_block pool place size)
  pub none : (result ≡ None) ↔ ((size place : ℕ) → IsBlockSize n size → ¬ IsPlace pool size place)
  pub unchanged : IfNone result (after ≡ pool)

module _ (tables : TablesState) (image n : ℕ) where
  abbrev pool : List Block
  pool = pool_at image tables

  takes_block : (after : List Block) (result : Option ℕ) → Allocates n pool after result
      → Answers (block_taken image (next_block pool n) tables) result (pool_put image after tables)
  takes_block after None asks =
      let none : next_block pool n ≡ None = next_none pool n (asks.none.0 refl) in
      let P : Option Block → Type 0 = λ found. Answers (block_taken image found tables) None (pool_put image after tables) in
      subst P (sym none) (refl, ap (λ (p : List Block). pool_put image p tables) asks.unchanged ∙ pool_same tables image)
  takes_block after (Some place) asks =
      let size : (size : ℕ) × IsBlockSize n size = size_exists n in
      let found : next_block pool n ≡ Some (record { place = place; size = size.0 }) =
      next_found pool n size.0 place size.1 (asks.lowest size.0 size.1) in
      let P : Option Block → Type 0 = λ found. Answers (block_taken image found tables) (Some place) (pool_put image after tables) in
      subst P (sym found) (refl, ap (λ (p : List Block). pool_put image p tables) (asks.joins size.0 size.1))

-- the tables are seen in two ways, and the pool by its own value
pub block_is_taken : (tables now : TablesState) (image n : ℕ) (before after : List Block) (result : Option ℕ)
    → tables ≡ now → image < length tables.live.pools → before ≡ get_or tables.live.pools image before → Allocates n before after result
    → Answers (block_taken image (next_block (pool_at image now) n) now) result (pool_put image after tables)
block_is_taken tables now image n before after result same there is asks =
    let here : before ≡ pool_at image tables = is ∙ get_or_default tables.live.pools image before [] there in
    let P : List Block → Type 0 = λ p. Allocates n p after result in
    let Q : TablesState → Type 0 = λ t. Answers (block_taken image (next_block (pool_at image t) n) t) result (pool_put image after tables) in
    subst Q same (takes_block tables image n after result (subst P here asks))

-- ---- a block is freed

-- what a pool answers and leaves where the block at a place is to be freed
pub record FreesAt (place : ℕ) (pool after : List Block) (result : Result (Unit {0}) NotLive) : Type 0 where
  pub ok : OnOk result (IsLive pool place × (after ≡ without_block pool place))
  pub not_live : IsErr result ↔ ¬ IsLive pool place
  pub err : OnErr result (after ≡ pool)

module _ (tables : TablesState) (image base address : ℕ) (from : base ≤ address) where
  abbrev blocks : List Block
  blocks = pool_at image tables

  low : leb base address ≡ true
  low = grind (arith, nat_tests, from)

  frees_block : (after : List Block) (result : Result (Unit {0}) NotLive) → FreesAt (address - base) blocks after result
      → Answers (block_freed image (address - base) (is_live_at base blocks address) tables) (is_ok result) (pool_put image after tables)
  frees_block after (Ok done) frees =
      let live : is_live_at base blocks address ≡ true =
      and_from (leb base address) _ low ((decides_live blocks (address - base)).1 frees.ok.0) in
      let P : Bool → Type 0 = λ b. Answers (block_freed image (address - base) b tables) true (pool_put image after tables) in
      subst P (sym live) (refl, ap (λ (p : List Block). pool_put image p tables) frees.ok.1)
  frees_block after (Err end) frees =
      let none : list_any (λ (block : Block). block.place == address - base) blocks ≡ false =
      fails _ (decides_live blocks (address - base)) (frees.not_live.0 refl) in
      let P : Bool → Type 0 = λ b. Answers (block_freed image (address - base) b tables) false (pool_put image after tables) in
      subst P (sym (and_right (leb base address) _ none)) (refl, ap (λ (p : List Block). pool_put image p tables) frees.err ∙ pool_same tables image)

pub block_is_freed : (tables now : TablesState) (image base address : ℕ) (before after : List Block) (result : Result (Unit {0}) NotLive)
    → tables ≡ now → image < length tables.live.pools → before ≡ get_or tables.live.pools image before → base ≤ address
    → FreesAt (address - base) before after result
    → Answers (block_freed image (address - base) (is_live_at base (pool_at image now) address) now) (is_ok result) (pool_put image after tables)
block_is_freed tables now image base address before after result same there is from frees =
    let here : before ≡ pool_at image tables = is ∙ get_or_default tables.live.pools image before [] there in
    let P : List Block → Type 0 = λ p. FreesAt (address - base) p after result in
    let Q : TablesState → Type 0 =
    λ t. Answers (block_freed image (address - base) (is_live_at base (pool_at image t) address) t) (is_ok result) (pool_put image after tables) in
    subst Q same (frees_block tables image base address from after result (subst P here frees))

-- below the base there is none
pub none_is_freed : (tables now : TablesState) (image base address : ℕ) → tables ≡ now → address < base
    → Answers (block_freed image (address - base) (is_live_at base (pool_at image now) address) now) false tables
none_is_freed tables now image base address same below =
    let low : leb base address ≡ false = grind (arith, nat_tests, below) in
    let P : Bool → Type 0 = λ b. Answers (block_freed image (address - base) b now) false tables in
    subst P (sym (and_left (leb base address) _ low)) (refl, same)

-- ---- a run is taken

-- what a reserve answers and leaves where a run of n pages is asked for
pub record TakesRun (n : ℕ) (reserve after : List Bool) (result : Option ℕ) : Type 0 where
  pub lowest : IfSome result (IsLowestRun reserve n)
  pub taken : IfSome result (λ start. after ≡ with_run true start n reserve)
  pub none : (result ≡ None) ↔ HasNoRun reserve n
  pub unchanged : IfNone result (after ≡ reserve)

module _ (tables : TablesState) (image n : ℕ) (some : 1 ≤ n) where
  abbrev reserve : List Bool
  reserve = reserve_at image tables

  takes_run : (after : List Bool) (result : Option ℕ) → TakesRun n reserve after result
      → Answers (run_taken image n (next_run reserve n) tables) result (reserve_put image after tables)
  takes_run after None asks =
      let P : Option ℕ → Type 0 = λ found. Answers (run_taken image n found tables) None (reserve_put image after tables) in
      subst P (sym (run_none reserve n (asks.none.0 refl)))
      (refl, ap (λ (r : List Bool). reserve_put image r tables) asks.unchanged ∙ reserve_same tables image)
  takes_run after (Some start) asks =
      let P : Option ℕ → Type 0 = λ found. Answers (run_taken image n found tables) (Some start) (reserve_put image after tables) in
      subst P (sym (run_found reserve n some start asks.lowest)) (refl, ap (λ (r : List Bool). reserve_put image r tables) asks.taken)

pub run_is_taken : (tables now : TablesState) (image n : ℕ) (before after : List Bool) (result : Option ℕ)
    → tables ≡ now → image < length tables.live.reserves → before ≡ get_or tables.live.reserves image before → 1 ≤ n
    → TakesRun n before after result
    → Answers (run_taken image n (next_run (reserve_at image now) n) now) result (reserve_put image after tables)
run_is_taken tables now image n before after result same there is some asks =
    let here : before ≡ reserve_at image tables = is ∙ get_or_default tables.live.reserves image before [] there in
    let P : List Bool → Type 0 = λ r. TakesRun n r after result in
    let Q : TablesState → Type 0 = λ t. Answers (run_taken image n (next_run (reserve_at image t) n) t) result (reserve_put image after tables) in
    subst Q same (takes_run tables image n some after result (subst P here asks))

-- a reserve of 16 pages has no run of more
pub none_is_taken : (tables now : TablesState) (image n : ℕ) → tables ≡ now → image < length tables.live.reserves
    → All (λ reserve. length reserve ≡ 16) tables.live.reserves → 16 < n
    → Answers (run_taken image n (next_run (reserve_at image now) n) now) None tables
none_is_taken tables now image n same there sixteen more =
    let long : length (reserve_at image tables) ≡ 16 = sixteen image [] there in
    let none : HasNoRun (reserve_at image tables) n = λ start run. absurd (omega (arith, run.inside, long, more)) in
    let P : Option ℕ → Type 0 = λ found. Answers (run_taken image n found tables) None tables in
    let Q : TablesState → Type 0 = λ t. Answers (run_taken image n (next_run (reserve_at image t) n) t) None tables in
    subst Q same (subst P (sym (run_none (reserve_at image tables) n none)) (refl, refl))

-- a reserve has as many pages after a run of it was taken
pub takes_as_long : (n : ℕ) (before after : List Bool) (result : Option ℕ) → TakesRun n before after result → length after ≡ length before
takes_as_long n before after None asks = ap length asks.unchanged
takes_as_long n before after (Some start) asks = ap length asks.taken ∙ length-with_run true start n before asks.lowest.run.inside

-- tables keep what they keep where a reserve of 16 pages is put
pub reserve_keeps : (tables : TablesState) (image : ℕ) (after : List Bool) → IsTables tables → length after ≡ 16 → IsTables (reserve_put image after tables)
reserve_keeps tables image after keeps long = record {
  memory = keeps.memory;
  bytes = keeps.bytes;
  pools = keeps.pools;
  reserves = length-set tables.live.reserves image after ∙ keeps.reserves;
  sixteen = All-set (λ reserve. length reserve ≡ 16) tables.live.reserves image after long keeps.sixteen;
  frozen = keeps.frozen;
  settled = keeps.settled;
  live = keeps.live;
}
