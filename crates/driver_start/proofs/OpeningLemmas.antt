-- The host before the first start: all pages are there, all are free, and all of memory is zero.
use Rattle.std.proofs.Common.{◌≡◌, ℕ, zero, suc, ◌*◌, ◌<◌, IfOk, Result, Ok, Err, true, false, List, [], length, get_or, All, replicate, refl, sym, ap, ◌∙◌, subst, arith}
use Rattle.std.proofs.lemmas.List.{get_or-replicate, length-replicate}
use Rattle.std.proofs.lemmas.List.Elements.{All-nil, All-replicate}
use Rattle.mm_base.specs.Frames.{zeros}
use Rattle.mm_base.specs.declared.cells.CellWrite.{CellWrite}
use Rattle.mm_base.specs.declared.no_memory.NoMemory.{NoMemory}
use Rattle.mm_base.specs.declared.policy.Policy.{Policy}
use Rattle.mm_memory.specs.Flat.{MemoryState, PlainState, joined, pages_in}
use Rattle.mm_memory.proofs.PageLemmas.{joined-pages_in, length-zeros}
use Rattle.platform_model.specs.Cells.{PlatformState}
use Rattle.platform_model.specs.Opening.{opening_state}
use Rattle.supervisor_calls.specs.Tables.{TablesState}
use Rattle.driver_start.specs.Hosts.{HostState, IsHost, blank_memory, blank_tables, opening_host}

-- ---- memory of so many pages

pub zero_pages : (pages : ℕ) (plain : PlainState) (memory : MemoryState) → plain ≡ record { pages = pages; bytes = zeros (4096 * pages) }
    → memory ≡ record { bytes = joined (pages_in plain.pages plain.bytes); live = replicate plain.pages true }
    → memory ≡ record { bytes = zeros (4096 * pages); live = replicate pages true }
zero_pages pages plain memory made is =
    let seen : PlainState → MemoryState = λ p. record { bytes = joined (pages_in p.pages p.bytes); live = replicate p.pages true } in
    let all : joined (pages_in pages (zeros (4096 * pages))) ≡ zeros (4096 * pages) =
    joined-pages_in pages (zeros (4096 * pages)) (length-zeros (4096 * pages)) in
    is ∙ ap seen made ∙ (λ i. record { bytes = all i; live = replicate pages true })

small_zeros : (n : ℕ) → All (λ byte. byte < 256) (zeros n)
unfolding zeros
small_zeros n = All-replicate (λ byte. byte < 256) n 0 (omega arith)

-- a byte of zeros is 0, and one past them too
each_zero : (n at : ℕ) → get_or (zeros n) at 0 ≡ 0
unfolding zeros
each_zero zero at = refl
each_zero (suc n) zero = refl
each_zero (suc n) (suc at) = each_zero n at

-- the memory of the host
abbrev pub blank_state : MemoryState
blank_state = record { bytes = blank_memory; live = replicate 8192 true }

pub is_blank : (memory : MemoryState) → memory ≡ record { bytes = zeros 33554432; live = replicate 8192 true } → memory ≡ blank_state
unfolding blank_memory
is_blank memory is = is

pub length-blank : length blank_memory ≡ 33554432
unfolding blank_memory
length-blank = length-zeros 33554432

pub small_blank : All (λ byte. byte < 256) blank_memory
unfolding blank_memory
small_blank = small_zeros 33554432

each_blank : (at : ℕ) → get_or blank_memory at 0 ≡ 0
unfolding blank_memory
each_blank at = each_zero 33554432 at

module _ (memory : MemoryState) (told : memory ≡ record { bytes = zeros (4096 * 8192); live = replicate 8192 true }) where
  is : memory ≡ blank_state
  is = is_blank memory told

  pub memory_whole : length memory.bytes ≡ 33554432
  memory_whole = ap (λ (m : MemoryState). length m.bytes) is ∙ length-blank

  pub memory_small : All (λ byte. byte < 256) memory.bytes
  memory_small =
      let P : MemoryState → Type 0 = λ m. All (λ byte. byte < 256) m.bytes in
      subst P (sym is) small_blank

-- ---- the host

module _ (policy : Policy) (platform : PlatformState) where
  blank_is_host : IsHost (record { tables = blank_tables policy platform; taken = replicate 8192 false })
  unfolding blank_tables
  blank_is_host = record {
    pages = length-replicate 8192 false;
    live = λ page below. get_or-replicate 8192 page true false below;
    clean = λ at free. each_blank at;
    handlers = All-nil _;
    rows = All-nil _;
  }

  -- tables over a memory
  abbrev tables_over : MemoryState → TablesState
  tables_over memory = record {
    site = record { images = []; policy = policy };
    live = record { memory = memory.bytes; platform = platform; pools = []; reserves = [] };
    registry = record { handlers = []; next = 0; frozen = false };
    protocols = record { rows = []; next = 256; frozen = false };
    locked = false;
    pages = memory.live;
  }

  tables_are_blank : tables_over blank_state ≡ blank_tables policy platform
  unfolding blank_tables
  tables_are_blank = refl

module _ (memory : MemoryState) (told : memory ≡ record { bytes = zeros (4096 * 8192); live = replicate 8192 true }) (policy : Policy) where
  made_blank : (platform : PlatformState) (tables : TablesState) → tables ≡ tables_over policy platform memory → tables ≡ blank_tables policy platform
  made_blank platform tables made = made ∙ ap (tables_over policy platform) (is memory told) ∙ tables_are_blank policy platform

  pub tables_are_host : (platform : PlatformState) (tables : TablesState) → tables ≡ tables_over policy platform memory
      → IsHost (record { tables = tables; taken = replicate 8192 false })
  tables_are_host platform tables made =
      let P : TablesState → Type 0 = λ t. IsHost (record { tables = t; taken = replicate 8192 false }) in
      subst P (sym (made_blank platform tables made)) (blank_is_host policy platform)

  opening_is : (given : Policy) (cells : List CellWrite) → policy ≡ given
      → (record { tables = blank_tables policy (opening_state cells); taken = replicate 8192 false }) ≡ opening_host given cells
  unfolding opening_host
  opening_is given cells same = ap (λ p. opening_host p cells) same

  pub opened : (given : Policy) → policy ≡ given → (platform : PlatformState) (cells : List CellWrite) → platform ≡ opening_state cells
      → (tables : TablesState) → tables ≡ tables_over policy platform memory
      → (result : Result HostState NoMemory) → IfOk result (λ host. host ≡ record { tables = tables; taken = replicate 8192 false })
      → IfOk result (λ host. host ≡ opening_host given cells)
  opened given same platform cells holds tables made (Ok host) done =
      done
      ∙ ap (λ (t : TablesState). (record { tables = t; taken = replicate 8192 false })) (made_blank platform tables made ∙ ap (blank_tables policy) holds)
      ∙ opening_is given cells same
  opened given same platform cells holds tables made (Err refused) done = tt
