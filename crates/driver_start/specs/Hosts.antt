-- What a core has while it starts its drivers: the tables, and which pages of memory are taken.
use Rattle.std.specs.Prelude.{◌≡◌, ℕ, ◌/◌, ◌<◌, ◌≤◌, Bool, true, false, List, [], length, get_or, replicate, All}
use Rattle.mm_base.specs.Cells.{IsOpening}
use Rattle.mm_base.specs.Frames.{IsLive, zeros}
use Rattle.mm_base.specs.Policies.{IsLawfulPolicy}
use Rattle.mm_base.specs.declared.cells.CellWrite.{CellWrite}
use Rattle.mm_base.specs.declared.policy.Policy.{Policy}
use Rattle.mmi_registry.specs.Handlers.{is_of}
use Rattle.page_runs.specs.Runs.{is_taken}
use Rattle.platform_model.specs.Cells.{PlatformState}
use Rattle.platform_model.specs.Opening.{opening_state}
use Rattle.protocol_db.specs.Rows.{is_owned_by}
use Rattle.supervisor_calls.specs.Tables.{TablesState}

-- the tables, and which of the 8,192 pages of memory are taken
pub record HostState : Type 0 where
  pub tables : TablesState
  pub taken : List Bool

-- Each page may be read and written.
abbrev pub AreAllLive : List Bool → Type 0
AreAllLive pages = (page : ℕ) → page < 8192 → IsLive pages page

-- Nothing in a list is of an image from this number on.
abbrev pub AreBefore : {A : Type 0} → (ℕ → A → Bool) → ℕ → List A → Type 0
AreBefore is_owned count items = All (λ item. (image : ℕ) → count ≤ image → is_owned image item ≡ false) items

-- What a start rests on: all pages are there, and may be read and written; in a page that isn't taken each byte is 0; and handlers and
-- interfaces are of images that are there, or of none.
pub record IsHost (host : HostState) : Type 0 where
  pub pages : length host.taken ≡ 8192
  pub live : AreAllLive host.tables.pages
  pub clean : (at : ℕ) → is_taken host.taken (at / 4096) ≡ false → get_or host.tables.live.memory at 0 ≡ 0
  pub handlers : AreBefore is_of (length host.tables.site.images) host.tables.registry.handlers
  pub rows : AreBefore is_owned_by (length host.tables.site.images) host.tables.protocols.rows

-- ---- the host before the first start

-- What a host may be opened with: a policy that is lawful, and cells of the platform with values that they may hold.
pub record IsOpenedWith (policy : Policy) (cells : List CellWrite) : Type 0 where
  pub lawful : IsLawfulPolicy policy
  pub opening : IsOpening cells

-- memory of 8,192 pages that is all zero
unfoldable pub blank_memory : List ℕ
blank_memory = zeros 33554432

-- tables without images, handlers and interfaces, over memory that is all zero, under this policy and with these cells
unfoldable pub blank_tables : Policy → PlatformState → TablesState
blank_tables policy platform = record {
  site = record { images = []; policy = policy };
  live = record { memory = blank_memory; platform = platform; pools = []; reserves = [] };
  registry = record { handlers = []; next = 0; frozen = false };
  protocols = record { rows = []; next = 256; frozen = false };
  locked = false;
  pages = replicate 8192 true;
}

-- the host before the first start, under this policy and with these opening cells: no page is taken
unfoldable pub opening_host : Policy → List CellWrite → HostState
opening_host policy cells = record { tables = blank_tables policy (opening_state cells); taken = replicate 8192 false }
