-- What contracts see of a core, in two parts: what stays from lock on, and what a step may change.
use Rattle.std.specs.Prelude.{ℕ, true, Bool, List, [], length}
use Rattle.mm_base.specs.declared.handler.Handler.{Handler}
use Rattle.platform_model.specs.Cells.{PlatformState}
use Rattle.protocol_db.specs.ProtocolDb.{DbState}
use Rattle.supervisor_calls.specs.Tables.{Live, TablesState, Site as Supervised}
use Rattle.volume_boot.specs.Boots.{default_policy}

-- what stays: the images and the policy, on which verdicts rest; the handlers in order of registration, and the number that the next one
-- would have got; the interfaces; and which pages of memory may be read and written
pub record Site : Type 0 where
  pub supervised : Supervised
  pub handlers : List Handler
  pub next_number : ℕ
  pub interfaces : DbState
  pub pages : List Bool

-- the machine state of a core
pub record CoreState : Type 0 where
  pub site : Site
  pub live : Live

-- no interfaces, and none may be installed
abbrev pub no_interfaces : DbState
no_interfaces = record { rows = []; next = 256; frozen = true }

-- A core without images has these handlers and cells. Without images nothing may touch memory, so its memory is the
-- empty list, and there is no pool and no reserve.
abbrev pub without_images : List Handler → PlatformState → CoreState
without_images handlers platform = record {
  site = record {
    supervised = record { images = []; policy = default_policy };
    handlers = handlers;
    next_number = length handlers;
    interfaces = no_interfaces;
    pages = [];
  };
  live = record { memory = []; platform = platform; pools = []; reserves = [] };
}

-- the tables of a core: they are locked
abbrev pub tables_of : Site → Live → TablesState
tables_of site live = record {
  site = site.supervised;
  live = live;
  registry = record { handlers = site.handlers; next = site.next_number; frozen = true };
  protocols = site.interfaces;
  locked = true;
  pages = site.pages;
}

-- the core that has these tables
abbrev pub core_of_tables : TablesState → CoreState
core_of_tables tables = record {
  site = record {
    supervised = tables.site;
    handlers = tables.registry.handlers;
    next_number = tables.registry.next;
    interfaces = tables.protocols;
    pages = tables.pages;
  };
  live = tables.live;
}
