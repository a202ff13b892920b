-- Laws of starts: what is left where a driver doesn't start.
use Rattle.std.specs.Prelude.{◌≡◌, ◌⊎◌, ℕ, false}
use Rattle.mm_base.specs.declared.invocation.Ended.{Ended}
use Rattle.platform_model.specs.Cells.{PlatformState}
use Rattle.supervisor_calls.specs.Domains.{DomainState}
use Rattle.driver_start.specs.Hosts.{HostState}
use Rattle.driver_start.specs.Starts.{Loadable, admitted, blank, entry_run, has_started, region_on, started}
use Rattle.driver_start.specs.declared.starting.StartEnd.TheVariants.{Ran, NoPages, TooMany}

-- the invocation of a driver's entry, with its image on the pages from this one on
abbrev pub run_on : Loadable → HostState → ℕ → Ended × DomainState
run_on loadable host page =
    entry_run (region_on page loadable.image) loadable.image.entry (admitted loadable page host.tables)

-- the host with these cells
abbrev pub with_cells : PlatformState → HostState → HostState
with_cells cells host = record host {
  tables = record host.tables { live = record host.tables.live { platform = cells } };
}

-- An entry ended so, on the pages from some one on, and the host is as it was, with the cells as that entry left them.
pub record LeftCells (loadable : Loadable) (host after : HostState) (ended : Ended) : Type 0 where
  pub page : ℕ
  pub ends : (run_on loadable host page).0 ≡ ended
  pub left : after ≡ with_cells (run_on loadable host page).1.tables.live.platform host

-- Where an entry fails, the host after the start is the host before it, with the cells as the entry left them.
abbrev pub FailuresLeaveCells : Type 0
FailuresLeaveCells =
    (loadable : Loadable) (host : HostState) (ended : Ended)
    → (started loadable host).0.0 ≡ Ran ended
    → has_started ended ≡ false
    → LeftCells loadable host (started loadable host).1 ended

-- Where there are no pages, or too many images, the start changes nothing and records nothing.
abbrev pub NoStartLeavesAll : Type 0
NoStartLeavesAll =
    (loadable : Loadable) (host : HostState)
    → ((started loadable host).0.0 ≡ NoPages) ⊎ ((started loadable host).0.0 ≡ TooMany)
    → ((started loadable host).1 ≡ host) × ((started loadable host).0.1 ≡ blank)
