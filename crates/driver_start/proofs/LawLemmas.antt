-- What a start leaves where the driver doesn't start.
use Rattle.std.proofs.Common.{◌≡◌, ◌⊎◌, inl, inr, ℕ, Bool, true, false, if◌then◌else◌, nat_lt, length, Option, Some, None, refl, ap, ◌∙◌}
use Rattle.mm_base.specs.Records.{RecordsState}
use Rattle.mm_base.specs.declared.invocation.Ended.{Ended}
use Rattle.supervisor_calls.specs.Domains.{DomainState}
use Rattle.supervisor_calls.specs.Holdings.{next_run}
use Rattle.driver_start.specs.Hosts.{HostState}
use Rattle.driver_start.specs.Laws.{FailuresLeaveCells, LeftCells, NoStartLeavesAll, run_on}
use Rattle.driver_start.specs.Starts.{Loadable, blank, has_started, pages_of_start, started, started_on}
use Rattle.driver_start.specs.declared.starting.StartEnd.{StartEnd}
use Rattle.driver_start.specs.declared.starting.StartEnd.TheVariants.{Ran, NoPages, TooMany}
use Rattle.driver_start.proofs.StartLemmas.{if_false}

-- what a start tells, and the host that it leaves
abbrev Told : Type 0
Told = (StartEnd × RecordsState) × HostState

module _ (loadable : Loadable) (host : HostState) where
  -- what each start leaves
  record Leaves (told : Told) : Type 0 where
    cells : (ended : Ended) → told.0.0 ≡ Ran ended → has_started ended ≡ false → LeftCells loadable host told.1 ended
    all : (told.0.0 ≡ NoPages) ⊎ (told.0.0 ≡ TooMany) → (told.1 ≡ host) × (told.0.1 ≡ blank)

  on_found : (found : Option ℕ) → Leaves (started_on loadable host found)
  on_found None = record { cells = λ ended is failed. absurd cc; all = λ either. (refl, refl) }
  on_found (Some page) =
      let ran : Ended × DomainState = run_on loadable host page in record {
        cells = λ ended is failed.
            let same : ran.0 ≡ ended = cc in
            record { page = page; ends = same; left = if_false (has_started ran.0) _ _ (ap has_started same ∙ failed) };
        all = λ either. elim either [ inl is ↦ absurd cc | inr is ↦ absurd cc ];
      }

  by_count : (b : Bool) (told : Told) → Leaves told → Leaves (if◌then◌else◌ {A = Told} b told ((TooMany, blank), host))
  by_count true told leaves = leaves
  by_count false told leaves = record { cells = λ ended is failed. absurd cc; all = λ either. (refl, refl) }

  leaves_either : Leaves (started loadable host)
  unfolding started
  leaves_either =
      let found : Option ℕ = next_run host.taken (pages_of_start loadable.image) in
      by_count (nat_lt (length host.tables.site.images) 32) (started_on loadable host found) (on_found found)

pub failures_leave_cells : FailuresLeaveCells
failures_leave_cells loadable host = (leaves_either loadable host).cells

pub no_start_leaves_all : NoStartLeavesAll
no_start_leaves_all loadable host = (leaves_either loadable host).all
