-- What the code of a start knows after each step, in the words of its definition.
use Rattle.std.proofs.Common.{◌≡◌, ℕ, ◌+◌, ◌*◌, ◌≤◌, ◌<◌, Bool, true, false, List, length, sym, ap, ◌∙◌, subst, arith}
use Rattle.mm_base.specs.Frames.{zeros}
use Rattle.mm_base.specs.Numbers.{overwritten}
use Rattle.mm_base.specs.Records.{RecordsState}
use Rattle.mm_base.specs.Regions.{pages_filled}
use Rattle.mm_base.specs.declared.image.Image.{Image}
use Rattle.mm_base.specs.declared.invocation.Ended.{Ended}
use Rattle.mm_base.specs.declared.region.Region.{Region}
use Rattle.page_runs.specs.Runs.{HasNoRun, IsLowestRun, with_run}
use Rattle.pe_loader.specs.Images.{IsImageOf}
use Rattle.supervisor_calls.specs.Domains.{DomainState}
use Rattle.supervisor_calls.specs.Loading.{with_memory, without_last}
use Rattle.supervisor_calls.specs.Tables.{TablesState}
use Rattle.supervisor_calls.specs.Within.{IsOrderly}
use Rattle.driver_start.specs.Hosts.{HostState, IsHost}
use Rattle.driver_start.specs.Starts.{DriverState, IsLoadable, Loadable, admitted, blank, entry_run, has_started, pages_of_start, region_on, started}
use Rattle.driver_start.specs.StartsInside.{MayWithdraw}
use Rattle.driver_start.specs.declared.starting.StartEnd.TheVariants.{Ran, NoPages}
use Rattle.driver_start.proofs.SettleLemmas.{opened_count}
use Rattle.driver_start.proofs.StartLemmas as steps

module _ (host : HostState) (is : IsHost host) (orderly : IsOrderly host.tables) (driver : DriverState) (of : IsImageOf driver.bytes driver.image)
    (image : Image) (seen : image ≡ driver.image) (few : length host.tables.site.images < 32) (pages : ℕ) (pages_are : pages ≡ pages_filled image.size) where
  pages_here : pages + 38 ≡ pages_of_start driver.image
  pages_here = ap (λ n. n + 38) (pages_are ∙ ap (λ (i : Image). pages_filled i.size) seen)

  -- there are no pages for it
  pub none_then : HasNoRun host.taken (pages + 38) → (records : RecordsState) → records ≡ blank → (loadable : Loadable) → IsLoadable driver loadable
      → ((NoPages, records), host) ≡ started loadable host
  none_then none records blank_is loadable fits =
      let P : ℕ → Type 0 = λ n. HasNoRun host.taken n in
      (λ i. ((NoPages, blank_is i), host))
      ∙ steps.no_pages host loadable few (subst P (pages_here ∙ ap pages_of_start (sym fits.image)) none)

  module _ (page : ℕ) (lowest : IsLowestRun host.taken (pages + 38) page) (placed : TablesState)
      (placed_is : (loadable : Loadable) → IsLoadable driver loadable → placed ≡ admitted loadable page host.tables) where
    abbrev shape : Loadable
    shape = steps.canonical driver of

    placed_here : placed ≡ admitted shape page host.tables
    placed_here = placed_is shape (steps.canonical_is driver of)

    lowest_here : IsLowestRun host.taken (pages_of_start driver.image) page
    lowest_here =
        let P : ℕ → Type 0 = λ n. IsLowestRun host.taken n page in
        subst P pages_here lowest

    pub some_image : 1 ≤ length placed.site.images
    some_image =
        let count : length placed.site.images ≡ length host.tables.site.images + 1 =
        ap (λ (t : TablesState). length t.site.images) placed_here ∙ opened_count host is orderly shape page lowest_here.run in
        omega (arith, count)

    module _ (later : IsOrderly placed) (region : Region)
        (region_is : region ≡ record { base = 0x80000000 + 4096 * page; pages = pages_filled image.size }) (tables : TablesState)
        (records : RecordsState) (end : Ended) (tables_are : tables ≡ (entry_run region image.entry placed).1.tables)
        (records_are : records ≡ (entry_run region image.entry placed).1.records) (end_is : end ≡ (entry_run region image.entry placed).0)
        (taken : List Bool) (taken_is : taken ≡ with_run true page (pages + 38) host.taken) where
      later_here : IsOrderly (admitted shape page host.tables)
      later_here = subst IsOrderly placed_here later

      ran_here : entry_run region image.entry placed ≡ entry_run (region_on page driver.image) driver.image.entry (admitted shape page host.tables)
      ran_here =
          let region_here : region ≡ region_on page driver.image =
          region_is ∙ (λ i. record { base = 0x80000000 + 4096 * page; pages = pages_filled (seen i).size }) in
          λ i. entry_run (region_here i) (seen i).entry (placed_here i)

      left : steps.Leaves host is orderly driver of few page lowest_here later_here tables records end taken
      left = record {
        tables_is = tables_are ∙ ap (λ (ran : Ended × DomainState). ran.1.tables) ran_here;
        records_is = records_are ∙ ap (λ (ran : Ended × DomainState). ran.1.records) ran_here;
        end_is = end_is ∙ ap (λ (ran : Ended × DomainState). ran.0) ran_here;
        taken_is = taken_is ∙ ap (λ n. with_run true page n host.taken) pages_here;
      }

      pub host_then : IsHost (record { tables = tables; taken = taken })
      host_then = steps.started_host host is orderly driver of few page lowest_here later_here tables records end taken left

      pub told_then : has_started end ≡ true → (loadable : Loadable) → IsLoadable driver loadable
          → ((Ran end, records), record { tables = tables; taken = taken }) ≡ started loadable host
      told_then ok loadable fits =
          steps.started_is host is orderly driver of few page lowest_here later_here tables records end taken left ok
          ∙ ap (λ l. started l host) (steps.one_loadable driver of loadable fits)

      module _ (number handle : ℕ) (number_is : number ≡ host.tables.registry.next) (handle_is : handle ≡ host.tables.protocols.next) where
        pub may_then : MayWithdraw tables taken page (pages + 38) number handle
        may_then =
            let P : ℕ → Type 0 = λ n. MayWithdraw tables taken page n number handle in
            subst P (sym pages_here)
            (steps.may host is orderly driver of few page lowest_here later_here tables records end taken left number handle number_is handle_is)

        module _ (after : TablesState) (given : List Bool)
            (after_is : after ≡ with_memory (overwritten tables.live.memory (4096 * page) (zeros (4096 * (pages + 38)))) (without_last number handle tables))
            (given_is : given ≡ with_run false page (pages + 38) taken) where
          after_here : after
              ≡ with_memory (overwritten tables.live.memory (4096 * page) (zeros (4096 * pages_of_start driver.image))) (without_last number handle tables)
          after_here =
              after_is
              ∙ ap (λ n. with_memory (overwritten tables.live.memory (4096 * page) (zeros (4096 * n))) (without_last number handle tables)) pages_here

          given_here : given ≡ with_run false page (pages_of_start driver.image) taken
          given_here = given_is ∙ ap (λ n. with_run false page n taken) pages_here

          pub host_back : IsHost (record { tables = after; taken = given })
          host_back =
              steps.failed_host host is orderly driver of few page lowest_here later_here tables records end taken left number handle number_is handle_is
              after given after_here given_here

          pub told_back : has_started end ≡ false → (loadable : Loadable) → IsLoadable driver loadable
              → ((Ran end, records), record { tables = after; taken = given }) ≡ started loadable host
          told_back bad loadable fits =
              steps.failed_is host is orderly driver of few page lowest_here later_here tables records end taken left number handle number_is handle_is
              after given after_here given_here bad
              ∙ ap (λ l. started l host) (steps.one_loadable driver of loadable fits)
