-- What the code of a start leaves is what its definition names.
use Rattle.std.proofs.Common.{◌≡◌, ℕ, ◌*◌, ◌<◌, Bool, true, false, if◌then◌else◌, nat_lt, List, length, Option, Some, None, refl, sym, ap, ◌∙◌, subst, arith}
use Rattle.std.proofs.lemmas.Bool.Decides.{nat_tests}
use Rattle.mm_base.specs.Frames.{zeros}
use Rattle.mm_base.specs.Numbers.{overwritten}
use Rattle.mm_base.specs.Records.{RecordsState}
use Rattle.mm_base.specs.declared.invocation.Ended.{Ended}
use Rattle.page_runs.specs.Runs.{HasNoRun, IsLowestRun, with_run}
use Rattle.pe_loader.specs.Images.{IsImageOf}
use Rattle.pe_loader.specs.Sections.{parts}
use Rattle.pe_loader.proofs.LoadedLemmas.{loaded_has_its_size, loaded_is_there, one_loaded_form}
use Rattle.supervisor_calls.specs.Domains.{DomainState}
use Rattle.supervisor_calls.specs.Holdings.{next_run}
use Rattle.supervisor_calls.specs.Loading.{with_memory, without_last}
use Rattle.supervisor_calls.specs.Tables.{TablesState}
use Rattle.supervisor_calls.specs.Within.{IsOrderly, StaysWithin}
use Rattle.supervisor_calls.proofs.HoldingLemmas.{run_found, run_none}
use Rattle.driver_start.specs.Hosts.{HostState, IsHost}
use Rattle.driver_start.specs.Starts.{DriverState, IsLoadable, Loadable, admitted, blank, entry_run, has_started, opening_domain, pages_of_start, region_on, settled, started, started_on}
use Rattle.driver_start.specs.StartsInside.{MayWithdraw}
use Rattle.driver_start.specs.declared.starting.StartEnd.TheVariants.{Ran, NoPages, TooMany}
use Rattle.driver_start.proofs.RunLemmas.{run_stays}
use Rattle.driver_start.proofs.SettleLemmas.{as_before, before_is_host, may_withdraw, ran_is_host, withdrawn_is}

-- a driver as it is loaded
abbrev pub canonical : (driver : DriverState) → IsImageOf driver.bytes driver.image → Loadable
canonical driver is = record {
  name = driver.name;
  image = driver.image;
  parts = parts driver.bytes;
  form = λ base. (loaded_is_there driver.bytes driver.image base is).0;
}

module _ (driver : DriverState) (of : IsImageOf driver.bytes driver.image) where
  pub canonical_is : IsLoadable driver (canonical driver of)
  canonical_is = record {
    name = refl;
    image = refl;
    parts = refl;
    form = λ base. (loaded_is_there driver.bytes driver.image base of).1;
  }

  -- there is no other form
  pub one_loadable : (loadable : Loadable) → IsLoadable driver loadable → canonical driver of ≡ loadable
  one_loadable loadable is = λ i. record {
    name = sym is.name i;
    image = sym is.image i;
    parts = sym is.parts i;
    form = λ base. one_loaded_form driver.bytes base _ _ (loaded_is_there driver.bytes driver.image base of).1 (is.form base) i;
  }

-- ---- which case it is

if_true : {X : Type 0} (b : Bool) (x y : X) → b ≡ true → (if b then x else y) ≡ x
if_true true x y is = refl
if_true false x y is = absurd cc

pub if_false : {X : Type 0} (b : Bool) (x y : X) → b ≡ false → (if b then x else y) ≡ y
if_false false x y is = refl
if_false true x y is = absurd cc

module _ (host : HostState) (loadable : Loadable) where
  pub too_many : length host.tables.site.images ≡ 32 → ((TooMany, blank), host) ≡ started loadable host
  unfolding started
  too_many full =
      let none : nat_lt (length host.tables.site.images) 32 ≡ false = grind (arith, nat_tests, full) in
      sym (if_false _ _ _ none)

  module _ (few : length host.tables.site.images < 32) where
    one_more : nat_lt (length host.tables.site.images) 32 ≡ true
    one_more = grind (arith, nat_tests, few)

    goes_on : (found : Option ℕ) → next_run host.taken (pages_of_start loadable.image) ≡ found → started_on loadable host found ≡ started loadable host
    unfolding started
    goes_on found is = ap (started_on loadable host) (sym is) ∙ sym (if_true _ _ _ one_more)

    pub no_pages : HasNoRun host.taken (pages_of_start loadable.image) → ((NoPages, blank), host) ≡ started loadable host
    no_pages none = goes_on None (run_none host.taken (pages_of_start loadable.image) none)

    pub on_run : (page : ℕ) → IsLowestRun host.taken (pages_of_start loadable.image) page
        → started_on loadable host (Some page) ≡ started loadable host
    on_run page lowest = goes_on (Some page) (run_found host.taken (pages_of_start loadable.image) (omega arith) page lowest)

-- ---- what is left of a start on a run

module _ (host : HostState) (is : IsHost host) (orderly : IsOrderly host.tables) (driver : DriverState) (of : IsImageOf driver.bytes driver.image)
    (few : length host.tables.site.images < 32) (page : ℕ) (lowest : IsLowestRun host.taken (pages_of_start driver.image) page)
    (later : IsOrderly (admitted (canonical driver of) page host.tables)) where
  abbrev loadable : Loadable
  loadable = canonical driver of

  abbrev pages : ℕ
  pages = pages_of_start driver.image

  abbrev ran : Ended × DomainState
  ran = entry_run (region_on page driver.image) driver.image.entry (admitted loadable page host.tables)

  stays : StaysWithin (opening_domain (admitted loadable page host.tables)) ran.1
  stays = run_stays (region_on page driver.image) driver.image.entry (admitted loadable page host.tables) later

  long : length (loadable.form (region_on page driver.image).base) ≡ driver.image.size
  long =
      loaded_has_its_size driver.bytes driver.image (region_on page driver.image).base _ of
      (loaded_is_there driver.bytes driver.image (region_on page driver.image).base of).1

  -- these are the tables, the records and the end of the entry's invocation, and the pages after they were taken
  pub record Leaves (tables : TablesState) (records : RecordsState) (end : Ended) (taken : List Bool) : Type 0 where
    pub tables_is : tables ≡ ran.1.tables
    pub records_is : records ≡ ran.1.records
    pub end_is : end ≡ ran.0
    pub taken_is : taken ≡ with_run true page pages host.taken

  module _ (tables : TablesState) (records : RecordsState) (end : Ended) (taken : List Bool) (left : Leaves tables records end taken) where
    pub may : (number handle : ℕ) → number ≡ host.tables.registry.next → handle ≡ host.tables.protocols.next
        → MayWithdraw tables taken page pages number handle
    may number handle number_is handle_is =
        let P : HostState → Type 0 = λ h. MayWithdraw h.tables h.taken page pages number handle in
        let Q : ℕ → Type 0 = λ n. MayWithdraw ran.1.tables (with_run true page pages host.taken) page pages n handle in
        let R : ℕ → Type 0 = λ n. MayWithdraw ran.1.tables (with_run true page pages host.taken) page pages host.tables.registry.next n in
        let same : record { tables = tables; taken = taken } ≡ record { tables = ran.1.tables; taken = with_run true page pages host.taken } =
        λ i. record { tables = left.tables_is i; taken = left.taken_is i } in
        subst P (sym same)
        (subst Q (sym number_is) (subst R (sym handle_is) (may_withdraw host is orderly loadable page lowest.run long ran.1 stays)))

    pub started_host : IsHost (record { tables = tables; taken = taken })
    started_host =
        let same : record { tables = tables; taken = taken } ≡ record { tables = ran.1.tables; taken = with_run true page pages host.taken } =
        λ i. record { tables = left.tables_is i; taken = left.taken_is i } in
        subst IsHost (sym same) (ran_is_host host is orderly loadable page lowest.run long ran.1 stays)

    pub started_is : has_started end ≡ true → ((Ran end, records), record { tables = tables; taken = taken }) ≡ started loadable host
    started_is ok =
        let settles : record { tables = ran.1.tables; taken = with_run true page pages host.taken } ≡ settled driver.image page host ran =
        sym (if_true (has_started ran.0) _ _ (ap has_started (sym left.end_is) ∙ ok)) in
        let host_is : record { tables = tables; taken = taken } ≡ settled driver.image page host ran =
        (λ i. record { tables = left.tables_is i; taken = left.taken_is i }) ∙ settles in
        (λ i. ((Ran (left.end_is i), left.records_is i), host_is i)) ∙ on_run host loadable few page lowest

    -- where it is withdrawn
    module _ (number handle : ℕ) (number_is : number ≡ host.tables.registry.next) (handle_is : handle ≡ host.tables.protocols.next)
        (after : TablesState) (given : List Bool)
        (after_is : after ≡ with_memory (overwritten tables.live.memory (4096 * page) (zeros (4096 * pages))) (without_last number handle tables))
        (given_is : given ≡ with_run false page pages taken) where
      back : record { tables = after; taken = given } ≡ as_before host is orderly loadable page lowest.run long ran.1 stays
      back =
          let made : TablesState → ℕ → ℕ → TablesState =
          λ t n h. with_memory (overwritten t.live.memory (4096 * page) (zeros (4096 * pages))) (without_last n h t) in
          let after_ran : after ≡ made ran.1.tables host.tables.registry.next host.tables.protocols.next =
          after_is ∙ (λ i. made (left.tables_is i) (number_is i) (handle_is i)) in
          let given_ran : given ≡ with_run false page pages (with_run true page pages host.taken) =
          given_is ∙ ap (with_run false page pages) left.taken_is in
          (λ i. record { tables = after_ran i; taken = given_ran i }) ∙ withdrawn_is host is orderly loadable page lowest.run long ran.1 stays

      pub failed_host : IsHost (record { tables = after; taken = given })
      failed_host = subst IsHost (sym back) (before_is_host host is orderly loadable page lowest.run long ran.1 stays)

      pub failed_is : has_started end ≡ false → ((Ran end, records), record { tables = after; taken = given }) ≡ started loadable host
      failed_is bad =
          let settles : as_before host is orderly loadable page lowest.run long ran.1 stays ≡ settled driver.image page host ran =
          sym (if_false (has_started ran.0) _ _ (ap has_started (sym left.end_is) ∙ bad)) in
          (λ i. ((Ran (left.end_is i), left.records_is i), (back ∙ settles) i)) ∙ on_run host loadable few page lowest
