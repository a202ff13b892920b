-- A domain of an image of a closed group goes along with erasing: each of its calls is answered the same, and leaves what it leaves, erased.
use Rattle.std.proofs.Common.{◌≡◌, ◌≢◌, ◌⊎◌, inl, inr, ℕ, ◌+◌, ◌-◌, ◌*◌, ◌%◌, ◌^◌, ◌≤◌, ◌<◌, Bool, true, false, ◌&&◌, if◌then◌else◌}
use Rattle.std.proofs.Common.{nat_lt, ◌==◌, List, [], ◌∷◌, ◌++◌, length, get_or, set, replicate, Option, Some, None, Result, Ok, Err, refl, sym, ap}
use Rattle.std.proofs.Common.{◌∙◌, subst, arith}
use Rattle.std.specs.List.{slice_get}
use Rattle.std.specs.Option.{option_map_or}
use Rattle.mm_base.specs.Numbers.{low_bytes, number_of}
use Rattle.mm_base.specs.Frames.{zeros}
use Rattle.mm_base.specs.Records.{RecordsState}
use Rattle.mm_base.specs.Statuses.{access_denied, unsupported}
use Rattle.mm_base.specs.declared.access.Denial.{Denial}
use Rattle.mm_base.specs.declared.access.Kind.{Kind}
use Rattle.mm_base.specs.declared.access.Kind.TheVariants as kinds
use Rattle.mm_base.specs.declared.access.Right.{Right}
use Rattle.mm_base.specs.declared.access.Right.TheVariants as rights
use Rattle.mm_base.specs.declared.access.Verdict.{Verdict}
use Rattle.mm_base.specs.declared.access.Verdict.TheVariants.{Pass, Deny}
use Rattle.mm_base.specs.declared.access.Why.{Why}
use Rattle.mm_base.specs.declared.bus.Served.{Served}
use Rattle.mm_base.specs.declared.bus.Served.TheVariants.{Status, Stop}
use Rattle.mm_base.specs.declared.cells.Saved.{Saved}
use Rattle.mm_base.specs.declared.guid.Guid.{Guid}
use Rattle.mm_base.specs.declared.service.Service.{Service}
use Rattle.mmi_registry.specs.Registry.{RegistryState}
use Rattle.mm_memory.proofs.PageLemmas.{length-zeros}
use Rattle.pool_tree.specs.Pool.{Block}
use Rattle.protocol_db.specs.ProtocolDb.{DbState}
use Rattle.secure_policy.specs.Laws.{passes}
use Rattle.supervisor_calls.specs.Accesses.{answered, target_by, service_of, bytes_at, changed, denial_of, number_at, with_bytes}
use Rattle.supervisor_calls.specs.Accesses.{with_cell_write, with_number, with_quota}
use Rattle.supervisor_calls.specs.Deeds.{Deed, Returns, Reads, Names, Asks, Writes, Clears, SeesPool, SetsPool, SeesReserve, SetsReserve}
use Rattle.supervisor_calls.specs.Deeds.{SeesHandlers, SetsHandlers, SeesInterfaces, SetsInterfaces, going_on, let_through, done}
use Rattle.supervisor_calls.specs.Deeds.{after_clearing, after_write}
use Rattle.supervisor_calls.specs.Deeds.{refusal, with_denied}
use Rattle.supervisor_calls.specs.Domains.{DomainState, acted, acting_of, fetched, read_at, target_at, trapped_of, verdict_in}
use Rattle.supervisor_calls.specs.Domains.{with_acting, write_verdict, written_at}
use Rattle.supervisor_calls.specs.Laws.{IsSite, along}
use Rattle.supervisor_calls.specs.Services.{all_services, and_then, argument, argument_count, arguments_at, deed_of, ends_at_lock, region_in, served}
use Rattle.supervisor_calls.specs.Services.{served_by_number, stopping}
use Rattle.supervisor_calls.specs.Tables.{Live, Site}
use Rattle.supervisor_calls.proofs.CellLemmas.{passes_without_quota}
use Rattle.image_groups.specs.Erasing.{erase, erased_domain, projected_registers, trapped_in}
use Rattle.image_groups.specs.Groups.{Group}
use Rattle.image_groups.specs.Laws.{Facts}
use Rattle.image_groups.specs.RunLaws.{IsWhole}
use Rattle.image_groups.proofs.LiveLemmas.{AreGranted, bytes_same, few_low, ports-erased}
use Rattle.image_groups.proofs.LiveLemmas.{ports-whole, ports_same, register-erased, register-whole, register_same, with_bytes-erased}
use Rattle.image_groups.proofs.LiveLemmas.{with_bytes-whole}
use Rattle.image_groups.proofs.MaskLemmas.{get_or-masked, set-masked}
use Rattle.image_groups.proofs.PlaceLemmas.{bytes_where, cells_there, ports_within, register_there, some_unit}

-- What changes while an image is at work.
pub record Work : Type 0 where
  pub live : Live
  pub saved : Saved
  pub records : RecordsState

module _ (site : Site) (registry : RegistryState) (protocols : DbState) (pages : List Bool) (image : ℕ) where
  -- the locked domain of an image at work
  abbrev pub packed : Work → DomainState
  packed work = record {
    tables = record { site = site; live = work.live; registry = registry; protocols = protocols; locked = true; pages = pages };
    image = image;
    saved = work.saved;
    records = work.records;
  }

module _ (group : Group) (site : Site) where
  abbrev pub erased_work : Work → Work
  erased_work work = record {
    live = erase group site work.live;
    saved = projected_registers group site work.saved;
    records = work.records;
  }

module _ (site : Site) (placed : IsSite site) (registry : RegistryState) (protocols : DbState) (pages : List Bool) (image : ℕ) where
  abbrev domain_of : Work → DomainState
  domain_of = packed site registry protocols pages image

  -- what passes has a unit, and lies where there is something
  passed_number : (work : Work) (kind : Kind) (at n : ℕ) (right : Right) → passes (verdict_in (domain_of work) kind at n right) ≡ true → 1 ≤ n
  passed_number work kind at n right pass = some_unit site image right (trapped_of (domain_of work)) kind at n pass

  -- a write that passes leaves memory and cells whole
  pub with_number-whole : (work : Work) → IsWhole work.live → (kind : Kind) (at n value : ℕ)
      → passes (verdict_in (domain_of work) kind at n rights.Write) ≡ true → IsWhole (with_number kind at n value work.live)
  with_number-whole work whole kinds.Memory at n value pass =
      with_bytes-whole (λ k. false) site work.live whole at n (low_bytes n value) (few_low n value)
      (passed_number work kinds.Memory at n rights.Write pass)
      (bytes_where (domain_of work) placed at n (trapped_of (domain_of work)) rights.Write pass)
  with_number-whole work whole kinds.Io at n value pass =
      ports-whole (λ k. false) site work.live whole at n (low_bytes n value) (few_low n value)
      (ports_within at n (passed_number work kinds.Io at n rights.Write pass)
      (cells_there site image rights.Write (trapped_of (domain_of work)) kinds.Io at n (λ e. cc) pass))
  with_number-whole work whole kinds.Msr at n value pass =
      register-whole (λ k. false) site work.live at n value (passed_number work kinds.Msr at n rights.Write pass)
      (register_there at n (passed_number work kinds.Msr at n rights.Write pass)
      (cells_there site image rights.Write (trapped_of (domain_of work)) kinds.Msr at n (λ e. cc) pass)) whole
  with_number-whole work whole kinds.Saved at n value pass = whole

  pub cleared-whole : (work : Work) → IsWhole work.live → (at n : ℕ)
      → passes (verdict_in (domain_of work) kinds.Memory at n rights.Write) ≡ true → IsWhole (with_bytes at (zeros n) work.live)
  cleared-whole work whole at n pass =
      with_bytes-whole (λ k. false) site work.live whole at n (zeros n) (omega (arith, length-zeros n))
      (passed_number work kinds.Memory at n rights.Write pass)
      (bytes_where (domain_of work) placed at n (trapped_of (domain_of work)) rights.Write pass)

module _ (group : Group) (site : Site) (placed : IsSite site) (facts : Facts group site) (registry : RegistryState) (protocols : DbState)
    (pages : List Bool) (image : ℕ) (there : image < length site.images) (mine : group image ≡ true) where
  abbrev domain : Work → DomainState
  domain = packed site registry protocols pages image

  abbrev erased : Work → Work
  erased = erased_work group site

  abbrev change : DomainState → DomainState
  change = erased_domain group

  -- ---- verdicts

  same_verdict : (work : Work) (kind : Kind) (at n : ℕ) (right : Right)
      → verdict_in (domain (erased work)) kind at n right ≡ verdict_in (domain work) kind at n right
  same_verdict work kind at n right = facts.same image kind at n right work.saved mine

  same_limit : (work : Work) (kind : Kind) (at n : ℕ) → write_verdict (domain (erased work)) kind at n ≡ write_verdict (domain work) kind at n
  same_limit work kind at n = ap (with_quota kind at work.records) (same_verdict work kind at n rights.Write)

  without_limit : (work : Work) (kind : Kind) (at n : ℕ) → passes (write_verdict (domain work) kind at n) ≡ true
      → passes (verdict_in (domain work) kind at n rights.Write) ≡ true
  without_limit work kind at n pass = passes_without_quota kind at work.records (verdict_in (domain work) kind at n rights.Write) pass

  some : (work : Work) (kind : Kind) (at n : ℕ) (right : Right) → passes (verdict_in (domain work) kind at n right) ≡ true → 1 ≤ n
  some work kind at n right pass = some_unit site image right (trapped_of (domain work)) kind at n pass

  granted_all : (work : Work) (kind : Kind) (at n : ℕ) (right : Right) → kind ≢ kinds.Saved
      → passes (verdict_in (domain work) kind at n right) ≡ true → AreGranted group site kind at n
  granted_all work kind at n right other pass unit has = facts.within image kind at n right (trapped_of (domain work)) unit there mine other pass has

  -- ---- what is read

  bytes_seen : (work : Work) (at n : ℕ) (right : Right) → passes (verdict_in (domain work) kinds.Memory at n right) ≡ true
      → bytes_at (erase group site work.live) at n ≡ bytes_at work.live at n
  bytes_seen work at n right pass =
      bytes_same group site work.live at n (some work kinds.Memory at n right pass)
      (bytes_where (domain work) placed at n (trapped_of (domain work)) right pass)
      (granted_all work kinds.Memory at n right (λ e. cc) pass)

  number_same : (work : Work) (kind : Kind) (at n : ℕ) → passes (verdict_in (domain work) kind at n rights.Read) ≡ true
      → number_at (erase group site work.live) (projected_registers group site work.saved) kind at n ≡ number_at work.live work.saved kind at n
  number_same work kinds.Memory at n pass = ap number_of (bytes_seen work at n rights.Read pass)
  number_same work kinds.Io at n pass = ports_same group site work.live at n (granted_all work kinds.Io at n rights.Read (λ e. cc) pass)
  number_same work kinds.Msr at n pass =
      register_same group site work.live at n (some work kinds.Msr at n rights.Read pass)
      (register_there at n (some work kinds.Msr at n rights.Read pass)
      (cells_there site image rights.Read (trapped_of (domain work)) kinds.Msr at n (λ e. cc) pass))
      (granted_all work kinds.Msr at n rights.Read (λ e. cc) pass)
  number_same work kinds.Saved at n pass =
      get_or-masked 0 (λ register. _) work.saved.0 at 0
      (facts.within_registers image at n (trapped_in work.saved) at there mine pass
      (record { from = omega arith; to = omega (arith, some work kinds.Saved at n rights.Read pass) }))

  -- ---- what is written

  number_erased : (work : Work) → IsWhole work.live → (kind : Kind) (at n value : ℕ)
      → passes (verdict_in (domain work) kind at n rights.Write) ≡ true
      → with_number kind at n value (erase group site work.live) ≡ erase group site (with_number kind at n value work.live)
  number_erased work whole kinds.Memory at n value pass =
      with_bytes-erased group site work.live whole at n (low_bytes n value) (few_low n value) (some work kinds.Memory at n rights.Write pass)
      (bytes_where (domain work) placed at n (trapped_of (domain work)) rights.Write pass)
      (granted_all work kinds.Memory at n rights.Write (λ e. cc) pass)
  number_erased work whole kinds.Io at n value pass =
      ports-erased group site work.live whole at n (low_bytes n value) (few_low n value)
      (ports_within at n (some work kinds.Io at n rights.Write pass)
      (cells_there site image rights.Write (trapped_of (domain work)) kinds.Io at n (λ e. cc) pass))
      (granted_all work kinds.Io at n rights.Write (λ e. cc) pass)
  number_erased work whole kinds.Msr at n value pass =
      register-erased group site work.live at n value (some work kinds.Msr at n rights.Write pass)
      (register_there at n (some work kinds.Msr at n rights.Write pass)
      (cells_there site image rights.Write (trapped_of (domain work)) kinds.Msr at n (λ e. cc) pass))
      (granted_all work kinds.Msr at n rights.Write (λ e. cc) pass)
  number_erased work whole kinds.Saved at n value pass = refl

  clearing_erased : (work : Work) → IsWhole work.live → (at n : ℕ)
      → passes (verdict_in (domain work) kinds.Memory at n rights.Write) ≡ true
      → with_bytes at (zeros n) (erase group site work.live) ≡ erase group site (with_bytes at (zeros n) work.live)
  clearing_erased work whole at n pass =
      with_bytes-erased group site work.live whole at n (zeros n) (omega (arith, length-zeros n)) (some work kinds.Memory at n rights.Write pass)
      (bytes_where (domain work) placed at n (trapped_of (domain work)) rights.Write pass)
      (granted_all work kinds.Memory at n rights.Write (λ e. cc) pass)

  -- ---- accesses

  denied_along : (denial : Denial) (work : Work) → with_denied denial (domain (erased work)) ≡ change (with_denied denial (domain work))
  denied_along denial work = by_room (nat_lt (length work.records.denials) 8)
    where
      with : Bool → Work → DomainState
      with room work =
          acted (domain work) (
          if room
          then record (acting_of (domain work)) { records = record work.records { denials = work.records.denials ++ denial ∷ [] } }
          else acting_of (domain work)
          )

      by_room : (room : Bool) → with room (erased work) ≡ change (with room work)
      by_room true = refl
      by_room false = refl

  answered_along : {A : Type 0} (verdict other : Verdict) (denial : Why → Denial) (value seen : A) (work : Work) → other ≡ verdict
      → (passes verdict ≡ true → seen ≡ value)
      → with_acting (domain (erased work)) (answered other denial seen (acting_of (domain (erased work))))
      ≡ along change (with_acting (domain work) (answered verdict denial value (acting_of (domain work))))
  answered_along verdict other denial value seen work same is =
      ap (λ (v : Verdict). with_acting (domain (erased work)) (answered v denial seen (acting_of (domain (erased work))))) same
      ∙ by_verdict verdict is
    where
      by_verdict : (verdict : Verdict) → (passes verdict ≡ true → seen ≡ value)
          → with_acting (domain (erased work)) (answered verdict denial seen (acting_of (domain (erased work))))
          ≡ along change (with_acting (domain work) (answered verdict denial value (acting_of (domain work))))
      by_verdict (Pass why) is = ap (λ (v : _). (Ok v, domain (erased work))) (is refl)
      by_verdict (Deny why) is = ap (λ (d : DomainState). (Err (denial why), d)) (denied_along (denial why) work)

  pub fetched_along : (work : Work) (at n : ℕ) → fetched (domain (erased work)) at n ≡ along change (fetched (domain work) at n)
  fetched_along work at n =
      answered_along (verdict_in (domain work) kinds.Memory at n rights.Execute) (verdict_in (domain (erased work)) kinds.Memory at n rights.Execute)
      (denial_of kinds.Memory rights.Execute at n) (bytes_at work.live at n ++ replicate (18 - n) 0)
      (bytes_at (erase group site work.live) at n ++ replicate (18 - n) 0) work
      (same_verdict work kinds.Memory at n rights.Execute)
      (λ pass. ap (λ (bytes : List ℕ). bytes ++ replicate (18 - n) 0) (bytes_seen work at n rights.Execute pass))

  pub read_along : (work : Work) (at n : ℕ) → read_at (domain (erased work)) at n ≡ along change (read_at (domain work) at n)
  read_along work at n =
      answered_along (verdict_in (domain work) kinds.Memory at n rights.Read) (verdict_in (domain (erased work)) kinds.Memory at n rights.Read)
      (denial_of kinds.Memory rights.Read at n) (number_of (bytes_at work.live at n)) (number_of (bytes_at (erase group site work.live) at n)) work
      (same_verdict work kinds.Memory at n rights.Read)
      (λ pass. ap number_of (bytes_seen work at n rights.Read pass))

  changed_along : (verdict other : Verdict) (at n value : ℕ) (work : Work) → other ≡ verdict
      → (passes verdict ≡ true → with_number kinds.Memory at n value (erase group site work.live)
      ≡ erase group site (with_number kinds.Memory at n value work.live))
      → with_acting (domain (erased work)) (changed other kinds.Memory at n value (acting_of (domain (erased work))))
      ≡ along change (with_acting (domain work) (changed verdict kinds.Memory at n value (acting_of (domain work))))
  changed_along verdict other at n value work same is =
      ap (λ (v : Verdict). with_acting (domain (erased work)) (changed v kinds.Memory at n value (acting_of (domain (erased work))))) same
      ∙ by_verdict verdict is
    where
      by_verdict : (verdict : Verdict)
          → (passes verdict ≡ true → with_number kinds.Memory at n value (erase group site work.live)
          ≡ erase group site (with_number kinds.Memory at n value work.live))
          → with_acting (domain (erased work)) (changed verdict kinds.Memory at n value (acting_of (domain (erased work))))
          ≡ along change (with_acting (domain work) (changed verdict kinds.Memory at n value (acting_of (domain work))))
      by_verdict (Pass why) is =
          ap (λ (live : Live). (
            Ok tt,
            domain (record {
              live = live;
              saved = projected_registers group site work.saved;
              records = with_cell_write kinds.Memory at n value work.records;
            }),
          ))
          (is refl)
      by_verdict (Deny why) is =
          ap (λ (d : DomainState). (Err (denial_of kinds.Memory rights.Write at n why), d))
          (denied_along (denial_of kinds.Memory rights.Write at n why) work)

  pub written_along : (work : Work) → IsWhole work.live → (at n value : ℕ)
      → written_at (domain (erased work)) at n value ≡ along change (written_at (domain work) at n value)
  written_along work whole at n value =
      changed_along (write_verdict (domain work) kinds.Memory at n) (write_verdict (domain (erased work)) kinds.Memory at n) at n value work
      (same_limit work kinds.Memory at n)
      (λ pass. number_erased work whole kinds.Memory at n value (without_limit work kinds.Memory at n pass))

  pub target_along : (work : Work) (at : ℕ) → target_at (domain (erased work)) at ≡ target_at (domain work) at
  target_along work at =
      ap (λ (v : Verdict). target_by (service_of site image at) ((at % 2 == 0) && passes v)) (same_verdict work kinds.Memory at 2 rights.Execute)

  -- ---- deeds

  let_along : {A : Type 0} (verdict other : Verdict) (denial : Why → Denial) (value seen : A) (after_seen after : DomainState) (work : Work)
      (next : A → DomainState → Served × DomainState) → other ≡ verdict
      → (passes verdict ≡ true → seen ≡ value)
      → (passes verdict ≡ true → next value after_seen ≡ along change (next value after))
      → going_on (let_through other denial seen after_seen (domain (erased work))) next
      ≡ along change (going_on (let_through verdict denial value after (domain work)) next)
  let_along verdict other denial value seen after_seen after work next same is each =
      ap (λ (v : Verdict). going_on (let_through v denial seen after_seen (domain (erased work))) next) same ∙ by_verdict verdict is each
    where
      by_verdict : (verdict : Verdict) → (passes verdict ≡ true → seen ≡ value)
          → (passes verdict ≡ true → next value after_seen ≡ along change (next value after))
          → going_on (let_through verdict denial seen after_seen (domain (erased work))) next
          ≡ along change (going_on (let_through verdict denial value after (domain work)) next)
      by_verdict (Pass why) is each = ap (λ (v : _). next v after_seen) (is refl) ∙ each refl
      by_verdict (Deny why) is each =
          ap (λ (d : DomainState). (refusal (denial why) (domain work), d)) (denied_along (denial why) work)

  done_along : (deed : Deed) (work : Work) → IsWhole work.live → done deed (domain (erased work)) ≡ along change (done deed (domain work))
  done_along (Returns status) work whole = refl
  done_along (Reads kind at n next) work whole =
      let_along (verdict_in (domain work) kind at n rights.Read) (verdict_in (domain (erased work)) kind at n rights.Read)
      (denial_of kind rights.Read at n)
      (number_at work.live work.saved kind at n) (number_at (erase group site work.live) (projected_registers group site work.saved) kind at n)
      (domain (erased work)) (domain work) work (λ value d. done (next value) d) (same_verdict work kind at n rights.Read)
      (λ pass. number_same work kind at n pass) (λ pass. done_along (next (number_at work.live work.saved kind at n)) work whole)
  done_along (Names pointer next) work whole =
      let_along {A = Guid} (verdict_in (domain work) kinds.Memory pointer 16 rights.Read)
      (verdict_in (domain (erased work)) kinds.Memory pointer 16 rights.Read)
      (denial_of kinds.Memory rights.Read pointer 16) (record { 0 = bytes_at work.live pointer 16 })
      (record { 0 = bytes_at (erase group site work.live) pointer 16 })
      (domain (erased work)) (domain work) work (λ guid d. done (next guid) d) (same_verdict work kinds.Memory pointer 16 rights.Read)
      (λ pass. ap (λ (bytes : List ℕ). record { 0 = bytes }) (bytes_seen work pointer 16 rights.Read pass))
      (λ pass. done_along (next (record { 0 = bytes_at work.live pointer 16 })) work whole)
  done_along (Asks pointer next) work whole =
      let_along {A = Unit {0}} (write_verdict (domain work) kinds.Memory pointer 8) (write_verdict (domain (erased work)) kinds.Memory pointer 8)
      (denial_of kinds.Memory rights.Write pointer 8) tt tt (domain (erased work)) (domain work) work (λ value d. done next d)
      (same_limit work kinds.Memory pointer 8) (λ pass. refl) (λ pass. done_along next work whole)
  done_along (Writes kind at n value next) work whole =
      let_along {A = Unit {0}} (write_verdict (domain work) kind at n) (write_verdict (domain (erased work)) kind at n)
      (denial_of kind rights.Write at n) tt tt (after_write kind at n value (domain (erased work))) (after_write kind at n value (domain work)) work
      (λ done_it d. done next d) (same_limit work kind at n) (λ pass. refl)
      (λ pass. ap (λ (live : Live). done next
      (domain (record { live = live; saved = projected_registers group site work.saved; records = with_cell_write kind at n value work.records })))
      (number_erased work whole kind at n value (without_limit work kind at n pass))
      ∙ done_along next (record {
        live = with_number kind at n value work.live;
        saved = work.saved;
        records = with_cell_write kind at n value work.records;
      })
      (with_number-whole site placed registry protocols pages image work whole kind at n value (without_limit work kind at n pass)))
  done_along (Clears at n next) work whole =
      let_along {A = Unit {0}} (write_verdict (domain work) kinds.Memory at n) (write_verdict (domain (erased work)) kinds.Memory at n)
      (denial_of kinds.Memory rights.Write at n) tt tt (after_clearing at n (domain (erased work))) (after_clearing at n (domain work)) work
      (λ done_it d. done next d) (same_limit work kinds.Memory at n) (λ pass. refl)
      (λ pass. ap (λ (live : Live). done next
      (domain (record { live = live; saved = projected_registers group site work.saved; records = work.records })))
      (clearing_erased work whole at n (without_limit work kinds.Memory at n pass))
      ∙ done_along next (record { live = with_bytes at (zeros n) work.live; saved = work.saved; records = work.records })
      (cleared-whole site placed registry protocols pages image work whole at n (without_limit work kinds.Memory at n pass)))
  done_along (SeesPool next) work whole =
      ap (λ (pool : List Block). done (next pool) (domain (erased work))) (get_or-masked [] group work.live.pools image [] mine)
      ∙ done_along (next (get_or work.live.pools image [])) work whole
  done_along (SetsPool pool next) work whole =
      ap (λ (pools : List (List Block)). done next (domain (record (erased work) { live = record (erase group site work.live) { pools = pools } })))
      (set-masked [] group work.live.pools image pool mine)
      ∙ done_along next (record work { live = record work.live { pools = set work.live.pools image pool } })
      (record { memory = whole.memory; cells = whole.cells })
  done_along (SeesReserve next) work whole =
      ap (λ (reserve : List Bool). done (next reserve) (domain (erased work)))
      (get_or-masked (replicate 16 false) group work.live.reserves image [] mine)
      ∙ done_along (next (get_or work.live.reserves image [])) work whole
  done_along (SetsReserve reserve next) work whole =
      ap (λ (reserves : List (List Bool)). done next
      (domain (record (erased work) { live = record (erase group site work.live) { reserves = reserves } })))
      (set-masked (replicate 16 false) group work.live.reserves image reserve mine)
      ∙ done_along next (record work { live = record work.live { reserves = set work.live.reserves image reserve } })
      (record { memory = whole.memory; cells = whole.cells })
  done_along (SeesHandlers next) work whole = done_along (next registry) work whole
  done_along (SetsHandlers others next) work whole = done_along next work whole
  done_along (SeesInterfaces next) work whole = done_along (next protocols) work whole
  done_along (SetsInterfaces others next) work whole = done_along next work whole

  -- ---- arguments

  -- two answers agree: both go on with one value from the domain as it was, or both end with one answer
  Agree : {A : Type 0} → Work → Result A Served × DomainState → Result A Served × DomainState → Type 0
  Agree {A} work seen told =
      ((value : A) × ((seen ≡ (Ok value, domain (erased work))) × (told ≡ (Ok value, domain work))))
      ⊎ ((answer : Served) × ((d : DomainState) × ((seen ≡ (Err answer, change d)) × (told ≡ (Err answer, d)))))

  then_agrees : {A B : Type 0} (work : Work) (seen told : Result A Served × DomainState) (next : A → DomainState → Result B Served × DomainState)
      → Agree work seen told → ((value : A) → Agree work (next value (domain (erased work))) (next value (domain work)))
      → Agree work (and_then seen next) (and_then told next)
  unfolding Agree
  then_agrees work seen told next (inl same) each =
      subst (λ s. Agree work (and_then s next) (and_then told next)) (sym same.1.0)
      (subst (λ t. Agree work (and_then (Ok same.0, domain (erased work)) next) (and_then t next)) (sym same.1.1) (each same.0))
  then_agrees work seen told next (inr ends) each =
      inr (ends.0, (ends.1.0, (ap (λ s. and_then s next) ends.1.1.0, ap (λ t. and_then t next) ends.1.1.1)))

  going_agrees : {A : Type 0} (work : Work) (seen told : Result A Served × DomainState) (next : A → DomainState → Served × DomainState)
      → Agree work seen told → ((value : A) → next value (domain (erased work)) ≡ along change (next value (domain work)))
      → going_on seen next ≡ along change (going_on told next)
  unfolding Agree
  going_agrees work seen told next (inl same) each =
      ap (λ s. going_on s next) same.1.0 ∙ each same.0 ∙ ap (λ t. along change (going_on t next)) (sym same.1.1)
  going_agrees work seen told next (inr ends) each =
      ap (λ s. going_on s next) ends.1.1.0 ∙ ap (λ t. along change (going_on t next)) (sym ends.1.1.1)

  read_agrees : (work : Work) (at : ℕ) → Agree work (stopping (read_at (domain (erased work)) at 8)) (stopping (read_at (domain work) at 8))
  unfolding Agree
  read_agrees work at =
      by_verdict (verdict_in (domain work) kinds.Memory at 8 rights.Read) (verdict_in (domain (erased work)) kinds.Memory at 8 rights.Read)
      (same_verdict work kinds.Memory at 8 rights.Read) (λ pass. ap number_of (bytes_seen work at 8 rights.Read pass))
    where
      stop : Verdict → ℕ → Work → Result ℕ Served × DomainState
      stop verdict value work =
          stopping (with_acting (domain work) (answered verdict (denial_of kinds.Memory rights.Read at 8) value (acting_of (domain work))))

      by_same : (verdict : Verdict) → (passes verdict ≡ true
          → number_of (bytes_at (erase group site work.live) at 8) ≡ number_of (bytes_at work.live at 8))
          → Agree work (stop verdict (number_of (bytes_at (erase group site work.live) at 8)) (erased work))
          (stop verdict (number_of (bytes_at work.live at 8)) work)
      by_same (Pass why) is = inl (number_of (bytes_at work.live at 8), (ap (λ (v : ℕ). (Ok v, domain (erased work))) (is refl), refl))
      by_same (Deny why) is =
          inr (
            Stop (denial_of kinds.Memory rights.Read at 8 why),
            (
              with_denied (denial_of kinds.Memory rights.Read at 8 why) (domain work),
              (
                ap (λ (d : DomainState). (Err (Stop (denial_of kinds.Memory rights.Read at 8 why)), d))
                    (denied_along (denial_of kinds.Memory rights.Read at 8 why) work),
                refl,
              ),
            ),
          )

      by_verdict : (verdict other : Verdict) → other ≡ verdict
          → (passes verdict ≡ true → number_of (bytes_at (erase group site work.live) at 8) ≡ number_of (bytes_at work.live at 8))
          → Agree work (stop other (number_of (bytes_at (erase group site work.live) at 8)) (erased work))
          (stop verdict (number_of (bytes_at work.live at 8)) work)
      by_verdict verdict other same is =
          subst (λ (v : Verdict). Agree work (stop v (number_of (bytes_at (erase group site work.live) at 8)) (erased work))
          (stop verdict (number_of (bytes_at work.live at 8)) work))
          (sym same) (by_same verdict is)

  argument_agrees : (n stack k : ℕ) (work : Work) → Agree work (argument n stack k (domain (erased work))) (argument n stack k (domain work))
  unfolding Agree
  argument_agrees n stack k work = by_test (nat_lt k n)
    where
      by_test : (there : Bool)
          → Agree work (if there then stopping (read_at (domain (erased work)) ((stack + 8 * k) % 2 ^ 64) 8) else (Ok 0, domain (erased work)))
          (if there then stopping (read_at (domain work) ((stack + 8 * k) % 2 ^ 64) 8) else (Ok 0, domain work))
      by_test true = read_agrees work ((stack + 8 * k) % 2 ^ 64)
      by_test false = inl (0, (refl, refl))

  arguments_agree : (n stack : ℕ) (work : Work) → Agree work (arguments_at n stack (domain (erased work))) (arguments_at n stack (domain work))
  unfolding Agree
  arguments_agree n stack work =
      then_agrees work (argument n stack 0 (domain (erased work))) (argument n stack 0 (domain work)) _ (argument_agrees n stack 0 work) (λ first.
      then_agrees work (argument n stack 1 (domain (erased work))) (argument n stack 1 (domain work)) _ (argument_agrees n stack 1 work) (λ second.
      then_agrees work (argument n stack 2 (domain (erased work))) (argument n stack 2 (domain work)) _ (argument_agrees n stack 2 work) (λ third.
      then_agrees work (argument n stack 3 (domain (erased work))) (argument n stack 3 (domain work))
      (λ fourth d. (Ok (record { first = first; second = second; third = third; fourth = fourth }), d)) (argument_agrees n stack 3 work)
      (λ fourth. inl (_, (refl, refl))))))

  -- ---- services

  served_along : (service : Service) (stack : ℕ) (work : Work) → IsWhole work.live
      → served service stack (domain (erased work)) ≡ along change (served service stack (domain work))
  served_along service stack work whole = by_test (ends_at_lock service)
    where
      rest : DomainState → Served × DomainState
      rest d =
          going_on (arguments_at (argument_count service) stack d) (λ arguments d. done (deed_of d.image (region_in d) service arguments) d)

      by_test : (ends : Bool)
          → (if ends then (Status access_denied, domain (erased work)) else rest (domain (erased work)))
          ≡ along change (if ends then (Status access_denied, domain work) else rest (domain work))
      by_test true = refl
      by_test false =
          going_agrees work (arguments_at (argument_count service) stack (domain (erased work)))
          (arguments_at (argument_count service) stack (domain work))
          (λ arguments d. done (deed_of d.image (region_in d) service arguments) d) (arguments_agree (argument_count service) stack work)
          (λ arguments. done_along (deed_of image (region_in (domain work)) service arguments) work whole)

  pub by_number_along : (number stack : ℕ) (work : Work) → IsWhole work.live
      → served_by_number number stack (domain (erased work)) ≡ along change (served_by_number number stack (domain work))
  by_number_along number stack work whole = of_found (slice_get all_services number)
    where
      of_found : (found : Option Service)
          → option_map_or (λ service. served service stack (domain (erased work))) found (Status unsupported, domain (erased work))
          ≡ along change (option_map_or (λ service. served service stack (domain work)) found (Status unsupported, domain work))
      of_found None = refl
      of_found (Some service) = served_along service stack work whole
