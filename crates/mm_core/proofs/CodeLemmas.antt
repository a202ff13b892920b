-- A run of code of an image over tables: what the code calls, what the definition says, and what stays.
use Rattle.std.proofs.Common.{◌≡◌, ◌⊎◌, inl, inr, ℕ, ◌+◌, ◌*◌, ◌-◌, ◌≤◌, Bool, true, false, List, [], ◌∷◌, length, Option, Some, None, slice_get, refl, sym, ap, ◌∙◌, subst, arith}
use Rattle.std.specs.List.{All}
use Rattle.std.specs.Option.{is_some, option_map}
use Rattle.std.proofs.lemmas.Bool.Decides.{nat_tests}
use Rattle.std.proofs.lemmas.Option.{slice_get_past}
use Rattle.domain_runs.proofs.CallLemmas.{tables_stay_after_lock}
use Rattle.domain_runs.proofs.RunLemmas.{run_keeps}
use Rattle.domain_runs.specs.Laws.{HasTables}
use Rattle.domain_runs.specs.Runs.{ending}
use Rattle.ebc_machine.specs.Invocation.{IsRefusal, entered}
use Rattle.image_table.specs.HomeRanges.{IsPlaced}
use Rattle.image_table.specs.declared.placed_image.PlacedImage.{PlacedImage}
use Rattle.mm_base.specs.Bus.{Answers}
use Rattle.mm_base.specs.Platform.{mmram}
use Rattle.mm_base.specs.Range.{encloses}
use Rattle.mm_base.specs.Records.{RecordsState}
use Rattle.mm_base.specs.Regions.{region_of, stack_of}
use Rattle.mm_base.specs.declared.cells.Saved.{Saved}
use Rattle.mm_base.specs.declared.guid.Guid.{Guid}
use Rattle.mm_base.specs.Statuses.{unsupported}
use Rattle.mm_base.specs.declared.handler.Handler.{Handler}
use Rattle.mm_base.specs.declared.handler.HandlerBody.{HandlerBody}
use Rattle.mm_base.specs.declared.handler.HandlerBody.TheVariants.{Version, Stub, Code}
use Rattle.mm_base.specs.declared.invocation.Ended.{Ended}
use Rattle.mm_base.specs.declared.invocation.Ended.TheVariants as ended
use Rattle.mm_base.specs.declared.range.Range.{Range}
use Rattle.mm_base.specs.declared.region.Region.{Region}
use Rattle.mm_memory.specs.Flat.{AreLive}
use Rattle.mm_core.specs.BufferInside.{BufferState}
use Rattle.mm_core.specs.CodeInside.{IsCodeInvoked, IsInvoked, IsPageLive, IsRegion, refreshed, run_over}
use Rattle.mm_core.specs.CodeRun.{addresses, code_run, handed_back, message_in}
use Rattle.mm_core.specs.CoreState.{CoreState, core_of_tables, tables_of}
use Rattle.mm_core.specs.Invoked.{Answer, answered, by_body, code_invoked, invoked, version_answer}
use Rattle.mm_core.specs.Message.{Invoked, Message}
use Rattle.supervisor_calls.proofs.WhereLemmas.{of_image}
use Rattle.supervisor_calls.specs.Domains.{DomainState}
use Rattle.supervisor_calls.specs.Services.{domain_meaning}
use Rattle.supervisor_calls.specs.Tables.{IsRegionLive, IsTables, TablesState}

-- ---- the page of an image

page_live : (pages : List Bool) (region : Region) → encloses mmram (region_of region) ≡ true
    → AreLive pages (region.base - 0x80000000) (4096 * (region.pages + 38)) → IsPageLive pages region
page_live pages region inside live page before behind =
    let begins : 0x80000000 ≤ region.base = grind (arith, nat_tests, inside) in
    live page (omega (arith, begins, before)) (omega (arith, begins, behind))

page_of : (tables : TablesState) (image : ℕ) (region : Region) (found : Option PlacedImage) → IsTables tables → All IsPlaced tables.site.images
    → slice_get tables.site.images image ≡ found → option_map (λ placed. placed.region) found ≡ Some region → IsPageLive tables.pages region
page_of tables image region None keeps placed is there = absurd (cc)
page_of tables image region (Some found) keeps placed is there =
    let same : found.region ≡ region = cc in
    let inside = (of_image IsPlaced tables.site.images placed image found is).within in
    let live : IsRegionLive tables.pages found = of_image (IsRegionLive tables.pages) tables.site.images keeps.live image found is in
    subst (IsPageLive tables.pages) same (page_live tables.pages found.region inside live)

-- the communicate page of an image is live
pub region_there : (tables : TablesState) (image : ℕ) (region : Region) → IsTables tables → All IsPlaced tables.site.images
    → IsRegion tables image region → IsPageLive tables.pages region
region_there tables image region keeps placed is = page_of tables image region (slice_get tables.site.images image) keeps placed refl is

-- ---- a run

-- over a bus whose services aren't refused memory, nothing is
never_refused : (end : Ended) → IsRefusal false end → ⊥
never_refused (ended.Returned status) refused = refused
never_refused (ended.Denied why at) refused = refused
never_refused (ended.Fuel at) refused = refused
never_refused (ended.Fault kind at) refused = refused
never_refused (ended.NoMemory want) refused = let no : false ≡ true = refused in absurd (cc)

module _ (saved : Saved) (handler : Handler) (image address : ℕ) (region : Region) (tables : TablesState) where
  -- what the code runs is the run of the definition
  pub run_told : (fuel : ℕ) (stack : Range) (arguments : List ℕ) (records : RecordsState) (domain left : DomainState) (end : Ended)
      → fuel ≡ tables.site.policy.fuel → stack ≡ stack_of region
      → arguments ≡ (handler.number + 1) ∷ 0 ∷ addresses handler.guid region
      → records ≡ record { denials = []; writes = [] }
      → domain ≡ record { tables = tables; image = image; saved = saved; records = records }
      → IsRefusal false end ⊎ Answers (ending domain_meaning fuel (entered domain_meaning (stack.base + stack.length) address arguments domain)) end left
      → Answers (run_over saved handler image address region tables) end left
  unfolding run_over
  run_told fuel stack arguments records domain left end fuel_is stack_is arguments_are none domain_is (inl refused) = absurd (never_refused end refused)
  run_told fuel stack arguments records domain left end fuel_is stack_is arguments_are none domain_is (inr answers) =
      let opened : domain ≡ record { tables = tables; image = image; saved = saved; records = record { denials = []; writes = [] } } =
      domain_is ∙ (λ i. record { tables = tables; image = image; saved = saved; records = none i }) in
      let told : ending domain_meaning fuel (entered domain_meaning (stack.base + stack.length) address arguments domain)
      ≡ run_over saved handler image address region tables =
      λ i.
      ending domain_meaning (fuel_is i)
      (entered domain_meaning ((stack_is i).base + (stack_is i).length) address (arguments_are i) (opened i)) in
      (answers.0 ∙ ap (λ p. p.0) told, answers.1 ∙ ap (λ p. p.1) told)

  -- after lock nothing of the tables changes but what a step may change
  pub tables_stay : tables.locked ≡ true → HasTables tables (run_over saved handler image address region tables).1
  unfolding run_over
  tables_stay locked =
      let stack = stack_of region in
      let before : DomainState = record { tables = tables; image = image; saved = saved; records = record { denials = []; writes = [] } } in
      run_keeps (HasTables tables) domain_meaning (tables_stay_after_lock tables locked) tables.site.policy.fuel
      (stack.base + stack.length) address ((handler.number + 1) ∷ 0 ∷ addresses handler.guid region) before
      (record { site = refl; registry = refl; protocols = refl; locked = refl; pages = refl })

-- the same over tables whose page was filled
pub same_tables : (saved : Saved) (handler : Handler) (image address : ℕ) (region : Region) (message : Message) (tables filled : TablesState)
    → filled ≡ refreshed region message tables → tables.locked ≡ true → HasTables tables (run_over saved handler image address region filled).1
same_tables saved handler image address region message tables filled is locked =
    let stays : HasTables (refreshed region message tables) (run_over saved handler image address region (refreshed region message tables)).1 =
    tables_stay saved handler image address region (refreshed region message tables) locked in
    subst (λ (t : TablesState). HasTables tables (run_over saved handler image address region t).1) (sym is)
    (record { site = stays.site; registry = stays.registry; protocols = stays.protocols; locked = stays.locked; pages = stays.pages })

-- ---- what is handed back

-- by a handler of a GUID
pub taken_back : (given : BufferState) (region : Region) (tables left : TablesState) (guid : Option Guid) → tables ≡ left → is_some guid ≡ true
    → (let before : BufferState = record given { message = message_in region given.message tables.live.memory } in
    before ≡ record given { message = handed_back guid region given.message left.live.memory })
taken_back given region tables left None is some = absurd (cc)
taken_back given region tables left (Some guid) is some =
    ap (λ (t : TablesState). record given { message = message_in region given.message t.live.memory }) is

-- by a root handler
pub not_taken_back : (given : BufferState) (region : Region) (memory : List ℕ) (guid : Option Guid) → is_some guid ≡ false
    → given ≡ record given { message = handed_back guid region given.message memory }
not_taken_back given region memory None none = refl
not_taken_back given region memory (Some guid) none = absurd (cc)

-- ---- a run, on a core

module _ (tables : TablesState) (handler : Handler) (image address : ℕ) (saved : Saved) (given : BufferState)
    (told : TablesState × RecordsState × Ended) (buffer : BufferState) (locked : tables.locked ≡ true) (frozen : tables.registry.frozen ≡ true)
    (made : IsCodeInvoked tables handler image address saved given told buffer) where
  -- the tables are those of the core
  same_core : tables ≡ tables_of (core_of_tables tables).site (core_of_tables tables).live
  same_core = λ i. record tables { registry = record tables.registry { frozen = frozen i }; locked = locked i }

  run_is : (region : Region) → made.region ≡ region
      → made.ran ≡ code_run (core_of_tables tables).site saved handler image address region given.message (core_of_tables tables).live
  unfolding run_over code_run
  run_is region same =
      made.is
      ∙ (λ i. run_over saved handler image address (same i) (refreshed (same i) given.message (same_core i)))

  left_core : core_of_tables told.0 ≡ record (core_of_tables tables) { live = made.ran.1.tables.live }
  left_core =
      ap core_of_tables made.tables_are
      ∙ (λ i.
      record {
        site = record {
          supervised = made.stays.site i;
          handlers = (made.stays.registry i).handlers;
          next_number = (made.stays.registry i).next;
          interfaces = made.stays.protocols i;
          pages = made.stays.pages i;
        };
        live = made.ran.1.tables.live;
      })

  over_found : (found : Option PlacedImage) → slice_get tables.site.images image ≡ found
      → (let core = core_of_tables tables in
      IsInvoked core handler.number (code_invoked core.site saved handler image address found given.message core.live) given (told.1, told.2)
      (core_of_tables told.0) buffer)
  over_found None is =
      let none : None ≡ Some made.region = ap (option_map (λ (placed : PlacedImage). placed.region)) (sym is) ∙ made.is_region in
      absurd (cc)
  over_found (Some placed) is =
      let there : Some placed.region ≡ Some made.region = ap (option_map (λ (placed : PlacedImage). placed.region)) (sym is) ∙ made.is_region in
      let same : made.region ≡ placed.region = cc in
      let run = run_is placed.region same in
      record {
        invocation = λ i. record {
          handler = handler.number;
          ended = (made.ended_is ∙ ap (λ (r : Ended × DomainState). r.0) run) i;
          denials = (ap (λ (r : RecordsState). r.denials) made.records_are ∙ ap (λ (r : Ended × DomainState). r.1.records.denials) run) i;
          writes = (ap (λ (r : RecordsState). r.writes) made.records_are ∙ ap (λ (r : Ended × DomainState). r.1.records.writes) run) i;
        };
        message =
            made.message_is
            ∙ (λ i. record given { message = handed_back handler.guid (same i) given.message (run i).1.tables.live.memory });
        left_is = left_core ∙ ap (λ (r : Ended × DomainState). record (core_of_tables tables) { live = r.1.tables.live }) run;
      }

  pub invoked_over : (let core = core_of_tables tables in
      IsInvoked core handler.number
      (code_invoked core.site saved handler image address (slice_get core.site.supervised.images image) given.message core.live) given
      (told.1, told.2) (core_of_tables told.0) buffer)
  invoked_over = over_found (slice_get tables.site.images image) refl

-- ---- one handler, by its body

module _ (core : CoreState) (saved : Saved) (handler : Handler) (given : BufferState) (records : RecordsState)
    (none : records ≡ record { denials = []; writes = [] }) where
  -- what a handler leaves that gave an answer
  answered_so : (answer : Answer) (status : ℕ) (buffer : BufferState) → status ≡ answer.status
      → buffer ≡ record given { message = answer.message }
      → IsInvoked core handler.number (answered handler core.live answer) given (records, ended.Returned status) core buffer
  answered_so answer status buffer status_is buffer_is = record {
    invocation = λ i. record { handler = handler.number; ended = ended.Returned (status_is i); denials = (none i).denials; writes = (none i).writes };
    message = buffer_is;
    left_is = refl;
  }

  of_body : (body : HandlerBody) → handler.body ≡ body
      → by_body core.site saved handler body given.message core.live ≡ invoked core.site saved handler given.message core.live
  unfolding invoked
  of_body body is = ap (λ (b : HandlerBody). by_body core.site saved handler b given.message core.live) (sym is)

  pub version_run : (status : ℕ) (buffer : BufferState) → handler.body ≡ Version → status ≡ (version_answer given.message).status
      → buffer ≡ record given { message = (version_answer given.message).message }
      → IsInvoked core handler.number (invoked core.site saved handler given.message core.live) given (records, ended.Returned status) core buffer
  version_run status buffer is status_is buffer_is =
      subst (λ (run : Invoked). IsInvoked core handler.number run given (records, ended.Returned status) core buffer) (of_body Version is)
      (answered_so (version_answer given.message) status buffer status_is buffer_is)

  pub stub_run : (status : ℕ) → handler.body ≡ Stub status
      → IsInvoked core handler.number (invoked core.site saved handler given.message core.live) given (records, ended.Returned status) core given
  stub_run status is =
      subst (λ (run : Invoked). IsInvoked core handler.number run given (records, ended.Returned status) core given) (of_body (Stub status) is)
      (answered_so (record { status = status; message = given.message }) status given refl refl)

  -- code of an image that isn't there
  pub nowhere_run : (image address : ℕ) → handler.body ≡ Code image address → length core.site.supervised.images ≤ image
      → IsInvoked core handler.number (invoked core.site saved handler given.message core.live) given (records, ended.Returned unsupported) core given
  nowhere_run image address is past =
      let Run : Option PlacedImage → Invoked = λ found. code_invoked core.site saved handler image address found given.message core.live in
      subst (λ (run : Invoked). IsInvoked core handler.number run given (records, ended.Returned unsupported) core given)
      (ap Run (sym (slice_get_past core.site.supervised.images image past)) ∙ of_body (Code image address) is)
      (answered_so (record { status = unsupported; message = given.message }) unsupported given refl refl)

  pub code_runs : (image address : ℕ) (told : RecordsState × Ended) (left : CoreState) (buffer : BufferState) → handler.body ≡ Code image address
      → IsInvoked core handler.number
      (code_invoked core.site saved handler image address (slice_get core.site.supervised.images image) given.message core.live) given told left buffer
      → IsInvoked core handler.number (invoked core.site saved handler given.message core.live) given told left buffer
  code_runs image address told left buffer is run =
      subst (λ (run : Invoked). IsInvoked core handler.number run given told left buffer) (of_body (Code image address) is) run
