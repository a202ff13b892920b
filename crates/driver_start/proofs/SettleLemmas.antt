-- What a start leaves: the host as it was where the last image is taken out again, and a host where it stays.
use Rattle.std.proofs.Common.{◌≡◌, inl, ℕ, ◌+◌, ◌*◌, ◌-◌, ◌≤◌, ◌<◌, Bool, true, false, List, [], ◌∷◌, ◌++◌, length, take, map, set, Option, Some, All, replicate, refl, sym, ap, ◌∙◌, subst, length-append, arith}
use Rattle.std.specs.List.{slice_get, range_with_len}
use Rattle.std.specs.Option.{option_map_or}
use Rattle.std.proofs.lemmas.Bool.Decides.{nat_tests}
use Rattle.std.proofs.lemmas.List.{take-set}
use Rattle.std.proofs.Math.Seq.{take-append_seam}
use Rattle.image_table.specs.ImageTable.{placed}
use Rattle.image_table.specs.declared.placed_image.PlacedImage.{PlacedImage}
use Rattle.mm_base.specs.Cells.{is_device_byte}
use Rattle.mm_base.specs.Frames.{IsLive, zeros}
use Rattle.mm_base.specs.Numbers.{overwritten}
use Rattle.mm_base.specs.Regions.{service_page_of}
use Rattle.mm_base.specs.declared.handler.Handler.{Handler}
use Rattle.mm_base.specs.declared.region.Region.{Region}
use Rattle.mm_base.proofs.NumberLemmas.{length-bytes_of_words}
use Rattle.std.proofs.lemmas.List.FromFn.{length-map-range_with_len}
use Rattle.mm_base.specs.Services.{entry_of}
use Rattle.mmi_registry.specs.Handlers.{is_of, without_image}
use Rattle.page_runs.specs.RunLaws.{ChangesRun}
use Rattle.page_runs.specs.Runs.{IsRun, with_run}
use Rattle.page_runs.proofs.ChangeLemmas.{changes_these_alone, comes_back, taken_may_be_given}
use Rattle.protocol_db.specs.Rows.{is_owned_by, without_owner}
use Rattle.protocol_db.specs.declared.protocol_row.Row.{Row}
use Rattle.supervisor_calls.specs.Domains.{DomainState}
use Rattle.supervisor_calls.specs.Loading.{last_image, with_memory, without_last}
use Rattle.supervisor_calls.specs.Services.{region_in}
use Rattle.supervisor_calls.specs.Tables.{Site, TablesState}
use Rattle.supervisor_calls.specs.Within.{IsOrderly, StaysWithin, outside}
use Rattle.supervisor_calls.proofs.OutsideLemmas.{LiesIn, SameOutside, written_outside}
use Rattle.driver_start.specs.Hosts.{AreBefore, HostState, IsHost}
use Rattle.driver_start.specs.Starts.{Loadable, admitted, opening_domain, pages_of_start, region_on, service_bytes}
use Rattle.driver_start.specs.StartsInside.{MayWithdraw}
use Rattle.driver_start.proofs.BeforeLemmas.{are_before, handler_of_one, others_stay, row_of_one}
use Rattle.driver_start.proofs.CleanLemmas.{still_clean, zero_run}

get-seam : {X : Type 0} (xs : List X) (y : X) → slice_get (xs ++ y ∷ []) (length xs) ≡ Some y
get-seam [] y = refl
get-seam (x ∷ xs) y = get-seam xs y

not_device : (at : ℕ) → at < 0xfe000000 → is_device_byte at ≡ false
not_device at below = grind (arith, nat_tests, below)

-- two lists that are the same but for the item that was added to the one
taken_off : {X : Type 0} (xs after : List X) (x y : X) (k : ℕ) → length xs ≡ k → set after k y ≡ set (xs ++ x ∷ []) k y → take k after ≡ xs
taken_off xs after x y k long same =
    sym (take-set after k y) ∙ ap (take k) same ∙ take-set (xs ++ x ∷ []) k y
    ∙ ap (λ n. take n (xs ++ x ∷ [])) (sym long) ∙ take-append_seam xs (x ∷ [])

module _ (host : HostState) (is : IsHost host) (orderly : IsOrderly host.tables) (driver : Loadable) (page : ℕ)
    (run : IsRun host.taken (pages_of_start driver.image) page) where
  abbrev count : ℕ
  count = length host.tables.site.images

  abbrev pages : ℕ
  pages = pages_of_start driver.image

  abbrev region : Region
  region = region_on page driver.image

  abbrev opened : TablesState
  opened = admitted driver page host.tables

  abbrev image : PlacedImage
  image = placed driver.name region.base driver.image driver.parts

  pub within : page + pages ≤ 8192
  within = omega (arith, run.inside, is.pages)

  pub opened_count : length opened.site.images ≡ count + 1
  opened_count = length-append host.tables.site.images (image ∷ [])

  last_is : last_image opened ≡ count
  last_is = omega (arith, opened_count)

  region_is : region_in (opening_domain opened) ≡ region
  region_is =
      ap (λ (found : Option PlacedImage). option_map_or (λ placed. placed.region) found (record { base = 0; pages = 0 }))
      (ap (slice_get opened.site.images) last_is ∙ get-seam host.tables.site.images image)

  at_is : region.base - 0x80000000 ≡ 4096 * page
  at_is = omega arith

  outside_is : (memory : List ℕ) → outside region memory ≡ overwritten memory (4096 * page) (zeros (4096 * pages))
  outside_is memory = ap (λ at. overwritten memory at (zeros (4096 * pages))) at_is

  -- what is loaded lies in the region
  module _ (long : length (driver.form region.base) ≡ driver.image.size) where
    abbrev form : List ℕ
    form = driver.form region.base

    abbrev services : ℕ
    services = (service_page_of region).base

    form_lies : LiesIn region region.base (length form)
    form_lies = record {
      low = omega arith;
      high = omega (arith, long);
      begins = omega arith;
      ends = omega (arith, within);
    }

    services_long : length (service_bytes services) ≡ 160
    services_long =
        length-bytes_of_words (map (entry_of services) (range_with_len 0 20))
        ∙ ap (λ n. 8 * n) (length-map-range_with_len (entry_of services) 0 20)

    services_lie : LiesIn region services 160
    services_lie = record {
      low = omega arith;
      high = omega arith;
      begins = omega arith;
      ends = omega (arith, within);
    }

    first : SameOutside region host.tables.live.memory (overwritten host.tables.live.memory (region.base - 0x80000000) form)
    first =
        written_outside region host.tables.live.memory form region.base (length form) orderly.memory (omega arith)
        (not_device region.base (omega (arith, within))) (inl form_lies)

    second : SameOutside region (overwritten host.tables.live.memory (region.base - 0x80000000) form) opened.live.memory
    second =
        written_outside region (overwritten host.tables.live.memory (region.base - 0x80000000) form) (service_bytes services) services 160
        (first.size ∙ orderly.memory) (omega (arith, services_long)) (not_device services (omega (arith, within))) (inl services_lie)

    module _ (ran : DomainState) (stays : StaysWithin (opening_domain opened) ran) where
      same_memory : overwritten ran.tables.live.memory (4096 * page) (zeros (4096 * pages))
          ≡ overwritten host.tables.live.memory (4096 * page) (zeros (4096 * pages))
      same_memory =
          let P : Region → Type 0 = λ r. outside r ran.tables.live.memory ≡ outside r opened.live.memory in
          sym (outside_is ran.tables.live.memory) ∙ subst P region_is stays.memory ∙ second.bytes ∙ first.bytes
          ∙ outside_is host.tables.live.memory

      memory_back : overwritten ran.tables.live.memory (4096 * page) (zeros (4096 * pages)) ≡ host.tables.live.memory
      memory_back = same_memory ∙ zero_run host.taken host.tables.live.memory page pages run orderly.memory within is.clean

      images_back : take (last_image ran.tables) ran.tables.site.images ≡ host.tables.site.images
      images_back =
          ap (λ (site : Site). take (length site.images - 1) site.images) stays.site
          ∙ ap (λ n. take n opened.site.images) last_is ∙ take-append_seam host.tables.site.images (image ∷ [])

      ran_last : last_image ran.tables ≡ count
      ran_last = ap (λ (site : Site). length site.images - 1) stays.site ∙ last_is

      pools_back : take (last_image ran.tables) ran.tables.live.pools ≡ host.tables.live.pools
      pools_back =
          let P : ℕ → Type 0 = λ k. set ran.tables.live.pools k [] ≡ set opened.live.pools k [] in
          ap (λ k. take k ran.tables.live.pools) ran_last
          ∙ taken_off host.tables.live.pools ran.tables.live.pools [] [] count orderly.pools (subst P last_is stays.pools)

      reserves_back : take (last_image ran.tables) ran.tables.live.reserves ≡ host.tables.live.reserves
      reserves_back =
          let P : ℕ → Type 0 = λ k. set ran.tables.live.reserves k [] ≡ set opened.live.reserves k [] in
          ap (λ k. take k ran.tables.live.reserves) ran_last
          ∙ taken_off host.tables.live.reserves ran.tables.live.reserves (replicate 16 false) [] count orderly.reserves (subst P last_is stays.reserves)

      other_handlers : without_image count ran.tables.registry.handlers ≡ without_image count host.tables.registry.handlers
      other_handlers =
          let P : ℕ → Type 0 = λ k. without_image k ran.tables.registry.handlers ≡ without_image k host.tables.registry.handlers in
          subst P last_is stays.handlers.others

      handlers_back : without_image (last_image ran.tables) ran.tables.registry.handlers ≡ host.tables.registry.handlers
      handlers_back =
          ap (λ k. without_image k ran.tables.registry.handlers) ran_last
          ∙ others_stay is_of count host.tables.registry.handlers ran.tables.registry.handlers is.handlers other_handlers

      other_rows : without_owner count ran.tables.protocols.rows ≡ without_owner count host.tables.protocols.rows
      other_rows =
          let P : ℕ → Type 0 = λ k. without_owner k ran.tables.protocols.rows ≡ without_owner k host.tables.protocols.rows in
          subst P last_is stays.interfaces.others

      rows_back : without_owner (last_image ran.tables) ran.tables.protocols.rows ≡ host.tables.protocols.rows
      rows_back =
          ap (λ k. without_owner k ran.tables.protocols.rows) ran_last
          ∙ others_stay is_owned_by count host.tables.protocols.rows ran.tables.protocols.rows is.rows other_rows

      ran_count : length ran.tables.site.images ≡ count + 1
      ran_count = ap (λ (site : Site). length site.images) stays.site ∙ opened_count

      live_still : (p : ℕ) → p < 8192 → IsLive ran.tables.pages p
      live_still p below =
          let P : List Bool → Type 0 = λ pages. IsLive pages p in
          subst P (sym stays.pages) (is.live p below)

      pub may_withdraw : MayWithdraw ran.tables (with_run true page pages host.taken) page pages host.tables.registry.next host.tables.protocols.next
      may_withdraw =
          let P : List Handler → Type 0 = λ handlers. All (λ handler. handler.number < host.tables.registry.next) handlers in
          let Q : List Row → Type 0 = λ rows. All (λ row. row.handle < host.tables.protocols.next) rows in
          record {
            some = omega (arith, ran_count);
            number_rose = stays.handlers.next;
            handle_rose = stays.interfaces.next;
            numbers = subst P (sym handlers_back) orderly.numbered.below;
            handles = subst Q (sym rows_back) orderly.installed.below;
            live = live_still;
            within = within;
            are_taken = taken_may_be_given host.taken pages page run;
          }

      -- the host as it was, but for the cells
      abbrev pub withdrawn : HostState
      withdrawn = record {
        tables = with_memory (overwritten ran.tables.live.memory (4096 * page) (zeros (4096 * pages)))
            (without_last host.tables.registry.next host.tables.protocols.next ran.tables);
        taken = with_run false page pages (with_run true page pages host.taken);
      }

      abbrev pub as_before : HostState
      as_before = record host { tables = record host.tables { live = record host.tables.live { platform = ran.tables.live.platform } } }

      pub withdrawn_is : withdrawn ≡ as_before
      withdrawn_is = λ i. record {
        tables = record {
          site = record { images = images_back i; policy = (stays.site i).policy };
          live = record { memory = memory_back i; platform = ran.tables.live.platform; pools = pools_back i; reserves = reserves_back i };
          registry = record { handlers = handlers_back i; next = host.tables.registry.next; frozen = stays.handlers.frozen i };
          protocols = record { rows = rows_back i; next = host.tables.protocols.next; frozen = stays.interfaces.frozen i };
          locked = stays.locked i;
          pages = stays.pages i;
        };
        taken = comes_back host.taken pages page run i;
      }

      -- what is left is a host
      pub before_is_host : IsHost as_before
      before_is_host = record { pages = is.pages; live = is.live; clean = is.clean; handlers = is.handlers; rows = is.rows }

      pub ran_is_host : IsHost (record { tables = ran.tables; taken = with_run true page pages host.taken })
      ran_is_host =
          let change : ChangesRun true page pages host.taken (with_run true page pages host.taken) =
          changes_these_alone true page pages host.taken run.inside in
          let P : ℕ → Type 0 = λ n. AreBefore is_of n ran.tables.registry.handlers in
          let Q : ℕ → Type 0 = λ n. AreBefore is_owned_by n ran.tables.protocols.rows in
          record {
            pages = change.as_many ∙ is.pages;
            live = live_still;
            clean = still_clean host.taken host.tables.live.memory page pages run orderly.memory within ran.tables.live.memory
                stays.orderly.memory is.clean same_memory;
            handlers = subst P (sym ran_count)
                (are_before is_of count handler_of_one host.tables.registry.handlers ran.tables.registry.handlers is.handlers other_handlers);
            rows = subst Q (sym ran_count)
                (are_before is_owned_by count row_of_one host.tables.protocols.rows ran.tables.protocols.rows is.rows other_rows);
          }
