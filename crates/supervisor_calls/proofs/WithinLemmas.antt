-- Each thing that a service may do stays within what is the image's own.
use Rattle.std.proofs.Common.{◌≡◌, ℕ, ◌-◌, ◌≤◌, Bool, true, false, if◌then◌else◌, nat_lt, List, [], ◌∷◌, ◌++◌, length, set, Option, refl, ap, ◌∙◌, subst, arith}
use Rattle.std.specs.List.{slice_get}
use Rattle.std.specs.Option.{option_map_or}
use Rattle.std.proofs.lemmas.List.{length-set, length-take, set-set}
use Rattle.image_table.specs.declared.placed_image.PlacedImage.{PlacedImage}
use Rattle.mm_base.specs.Cells.{is_device_byte}
use Rattle.mm_base.specs.Frames.{zeros}
use Rattle.mm_base.specs.Numbers.{bytes_of_word, low_bytes, overwritten}
use Rattle.mm_base.specs.Records.{RecordsState}
use Rattle.mm_base.specs.declared.access.Denial.{Denial}
use Rattle.mm_base.specs.declared.access.Kind.{Kind}
use Rattle.mm_base.specs.declared.access.Kind.TheVariants as kinds
use Rattle.mm_base.specs.declared.access.Right.TheVariants.{Execute, Read, Write}
use Rattle.mm_base.specs.declared.access.Verdict.{Verdict}
use Rattle.mm_base.specs.declared.access.Verdict.TheVariants.{Pass, Deny}
use Rattle.mm_base.specs.declared.access.Why.{Why}
use Rattle.mm_base.specs.declared.guid.Guid.{Guid}
use Rattle.mm_base.specs.declared.region.Region.{Region}
use Rattle.mm_memory.proofs.PageLemmas.{length-zeros}
use Rattle.mmi_registry.specs.Registry.{RegistryState}
use Rattle.platform_model.specs.Cells.{PlatformState}
use Rattle.pool_tree.specs.Pool.{Block}
use Rattle.protocol_db.specs.ProtocolDb.{DbState}
use Rattle.secure_policy.specs.Laws.{passes}
use Rattle.supervisor_calls.specs.Accesses.{Acting, answered, changed, denial_of, with_quota}
use Rattle.supervisor_calls.specs.Accesses.{bytes_at, number_at, with_bytes, with_cell_write, with_number}
use Rattle.supervisor_calls.specs.Deeds.{bytes_cleared, guid_seen, number_seen, number_written, out_asked}
use Rattle.supervisor_calls.specs.Deeds.{after_clearing, after_write, let_through}
use Rattle.supervisor_calls.specs.Deeds.{with_denied, with_handlers, with_interfaces, with_pool, with_reserve}
use Rattle.supervisor_calls.specs.Domains.{DomainState, acted, acting_of, fetched, read_at, with_acting, written_at}
use Rattle.supervisor_calls.specs.Domains.{seen_registers, trapped_of, verdict_in, write_verdict}
use Rattle.supervisor_calls.specs.Services.{region_in}
use Rattle.supervisor_calls.specs.Tables.{Live, Site}
use Rattle.supervisor_calls.specs.Within.{IsOrderly, StaysWithin, outside}
use Rattle.supervisor_calls.proofs.OutsideLemmas.{SameOutside, passed_lies, written_outside}
use Rattle.supervisor_calls.proofs.OwnLemmas.{SameHandlers, SameInterfaces}

pub begins_within : (before : DomainState) → IsOrderly before.tables → StaysWithin before before
begins_within before orderly = record {
  image = refl;
  saved = refl;
  site = refl;
  locked = refl;
  pages = refl;
  memory = refl;
  pools = refl;
  reserves = refl;
  handlers = record { others = refl; next = omega arith; frozen = refl };
  interfaces = record { others = refl; next = omega arith; frozen = refl };
  orderly = orderly;
}

-- what a step changes lies in a region of memory, and in the pool and the reserve of an image
pub record SameLive (image : ℕ) (region : Region) (old new : Live) : Type 0 where
  pub memory : SameOutside region old.memory new.memory
  pub pools : set new.pools image [] ≡ set old.pools image []
  pub pool_count : length new.pools ≡ length old.pools
  pub reserves : set new.reserves image [] ≡ set old.reserves image []
  pub reserve_count : length new.reserves ≡ length old.reserves

same_memory : (region : Region) (memory : List ℕ) → SameOutside region memory memory
same_memory region memory = record { bytes = refl; size = refl }

-- other cells, and other memory in the region
put_live : (image : ℕ) (region : Region) (live : Live) (platform : PlatformState) (memory : List ℕ) → SameOutside region live.memory memory
    → SameLive image region live (record live { memory = memory; platform = platform })
put_live image region live platform memory same =
    record { memory = same; pools = refl; pool_count = refl; reserves = refl; reserve_count = refl }

-- a write that has its quota passes
quota_passes : (kind : Kind) (at : ℕ) (records : RecordsState) (verdict : Verdict)
    → passes (with_quota kind at records verdict) ≡ true → passes verdict ≡ true
quota_passes kind at records (Pass why) pass = refl
quota_passes kind at records (Deny why) pass = pass

module _ (before after : DomainState) (within : StaysWithin before after) where
  abbrev pub Stays : DomainState → Type 0
  Stays = StaysWithin before

  region_is : region_in after ≡ region_in before
  region_is =
      ap (λ (site : Site). found (slice_get site.images after.image)) within.site
      ∙ ap (λ (image : ℕ). found (slice_get before.tables.site.images image)) within.image
    where
      found : Option PlacedImage → Region
      found image = option_map_or (λ placed. placed.region) image (record { base = 0; pages = 0 })

  -- ---- what may change

  pub live_within : (live : Live) (records : RecordsState) → SameLive after.image (region_in after) after.tables.live live
      → Stays (acted after (record { live = live; records = records }))
  live_within live records same =
      let orderly = within.orderly in
      let Memory : Region → Type 0 = λ region. outside region live.memory ≡ outside region after.tables.live.memory in
      let Pools : ℕ → Type 0 = λ image. set live.pools image [] ≡ set after.tables.live.pools image [] in
      let Reserves : ℕ → Type 0 = λ image. set live.reserves image [] ≡ set after.tables.live.reserves image [] in
      record {
        image = within.image;
        saved = within.saved;
        site = within.site;
        locked = within.locked;
        pages = within.pages;
        memory = subst Memory region_is same.memory.bytes ∙ within.memory;
        pools = subst Pools within.image same.pools ∙ within.pools;
        reserves = subst Reserves within.image same.reserves ∙ within.reserves;
        handlers = within.handlers;
        interfaces = within.interfaces;
        orderly = record {
          placed = orderly.placed;
          memory = same.memory.size ∙ orderly.memory;
          pools = same.pool_count ∙ orderly.pools;
          reserves = same.reserve_count ∙ orderly.reserves;
          numbered = orderly.numbered;
          installed = orderly.installed;
        };
      }

  cells_put : (platform : PlatformState)
      → SameLive after.image (region_in after) after.tables.live (record after.tables.live { platform = platform })
  cells_put platform =
      let live : Live = after.tables.live in
      put_live after.image (region_in after) live platform live.memory (same_memory (region_in after) live.memory)

  pub records_within : (records : RecordsState) → Stays (acted after (record { live = after.tables.live; records = records }))
  records_within records = live_within after.tables.live records (cells_put after.tables.live.platform)

  pub pool_within : (pool : List Block) → Stays (with_pool pool after)
  pool_within pool =
      let live : Live = after.tables.live in
      live_within (record live { pools = set live.pools after.image pool }) after.records
      (record {
        memory = same_memory (region_in after) live.memory;
        pools = set-set live.pools after.image pool [];
        pool_count = length-set live.pools after.image pool;
        reserves = refl;
        reserve_count = refl;
      })

  pub reserve_within : (reserve : List Bool) → Stays (with_reserve reserve after)
  reserve_within reserve =
      let live : Live = after.tables.live in
      live_within (record live { reserves = set live.reserves after.image reserve }) after.records
      (record {
        memory = same_memory (region_in after) live.memory;
        pools = refl;
        pool_count = refl;
        reserves = set-set live.reserves after.image reserve [];
        reserve_count = length-set live.reserves after.image reserve;
      })

  module _ (registry : RegistryState) (same : SameHandlers before.image after.tables.registry registry) where
    abbrev registry_put : DomainState
    registry_put = record after { tables = record after.tables { registry = registry } }

    registry_within : Stays registry_put
    registry_within =
        let orderly = within.orderly in
        record {
          image = within.image;
          saved = within.saved;
          site = within.site;
          locked = within.locked;
          pages = within.pages;
          memory = within.memory;
          pools = within.pools;
          reserves = within.reserves;
          handlers = record {
            others = same.stays.others ∙ within.handlers.others;
            next = omega (arith, within.handlers.next, same.stays.next);
            frozen = same.stays.frozen ∙ within.handlers.frozen;
          };
          interfaces = within.interfaces;
          orderly = record {
            placed = orderly.placed;
            memory = orderly.memory;
            pools = orderly.pools;
            reserves = orderly.reserves;
            numbered = same.numbered;
            installed = orderly.installed;
          };
        }

    pub handlers_within : Stays (with_handlers registry after)
    handlers_within =
        elim after.tables.locked as (λ b. Stays (if b then after else registry_put)) [
          | true ↦ within
          | false ↦ registry_within
        ]

  module _ (protocols : DbState) (same : SameInterfaces before.image after.tables.protocols protocols) where
    abbrev protocols_put : DomainState
    protocols_put = record after { tables = record after.tables { protocols = protocols } }

    protocols_within : Stays protocols_put
    protocols_within =
        let orderly = within.orderly in
        record {
          image = within.image;
          saved = within.saved;
          site = within.site;
          locked = within.locked;
          pages = within.pages;
          memory = within.memory;
          pools = within.pools;
          reserves = within.reserves;
          handlers = within.handlers;
          interfaces = record {
            others = same.stays.others ∙ within.interfaces.others;
            next = omega (arith, within.interfaces.next, same.stays.next);
            frozen = same.stays.frozen ∙ within.interfaces.frozen;
          };
          orderly = record {
            placed = orderly.placed;
            memory = orderly.memory;
            pools = orderly.pools;
            reserves = orderly.reserves;
            numbered = orderly.numbered;
            installed = same.installed;
          };
        }

    pub interfaces_within : Stays (with_interfaces protocols after)
    interfaces_within =
        elim after.tables.locked as (λ b. Stays (if b then after else protocols_put)) [
          | true ↦ within
          | false ↦ protocols_within
        ]

  -- ---- denials

  pub denied_within : (denial : Denial) → Stays (with_denied denial after)
  denied_within denial =
      elim (nat_lt (length after.records.denials) 8) as (λ b. Stays (acted after (noted b))) [
        | true ↦ records_within (noted true).records
        | false ↦ within
      ]
    where
      noted : Bool → Acting
      noted room =
          if room
          then record (acting_of after) { records = record after.records { denials = after.records.denials ++ denial ∷ [] } }
          else acting_of after

  pub let_through_within : {A : Type 0} (verdict : Verdict) (denial : Why → Denial) (value : A) (other : DomainState)
      → (passes verdict ≡ true → Stays other) → Stays (let_through verdict denial value other after).1
  let_through_within (Pass why) denial value other passed = passed refl
  let_through_within (Deny why) denial value other passed = denied_within (denial why)

  -- ---- writes

  piece_within : (at n : ℕ) (piece : List ℕ) → length piece ≤ n → passes (verdict_in after kinds.Memory at n Write) ≡ true
      → SameLive after.image (region_in after) after.tables.live (with_bytes at piece after.tables.live)
  piece_within at n piece few pass = by_side (is_device_byte at) refl
    where
      live : Live
      live = after.tables.live

      by_side : (device : Bool) → is_device_byte at ≡ device
          → SameLive after.image (region_in after) live
          (if device
          then record live { platform = record live.platform { device = overwritten live.platform.device (at - 0xfe000000) piece } }
          else record live { memory = overwritten live.memory (at - 0x80000000) piece })
      by_side true is = cells_put (record live.platform { device = overwritten live.platform.device (at - 0xfe000000) piece })
      by_side false is =
          put_live after.image (region_in after) live live.platform (overwritten live.memory (at - 0x80000000) piece)
          (written_outside (region_in after) live.memory piece at n within.orderly.memory few is
          (passed_lies after within.orderly.placed at n (trapped_of after) Write pass))

  number_within : (kind : Kind) (at n value : ℕ) → passes (verdict_in after kind at n Write) ≡ true
      → SameLive after.image (region_in after) after.tables.live (with_number kind at n value after.tables.live)
  number_within kinds.Memory at n value pass =
      piece_within at n (low_bytes n value) (omega (arith, length-take n (bytes_of_word value))) pass
  number_within kinds.Io at n value pass = cells_put (with_number kinds.Io at n value after.tables.live).platform
  number_within kinds.Msr at n value pass = cells_put (with_number kinds.Msr at n value after.tables.live).platform
  number_within kinds.Saved at n value pass = cells_put after.tables.live.platform

  write_within : (kind : Kind) (at n value : ℕ) → passes (write_verdict after kind at n) ≡ true
      → Stays (after_write kind at n value after)
  write_within kind at n value pass =
      live_within (with_number kind at n value after.tables.live) (with_cell_write kind at n value after.records)
      (number_within kind at n value (quota_passes kind at after.records (verdict_in after kind at n Write) pass))

  clearing_within : (at n : ℕ) → passes (write_verdict after kinds.Memory at n) ≡ true → Stays (after_clearing at n after)
  clearing_within at n pass =
      live_within (with_bytes at (zeros n) after.tables.live) after.records
      (piece_within at n (zeros n) (omega (arith, length-zeros n))
      (quota_passes kinds.Memory at after.records (verdict_in after kinds.Memory at n Write) pass))

  -- ---- each part of a service

  pub number_seen_within : (kind : Kind) (at n : ℕ) → Stays (number_seen kind at n after).1
  number_seen_within kind at n =
      let_through_within (verdict_in after kind at n Read) (denial_of kind Read at n)
      (number_at after.tables.live (seen_registers after) kind at n) after (λ _. within)

  pub guid_seen_within : (pointer : ℕ) → Stays (guid_seen pointer after).1
  guid_seen_within pointer =
      let_through_within {A = Guid} (verdict_in after kinds.Memory pointer 16 Read) (denial_of kinds.Memory Read pointer 16)
      (record { 0 = bytes_at after.tables.live pointer 16 }) after (λ _. within)

  pub out_asked_within : (pointer : ℕ) → Stays (out_asked pointer after).1
  out_asked_within pointer =
      let_through_within {A = Unit {0}} (write_verdict after kinds.Memory pointer 8) (denial_of kinds.Memory Write pointer 8) tt
      after (λ _. within)

  pub number_written_within : (kind : Kind) (at n value : ℕ) → Stays (number_written kind at n value after).1
  number_written_within kind at n value =
      let_through_within {A = Unit {0}} (write_verdict after kind at n) (denial_of kind Write at n) tt (after_write kind at n value after)
      (write_within kind at n value)

  pub bytes_cleared_within : (at n : ℕ) → Stays (bytes_cleared at n after).1
  bytes_cleared_within at n =
      let_through_within {A = Unit {0}} (write_verdict after kinds.Memory at n) (denial_of kinds.Memory Write at n) tt
      (after_clearing at n after) (clearing_within at n)

  -- ---- the accesses of a bus

  answered_within : {A : Type 0} (verdict : Verdict) (denial : Why → Denial) (value : A)
      → Stays (with_acting after (answered verdict denial value (acting_of after))).1
  answered_within (Pass why) denial value = within
  answered_within (Deny why) denial value = denied_within (denial why)

  pub fetched_within : (at n : ℕ) → Stays (fetched after at n).1
  fetched_within at n =
      answered_within (verdict_in after kinds.Memory at n Execute) (denial_of kinds.Memory Execute at n) _

  pub read_within : (at n : ℕ) → Stays (read_at after at n).1
  read_within at n = answered_within (verdict_in after kinds.Memory at n Read) (denial_of kinds.Memory Read at n) _

  changed_within : (verdict : Verdict) (at n value : ℕ)
      → (passes verdict ≡ true → Stays (after_write kinds.Memory at n value after))
      → Stays (with_acting after (changed verdict kinds.Memory at n value (acting_of after))).1
  changed_within (Pass why) at n value passed = passed refl
  changed_within (Deny why) at n value passed = denied_within (denial_of kinds.Memory Write at n why)

  pub written_within : (at n value : ℕ) → Stays (written_at after at n value).1
  written_within at n value = changed_within (write_verdict after kinds.Memory at n) at n value (write_within kinds.Memory at n value)
