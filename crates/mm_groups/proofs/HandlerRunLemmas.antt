-- What one handler leaves, where it is code of a closed group, and where it isn't.
use Rattle.std.proofs.Common.{◌≡◌, ℕ, ◌+◌, ◌≤◌, ◌<◌, Bool, true, false, ◌||◌, List, [], ◌∷◌, length, Option, Some, None, refl}
use Rattle.std.proofs.Common.{sym, ap, ◌∙◌, subst, arith}
use Rattle.std.specs.List.{slice_get}
use Rattle.std.proofs.lemmas.Bool.Decides.{nat_tests}
use Rattle.std.proofs.lemmas.Option.{slice_get_within}
use Rattle.domain_runs.proofs.RunLemmas.{run_keeps}
use Rattle.domain_runs.specs.Runs.{ending}
use Rattle.ebc_machine.specs.Invocation.{entered}
use Rattle.image_groups.proofs.DomainLemmas.{Work, packed}
use Rattle.image_groups.proofs.GroupRunLemmas.{run_inside, run_outside, stays_whole}
use Rattle.image_groups.proofs.PackedLemmas.{IsAtWork}
use Rattle.image_groups.specs.Erasing.{erase, erased_domain, masked, projected_registers}
use Rattle.image_groups.specs.Groups.{Group, granted, is_body_of, is_handler_of}
use Rattle.image_groups.specs.Laws.{Facts}
use Rattle.image_groups.specs.RunLaws.{IsWhole}
use Rattle.image_table.specs.HomeRanges.{IsPlaced}
use Rattle.image_table.specs.declared.placed_image.PlacedImage.{PlacedImage}
use Rattle.mm_base.specs.Platform.{mmram}
use Rattle.mm_base.specs.Range.{Has, encloses}
use Rattle.mm_base.specs.Regions.{communicate_page_of, pool_of, region_of, reserve_of, stack_of}
use Rattle.mm_base.specs.declared.access.Kind.TheVariants as kinds
use Rattle.mm_base.specs.declared.access.Right.TheVariants as rights
use Rattle.mm_base.specs.declared.cells.Saved.{Saved}
use Rattle.mm_base.specs.declared.guid.Guid.{Guid}
use Rattle.mm_base.specs.declared.handler.Handler.{Handler}
use Rattle.mm_base.specs.declared.handler.HandlerBody.{HandlerBody}
use Rattle.mm_base.specs.declared.handler.HandlerBody.TheVariants.{Version, Stub, Code}
use Rattle.mm_base.specs.declared.invocation.Ended.{Ended}
use Rattle.mm_base.specs.declared.region.Region.{Region}
use Rattle.mm_core.specs.CodeRun.{addresses, code_run, handed_back, left_by, page_place, with_message}
use Rattle.mm_core.specs.CoreState.{Site}
use Rattle.mm_core.specs.Invoked.{by_body, code_invoked, invoked}
use Rattle.mm_core.specs.Message.{Message}
use Rattle.mmi_registry.specs.Registry.{RegistryState}
use Rattle.secure_policy.specs.Laws.{passes}
use Rattle.secure_policy.specs.Verdicts.{units_from}
use Rattle.supervisor_calls.proofs.WhereLemmas.{of_image}
use Rattle.supervisor_calls.specs.Accesses.{decided}
use Rattle.supervisor_calls.specs.Domains.{DomainState}
use Rattle.supervisor_calls.specs.Laws.{IsSite}
use Rattle.supervisor_calls.specs.Services.{domain_meaning}
use Rattle.supervisor_calls.specs.Tables.{Live, Site as Supervised}
use Rattle.mm_groups.specs.ChainLaws.{erased_run}
use Rattle.mm_groups.proofs.MessageLemmas.{masked-with_message, message_in-masked, with_message-long, with_message-masked}

module _ (group : Group) (site : Site) (placed : IsSite site.supervised) (facts : Facts group site.supervised) where
  -- memory and cells are whole where there is an image
  abbrev pub IsReady : Live → Type 0
  IsReady live = (number : ℕ) (image : PlacedImage) → slice_get site.supervised.images number ≡ Some image → IsWhole live

  abbrev pub erased : Live → Live
  erased = erase group site.supervised

  -- the handlers after lock
  abbrev registry : RegistryState
  registry = record { handlers = site.handlers; next = site.next_number; frozen = true }

  -- ---- the communicate page of an image

  module _ (number : ℕ) (image : PlacedImage) (is : slice_get site.supervised.images number ≡ Some image) where
    there : number < length site.supervised.images
    there = slice_get_within site.supervised.images number image is

    abbrev base : ℕ
    base = (communicate_page_of image.region).base

    page_passes : passes (decided site.supervised number kinds.Memory base 4096 rights.Write 0) ≡ true
    page_passes = ap passes (facts.own_pages number image base 4096 rights.Write 0 is (omega arith) (λ e. cc) own)
      where
        own : (encloses (stack_of image.region) (units_from base 4096) || (encloses (communicate_page_of image.region) (units_from base 4096)
            || (encloses (pool_of image.region) (units_from base 4096) || encloses (reserve_of image.region) (units_from base 4096)))) ≡ true
        own = grind (arith, nat_tests)

    inside : encloses mmram (region_of image.region) ≡ true
    inside = (of_image IsPlaced site.supervised.images placed number image is).within

    low : 0x80000000 ≤ base
    low = let e = inside in grind (arith, nat_tests, e)

    pub high : base + 4096 ≤ 0x82000000
    high = let e = inside in grind (arith, nat_tests, e)

    pub page_within : (live : Live) → IsWhole live → page_place image.region + 4096 ≤ length live.memory
    page_within live whole = let from = low in let to = high in let long = whole.memory in omega (arith, from, to, long)

    by_place : (value : Bool) → ((unit : ℕ) → Has (units_from base 4096) unit → granted group site.supervised kinds.Memory unit ≡ value)
        → (k : ℕ) → page_place image.region ≤ k → k < page_place image.region + 4096
        → granted group site.supervised kinds.Memory (0x80000000 + k) ≡ value
    by_place value each k from to =
        let begins = low in
        each (0x80000000 + k) (record { from = omega (arith, begins, from); to = omega (arith, begins, to) })

    pub page_granted : group number ≡ true → (k : ℕ) → page_place image.region ≤ k → k < page_place image.region + 4096
        → granted group site.supervised kinds.Memory (0x80000000 + k) ≡ true
    page_granted mine =
        by_place true (λ unit has. facts.within number kinds.Memory base 4096 rights.Write 0 unit there mine (λ e. cc) page_passes has)

    pub page_spared : group number ≡ false → (k : ℕ) → page_place image.region ≤ k → k < page_place image.region + 4096
        → granted group site.supervised kinds.Memory (0x80000000 + k) ≡ false
    page_spared other =
        by_place false (λ unit has. facts.apart number kinds.Memory base 4096 0 unit there other (λ e. cc) page_passes has)

  -- ---- code

  -- the work that an invocation begins with
  abbrev opening : Saved → Region → Message → Live → Work
  opening saved region message live = record {
    live = record live { memory = with_message region message live.memory };
    saved = saved;
    records = record { denials = []; writes = [] };
  }

  abbrev domain : ℕ → Work → DomainState
  domain number = packed site.supervised registry site.interfaces site.pages number

  -- a domain with what isn't granted to the group erased, by this site
  abbrev erased_at : Supervised → DomainState → DomainState
  erased_at from domain = record domain {
    tables = record domain.tables { live = erase group from domain.tables.live };
    saved = projected_registers group from domain.saved;
  }

  module _ (saved : Saved) (handler : Handler) (number address : ℕ) (image : PlacedImage) (is : slice_get site.supervised.images number ≡ Some image)
      (message : Message) (live : Live) (whole : IsWhole live) where
    abbrev ran : Saved → Live → Ended × DomainState
    ran saved live = code_run site saved handler number address image.region message live

    abbrev all : ℕ → Bool
    all k = granted group site.supervised kinds.Memory (0x80000000 + k)

    filled_whole : IsWhole (opening saved image.region message live).live
    filled_whole = record {
      memory = with_message-long (λ k. false) image.region live.memory (page_within number image is live whole) message ∙ whole.memory;
      cells = whole.cells;
    }

    -- what is at work after the run
    after_run : IsAtWork site.supervised registry site.interfaces site.pages number IsWhole (ran saved live).1
    unfolding code_run
    after_run =
        run_keeps (IsAtWork site.supervised registry site.interfaces site.pages number IsWhole)
        domain_meaning (stays_whole site.supervised placed registry site.interfaces site.pages number)
        site.supervised.policy.fuel ((stack_of image.region).base + (stack_of image.region).length) address
        ((handler.number + 1) ∷ 0 ∷ addresses handler.guid image.region) (domain number (opening saved image.region message live))
        (opening saved image.region message live, (refl, filled_whole))

    pub code_whole : IsWhole (left_by handler image.region message (ran saved live)).live
    code_whole = subst (λ (d : DomainState). IsWhole d.tables.live) (sym after_run.1.0) after_run.1.1

    -- inside the group
    run_same : group number ≡ true
        → ran (projected_registers group site.supervised saved) (erased live) ≡ ((ran saved live).0, erased_domain group (ran saved live).1)
    unfolding code_run
    run_same mine =
        let mask : with_message image.region message (masked 0 all live.memory) ≡ masked 0 all (with_message image.region message live.memory) =
        with_message-masked all image.region live.memory (page_within number image is live whole) (page_granted number image is mine) message in
        ap (λ (memory : List ℕ). ending domain_meaning site.supervised.policy.fuel
        (entered domain_meaning ((stack_of image.region).base + (stack_of image.region).length) address
        ((handler.number + 1) ∷ 0 ∷ addresses handler.guid image.region)
        (domain number (record {
          live = record (erased live) { memory = memory };
          saved = projected_registers group site.supervised saved;
          records = record { denials = []; writes = [] };
        })))) mask
        ∙ run_inside group site.supervised placed facts registry site.interfaces site.pages number (there number image is) mine
        site.supervised.policy.fuel ((stack_of image.region).base + (stack_of image.region).length) address
        ((handler.number + 1) ∷ 0 ∷ addresses handler.guid image.region) (opening saved image.region message live) filled_whole

    handed_same : (mine : group number ≡ true) (guid : Option Guid)
        → handed_back guid image.region message (masked 0 all (ran saved live).1.tables.live.memory)
        ≡ handed_back guid image.region message (ran saved live).1.tables.live.memory
    handed_same mine None = refl
    handed_same mine (Some guid) =
        message_in-masked all image.region (ran saved live).1.tables.live.memory
        (page_within number image is (ran saved live).1.tables.live code_whole) (page_granted number image is mine) message

    -- the site of the run's tables is the core's
    site_stays : (ran saved live).1.tables.site ≡ site.supervised
    site_stays = ap (λ (d : DomainState). d.tables.site) after_run.1.0

    pub code_same : group number ≡ true
        → left_by handler image.region message (ran (projected_registers group site.supervised saved) (erased live))
        ≡ erased_run group site (left_by handler image.region message (ran saved live))
    code_same mine =
        ap (left_by handler image.region message)
        (run_same mine
        ∙ ap (λ (s : Supervised). ((ran saved live).0, erased_at s (ran saved live).1)) site_stays)
        ∙ ap (λ (m : Message). record (erased_run group site (left_by handler image.region message (ran saved live))) { message = m })
        (handed_same mine handler.guid)

    -- outside the group
    pub code_left : group number ≡ false → erased (left_by handler image.region message (ran saved live)).live ≡ erased live
    unfolding code_run
    code_left other =
        let p = run_outside group site.supervised placed facts registry site.interfaces site.pages number (there number image is) other
        site.supervised.policy.fuel ((stack_of image.region).base + (stack_of image.region).length) address
        ((handler.number + 1) ∷ 0 ∷ addresses handler.guid image.region) (opening saved image.region message live) filled_whole in
        ap (λ (d : DomainState). erased d.tables.live) p.1.0
        ∙ p.1.1.1
        ∙ ap (λ (memory : List ℕ). record (erased live) { memory = memory })
        (masked-with_message all image.region live.memory (page_within number image is live whole) (page_spared number image is other) message)

  -- ---- a handler

  abbrev whole_from : (live : Live) → IsReady live → (number : ℕ) (image : PlacedImage) → slice_get site.supervised.images number ≡ Some image
      → IsWhole live
  whole_from live ready number image is = ready number image is

  module _ (saved : Saved) (handler : Handler) (message : Message) (live : Live) (ready : IsReady live) where
    pub handler_same : is_handler_of group handler ≡ true
        → invoked site (projected_registers group site.supervised saved) handler message (erased live)
        ≡ erased_run group site (invoked site saved handler message live)
    unfolding invoked
    handler_same mine = of_body handler.body mine
      where
        of_image_at : (number address : ℕ) (found : Option PlacedImage) → slice_get site.supervised.images number ≡ found → group number ≡ true
            → code_invoked site (projected_registers group site.supervised saved) handler number address found message (erased live)
            ≡ erased_run group site (code_invoked site saved handler number address found message live)
        of_image_at number address None is mine = refl
        of_image_at number address (Some image) is mine = code_same saved handler number address image is message live (ready number image is) mine

        of_body : (body : HandlerBody) → is_body_of group body ≡ true
            → by_body site (projected_registers group site.supervised saved) handler body message (erased live)
            ≡ erased_run group site (by_body site saved handler body message live)
        of_body Version mine = absurd cc
        of_body (Stub status) mine = absurd cc
        of_body (Code number address) mine = of_image_at number address (slice_get site.supervised.images number) refl mine

    pub handler_left : is_handler_of group handler ≡ false → erased (invoked site saved handler message live).live ≡ erased live
    unfolding invoked
    handler_left other = of_body handler.body other
      where
        of_image_at : (number address : ℕ) (found : Option PlacedImage) → slice_get site.supervised.images number ≡ found → group number ≡ false
            → erased (code_invoked site saved handler number address found message live).live ≡ erased live
        of_image_at number address None is other = refl
        of_image_at number address (Some image) is other = code_left saved handler number address image is message live (ready number image is) other

        of_body : (body : HandlerBody) → is_body_of group body ≡ false → erased (by_body site saved handler body message live).live ≡ erased live
        of_body Version other = refl
        of_body (Stub status) other = refl
        of_body (Code number address) other = of_image_at number address (slice_get site.supervised.images number) refl other

    pub handler_ready : IsReady (invoked site saved handler message live).live
    unfolding invoked
    handler_ready = of_body handler.body
      where
        of_image_at : (number address : ℕ) (found : Option PlacedImage) → slice_get site.supervised.images number ≡ found
            → IsReady (code_invoked site saved handler number address found message live).live
        of_image_at number address None is = ready
        of_image_at number address (Some image) is =
            λ other there at. code_whole saved handler number address image is message live (ready number image is)

        of_body : (body : HandlerBody) → IsReady (by_body site saved handler body message live).live
        of_body Version = ready
        of_body (Stub status) = ready
        of_body (Code number address) = of_image_at number address (slice_get site.supervised.images number) refl

    pub handler_named : (invoked site saved handler message live).invocation.handler ≡ handler.number
    unfolding invoked
    handler_named = of_body handler.body
      where
        of_image_at : (number address : ℕ) (found : Option PlacedImage)
            → (code_invoked site saved handler number address found message live).invocation.handler ≡ handler.number
        of_image_at number address None = refl
        of_image_at number address (Some image) = refl

        of_body : (body : HandlerBody) → (by_body site saved handler body message live).invocation.handler ≡ handler.number
        of_body Version = refl
        of_body (Stub status) = refl
        of_body (Code number address) = of_image_at number address (slice_get site.supervised.images number)
