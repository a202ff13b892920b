-- The laws of what runs for a group of images, from what is shown of packed domains.
use Rattle.std.proofs.Common.{ℕ, true, false, List, refl, sym, ap, ◌∙◌, subst}
use Rattle.domain_runs.proofs.RunLemmas.{run_keeps}
use Rattle.ebc_machine.proofs.KeepLemmas.{stepped_keeps}
use Rattle.ebc_machine.specs.Laws.{Keeps}
use Rattle.supervisor_calls.specs.Domains.{DomainState}
use Rattle.supervisor_calls.specs.Laws.{IsSite}
use Rattle.supervisor_calls.specs.Services.{domain_meaning}
use Rattle.supervisor_calls.specs.Tables.{Live, Site}
use Rattle.mm_base.specs.declared.handler.Handler.{Handler}
use Rattle.image_groups.specs.Erasing.{erase, erased_domain}
use Rattle.image_groups.specs.Groups.{Group}
use Rattle.image_groups.specs.Laws.{Facts}
use Rattle.image_groups.specs.RunLaws.{EachCallGoesAlong, EachCallOutsideLeavesNothing, ImagesStayAtWork, InstructionsGoAlong}
use Rattle.image_groups.specs.RunLaws.{InstructionsOutsideLeaveNothing, InvocationsGoAlong, InvocationsOutsideLeaveNothing}
use Rattle.image_groups.specs.RunLaws.{IsAtWorkIn, IsSpared, IsWhole, Works}
use Rattle.image_groups.proofs.DomainLemmas.{Work}
use Rattle.image_groups.proofs.FactLemmas.{closed_groups_have_facts}
use Rattle.image_groups.proofs.GroupRunLemmas.{Leaves, carries, left_kept, stays_whole}
use Rattle.image_groups.proofs.InvocationLemmas.{CarriesWhere, run_along_where, stepped_along_where}
use Rattle.image_groups.proofs.PackedLemmas.{IsAtWork, at_work}

-- what changes of a domain while its image is at work
work_in : DomainState → Work
work_in domain = record { live = domain.tables.live; saved = domain.saved; records = domain.records }

-- a domain with the registry, the protocols and the pages of this one, of which something holds
abbrev Packed : Site → ℕ → (Live → Type 0) → DomainState → DomainState → Type 0
Packed site image R like = IsAtWork site like.tables.registry like.tables.protocols like.tables.pages image R

-- a domain in which an image is at work is packed of its own parts
packed_here : (site : Site) (image : ℕ) (R : Live → Type 0) (domain : DomainState) → IsAtWorkIn site image domain → R domain.tables.live
    → Packed site image R domain domain
unfolding work_in
packed_here site image R domain at has = (
  work_in domain,
  (
    λ i. record {
      tables = record {
        site = at.site_is i;
        live = domain.tables.live;
        registry = domain.tables.registry;
        protocols = domain.tables.protocols;
        locked = at.locked i;
        pages = domain.tables.pages;
      };
      image = at.image_is i;
      saved = domain.saved;
      records = domain.records;
    },
    has,
  ),
)

unpacked : (site : Site) (image : ℕ) (like domain : DomainState) → Packed site image IsWhole like domain → IsAtWorkIn site image domain
unpacked site image like domain has = record {
  site_is = ap (λ (d : DomainState). d.tables.site) has.1.0;
  image_is = ap (λ (d : DomainState). d.image) has.1.0;
  locked = ap (λ (d : DomainState). d.tables.locked) has.1.0;
  whole = subst (λ (d : DomainState). IsWhole d.tables.live) (sym has.1.0) has.1.1;
}

-- the calls of such a domain keep that memory and cells are whole
keeps_whole : (site : Site) → IsSite site → (image : ℕ) (like : DomainState) → Keeps (Packed site image IsWhole like) domain_meaning
keeps_whole site placed image like = stays_whole site placed like.tables.registry like.tables.protocols like.tables.pages image

pub images_stay_at_work : ImagesStayAtWork
images_stay_at_work site image placed = record {
  fetches = λ d at n has. unpacked site image d _ ((keeps_whole site placed image d).fetches d at n (packed_here site image IsWhole d has has.whole));
  reads = λ d at n has. unpacked site image d _ ((keeps_whole site placed image d).reads d at n (packed_here site image IsWhole d has has.whole));
  writes = λ d at n value has.
      unpacked site image d _ ((keeps_whole site placed image d).writes d at n value (packed_here site image IsWhole d has has.whole));
  serves = λ d number stack has.
      unpacked site image d _ ((keeps_whole site placed image d).serves d number stack (packed_here site image IsWhole d has has.whole));
}

-- ---- inside the group

module _ (group : Group) (site : Site) (handlers : List Handler) (image : ℕ) (domain : DomainState)
    (works : Works group site handlers image true domain) where
  goes_along : CarriesWhere (Packed site image IsWhole domain) (erased_domain group) domain_meaning domain_meaning
  goes_along =
      carries group site works.placed (closed_groups_have_facts group site handlers works.placed works.closed)
      domain.tables.registry domain.tables.protocols domain.tables.pages image works.there works.is

  here : Packed site image IsWhole domain domain
  here = packed_here site image IsWhole domain works.at_work works.at_work.whole

pub each_call_goes_along : EachCallGoesAlong
each_call_goes_along group site handlers image domain works =
    let calls = goes_along group site handlers image domain works in
    let has = here group site handlers image domain works in
    record {
      fetches = λ at n. calls.fetches domain at n has;
      reads = λ at n. calls.reads domain at n has;
      writes = λ at n value. calls.writes domain at n value has;
      targets = λ at. calls.targets domain at has;
      services = λ number stack. calls.serves domain number stack has;
    }

pub instructions_go_along : InstructionsGoAlong
instructions_go_along group site handlers image domain regs works =
    stepped_along_where (Packed site image IsWhole domain) (erased_domain group) domain_meaning domain_meaning
    (keeps_whole site works.placed image domain) (goes_along group site handlers image domain works)
    regs domain (here group site handlers image domain works)

pub invocations_go_along : InvocationsGoAlong
invocations_go_along group site handlers image domain fuel stack address arguments works =
    run_along_where (Packed site image IsWhole domain) (erased_domain group) domain_meaning domain_meaning
    (keeps_whole site works.placed image domain) (goes_along group site handlers image domain works)
    fuel stack address arguments domain (here group site handlers image domain works)

-- ---- outside the group

module _ (group : Group) (site : Site) (handlers : List Handler) (image : ℕ) (domain : DomainState)
    (works : Works group site handlers image false domain) where
  facts : Facts group site
  facts = closed_groups_have_facts group site handlers works.placed works.closed

  -- memory and cells are whole, and what is granted to the group is what it was
  abbrev IsLeft : Live → Type 0
  IsLeft = Leaves group site works.placed facts domain.tables.registry domain.tables.protocols domain.tables.pages image works.there works.is
      (erase group site domain.tables.live)

  leaves : Keeps (Packed site image IsLeft domain) domain_meaning
  leaves =
      at_work site domain.tables.registry domain.tables.protocols domain.tables.pages image IsLeft
      (left_kept group site works.placed facts domain.tables.registry domain.tables.protocols domain.tables.pages image works.there works.is
      (erase group site domain.tables.live))

  begun : Packed site image IsLeft domain domain
  begun = packed_here site image IsLeft domain works.at_work (works.at_work.whole, refl)

  spared : (after : DomainState) → Packed site image IsLeft domain after → IsSpared group site domain after
  spared after has = ap (λ (d : DomainState). erase group site d.tables.live) has.1.0 ∙ has.1.1.1

pub each_call_outside_leaves_nothing : EachCallOutsideLeavesNothing
each_call_outside_leaves_nothing group site handlers image domain works =
    let keeps = leaves group site handlers image domain works in
    let has = begun group site handlers image domain works in
    record {
      fetches = λ at n. spared group site handlers image domain works _ (keeps.fetches domain at n has);
      reads = λ at n. spared group site handlers image domain works _ (keeps.reads domain at n has);
      writes = λ at n value. spared group site handlers image domain works _ (keeps.writes domain at n value has);
      services = λ number stack. spared group site handlers image domain works _ (keeps.serves domain number stack has);
    }

pub instructions_outside_leave_nothing : InstructionsOutsideLeaveNothing
instructions_outside_leave_nothing group site handlers image domain regs works =
    spared group site handlers image domain works _
    (stepped_keeps (Packed site image (IsLeft group site handlers image domain works) domain) domain_meaning
    (leaves group site handlers image domain works) regs domain (begun group site handlers image domain works))

pub invocations_outside_leave_nothing : InvocationsOutsideLeaveNothing
invocations_outside_leave_nothing group site handlers image domain fuel stack address arguments works =
    spared group site handlers image domain works _
    (run_keeps (Packed site image (IsLeft group site handlers image domain works) domain) domain_meaning
    (leaves group site handlers image domain works) fuel stack address arguments domain
    (begun group site handlers image domain works))
