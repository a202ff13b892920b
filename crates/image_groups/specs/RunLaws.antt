-- Laws of what runs for a group of images: a call of a domain, an instruction, an invocation. Images of a closed group go along with erasing:
-- what they do, and how it ends, depends on nothing that isn't granted to the group. Images outside leave nothing in what is.
use Rattle.std.specs.Prelude.{◌≡◌, ◌<◌, ℕ, Bool, true, false, List, length}
use Rattle.domain_runs.specs.Runs.{ending}
use Rattle.ebc_machine.specs.Invocation.{entered}
use Rattle.ebc_machine.specs.Laws.{Keeps}
use Rattle.ebc_machine.specs.Stepping.{stepped}
use Rattle.ebc_machine.specs.declared.regs.Regs.{Regs}
use Rattle.mm_base.specs.declared.handler.Handler.{Handler}
use Rattle.platform_model.specs.Cells.{IsPlatform}
use Rattle.supervisor_calls.specs.Domains.{DomainState, fetched, read_at, target_at, written_at}
use Rattle.supervisor_calls.specs.Laws.{IsSite, along}
use Rattle.supervisor_calls.specs.Services.{domain_meaning, served_by_number}
use Rattle.supervisor_calls.specs.Tables.{Live, Site}
use Rattle.image_groups.specs.Erasing.{erase, erased_domain}
use Rattle.image_groups.specs.Groups.{Group, IsClosed}

-- All of memory is there, and all cells are.
pub record IsWhole (live : Live) : Type 0 where
  pub memory : length live.memory ≡ 33554432
  pub cells : IsPlatform live.platform

-- An image is at work in a domain: the domain is this image's, of tables of this site that are locked, and memory and cells are whole.
pub record IsAtWorkIn (site : Site) (image : ℕ) (domain : DomainState) : Type 0 where
  pub site_is : domain.tables.site ≡ site
  pub image_is : domain.image ≡ image
  pub locked : domain.tables.locked ≡ true
  pub whole : IsWhole domain.tables.live

-- It stays so: no call of the domain changes whose domain it is, of which site, that it is locked, or that memory and cells are whole.
abbrev pub ImagesStayAtWork : Type 0
ImagesStayAtWork = (site : Site) (image : ℕ) → IsSite site → Keeps (IsAtWorkIn site image) domain_meaning

-- An image that is there and belongs to a closed group, or that doesn't (false), is at work in a domain.
pub record Works (group : Group) (site : Site) (handlers : List Handler) (image : ℕ) (belongs : Bool) (domain : DomainState) : Type 0 where
  pub placed : IsSite site
  pub closed : IsClosed group site handlers
  pub there : image < length site.images
  pub is : group image ≡ belongs
  pub at_work : IsAtWorkIn site image domain

-- ---- inside the group

-- From a domain with all erased that isn't granted to the group each call is answered the same, and leaves what it leaves, erased: a fetch,
-- a read and a write of n bytes, the question what a call would reach, and each service.
pub record CallsGoAlong (group : Group) (domain : DomainState) : Type 0 where
  pub fetches : (at n : ℕ) → fetched (erased_domain group domain) at n ≡ along (erased_domain group) (fetched domain at n)
  pub reads : (at n : ℕ) → read_at (erased_domain group domain) at n ≡ along (erased_domain group) (read_at domain at n)
  pub writes : (at n value : ℕ) → written_at (erased_domain group domain) at n value ≡ along (erased_domain group) (written_at domain at n value)
  pub targets : (at : ℕ) → target_at (erased_domain group domain) at ≡ target_at domain at
  pub services : (number stack : ℕ)
      → served_by_number number stack (erased_domain group domain) ≡ along (erased_domain group) (served_by_number number stack domain)

abbrev pub EachCallGoesAlong : Type 0
EachCallGoesAlong =
    (group : Group) (site : Site) (handlers : List Handler) (image : ℕ) (domain : DomainState)
    → Works group site handlers image true domain
    → CallsGoAlong group domain

-- So does each instruction: from the erased domain it comes to the same, registers and all, and leaves what it leaves, erased.
abbrev pub InstructionsGoAlong : Type 0
InstructionsGoAlong =
    (group : Group) (site : Site) (handlers : List Handler) (image : ℕ) (domain : DomainState) (regs : Regs)
    → Works group site handlers image true domain
    → stepped domain_meaning regs (erased_domain group domain) ≡ along (erased_domain group) (stepped domain_meaning regs domain)

-- And so does each invocation, its frame included, with however much fuel: it ends the same, and leaves what it leaves, erased. Its records
-- of denials and of writes to cells are part of the domain, and are the same.
abbrev pub InvocationsGoAlong : Type 0
InvocationsGoAlong =
    (group : Group) (site : Site) (handlers : List Handler) (image : ℕ) (domain : DomainState) (fuel stack address : ℕ) (arguments : List ℕ)
    → Works group site handlers image true domain
    → ending domain_meaning fuel (entered domain_meaning stack address arguments (erased_domain group domain))
    ≡ along (erased_domain group) (ending domain_meaning fuel (entered domain_meaning stack address arguments domain))

-- ---- outside the group

-- after something was done in a domain, what is granted to a group is what it was before
abbrev pub IsSpared : Group → Site → DomainState → DomainState → Type 0
IsSpared group site before after = erase group site after.tables.live ≡ erase group site before.tables.live

-- No call of a domain changes anything that is granted to the group.
pub record CallsLeaveNothing (group : Group) (site : Site) (domain : DomainState) : Type 0 where
  pub fetches : (at n : ℕ) → IsSpared group site domain (fetched domain at n).1
  pub reads : (at n : ℕ) → IsSpared group site domain (read_at domain at n).1
  pub writes : (at n value : ℕ) → IsSpared group site domain (written_at domain at n value).1
  pub services : (number stack : ℕ) → IsSpared group site domain (served_by_number number stack domain).1

-- That is so for each image outside a closed group.
abbrev pub EachCallOutsideLeavesNothing : Type 0
EachCallOutsideLeavesNothing =
    (group : Group) (site : Site) (handlers : List Handler) (image : ℕ) (domain : DomainState)
    → Works group site handlers image false domain
    → CallsLeaveNothing group site domain

-- Nor does an instruction of it,
abbrev pub InstructionsOutsideLeaveNothing : Type 0
InstructionsOutsideLeaveNothing =
    (group : Group) (site : Site) (handlers : List Handler) (image : ℕ) (domain : DomainState) (regs : Regs)
    → Works group site handlers image false domain
    → IsSpared group site domain (stepped domain_meaning regs domain).1

-- nor a whole invocation, its frame included.
abbrev pub InvocationsOutsideLeaveNothing : Type 0
InvocationsOutsideLeaveNothing =
    (group : Group) (site : Site) (handlers : List Handler) (image : ℕ) (domain : DomainState) (fuel stack address : ℕ) (arguments : List ℕ)
    → Works group site handlers image false domain
    → IsSpared group site domain (ending domain_meaning fuel (entered domain_meaning stack address arguments domain)).1
