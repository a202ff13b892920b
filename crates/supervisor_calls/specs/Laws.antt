-- Laws of accesses and services, which what is said of whole invocations rests on.
use Rattle.std.specs.Prelude.{◌≡◌, ◌≢◌, ◌≤◌, ℕ, Bool, true, ◌||◌, List, Some, slice_get, All}
use Rattle.image_table.specs.HomeRanges.{IsPlaced}
use Rattle.image_table.specs.declared.placed_image.PlacedImage.{PlacedImage}
use Rattle.mm_base.specs.Range.{Has, encloses}
use Rattle.mm_base.specs.Regions.{stack_of, communicate_page_of, pool_of, reserve_of}
use Rattle.mm_base.specs.declared.access.Kind.{Kind}
use Rattle.mm_base.specs.declared.access.Kind.TheVariants as kinds
use Rattle.mm_base.specs.declared.access.Right.{Right}
use Rattle.mm_base.specs.declared.access.Right.TheVariants as rights
use Rattle.mm_base.specs.declared.access.Verdict.TheVariants.{Pass}
use Rattle.mm_base.specs.declared.access.Why.TheVariants as whys
use Rattle.mm_base.specs.declared.range.Range.{Range}
use Rattle.mm_base.specs.declared.region.Region.{Region}
use Rattle.mm_base.specs.declared.service.Service.{Service}
use Rattle.mmi_registry.specs.Registry.{RegistryState}
use Rattle.pool_tree.specs.Pool.{Block}
use Rattle.protocol_db.specs.ProtocolDb.{DbState}
use Rattle.secure_policy.specs.Laws.{passes}
use Rattle.secure_policy.specs.Verdicts.{units_from}
use Rattle.supervisor_calls.specs.Accesses.{decided}
use Rattle.supervisor_calls.specs.Deeds.{number_seen, guid_seen, out_asked, number_written, bytes_cleared, pool_in, with_pool, reserve_in, with_reserve}
use Rattle.supervisor_calls.specs.Deeds.{with_handlers, with_interfaces}
use Rattle.supervisor_calls.specs.Domains.{DomainState, read_at}
use Rattle.supervisor_calls.specs.Services.{served}
use Rattle.supervisor_calls.specs.Tables.{Site}

-- A site is well formed: its images lie where they may.
abbrev pub IsSite : Site → Type 0
IsSite site = All IsPlaced site.images

-- An access that passes passes at each of its units, for the same image and right.
abbrev pub PassesAtEachUnit : Type 0
PassesAtEachUnit =
    (site : Site) (image : ℕ) (kind : Kind) (base n : ℕ) (right : Right) (trapped unit : ℕ)
    → IsSite site
    → Has (units_from base n) unit
    → passes (decided site image kind base n right trapped) ≡ true
    → passes (decided site image kind unit 1 right trapped) ≡ true

-- whether a range lies in an image's stack, its communicate page, its pool or its reserve
abbrev pub lies_in_own_pages : Region → Range → Bool
lies_in_own_pages region range =
    encloses (stack_of region) range || (encloses (communicate_page_of region) range
    || (encloses (pool_of region) range || encloses (reserve_of region) range))

-- Reads and writes of these pages of its own pass, whatever the policy says.
abbrev pub OwnPagesPass : Type 0
OwnPagesPass =
    (site : Site) (number : ℕ) (image : PlacedImage) (at n : ℕ) (right : Right) (trapped : ℕ)
    → IsSite site
    → slice_get site.images number ≡ Some image
    → 1 ≤ n
    → right ≢ rights.Execute
    → lies_in_own_pages image.region (units_from at n) ≡ true
    → decided site number kinds.Memory at n right trapped ≡ Pass whys.Home

-- ---- services

-- the same answer, with a domain changed by a map
abbrev pub along : {A : Type 0} → (DomainState → DomainState) → A × DomainState → A × DomainState
along change told = (told.0, change told.1)

-- A map of domains goes along with each thing that a service may do: it keeps the verdicts and all that is looked at,
-- and it makes no difference whether the map comes before or after.
pub record GoesAlong (change : DomainState → DomainState) : Type 0 where
  pub image : (domain : DomainState) → (change domain).image ≡ domain.image
  pub images : (domain : DomainState) → (change domain).tables.site.images ≡ domain.tables.site.images
  pub locked : (domain : DomainState) → (change domain).tables.locked ≡ domain.tables.locked
  pub argument : (at n : ℕ) (domain : DomainState) → read_at (change domain) at n ≡ along change (read_at domain at n)
  pub number : (kind : Kind) (at n : ℕ) (domain : DomainState)
      → number_seen kind at n (change domain) ≡ along change (number_seen kind at n domain)
  pub guid : (pointer : ℕ) (domain : DomainState)
      → guid_seen pointer (change domain) ≡ along change (guid_seen pointer domain)
  pub out : (pointer : ℕ) (domain : DomainState)
      → out_asked pointer (change domain) ≡ along change (out_asked pointer domain)
  pub write : (kind : Kind) (at n value : ℕ) (domain : DomainState)
      → number_written kind at n value (change domain) ≡ along change (number_written kind at n value domain)
  pub clearing : (at n : ℕ) (domain : DomainState)
      → bytes_cleared at n (change domain) ≡ along change (bytes_cleared at n domain)
  pub pool : (domain : DomainState) → pool_in (change domain) ≡ pool_in domain
  pub other_pool : (pool : List Block) (domain : DomainState)
      → with_pool pool (change domain) ≡ change (with_pool pool domain)
  pub reserve : (domain : DomainState) → reserve_in (change domain) ≡ reserve_in domain
  pub other_reserve : (reserve : List Bool) (domain : DomainState)
      → with_reserve reserve (change domain) ≡ change (with_reserve reserve domain)
  pub handlers : (domain : DomainState) → (change domain).tables.registry ≡ domain.tables.registry
  pub other_handlers : (registry : RegistryState) (domain : DomainState)
      → with_handlers registry (change domain) ≡ change (with_handlers registry domain)
  pub interfaces : (domain : DomainState) → (change domain).tables.protocols ≡ domain.tables.protocols
  pub other_interfaces : (protocols : DbState) (domain : DomainState)
      → with_interfaces protocols (change domain) ≡ change (with_interfaces protocols domain)

-- With such a map goes each whole service: from the changed domain it is answered the same, and leaves what it leaves,
-- changed.
abbrev pub ServicesGoAlong : Type 0
ServicesGoAlong =
    (change : DomainState → DomainState) (service : Service) (stack : ℕ) (domain : DomainState)
    → GoesAlong change
    → served service stack (change domain) ≡ along change (served service stack domain)

-- What one looks at of a domain is left alone by each thing that a service may do.
pub record IsLeftAlone (look : DomainState → DomainState) : Type 0 where
  pub argument : (at n : ℕ) (domain : DomainState) → look (read_at domain at n).1 ≡ look domain
  pub number : (kind : Kind) (at n : ℕ) (domain : DomainState) → look (number_seen kind at n domain).1 ≡ look domain
  pub guid : (pointer : ℕ) (domain : DomainState) → look (guid_seen pointer domain).1 ≡ look domain
  pub out : (pointer : ℕ) (domain : DomainState) → look (out_asked pointer domain).1 ≡ look domain
  pub write : (kind : Kind) (at n value : ℕ) (domain : DomainState)
      → look (number_written kind at n value domain).1 ≡ look domain
  pub clearing : (at n : ℕ) (domain : DomainState) → look (bytes_cleared at n domain).1 ≡ look domain
  pub pool : (pool : List Block) (domain : DomainState) → look (with_pool pool domain) ≡ look domain
  pub reserve : (reserve : List Bool) (domain : DomainState) → look (with_reserve reserve domain) ≡ look domain
  pub handlers : (registry : RegistryState) (domain : DomainState) → look (with_handlers registry domain) ≡ look domain
  pub interfaces : (protocols : DbState) (domain : DomainState) → look (with_interfaces protocols domain) ≡ look domain

-- Then each whole service leaves it alone.
abbrev pub ServicesLeaveAlone : Type 0
ServicesLeaveAlone =
    (look : DomainState → DomainState) (service : Service) (stack : ℕ) (domain : DomainState)
    → IsLeftAlone look
    → look (served service stack domain).1 ≡ look domain

-- After lock no service changes the handlers or the interfaces.
abbrev pub ListsStayAfterLock : Type 0
ListsStayAfterLock =
    (service : Service) (stack : ℕ) (domain : DomainState)
    → domain.tables.locked ≡ true
    → ((served service stack domain).1.tables.registry ≡ domain.tables.registry)
    × ((served service stack domain).1.tables.protocols ≡ domain.tables.protocols)
