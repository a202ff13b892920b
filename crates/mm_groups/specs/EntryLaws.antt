-- Laws of entries for a closed group, of one and of lists.
use Rattle.std.specs.Prelude.{◌≡◌, ℕ, List, map, Some, slice_get}
use Rattle.image_groups.specs.Groups.{Group}
use Rattle.image_groups.specs.RunLaws.{IsWhole}
use Rattle.image_table.specs.declared.placed_image.PlacedImage.{PlacedImage}
use Rattle.mm_base.specs.Replay.{outcomes}
use Rattle.mm_base.specs.declared.entry.Outcome.{Outcome}
use Rattle.mm_base.specs.declared.entry.Request.{Request}
use Rattle.mm_core.specs.CoreState.{CoreState, Site}
use Rattle.mm_core.specs.EntryStep.{core_step}
use Rattle.mmi_registry.specs.Registry.{IsNumbered}
use Rattle.supervisor_calls.specs.Laws.{IsSite}
use Rattle.mm_groups.specs.Closed.{IsClosedIn}
use Rattle.mm_groups.specs.Share.{Share, erased_core, projected, share_of}

-- What a core keeps that a boot left or a script made: its images lie where they may, the numbers of its handlers rise, and where there is an
-- image, memory and cells are whole.
pub record IsSound (core : CoreState) : Type 0 where
  pub placed : IsSite core.site.supervised
  pub numbered : IsNumbered core.site.handlers core.site.next_number
  pub whole : (number : ℕ) (image : PlacedImage) → slice_get core.site.supervised.images number ≡ Some image → IsWhole core.live

-- Each step keeps that.
abbrev pub StepsStaySound : Type 0
StepsStaySound = (core : CoreState) (request : Request) → IsSound core → IsSound (core_step core request).1

-- Two cores with one site that agree after erasing, and two requests that agree after projecting.
pub record AreAlike (group : Group) (core other : CoreState) (request asked : Request) : Type 0 where
  pub cores : erased_core group core ≡ erased_core group other
  pub requests : projected group core.site request ≡ projected group core.site asked

-- Then a closed group gets the same share of both entries, and the cores agree again.
pub record ShareAlike (group : Group) (core other : CoreState) (request asked : Request) : Type 0 where
  pub share : share_of group core.site (core_step core request).0 ≡ share_of group core.site (core_step other asked).0
  pub cores : erased_core group (core_step core request).1 ≡ erased_core group (core_step other asked).1

abbrev pub EntriesShareAlike : Type 0
EntriesShareAlike =
    (group : Group) (core other : CoreState) (request asked : Request)
    → IsSound core → IsSound other → IsClosedIn group core.site
    → AreAlike group core other request asked → ShareAlike group core other request asked

-- the shares of outcomes, in order
abbrev pub shares_of : Group → Site → List Outcome → List Share
shares_of group site all = map (share_of group site) all

-- A closed group gets of any list of requests what the core gives from where everything that isn't granted to the group is erased, on what the
-- group may learn of each request.
abbrev pub SharesStandAlone : Type 0
SharesStandAlone =
    (group : Group) (core : CoreState) (requests : List Request)
    → IsSound core → IsClosedIn group core.site
    → shares_of group core.site (outcomes core_step core requests)
    ≡ shares_of group core.site (outcomes core_step (erased_core group core) (map (projected group core.site) requests))
