-- Laws of what images may reach, and of groups. Images lie where they may (IsSite).
use Rattle.std.specs.Prelude.{◌≡◌, ◌≢◌, ◌<◌, ◌≤◌, ℕ, true, false, List, length, Some, slice_get}
use Rattle.image_table.specs.declared.placed_image.PlacedImage.{PlacedImage}
use Rattle.mm_base.specs.Range.{Has}
use Rattle.mm_base.specs.declared.access.Kind.{Kind}
use Rattle.mm_base.specs.declared.access.Kind.TheVariants as kinds
use Rattle.mm_base.specs.declared.access.Right.{Right}
use Rattle.mm_base.specs.declared.access.Right.TheVariants as rights
use Rattle.mm_base.specs.declared.access.Verdict.TheVariants.{Pass}
use Rattle.mm_base.specs.declared.access.Why.TheVariants as whys
use Rattle.mm_base.specs.declared.cells.Saved.{Saved}
use Rattle.mm_base.specs.declared.handler.Handler.{Handler}
use Rattle.secure_policy.specs.Laws.{passes}
use Rattle.secure_policy.specs.Verdicts.{units_from}
use Rattle.supervisor_calls.specs.Accesses.{decided}
use Rattle.supervisor_calls.specs.Laws.{IsSite, lies_in_own_pages}
use Rattle.supervisor_calls.specs.Tables.{Site}
use Rattle.image_groups.specs.Ends.{ends_of, last_up_to}
use Rattle.image_groups.specs.Erasing.{projected_registers, trapped_in}
use Rattle.image_groups.specs.Groups.{Group, IsClosed, granted, is_register_granted}
use Rattle.image_groups.specs.Reach.{reach}

-- Where an access passes, each of its units is within the image's reach for that right.
abbrev pub PassesWithinReach : Type 0
PassesWithinReach =
    (site : Site) (image : ℕ) (kind : Kind) (base n : ℕ) (right : Right) (trapped unit : ℕ)
    → IsSite site
    → kind ≢ kinds.Saved
    → Has (units_from base n) unit
    → passes (decided site image kind base n right trapped) ≡ true
    → reach site image kind unit right ≡ true

-- What an image may reach with a right is at each unit what it is at the last of the ends that isn't above that unit.
abbrev pub ReachChangesAtEnds : Type 0
ReachChangesAtEnds =
    (site : Site) (image : ℕ) (kind : Kind) (unit : ℕ) (right : Right)
    → reach site image kind unit right ≡ reach site image kind (last_up_to unit (ends_of kind site)) right

-- What is known of verdicts where a group is closed. What is said of accesses, services, invocations and entries of a group rests on these
-- facts, and on no other fact about verdicts.
pub record Facts (group : Group) (site : Site) : Type 0 where
  -- an image of the group gets the same verdict where the registers that aren't granted to the group are 0
  pub same : (image : ℕ) (kind : Kind) (base n : ℕ) (right : Right) (saved : Saved)
      → group image ≡ true
      → decided site image kind base n right (trapped_in (projected_registers group site saved))
      ≡ decided site image kind base n right (trapped_in saved)
  -- and the same registers are granted to the group
  pub same_registers : (saved : Saved) (register : ℕ)
      → is_register_granted group site (trapped_in (projected_registers group site saved)) register
      ≡ is_register_granted group site (trapped_in saved) register
  -- what passes for an image of the group that is there is granted to the group, unit by unit
  pub within : (image : ℕ) (kind : Kind) (base n : ℕ) (right : Right) (trapped unit : ℕ)
      → image < length site.images
      → group image ≡ true
      → kind ≢ kinds.Saved
      → passes (decided site image kind base n right trapped) ≡ true
      → Has (units_from base n) unit
      → granted group site kind unit ≡ true
  -- so is a saved register that it may read
  pub within_registers : (image : ℕ) (base n trapped unit : ℕ)
      → image < length site.images
      → group image ≡ true
      → passes (decided site image kinds.Saved base n rights.Read trapped) ≡ true
      → Has (units_from base n) unit
      → is_register_granted group site trapped unit ≡ true
  -- a write that passes for an image outside the group that is there touches nothing that is granted to the group
  pub apart : (image : ℕ) (kind : Kind) (base n trapped unit : ℕ)
      → image < length site.images
      → group image ≡ false
      → kind ≢ kinds.Saved
      → passes (decided site image kind base n rights.Write trapped) ≡ true
      → Has (units_from base n) unit
      → granted group site kind unit ≡ false
  -- reads and writes of an image's own stack, communicate page, pool and reserve pass for it
  pub own_pages : (number : ℕ) (image : PlacedImage) (at n : ℕ) (right : Right) (trapped : ℕ)
      → slice_get site.images number ≡ Some image
      → 1 ≤ n
      → right ≢ rights.Execute
      → lies_in_own_pages image.region (units_from at n) ≡ true
      → decided site number kinds.Memory at n right trapped ≡ Pass whys.Home

-- They hold of each closed group.
abbrev pub ClosedGroupsHaveFacts : Type 0
ClosedGroupsHaveFacts =
    (group : Group) (site : Site) (handlers : List Handler) → IsSite site → IsClosed group site handlers → Facts group site
