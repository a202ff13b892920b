-- What closed groups of images get of a run that drove a world.
use Rattle.std.specs.Prelude.{◌≡◌, List, map}
use Rattle.comm_core.specs.Headline.{outcomes_in}
use Rattle.comm_core.specs.WorldState.{WorldState}
use Rattle.comm_core.specs.declared.script.Script.{Script}
use Rattle.image_groups.specs.Groups.{Group}
use Rattle.mm_base.specs.Replay.{outcomes}
use Rattle.mm_base.specs.declared.entry.Entry.{Entry}
use Rattle.mm_core.specs.CoreState.{CoreState}
use Rattle.mm_core.specs.EntryStep.{core_step}
use Rattle.mm_groups.specs.Closed.{IsClosedIn}
use Rattle.mm_groups.specs.EntryLaws.{shares_of}
use Rattle.mm_groups.specs.Share.{erased_core, projected}
use Rattle.mm_history.specs.History.{requests_of}
use Rattle.mm_run.specs.RunHeadline.{Drives}
use Rattle.mm_run.specs.Sources.{NamedSource}
use Rattle.mm_run.specs.declared.command.Command.{Command}

-- Each group of images that is closed in this core has of these entries the share that the core gives where everything that isn't granted to
-- the group is erased, on what the group may learn of each request.
abbrev pub SharesApart : CoreState → List Entry → Type 0
SharesApart core entries =
    (group : Group) → IsClosedIn group core.site
    → shares_of group core.site (outcomes_in entries)
    ≡ shares_of group core.site (outcomes core_step (erased_core group core) (map (projected group core.site) (requests_of entries)))

-- The world that is handed out was driven from this core, which the command's world begins with: of `serve`, that which the boot left at lock. Each
-- group that is closed in it has its share of the world's entries.
pub record IsSharedOut (command : Command) (sources : List NamedSource) (world : WorldState CoreState) : Type 0 where
  pub script : Script
  pub core : CoreState
  pub drives : Drives command sources script core
  pub apart : SharesApart core world.entries
