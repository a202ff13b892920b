-- Laws of the chains of handlers of an entry, and of its root pass, for a closed group.
use Rattle.std.specs.Prelude.{◌≡◌, true, false, List, [], map, Some, None}
use Rattle.image_groups.specs.Erasing.{erase, projected_registers}
use Rattle.image_groups.specs.Groups.{Group}
use Rattle.mm_base.specs.declared.cells.Saved.{Saved}
use Rattle.mm_base.specs.declared.guid.Guid.{Guid}
use Rattle.mm_core.specs.CoreState.{CoreState, Site}
use Rattle.mm_core.specs.HandlerChain.{invocations_of, live_after, runs_of, through_stop}
use Rattle.mm_core.specs.Message.{Invoked, Message, no_message}
use Rattle.mmi_registry.specs.Handlers.{chain_of}
use Rattle.mm_groups.specs.Closed.{IsClosedIn}
use Rattle.mm_groups.specs.EntryLaws.{IsSound}
use Rattle.mm_groups.specs.Share.{erased_core, is_served_by, own_invocations}

-- what the handlers of a GUID leave of a message, one after another, up to the one that stops the chain
abbrev pub chain_from : Saved → Guid → Message → CoreState → List Invoked
chain_from saved guid message core =
    through_stop false (runs_of false core.site saved (chain_of (Some guid) core.site.handlers) message core.live)

-- what the root handlers leave, one after another
abbrev pub root_pass_from : Saved → CoreState → List Invoked
root_pass_from saved core = runs_of true core.site saved (chain_of None core.site.handlers) no_message core.live

-- what is left of what a handler leaves: its invocation and the message are whole, and what a step may change is erased
abbrev pub erased_run : Group → Site → Invoked → Invoked
erased_run group site run =
    record { invocation = run.invocation; message = run.message; live = erase group site.supervised run.live }

-- Where the handlers of a GUID are the group's, its chain goes along with erasing: on the registers that are granted to the group, from the core
-- where all else is erased, the same handlers run, with the same invocations and the same messages, and each leaves what it leaves, erased.
abbrev pub ChainsGoAlong : Type 0
ChainsGoAlong =
    (group : Group) (core : CoreState) (saved : Saved) (guid : Guid) (message : Message)
    → IsSound core → IsClosedIn group core.site
    → is_served_by group core.site guid ≡ true
    → chain_from (projected_registers group core.site.supervised saved) guid message (erased_core group core)
    ≡ map (erased_run group core.site) (chain_from saved guid message core)

-- None of these runs is the group's, and after them what is granted to the group is what it was.
pub record LeaveNothing (group : Group) (core : CoreState) (runs : List Invoked) : Type 0 where
  pub own : own_invocations group core.site (invocations_of runs) ≡ []
  pub state : erase group core.site.supervised (live_after core.live runs) ≡ erase group core.site.supervised core.live

-- That is so of the chain of each GUID whose handlers aren't the group's.
abbrev pub ChainsOutsideLeaveNothing : Type 0
ChainsOutsideLeaveNothing =
    (group : Group) (core : CoreState) (saved : Saved) (guid : Guid) (message : Message)
    → IsSound core → IsClosedIn group core.site
    → is_served_by group core.site guid ≡ false
    → LeaveNothing group core (chain_from saved guid message core)

-- Two root passes have the same invocations of the group, in order, and the states after them agree after erasing.
pub record RootPassesAgree (group : Group) (core other : CoreState) (passed gone : List Invoked) : Type 0 where
  pub own : own_invocations group core.site (invocations_of passed) ≡ own_invocations group core.site (invocations_of gone)
  pub states : erase group core.site.supervised (live_after core.live passed)
      ≡ erase group core.site.supervised (live_after other.live gone)

-- Handlers of the group and others are mixed in the root pass. From two cores that agree after erasing, with saved registers that agree after
-- projecting, a closed group's invocations in it are the same, and the cores agree again.
abbrev pub RootPassSharesAlike : Type 0
RootPassSharesAlike =
    (group : Group) (core other : CoreState) (saved asked : Saved)
    → IsSound core → IsSound other → IsClosedIn group core.site
    → erased_core group core ≡ erased_core group other
    → projected_registers group core.site.supervised saved ≡ projected_registers group core.site.supervised asked
    → RootPassesAgree group core other (root_pass_from saved core) (root_pass_from asked other)
