-- No public clause cites this file.
--
-- The chain of a GUID, or the root chain, as one call of MmiManage goes through it.
use Rattle.std.specs.Prelude.{◌≡◌, Bool, true, false, List, Option, Some, None, if◌then◌else◌}
use Rattle.mm_base.specs.declared.cells.Saved.{Saved}
use Rattle.mm_base.specs.declared.guid.Guid.{Guid}
use Rattle.mmi_registry.specs.Handlers.{chain_of}
use Rattle.mm_core.specs.CoreState.{CoreState}
use Rattle.mm_core.specs.HandlerChain.{runs_of, through_stop}
use Rattle.mm_core.specs.Message.{Message, Invoked, no_message}

-- whether the root handlers are called: no GUID is given
abbrev pub is_root : Option Guid → Bool
is_root (Some guid) = false
is_root None = true

-- root handlers are given no message
abbrev pub IsGiven : Bool → Message → Type 0
IsGiven root message = (if root then no_message else message) ≡ message

-- the runs of the handlers of a GUID, or of the root handlers, through the one that stops the chain
unfoldable pub managed : CoreState → Option Guid → Saved → Message → List Invoked
managed core guid saved message =
    let handlers = chain_of guid core.site.handlers in
    through_stop (is_root guid) (runs_of (is_root guid) core.site saved handlers message core.live)
