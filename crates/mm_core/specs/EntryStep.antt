-- The entry step: what a core makes of one captured request. Who is called is decided by the communicate header (PI
-- 1.8, volume 4); the root handlers are called at each entry, also at a refused one, after the GUID's.
use Rattle.std.specs.Prelude.{ℕ, min, Bool, true, false, if◌then◌else◌, ◌==◌, not, List, [], ◌∷◌, ◌++◌, take, Some}
use Rattle.std.specs.Prelude.{None}
use Rattle.mm_base.specs.Statuses.{success, invalid_parameter, not_found}
use Rattle.mm_base.specs.declared.entry.Request.{Request}
use Rattle.mm_base.specs.declared.entry.Outcome.{Outcome}
use Rattle.mm_base.specs.declared.entry.Shape.{Shape}
use Rattle.mm_base.specs.declared.entry.Shape.TheVariants.{BadLength, BadHeader, NoHandler, Dispatched}
use Rattle.mm_base.specs.declared.handler.Handler.{Handler}
use Rattle.mmi_registry.specs.Handlers.{chain_of}
use Rattle.mm_core.specs.CommunicateHeader.{is_lawful, header_of, header_bytes, message_bytes}
use Rattle.mm_core.specs.CoreState.{Site, CoreState}
use Rattle.mm_core.specs.Message.{Message, Invoked, no_message}
use Rattle.mm_core.specs.HandlerChain.{runs_of, through_stop, invocations_of, result_of, message_after, live_after}
use Rattle.supervisor_calls.specs.Tables.{Live}

-- there is no handler
abbrev pub has_none : List Handler → Bool
has_none [] = true
has_none (handler ∷ handlers) = false

-- What a request is taken for: the first of these refusals that fits, or else a dispatch.
abbrev pub shape_of : Site → Request → Shape
shape_of site request =
    let header = header_of request in
    if not (is_lawful request) then BadLength
    else if not header.fits then BadHeader
    else if has_none (chain_of (Some header.guid) site.handlers) then NoHandler header.guid
    else Dispatched header.guid

-- the message of a request, as it was captured
abbrev pub message_of : Request → Message
message_of request = record { buffer = message_bytes request; size = (header_of request).size }

-- the runs of the GUID's handlers, for a request that is taken for this: none where it is refused
abbrev pub chain_runs : Site → Request → Live → Shape → List Invoked
chain_runs site request live BadLength = []
chain_runs site request live BadHeader = []
chain_runs site request live (NoHandler guid) = []
chain_runs site request live (Dispatched guid) =
    through_stop false (runs_of false site request.saved (chain_of (Some guid) site.handlers) (message_of request) live)

-- the runs of the root handlers
abbrev pub root_runs : Site → Request → Live → List Invoked
root_runs site request live = runs_of true site request.saved (chain_of None site.handlers) no_message live

-- The status of an entry. A dispatched request is answered SUCCESS where its chain comes to SUCCESS, else NOT_FOUND.
abbrev pub status_as : List Invoked → Shape → ℕ
status_as chain BadLength = invalid_parameter
status_as chain BadHeader = invalid_parameter
status_as chain (NoHandler guid) = not_found
status_as chain (Dispatched guid) = if result_of chain == success then success else not_found

-- The reply: none where the request is refused; else the header as it was captured, and as many bytes of the message
-- that the chain left as the smaller of its size and the captured message's says.
abbrev pub reply_as : Request → List Invoked → Shape → List ℕ
reply_as request chain BadLength = []
reply_as request chain BadHeader = []
reply_as request chain (NoHandler guid) = []
reply_as request chain (Dispatched guid) =
    let left = message_after (message_of request) chain in
    header_bytes request ++ take (min left.size (header_of request).size) left.buffer

-- the outcome of a request, from its shape and the runs of both chains
abbrev pub outcome_of : Request → Shape → List Invoked → List Invoked → Outcome
outcome_of request shape chain root = record {
  shape = shape;
  status = status_as chain shape;
  reply = reply_as request chain shape;
  chain = invocations_of chain;
  root = invocations_of root;
}

-- The outcome of a request, and what the step leaves of what it may change. The root handlers run after the chain, and
-- what they return changes no status.
unfoldable pub entry_step : Site → Live → Request → Outcome × Live
entry_step site live request =
    let shape = shape_of site request in
    let chain = chain_runs site request live shape in
    let between = live_after live chain in
    let root = root_runs site request between in
    (outcome_of request shape chain root, live_after between root)

-- the entry step on a whole core: what stays from lock on stays
unfoldable pub core_step : CoreState → Request → Outcome × CoreState
core_step core request =
    let step = entry_step core.site core.live request in
    (step.0, record { site = core.site; live = step.1 })
