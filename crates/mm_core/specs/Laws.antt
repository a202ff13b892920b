-- Laws of the entry step: who is dispatched, and which handlers run.
use Rattle.std.specs.Prelude.{◌≡◌, ◌≢◌, ◌≤◌, ◌↔◌, ◌⊎◌, ℕ, true, false, List, [], ◌∷◌, ◌++◌, map, length, take, All}
use Rattle.std.specs.Prelude.{Some, None, IsTrue}
use Rattle.mm_base.specs.declared.entry.Request.{Request}
use Rattle.mm_base.specs.declared.entry.Shape.TheVariants.{Dispatched}
use Rattle.mm_base.specs.declared.guid.Guid.{Guid}
use Rattle.mm_base.specs.declared.handler.Handler.{Handler}
use Rattle.mm_base.specs.declared.invocation.Invocation.{Invocation}
use Rattle.mmi_registry.specs.ChainRule.{stops}
use Rattle.mmi_registry.specs.Handlers.{chain_of}
use Rattle.mm_core.specs.CommunicateHeader.{header_length, header_of}
use Rattle.mm_core.specs.CoreState.{Site}
use Rattle.mm_core.specs.EntryStep.{entry_step}
use Rattle.mm_core.specs.Message.{status_of}
use Rattle.supervisor_calls.specs.Tables.{Live}

-- A request is addressed to a GUID: it has at least a header and as many bytes as its length word says, the message
-- fits after the header, the header names the GUID, and a handler is registered for it.
pub record IsAddressed (site : Site) (request : Request) (guid : Guid) : Type 0 where
  pub header : header_length ≤ request.length
  pub whole : length request.bytes ≡ request.length
  pub fits : IsTrue (header_of request).fits
  pub named : (header_of request).guid ≡ guid
  pub registered : chain_of (Some guid) site.handlers ≢ []

-- Handlers of a GUID are called exactly where the request is addressed to it.
abbrev pub DispatchedExactly : Type 0
DispatchedExactly =
    (site : Site) (live : Live) (request : Request) (guid : Guid)
    → ((entry_step site live request).0.shape ≡ Dispatched guid) ↔ IsAddressed site request guid

-- the numbers of handlers, and those of the handlers that were invoked
abbrev pub numbers_of : List Handler → List ℕ
numbers_of handlers = map (λ handler. handler.number) handlers

abbrev pub invoked_numbers : List Invocation → List ℕ
invoked_numbers invocations = map (λ invocation. invocation.handler) invocations

-- At each entry all root handlers run, in order of registration, whatever the request is taken for.
abbrev pub RootAlwaysRuns : Type 0
RootAlwaysRuns =
    (site : Site) (live : Live) (request : Request)
    → invoked_numbers (entry_step site live request).0.root ≡ numbers_of (chain_of None site.handlers)

-- The status that an invocation counts as stops the chain of a GUID, or doesn't.
abbrev pub Stops : Invocation → Type 0
Stops invocation = stops false (status_of invocation.ended) ≡ true

abbrev pub GoesOn : Invocation → Type 0
GoesOn invocation = stops false (status_of invocation.ended) ≡ false

-- These invocations are of the handlers of a GUID's chain in order, from the first on to the one that stops it: there
-- is a last one; the handlers that were invoked are how the chain begins; none before the last stops it; and the last
-- stops it, or all its handlers ran.
pub record RunInOrder (chain : List Handler) (invocations : List Invocation) : Type 0 where
  pub earlier : List Invocation
  pub last : Invocation
  pub some : invocations ≡ earlier ++ last ∷ []
  pub order : take (length invocations) (numbers_of chain) ≡ invoked_numbers invocations
  pub goes_on : All GoesOn earlier
  pub ends : Stops last ⊎ (length invocations ≡ length chain)

-- Where a request is dispatched, the handlers of its GUID run in order.
abbrev pub ChainRunsInOrder : Type 0
ChainRunsInOrder =
    (site : Site) (live : Live) (request : Request) (guid : Guid)
    → (entry_step site live request).0.shape ≡ Dispatched guid
    → RunInOrder (chain_of (Some guid) site.handlers) (entry_step site live request).0.chain
