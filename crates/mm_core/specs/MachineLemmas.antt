-- What bounds the outcomes of the entry step, whatever the handlers are: the lemmas of a core's two laws as a machine.
use Rattle.std.proofs.Common.{◌≡◌, ◌≢◌, ◌+◌, ◌-◌, ◌≤◌, Bool, true, false, cond, if◌then◌else◌, not, min}
use Rattle.std.proofs.Common.{List, [], ◌∷◌, ◌++◌, length, take, Option, Some, None, ℕ, slice_get, refl, subst, arith, length-append}
use Rattle.std.specs.Option.{option_eq}
use Rattle.std.specs.List.{All}
use Rattle.std.proofs.lemmas.Bool.{and_parts, leb-true, eqb-true}
use Rattle.std.proofs.lemmas.List.{length-take, length-map}
use Rattle.std.proofs.lemmas.List.Elements.{All-nil, All-cons, All-head, All-tail}
use Rattle.domain_runs.specs.Laws.{AreFew as AreFewRecords}
use Rattle.domain_runs.proofs.CallLemmas.{records_stay_few}
use Rattle.domain_runs.proofs.RunLemmas.{run_keeps}
use Rattle.image_table.specs.declared.placed_image.PlacedImage.{PlacedImage}
use Rattle.mm_base.specs.Machine.{HasFewRecords, IsWithin}
use Rattle.mm_base.specs.Regions.{stack_of}
use Rattle.mm_base.specs.Guid.{same_guid}
use Rattle.mm_base.specs.declared.cells.Saved.{Saved}
use Rattle.mm_base.specs.declared.guid.Guid.{Guid}
use Rattle.mm_base.specs.declared.handler.Handler.{Handler}
use Rattle.mm_base.specs.declared.handler.HandlerBody.{HandlerBody}
use Rattle.mm_base.specs.declared.handler.HandlerBody.TheVariants.{Version, Stub, Code}
use Rattle.mm_base.specs.declared.region.Region.{Region}
use Rattle.mm_base.specs.declared.entry.Request.{Request}
use Rattle.mm_base.specs.declared.entry.Shape.{Shape}
use Rattle.mm_base.specs.declared.entry.Shape.TheVariants.{BadLength, BadHeader, NoHandler, Dispatched}
use Rattle.mmi_registry.proofs.FilterLemmas.{length-kept, cond-le-one}
use Rattle.mmi_registry.specs.ChainRule.{stops}
use Rattle.mmi_registry.specs.Handlers.{chain_of}
use Rattle.mm_core.specs.CommunicateHeader.{header_length, is_lawful, header_of, header_bytes}
use Rattle.mm_core.specs.CoreState.{Site, CoreState}
use Rattle.mm_core.specs.EntryStep.{has_none, shape_of, message_of, chain_runs, root_runs, reply_as, outcome_of}
use Rattle.mm_core.specs.EntryStep.{entry_step, core_step}
use Rattle.mm_core.specs.HandlerChain.{runs_of, through_stop, invocations_of, message_after, live_after}
use Rattle.mm_core.specs.CodeRun.{addresses, code_run, opening_domain}
use Rattle.mm_core.specs.Invoked.{by_body, code_invoked, invoked}
use Rattle.mm_core.specs.Message.{Message, Invoked, no_message, status_of}
use Rattle.mm_core.specs.Laws.{IsAddressed}
use Rattle.supervisor_calls.specs.Services.{domain_meaning}
use Rattle.supervisor_calls.specs.Tables.{Live}

-- ---- one run

-- code of an image makes at most as many records as there may be
few_code : (site : Site) (saved : Saved) (handler : Handler) (image address : ℕ) (region : Region) (message : Message) (live : Live)
    → AreFewRecords (code_run site saved handler image address region message live).1.records
unfolding code_run
few_code site saved handler image address region message live =
    let stack = stack_of region in
    run_keeps (λ domain. AreFewRecords domain.records) domain_meaning records_stay_few site.supervised.policy.fuel
    (stack.base + stack.length) address ((handler.number + 1) ∷ 0 ∷ addresses handler.guid region)
    (opening_domain site saved image region message live) (record { denials = omega arith; writes = omega arith })

few_code_invoked : (site : Site) (saved : Saved) (handler : Handler) (image address : ℕ) (placed : Option PlacedImage) (message : Message) (live : Live)
    → HasFewRecords (code_invoked site saved handler image address placed message live).invocation
few_code_invoked site saved handler image address None message live = record { denials = omega arith; writes = omega arith }
few_code_invoked site saved handler image address (Some placed) message live =
    let few = few_code site saved handler image address placed.region message live in
    record { denials = few.denials; writes = few.writes }

few_by_body : (site : Site) (saved : Saved) (handler : Handler) (body : HandlerBody) (message : Message) (live : Live)
    → HasFewRecords (by_body site saved handler body message live).invocation
few_by_body site saved handler Version message live = record { denials = omega arith; writes = omega arith }
few_by_body site saved handler (Stub status) message live = record { denials = omega arith; writes = omega arith }
few_by_body site saved handler (Code image address) message live =
    few_code_invoked site saved handler image address (slice_get site.supervised.images image) message live

few_invoked : (site : Site) (saved : Saved) (handler : Handler) (message : Message) (live : Live)
    → HasFewRecords (invoked site saved handler message live).invocation
unfolding invoked
few_invoked site saved handler message live = few_by_body site saved handler handler.body message live

-- ---- runs

-- each invocation of these runs has few records
abbrev AreFew : List Invoked → Type 0
AreFew runs = All HasFewRecords (invocations_of runs)

module _ (root : Bool) where
  -- a chain that stops has no more runs
  pub length-through_stop : (runs : List Invoked) → length (through_stop root runs) ≤ length runs
  length-through_stop [] = omega arith
  length-through_stop (run ∷ runs) =
      elim (stops root (status_of run.invocation.ended)) as (λ b.
      length (run ∷ (if b then [] else through_stop root runs)) ≤ length (run ∷ runs)) [
        | true ↦ omega arith
        | false ↦ omega (arith, length-through_stop runs)
      ]

  few-through_stop : (runs : List Invoked) → AreFew runs → AreFew (through_stop root runs)
  few-through_stop [] few = few
  few-through_stop (run ∷ runs) few =
      let first : HasFewRecords run.invocation = All-head HasFewRecords run.invocation (invocations_of runs) few in
      let later : AreFew runs = All-tail HasFewRecords run.invocation (invocations_of runs) few in
      let rest = through_stop root runs in
      elim (stops root (status_of run.invocation.ended)) as (λ b. AreFew (run ∷ (if b then [] else rest))) [
        | true ↦ All-cons HasFewRecords run.invocation [] first (All-nil HasFewRecords)
        | false ↦ All-cons HasFewRecords run.invocation (invocations_of rest) first (few-through_stop runs later)
      ]

module _ (root : Bool) (site : Site) (saved : Saved) where
  -- each handler has one run
  pub length-runs_of : (handlers : List Handler) (message : Message) (live : Live)
      → length (runs_of root site saved handlers message live) ≡ length handlers
  length-runs_of [] message live = refl
  length-runs_of (handler ∷ handlers) message live =
      let run = invoked site saved handler (if root then no_message else message) live in
      omega (arith, length-runs_of handlers run.message run.live)

  -- no handler makes more records than there may be
  few-runs_of : (handlers : List Handler) (message : Message) (live : Live)
      → AreFew (runs_of root site saved handlers message live)
  few-runs_of [] message live = All-nil HasFewRecords
  few-runs_of (handler ∷ handlers) message live =
      let run = invoked site saved handler (if root then no_message else message) live in
      All-cons HasFewRecords run.invocation (invocations_of (runs_of root site saved handlers run.message run.live))
      (few_invoked site saved handler (if root then no_message else message) live) (few-runs_of handlers run.message run.live)

-- ---- the two chains

module _ (guid : Guid) where
  one_chain : (own : Option Guid)
      → cond (option_eq same_guid own (Some guid)) 1 0 + cond (option_eq same_guid own None) 1 0 ≤ 1
  one_chain None = omega arith
  one_chain (Some other) = omega (arith, cond-le-one (same_guid other guid))

  -- no handler is of a GUID's chain and of the root chain
  pub length-both_chains : (handlers : List Handler)
      → length (chain_of (Some guid) handlers) + length (chain_of None handlers) ≤ length handlers
  length-both_chains [] = omega arith
  length-both_chains (handler ∷ handlers) =
      omega (
        arith,
        length-both_chains handlers,
        one_chain handler.guid,
        length-kept (option_eq same_guid handler.guid (Some guid)) handler (chain_of (Some guid) handlers),
        length-kept (option_eq same_guid handler.guid None) handler (chain_of None handlers),
      )

-- ---- what a request is taken for

-- the shape by its tests, where the header names this GUID
abbrev pub shape_by : Bool → Bool → Bool → Guid → Shape
shape_by lawful fits none named =
    if not lawful then BadLength
    else if not fits then BadHeader
    else if none then NoHandler named
    else Dispatched named

-- what the tests came to, where the shape is a dispatch
record IsDispatch (lawful fits none : Bool) (named guid : Guid) : Type 0 where
  is_lawful : lawful ≡ true
  has_room : fits ≡ true
  has_some : none ≡ false
  same : named ≡ guid

only_dispatched : (lawful fits none : Bool) (named guid : Guid)
    → shape_by lawful fits none named ≡ Dispatched guid → IsDispatch lawful fits none named guid
only_dispatched false fits none named guid h = absurd (cc)
only_dispatched true false none named guid h = absurd (cc)
only_dispatched true true true named guid h = absurd (cc)
only_dispatched true true false named guid h = record { is_lawful = refl; has_room = refl; has_some = refl; same = cc }

some_there : (handlers : List Handler) → has_none handlers ≡ false → handlers ≢ []
some_there handlers h none =
    let P : List Handler → Type 0 = λ hs. has_none hs ≡ false in
    let wrong : true ≡ false = subst P none h in
    cc

module _ (site : Site) (request : Request) where
  -- a dispatched request is addressed to the GUID
  pub is_addressed : (guid : Guid) → shape_of site request ≡ Dispatched guid → IsAddressed site request guid
  is_addressed guid h =
      let header = header_of request in
      let dispatch = only_dispatched (is_lawful request) header.fits _ header.guid guid h in
      let lawful = and_parts _ _ dispatch.is_lawful in
      let Registered : Guid → Type 0 = λ g. chain_of (Some g) site.handlers ≢ [] in
      record {
        header = leb-true header_length request.length lawful.0;
        whole = eqb-true (length request.bytes) request.length lawful.1;
        fits = dispatch.has_room;
        named = dispatch.same;
        registered = subst Registered dispatch.same (some_there _ dispatch.has_some);
      }

  -- ---- the bounds

  -- the root chain after this has as many runs as there are root handlers
  length-root_runs : (live : Live) → length (root_runs site request live) ≡ length (chain_of None site.handlers)
  length-root_runs live = length-runs_of true site request.saved (chain_of None site.handlers) no_message live

  -- the chain of a request and the root chain have at most as many runs as there are handlers
  pub chain_and_root : (live between : Live) (shape : Shape)
      → length (chain_runs site request live shape) + length (root_runs site request between) ≤ length site.handlers
  chain_and_root live between BadLength =
      omega (arith, length-root_runs between, length-both_chains record { 0 = [] } site.handlers)
  chain_and_root live between BadHeader =
      omega (arith, length-root_runs between, length-both_chains record { 0 = [] } site.handlers)
  chain_and_root live between (NoHandler guid) =
      omega (arith, length-root_runs between, length-both_chains guid site.handlers)
  chain_and_root live between (Dispatched guid) =
      let handlers = chain_of (Some guid) site.handlers in
      omega (
        arith,
        length-through_stop false (runs_of false site request.saved handlers (message_of request) live),
        length-runs_of false site request.saved handlers (message_of request) live,
        length-root_runs between,
        length-both_chains guid site.handlers,
      )

  few-chain_runs : (live : Live) (shape : Shape) → AreFew (chain_runs site request live shape)
  few-chain_runs live BadLength = All-nil HasFewRecords
  few-chain_runs live BadHeader = All-nil HasFewRecords
  few-chain_runs live (NoHandler guid) = All-nil HasFewRecords
  few-chain_runs live (Dispatched guid) =
      let handlers = chain_of (Some guid) site.handlers in
      few-through_stop false _ (few-runs_of false site request.saved handlers (message_of request) live)

  length-reply_as : (chain : List Invoked) (shape : Shape) → shape_of site request ≡ shape
      → length (reply_as request chain shape) ≤ length request.bytes
  length-reply_as chain BadLength h = omega arith
  length-reply_as chain BadHeader h = omega arith
  length-reply_as chain (NoHandler guid) h = omega arith
  length-reply_as chain (Dispatched guid) h =
      let known = is_addressed guid h in
      let front = header_bytes request in
      let header = header_of request in
      let left = message_after (message_of request) chain in
      let most = min left.size header.size in
      let both : length (front ++ take most left.buffer) ≡ length front + length (take most left.buffer) =
      length-append front (take most left.buffer) in
      omega (
        arith,
        known.header,
        known.whole,
        leb-true header.size (request.length - header_length) known.fits,
        length-take header.front request.bytes,
        length-take most left.buffer,
      )

  within_parts : (live between : Live) (shape : Shape) → shape_of site request ≡ shape
      → (let chain = chain_runs site request live shape in
      IsWithin (length site.handlers) request (outcome_of request shape chain (root_runs site request between)))
  within_parts live between shape h =
      let chain = chain_runs site request live shape in
      let root = root_runs site request between in
      let chain_length : length (invocations_of chain) ≡ length chain = length-map chain _ in
      let root_length : length (invocations_of root) ≡ length root = length-map root _ in
      record {
        calls = omega (arith, chain_length, root_length, chain_and_root live between shape);
        chain = few-chain_runs live shape;
        root = few-runs_of true site request.saved (chain_of None site.handlers) no_message between;
        reply = length-reply_as chain shape h;
      }

-- An entry has at most as many invocations as there are handlers, none with a record, and its reply is no longer than
-- the request.
pub core_step-within : (core : CoreState) (request : Request)
    → IsWithin (length core.site.handlers) request (core_step core request).0
unfolding core_step entry_step
core_step-within core request =
    let shape = shape_of core.site request in
    let between = live_after core.live (chain_runs core.site request core.live shape) in
    within_parts core.site request core.live between shape refl

-- no handler comes or goes
pub core_step-keeps : (core : CoreState) (request : Request)
    → length (core_step core request).1.site.handlers ≡ length core.site.handlers
unfolding core_step
core_step-keeps core request = refl
