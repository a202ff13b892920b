-- The parts of an entry step, and what the code makes of them.
use Rattle.std.proofs.Common.{◌≡◌, ℕ, ◌+◌, ◌≤◌, min, Bool, true, false, if◌then◌else◌, ◌==◌, List, [], ◌∷◌, ◌++◌, length, take}
use Rattle.std.proofs.Common.{Some, None, cond, refl, sym, ap, ◌∙◌, arith}
use Rattle.std.specs.Option.{option_eq}
use Rattle.mm_base.specs.Guid.{same_guid}
use Rattle.mm_base.specs.Statuses.{success, invalid_parameter, not_found}
use Rattle.mm_base.specs.declared.cells.Saved.{Saved}
use Rattle.mm_base.specs.declared.handler.Handler.{Handler}
use Rattle.mm_base.specs.declared.entry.Outcome.{Outcome}
use Rattle.mm_base.specs.declared.entry.Request.{Request}
use Rattle.mm_base.specs.declared.entry.Shape.{Shape}
use Rattle.mm_base.specs.declared.entry.Shape.TheVariants.{BadLength, BadHeader, NoHandler, Dispatched}
use Rattle.mm_base.specs.declared.guid.Guid.{Guid}
use Rattle.mmi_registry.proofs.ChainLemmas.{guid_comes_to_first}
use Rattle.mmi_registry.specs.ChainLaws.{result_from}
use Rattle.mmi_registry.specs.Handlers.{chain_of}
use Rattle.mm_core.proofs.BufferLemmas.{reply_alone}
use Rattle.mm_core.proofs.ChainRunLemmas.{has_no_guid, no_message_left}
use Rattle.mm_core.specs.BufferInside.{BufferState}
use Rattle.mm_core.specs.ChainInside.{managed}
use Rattle.mm_core.specs.CommunicateHeader.{header_of, header_bytes, message_bytes}
use Rattle.mm_core.specs.CoreState.{CoreState, Site}
use Rattle.mm_core.specs.EntryStep.{message_of, chain_runs, root_runs, shape_of, outcome_of, entry_step, core_step}
use Rattle.mm_core.specs.HandlerChain.{runs_of, through_stop, invocations_of, statuses_of, message_after, live_after}
use Rattle.mm_core.specs.Invoked.{invoked}
use Rattle.mm_core.specs.Message.{Message, Invoked, no_message}
use Rattle.mm_core.specs.MachineLemmas.{length-both_chains, length-runs_of, chain_and_root}
use Rattle.mm_core.specs.StepInside.{after_chain, chain_in, status_in, reply_in}
use Rattle.supervisor_calls.specs.Tables.{Live}

-- a GUID's chain has at most as many handlers as there are
pub length-chain : (guid : Guid) (handlers : List Handler) → length (chain_of (Some guid) handlers) ≤ length handlers
length-chain guid handlers = omega (arith, length-both_chains guid handlers)

-- ---- a dispatched request

-- the message of a request, by the bytes that it was copied from
pub message_is : (request : Request) (copy : List ℕ) → copy ≡ message_bytes request → length copy ≡ (header_of request).size
    → (let m : Message = record { buffer = copy; size = length copy } in m ≡ message_of request)
message_is request copy bytes size = λ i. record { buffer = bytes i; size = size i }

module _ (core : CoreState) (request : Request) (guid : Guid) where
  -- the runs of its chain
  pub runs_are : (m : Message) → m ≡ message_of request → managed core (Some guid) request.saved m ≡ chain_in core request (Dispatched guid)
  unfolding managed chain_in
  runs_are m same =
      let handlers = chain_of (Some guid) core.site.handlers in
      ap (λ (m' : Message). through_stop false (runs_of false core.site request.saved handlers m' core.live)) same

  -- the core after it
  pub dispatched_core : (left : CoreState) (m : Message) → m ≡ message_of request
      → left ≡ record core { live = live_after core.live (managed core (Some guid) request.saved m) }
      → left ≡ after_chain core request (Dispatched guid)
  unfolding after_chain
  dispatched_core left m same is = is ∙ ap (λ (runs : List Invoked). record core { live = live_after core.live runs }) (runs_are m same)

  -- its status, by what its chain comes to
  pub status_is : (status comes_to : ℕ) → status ≡ (if comes_to == success then success else not_found)
      → comes_to ≡ result_from false not_found (statuses_of (chain_in core request (Dispatched guid)))
      → status ≡ status_in core request (Dispatched guid)
  unfolding status_in
  status_is status comes_to is from =
      is
      ∙ ap (λ (r : ℕ). if r == success then success else not_found)
      (from ∙ guid_comes_to_first (statuses_of (chain_in core request (Dispatched guid))))

  -- its reply, by what its chain left
  reply_is : (header : List ℕ) (left : Message) (most : ℕ) → header ≡ header_bytes request
      → left ≡ message_after (message_of request) (chain_in core request (Dispatched guid)) → most ≡ (header_of request).size
      → header ++ take (min left.size most) left.buffer ≡ reply_in core request (Dispatched guid)
  unfolding reply_in
  reply_is header left most h l m = λ i. h i ++ take (min (l i).size (m i)) (l i).buffer

-- its buffer, which was opened with the header and the message
module _ (core : CoreState) (request : Request) (guid : Guid) (start opened : BufferState) (header copy : List ℕ)
    (h : header ≡ header_bytes request) (bytes : copy ≡ message_bytes request) (size : length copy ≡ (header_of request).size)
    (o : opened ≡ record { front = header; message = record { buffer = copy; size = length copy }; room = start.room }) where
  pub opened_message : opened.message ≡ message_of request
  opened_message = ap (λ b. b.message) o ∙ message_is request copy bytes size

  -- from its opening to its close
  pub dispatched_buffer : (after closed : BufferState) → start ≡ reply_alone [] start.room
      → after ≡ record opened { message = message_after opened.message (managed core (Some guid) request.saved opened.message) }
      → closed ≡ reply_alone (after.front ++ take (min after.message.size (length copy)) after.message.buffer) after.room
      → closed ≡ record start { front = reply_in core request (Dispatched guid) }
  dispatched_buffer after closed empty a c =
      let runs = runs_are core request guid opened.message opened_message in
      let left : after.message ≡ message_after (message_of request) (chain_in core request (Dispatched guid)) =
      ap (λ b. b.message) a ∙ (λ i. message_after (opened_message i) (runs i)) in
      let front : after.front ≡ header_bytes request = ap (λ b. b.front) a ∙ ap (λ b. b.front) o ∙ h in
      let room : after.room ≡ start.room = ap (λ b. b.room) a ∙ ap (λ b. b.room) o in
      let none : no_message ≡ start.message = sym (ap (λ b. b.message) empty) in
      let reply = reply_is core request guid after.front after.message (length copy) front left size in
      c ∙ (λ i. record { front = reply i; message = none i; room = room i })

-- ---- a refused request

-- it has no chain, and no reply
abbrev pub is_refused : Shape → Bool
is_refused BadLength = true
is_refused BadHeader = true
is_refused (NoHandler guid) = true
is_refused (Dispatched guid) = false

module _ (core : CoreState) (request : Request) where
  pub refused_chain : (shape : Shape) → is_refused shape ≡ true → chain_in core request shape ≡ []
  unfolding chain_in
  refused_chain BadLength h = refl
  refused_chain BadHeader h = refl
  refused_chain (NoHandler guid) h = refl
  refused_chain (Dispatched guid) h = absurd (cc)

  refused_reply : (shape : Shape) → is_refused shape ≡ true → reply_in core request shape ≡ []
  unfolding reply_in
  refused_reply BadLength h = refl
  refused_reply BadHeader h = refl
  refused_reply (NoHandler guid) h = refl
  refused_reply (Dispatched guid) h = absurd (cc)

  pub refused_buffer : (shape : Shape) (start : BufferState) → is_refused shape ≡ true → start ≡ reply_alone [] start.room
      → start ≡ record start { front = reply_in core request shape }
  refused_buffer shape start h empty =
      ap (λ (f : List ℕ). record start { front = f }) (ap (λ b. b.front) empty ∙ sym (refused_reply shape h))

  pub refused_core : (shape : Shape) → is_refused shape ≡ true → core ≡ after_chain core request shape
  unfolding after_chain
  refused_core shape h = ap (λ (runs : List Invoked). record core { live = live_after core.live runs }) (sym (refused_chain shape h))

  pub bad_length_status : invalid_parameter ≡ status_in core request BadLength
  unfolding status_in
  bad_length_status = refl

  pub bad_header_status : invalid_parameter ≡ status_in core request BadHeader
  unfolding status_in
  bad_header_status = refl

  pub no_handler_status : (guid : Guid) → not_found ≡ status_in core request (NoHandler guid)
  unfolding status_in
  no_handler_status guid = refl

-- ---- what a step leaves

-- the root chain never stops
through_root : (runs : List Invoked) → through_stop true runs ≡ runs
through_root [] = refl
through_root (run ∷ runs) = ap (λ (rs : List Invoked). run ∷ rs) (through_root runs)

root_message : (site : Site) (saved : Saved) (handlers : List Handler) (m : Message) (live : Live) → m ≡ no_message
    → message_after m (runs_of true site saved (chain_of None handlers) m live) ≡ no_message
root_message site saved [] m live none = none
root_message site saved (handler ∷ handlers) m live none =
    by_own (λ left after none. root_message site saved handlers left after none) (option_eq same_guid handler.guid None) refl
  where
    by_own : ((left : Message) (after : Live) → left ≡ no_message
        → message_after left (runs_of true site saved (chain_of None handlers) left after) ≡ no_message)
        → (own : Bool) → option_eq same_guid handler.guid None ≡ own
        → message_after m (runs_of true site saved (cond own (handler ∷ chain_of None handlers) (chain_of None handlers)) m live) ≡ no_message
    by_own rest true own =
        let run = invoked site saved handler no_message live in
        rest run.message run.live (no_message_left site saved handler live (has_no_guid handler.guid own))
    by_own rest false own = rest m live none

-- the root handlers leave no message
pub none_left : (core : CoreState) (saved : Saved) (start after : BufferState) → start.message ≡ no_message
    → after ≡ record start { message = message_after start.message (managed core None saved start.message) } → after.message ≡ no_message
unfolding managed
none_left core saved start after none a =
    let handlers = chain_of None core.site.handlers in
    ap (λ b. b.message) a
    ∙ ap (message_after start.message) (through_root (runs_of true core.site saved handlers start.message core.live))
    ∙ root_message core.site saved core.site.handlers start.message core.live none

module _ (core : CoreState) (request : Request) where
  -- after a request's chain there is place for the root chain
  pub root_place : (shape : Shape)
      → length (chain_in core request shape) + length (chain_of None core.site.handlers) ≤ length core.site.handlers
  unfolding chain_in
  root_place shape =
      let handlers = chain_of None core.site.handlers in
      omega (
        arith,
        chain_and_root core.site request core.live core.live shape,
        length-runs_of true core.site request.saved handlers no_message core.live,
      )

  -- the chain leaves what stays
  pub same_site : (shape : Shape) → (after_chain core request shape).site ≡ core.site
  unfolding after_chain
  same_site shape = refl

  -- the outcome of a request, by its parts
  pub outcome_is : (outcome : Outcome) → outcome.shape ≡ shape_of core.site request
      → outcome.status ≡ status_in core request outcome.shape → outcome.reply ≡ reply_in core request outcome.shape
      → outcome.chain ≡ invocations_of (chain_in core request outcome.shape)
      → outcome.root ≡ invocations_of (managed (after_chain core request outcome.shape) None request.saved no_message)
      → outcome ≡ (entry_step core.site core.live request).0
  unfolding entry_step status_in reply_in chain_in managed after_chain
  outcome_is outcome shape status reply chain root =
      let Runs : Shape → List Invoked = λ s. chain_runs core.site request core.live s in
      let Roots : Shape → List Invoked = λ s. root_runs core.site request (live_after core.live (Runs s)) in
      let roots : outcome.root ≡ invocations_of (Roots outcome.shape) = root ∙ ap invocations_of (through_root _) in
      (λ i. record { shape = outcome.shape; status = status i; reply = reply i; chain = chain i; root = roots i })
      ∙ ap (λ (s : Shape). outcome_of request s (Runs s) (Roots s)) shape

  -- the core after both chains
  pub core_is : (between left : CoreState) (shape : Shape) → shape ≡ shape_of core.site request → between ≡ after_chain core request shape
      → left ≡ record between { live = live_after between.live (managed between None request.saved no_message) }
      → left ≡ record core { live = (entry_step core.site core.live request).1 }
  unfolding entry_step chain_in managed after_chain
  core_is between left shape shape_is b l =
      let mid : Live = live_after core.live (chain_runs core.site request core.live (shape_of core.site request)) in
      l
      ∙ ap (λ (c : CoreState). record c { live = live_after c.live (managed c None request.saved no_message) })
      (b ∙ ap (after_chain core request) shape_is)
      ∙ ap (λ (runs : List Invoked). record core { live = live_after mid runs }) (through_root (root_runs core.site request mid))

  -- the core after the step is that of the definition
  pub core_step-left : record core { live = (entry_step core.site core.live request).1 } ≡ (core_step core request).1
  unfolding core_step
  core_step-left = refl

  -- the outcome of the step is that of the entry step
  pub core_step-outcome : (entry_step core.site core.live request).0 ≡ (core_step core request).0
  unfolding core_step
  core_step-outcome = refl
