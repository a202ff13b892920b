-- Who is dispatched, and which handlers run.
use Rattle.std.proofs.Common.{◌≡◌, ◌≢◌, ◌≤◌, ◌⊎◌, inl, inr, Bool, true, false, if◌then◌else◌, ◌&&◌, ◌==◌, nat_le, ℕ, List, [], ◌∷◌, ◌++◌}
use Rattle.std.proofs.Common.{length, take, Option, Some, None, slice_get, refl, sym, ap, subst, ◌∙◌, arith}
use Rattle.std.specs.List.{All}
use Rattle.std.proofs.lemmas.Bool.Decides.{nat_tests}
use Rattle.std.proofs.lemmas.List.{length-map}
use Rattle.std.proofs.lemmas.List.Elements.{All-nil, All-cons}
use Rattle.mm_base.specs.declared.cells.Saved.{Saved}
use Rattle.mm_base.specs.declared.guid.Guid.{Guid}
use Rattle.mm_base.specs.declared.handler.Handler.{Handler}
use Rattle.mm_base.specs.declared.handler.HandlerBody.{HandlerBody}
use Rattle.mm_base.specs.declared.handler.HandlerBody.TheVariants.{Version, Stub, Code}
use Rattle.image_table.specs.declared.placed_image.PlacedImage.{PlacedImage}
use Rattle.mm_base.specs.declared.invocation.Invocation.{Invocation}
use Rattle.mm_base.specs.declared.entry.Request.{Request}
use Rattle.mm_base.specs.declared.entry.Shape.{Shape}
use Rattle.mm_base.specs.declared.entry.Shape.TheVariants.{Dispatched}
use Rattle.mmi_registry.specs.ChainRule.{stops}
use Rattle.mmi_registry.specs.Handlers.{chain_of}
use Rattle.mm_core.specs.CommunicateHeader.{header_length, is_lawful, header_of}
use Rattle.mm_core.specs.CoreState.{Site}
use Rattle.mm_core.specs.EntryStep.{has_none, shape_of, message_of, chain_runs, entry_step}
use Rattle.mm_core.specs.HandlerChain.{runs_of, through_stop, invocations_of, live_after}
use Rattle.mm_core.specs.Invoked.{by_body, code_invoked, invoked}
use Rattle.mm_core.specs.Message.{Message, Invoked, no_message, status_of}
use Rattle.mm_core.specs.Laws.{IsAddressed, DispatchedExactly, RootAlwaysRuns, ChainRunsInOrder, numbers_of, invoked_numbers}
use Rattle.mm_core.specs.Laws.{Stops, GoesOn, RunInOrder}
use Rattle.mm_core.specs.MachineLemmas.{is_addressed, shape_by, length-runs_of}
use Rattle.supervisor_calls.specs.Tables.{Live}

-- ---- who is dispatched

has_none-some : (handlers : List Handler) → handlers ≢ [] → has_none handlers ≡ false
has_none-some [] h = absurd (h refl)
has_none-some (handler ∷ handlers) h = refl

dispatched_by : (lawful fits none : Bool) (named guid : Guid) → lawful ≡ true → fits ≡ true → none ≡ false → named ≡ guid
    → shape_by lawful fits none named ≡ Dispatched guid
dispatched_by false fits none named guid l f n same = absurd (cc)
dispatched_by true false none named guid l f n same = absurd (cc)
dispatched_by true true true named guid l f n same = absurd (cc)
dispatched_by true true false named guid l f n same = ap Dispatched same

lawful_as : (least length bytes : ℕ) → least ≤ length → bytes ≡ length → (nat_le least length && (bytes == length)) ≡ true
lawful_as least length bytes least_is same = grind (arith, nat_tests)

dispatched : (site : Site) (request : Request) (guid : Guid) → IsAddressed site request guid → shape_of site request ≡ Dispatched guid
dispatched site request guid a =
    let Unheard : Guid → Type 0 = λ g. has_none (chain_of (Some g) site.handlers) ≡ false in
    let lawful : is_lawful request ≡ true = lawful_as header_length request.length (length request.bytes) a.header a.whole in
    dispatched_by (is_lawful request) (header_of request).fits _ (header_of request).guid guid lawful a.fits
    (subst Unheard (sym a.named) (has_none-some _ a.registered)) a.named

pub dispatched_exactly : DispatchedExactly
unfolding entry_step
dispatched_exactly site live request guid = (is_addressed site request guid, dispatched site request guid)

-- ---- which handlers run

-- an invocation is told by its handler's number
number_of_code : (site : Site) (saved : Saved) (handler : Handler) (image address : ℕ) (found : Option PlacedImage) (message : Message) (live : Live)
    → (code_invoked site saved handler image address found message live).invocation.handler ≡ handler.number
number_of_code site saved handler image address None message live = refl
number_of_code site saved handler image address (Some placed) message live = refl

number_of_body : (site : Site) (saved : Saved) (handler : Handler) (body : HandlerBody) (message : Message) (live : Live)
    → (by_body site saved handler body message live).invocation.handler ≡ handler.number
number_of_body site saved handler Version message live = refl
number_of_body site saved handler (Stub status) message live = refl
number_of_body site saved handler (Code image address) message live =
    number_of_code site saved handler image address (slice_get site.supervised.images image) message live

number_of_run : (site : Site) (saved : Saved) (handler : Handler) (message : Message) (live : Live)
    → (invoked site saved handler message live).invocation.handler ≡ handler.number
unfolding invoked
number_of_run site saved handler message live = number_of_body site saved handler handler.body message live

-- each handler runs, in order
module _ (root : Bool) (site : Site) (saved : Saved) where
  numbers_of_runs : (handlers : List Handler) (message : Message) (live : Live)
      → invoked_numbers (invocations_of (runs_of root site saved handlers message live)) ≡ numbers_of handlers
  numbers_of_runs [] message live = refl
  numbers_of_runs (handler ∷ handlers) message live =
      let run = invoked site saved handler (if root then no_message else message) live in
      let number : run.invocation.handler ≡ handler.number =
      number_of_run site saved handler (if root then no_message else message) live in
      λ i. number i ∷ numbers_of_runs handlers run.message run.live i

pub root_always_runs : RootAlwaysRuns
unfolding entry_step
root_always_runs site live request =
    let shape = shape_of site request in
    numbers_of_runs true site request.saved (chain_of None site.handlers) no_message (live_after live (chain_runs site request live shape))

-- these invocations are how those of all runs begin, up to the first that stops the chain
record Begins (all ran : List Invocation) : Type 0 where
  earlier : List Invocation
  last : Invocation
  some : ran ≡ earlier ++ last ∷ []
  order : take (length ran) (invoked_numbers all) ≡ invoked_numbers ran
  goes_on : All GoesOn earlier
  ends : Stops last ⊎ (length ran ≡ length all)

-- the first run stops the chain
begins_stopped : (first : Invocation) (others : List Invocation) → Stops first → Begins (first ∷ others) (first ∷ [])
begins_stopped first others stops_here =
    record { earlier = []; last = first; some = refl; order = refl; goes_on = All-nil GoesOn; ends = inl stops_here }

-- it doesn't, and is the only one
begins_alone : (first : Invocation) → Begins (first ∷ []) (first ∷ [])
begins_alone first = record { earlier = []; last = first; some = refl; order = refl; goes_on = All-nil GoesOn; ends = inr refl }

-- it doesn't, and others come after it
begins_more : (first : Invocation) (all ran : List Invocation) → GoesOn first → Begins all ran → Begins (first ∷ all) (first ∷ ran)
begins_more first all ran on begins = record {
  earlier = first ∷ begins.earlier;
  last = begins.last;
  some = ap (λ (is : List Invocation). first ∷ is) begins.some;
  order = ap (λ (ns : List ℕ). first.handler ∷ ns) begins.order;
  goes_on = All-cons GoesOn first begins.earlier on begins.goes_on;
  ends = elim begins.ends [ inl stops_here ↦ inl stops_here | inr whole ↦ inr (omega (arith, whole)) ];
}

-- a chain that isn't empty begins so
begins : (run : Invoked) (runs : List Invoked) → Begins (invocations_of (run ∷ runs)) (invocations_of (through_stop false (run ∷ runs)))
begins run [] =
    elim (stops false (status_of run.invocation.ended)) as (λ b. stops false (status_of run.invocation.ended) ≡ b
    → Begins (invocations_of (run ∷ [])) (invocations_of (run ∷ (if b then [] else [])))) [
      | true ↦ λ stops_here. begins_stopped run.invocation [] stops_here
      | false ↦ λ on. begins_alone run.invocation
    ] refl
begins run (next ∷ others) =
    let rest = through_stop false (next ∷ others) in
    elim (stops false (status_of run.invocation.ended)) as (λ b. stops false (status_of run.invocation.ended) ≡ b
    → Begins (invocations_of (run ∷ next ∷ others)) (invocations_of (run ∷ (if b then [] else rest)))) [
      | true ↦ λ stops_here. begins_stopped run.invocation (invocations_of (next ∷ others)) stops_here
      | false ↦ λ on. begins_more run.invocation (invocations_of (next ∷ others)) (invocations_of rest) on (begins next others)
    ] refl

chain_begins : (all : List Invoked) → all ≢ [] → Begins (invocations_of all) (invocations_of (through_stop false all))
chain_begins [] some = absurd (some refl)
chain_begins (run ∷ runs) some = begins run runs

-- of runs of a chain's handlers
in_order : (handlers : List Handler) (all ran : List Invocation) → invoked_numbers all ≡ numbers_of handlers → length all ≡ length handlers
    → Begins all ran → RunInOrder handlers ran
in_order handlers all ran numbers long begins = record {
  earlier = begins.earlier;
  last = begins.last;
  some = begins.some;
  order = ap (take (length ran)) (sym numbers) ∙ begins.order;
  goes_on = begins.goes_on;
  ends = elim begins.ends [ inl stops_here ↦ inl stops_here | inr whole ↦ inr (whole ∙ long) ];
}

module _ (site : Site) (live : Live) (request : Request) (guid : Guid) where
  chain_in_order : chain_of (Some guid) site.handlers ≢ []
      → RunInOrder (chain_of (Some guid) site.handlers) (invocations_of (chain_runs site request live (Dispatched guid)))
  chain_in_order registered =
      let handlers = chain_of (Some guid) site.handlers in
      let all = runs_of false site request.saved handlers (message_of request) live in
      let long : length all ≡ length handlers = length-runs_of false site request.saved handlers (message_of request) live in
      in_order handlers (invocations_of all) _ (numbers_of_runs false site request.saved handlers (message_of request) live)
      (length-map all _ ∙ long) (chain_begins all (runs_there handlers all long registered))
    where
      runs_there : (handlers : List Handler) (all : List Invoked) → length all ≡ length handlers → handlers ≢ [] → all ≢ []
      runs_there [] all long some none = some refl
      runs_there (handler ∷ handlers) all long some none = absurd (omega (arith, long, ap length none))

pub chain_runs_in_order : ChainRunsInOrder
unfolding entry_step
chain_runs_in_order site live request guid h =
    let InOrder : Shape → Type 0 = λ shape.
    RunInOrder (chain_of (Some guid) site.handlers) (invocations_of (chain_runs site request live shape)) in
    subst InOrder (sym h) (chain_in_order site live request guid (is_addressed site request guid h).registered)
