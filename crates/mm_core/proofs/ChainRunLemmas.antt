-- A chain under way: what is done so far, and what the handlers that are left give, is the whole.
use Rattle.std.proofs.Common.{◌≡◌, ℕ, zero, suc, ◌+◌, ◌≤◌, ◌<◌, Bool, true, false, cond, not, if◌then◌else◌, List, [], ◌∷◌, ◌++◌}
use Rattle.std.proofs.Common.{length, drop, Option, Some, None, slice_get, refl, sym, ap, subst, ◌∙◌, arith, append_assoc, length-append}
use Rattle.std.specs.Option.{option_eq, is_some}
use Rattle.std.proofs.lemmas.List.{append-nil, drop_all}
use Rattle.mm_base.specs.Guid.{same_guid}
use Rattle.mm_base.specs.Room.{RoomState}
use Rattle.mm_base.specs.Statuses.{not_found}
use Rattle.mm_base.specs.declared.cells.Saved.{Saved}
use Rattle.mm_base.specs.declared.guid.Guid.{Guid}
use Rattle.mm_base.specs.declared.handler.Handler.{Handler}
use Rattle.mm_base.specs.declared.handler.HandlerBody.{HandlerBody}
use Rattle.mm_base.specs.declared.handler.HandlerBody.TheVariants.{Version, Stub, Code}
use Rattle.mm_base.specs.declared.invocation.Invocation.{Invocation}
use Rattle.mmi_registry.specs.ChainLaws.{result_from}
use Rattle.mmi_registry.specs.ChainRule.{stops, result_after}
use Rattle.mmi_registry.specs.Handlers.{chain_of}
use Rattle.mm_core.specs.BufferInside.{BufferState}
use Rattle.mm_core.specs.ChainInside.{is_root, IsGiven, managed}
use Rattle.image_table.specs.declared.placed_image.PlacedImage.{PlacedImage}
use Rattle.mm_core.specs.CoreState.{CoreState, Site}
use Rattle.supervisor_calls.specs.Tables.{Live}
use Rattle.mm_core.specs.CodeRun.{code_run, left_by}
use Rattle.mm_core.specs.HandlerChain.{runs_of, through_stop, invocations_of, statuses_of, message_after, live_after}
use Rattle.mm_core.specs.Invoked.{by_body, code_invoked, invoked}
use Rattle.mm_core.specs.Message.{Message, Invoked, no_message, status_of}

-- what the handlers are called with: of which core, which of them, and what there was at the start
pub record Start : Type 0 where
  pub core : CoreState
  pub guid : Option Guid
  pub saved : Saved
  pub buffer : BufferState
  pub made : RoomState Invocation
  pub blanks : ℕ

-- what the code holds on the way: the result so far, what a step may change, the buffer, the invocations that were made, and the blanks
-- that are left
pub record Held : Type 0 where
  pub result : ℕ
  pub live : Live
  pub buffer : BufferState
  pub made : RoomState Invocation
  pub blanks : ℕ

-- what it holds at the start
abbrev pub at_first : Start → Held
at_first start = record { result = not_found; live = start.core.live; buffer = start.buffer; made = start.made; blanks = start.blanks }

-- the handlers of the chain from place k of all on
abbrev rest_of : Start → ℕ → List Handler
rest_of start k = chain_of start.guid (drop k start.core.site.handlers)

-- the runs of these handlers, which are left
abbrev runs_left : Start → List Handler → Message → Live → List Invoked
runs_left start handlers message live =
    through_stop (is_root start.guid) (runs_of (is_root start.guid) start.core.site start.saved handlers message live)

-- the runs that are left at place k, with this message, where a step may change this
unfoldable pub left_with : Start → ℕ → Message → Live → List Invoked
left_with start k message live = runs_left start (rest_of start k) message live

-- the runs that are left at place k, with what the code holds
abbrev pub left_at : Start → ℕ → Held → List Invoked
left_at start k held = left_with start k held.buffer.message held.live

-- all runs of the chain
abbrev whole : Start → List Invoked
whole start = managed start.core start.guid start.saved start.buffer.message

-- what a chain with these runs comes to from a result on
abbrev comes_to : Start → ℕ → List Invoked → ℕ
comes_to start result runs = result_from (is_root start.guid) result (statuses_of runs)

-- the run of a handler, with what the code holds before it
abbrev pub run_at : Start → Held → Handler → Invoked
run_at start held handler = invoked start.core.site start.saved handler held.buffer.message held.live

-- what holds at place k of the handlers
pub record Halfway (start : Start) (k : ℕ) (held : Held) : Type 0 where
  pub given : IsGiven (is_root start.guid) held.buffer.message
  pub result : comes_to start not_found (whole start) ≡ comes_to start held.result (left_at start k held)
  pub message : message_after start.buffer.message (whole start) ≡ message_after held.buffer.message (left_at start k held)
  pub buffer : held.buffer ≡ record start.buffer { message = held.buffer.message }
  pub live : live_after start.core.live (whole start) ≡ live_after held.live (left_at start k held)
  pub invocations : start.made.items ++ invocations_of (whole start)
      ≡ held.made.items ++ invocations_of (left_at start k held)
  pub room : held.made.room ≡ start.made.room
  pub place : length held.made.items + length (rest_of start k) ≤ held.made.room
  pub blanks : held.blanks + length (whole start) ≡ start.blanks + length (left_at start k held)
  pub enough : length (rest_of start k) ≤ held.blanks

-- what holds at the end of the chain
pub record Managed (start : Start) (held : Held) : Type 0 where
  pub result : held.result ≡ comes_to start not_found (whole start)
  pub message : held.buffer ≡ record start.buffer { message = message_after start.buffer.message (whole start) }
  pub live : held.live ≡ live_after start.core.live (whole start)
  pub invocations : held.made ≡ record { items = start.made.items ++ invocations_of (whole start); room = start.made.room }
  pub blanks : held.blanks + length (whole start) ≡ start.blanks

-- the handler at place k, and those after it
drop-slice_get : (handlers : List Handler) (k : ℕ) (handler : Handler) → slice_get handlers k ≡ Some handler
    → drop k handlers ≡ handler ∷ drop (k + 1) handlers
drop-slice_get [] k handler found = absurd (cc)
drop-slice_get (first ∷ handlers) zero handler found = ap (λ h. h ∷ handlers) (cc)
drop-slice_get (first ∷ handlers) (suc k) handler found =
    let e : suc (k + 1) ≡ suc k + 1 = omega arith in
    drop-slice_get handlers k handler found ∙ ap (λ n. handler ∷ drop n (first ∷ handlers)) e

-- a root handler leaves no message, as it was given none
module _ (site : Site) (saved : Saved) (handler : Handler) (live : Live) (root : handler.guid ≡ None) where
  none_of_code : (image address : ℕ) (placed : Option PlacedImage)
      → (code_invoked site saved handler image address placed no_message live).message ≡ no_message
  none_of_code image address None = refl
  none_of_code image address (Some placed) =
      let ran = code_run site saved handler image address placed.region no_message live in
      ap (λ (guid : Option Guid). (left_by (record handler { guid = guid }) placed.region no_message ran).message) root

  none_of_body : (body : HandlerBody) → (by_body site saved handler body no_message live).message ≡ no_message
  none_of_body Version = refl
  none_of_body (Stub status) = refl
  none_of_body (Code image address) = none_of_code image address (slice_get site.supervised.images image)

  pub no_message_left : (invoked site saved handler no_message live).message ≡ no_message
  unfolding invoked
  no_message_left = none_of_body handler.body

-- a handler of the root chain has no GUID
pub has_no_guid : (own : Option Guid) → option_eq same_guid own None ≡ true → own ≡ None
has_no_guid None h = refl
has_no_guid (Some guid) h = absurd (cc)

given_after : (site : Site) (saved : Saved) (handler : Handler) (message : Message) (live : Live) (guid : Option Guid)
    → option_eq same_guid handler.guid guid ≡ true → IsGiven (is_root guid) message
    → IsGiven (is_root guid) (invoked site saved handler message live).message
given_after site saved handler message live (Some guid) own given = refl
given_after site saved handler message live None own given =
    let none : (invoked site saved handler no_message live).message ≡ no_message =
    no_message_left site saved handler live (has_no_guid handler.guid own) in
    sym (ap (λ (m : Message). (invoked site saved handler m live).message) (sym given) ∙ none)

-- no GUID is given where the root handlers are called
pub root_is : (guid : Option Guid) (root : Bool) → is_some guid ≡ not root → root ≡ is_root guid
root_is None true h = refl
root_is None false h = absurd (cc)
root_is (Some guid) true h = absurd (cc)
root_is (Some guid) false h = refl

-- ---- the start and the end

-- at the start all handlers are left
pub at_start : (start : Start) → IsGiven (is_root start.guid) start.buffer.message
    → length start.made.items + length (chain_of start.guid start.core.site.handlers) ≤ start.made.room
    → length (chain_of start.guid start.core.site.handlers) ≤ start.blanks → Halfway start 0 (at_first start)
unfolding left_with managed
at_start start given place enough = record {
  given = given;
  result = refl;
  message = refl;
  buffer = refl;
  live = refl;
  invocations = refl;
  room = refl;
  place = place;
  blanks = refl;
  enough = enough;
}

module _ (start : Start) (k : ℕ) (held : Held) (halfway : Halfway start k held) where
  -- where nothing is left, the chain is done
  done : left_at start k held ≡ [] → Managed start held
  done none =
      let items : start.made.items ++ invocations_of (whole start) ≡ held.made.items =
      halfway.invocations ∙ ap (λ runs. held.made.items ++ invocations_of runs) none ∙ append-nil held.made.items in
      let message : message_after start.buffer.message (whole start) ≡ held.buffer.message =
      halfway.message ∙ ap (message_after held.buffer.message) none in
      record {
        result = sym (halfway.result ∙ ap (comes_to start held.result) none);
        message = halfway.buffer ∙ ap (λ (m : Message). record start.buffer { message = m }) (sym message);
        live = sym (halfway.live ∙ ap (live_after held.live) none);
        invocations = λ i. record { items = sym items i; room = halfway.room i };
        blanks = omega (arith, halfway.blanks, ap length none);
      }

  -- past the last handler the chain is done
  pub at_end : length start.core.site.handlers ≤ k → Managed start held
  unfolding left_with
  at_end past =
      done (ap (λ handlers. runs_left start (chain_of start.guid handlers) held.buffer.message held.live) (drop_all k start.core.site.handlers past))

-- ---- one handler

-- the handler at place k, which is of the chain or not
module _ (start : Start) (k : ℕ) (handler : Handler) (found : slice_get start.core.site.handlers k ≡ Some handler) where
  chosen_at : (own : Bool) → option_eq same_guid handler.guid start.guid ≡ own
      → rest_of start k ≡ cond own (handler ∷ rest_of start (k + 1)) (rest_of start (k + 1))
  chosen_at own e =
      ap (chain_of start.guid) (drop-slice_get start.core.site.handlers k handler found)
      ∙ ap (λ c. cond c (handler ∷ rest_of start (k + 1)) (rest_of start (k + 1))) e

  -- a handler of another chain changes nothing
  passed : option_eq same_guid handler.guid start.guid ≡ false → (held : Held) → Halfway start k held → Halfway start (k + 1) held
  unfolding left_with
  passed other held halfway =
      let same : rest_of start k ≡ rest_of start (k + 1) = chosen_at false other in
      let runs : left_at start k held ≡ left_at start (k + 1) held =
      ap (λ chosen. runs_left start chosen held.buffer.message held.live) same in
      record {
        given = halfway.given;
        result = halfway.result ∙ ap (comes_to start held.result) runs;
        message = halfway.message ∙ ap (message_after held.buffer.message) runs;
        buffer = halfway.buffer;
        live = halfway.live ∙ ap (live_after held.live) runs;
        invocations = halfway.invocations ∙ ap (λ rest. held.made.items ++ invocations_of rest) runs;
        room = halfway.room;
        place = omega (arith, halfway.place, ap length same);
        blanks = omega (arith, halfway.blanks, ap length runs);
        enough = omega (arith, halfway.enough, ap length same);
      }

  -- after a handler that isn't called
  pub goes_past : option_eq same_guid handler.guid start.guid ≡ false → (held after : Held) → Halfway start k held
      → after ≡ held → Halfway start (k + 1) after
  goes_past other held after halfway same = subst (Halfway start (k + 1)) (sym same) (passed other held halfway)

-- what the code holds after a handler of the chain, with these blanks left
abbrev held_after : Start → Held → Handler → ℕ → Held
held_after start held handler blanks =
    let run = run_at start held handler in
    record {
      result = result_after (is_root start.guid) held.result (status_of run.invocation.ended);
      live = run.live;
      buffer = record held.buffer { message = run.message };
      made = record { items = held.made.items ++ run.invocation ∷ []; room = held.made.room };
      blanks = blanks;
    }

module _ (start : Start) (k : ℕ) (handler : Handler) (found : slice_get start.core.site.handlers k ≡ Some handler)
    (own : option_eq same_guid handler.guid start.guid ≡ true) (held : Held) (halfway : Halfway start k held) where
  chosen : rest_of start k ≡ handler ∷ rest_of start (k + 1)
  chosen = chosen_at start k handler found true own

  -- there is place for a handler of the chain
  pub has_place : (length held.made.items < held.made.room) × (0 < held.blanks)
  has_place = (omega (arith, halfway.place, ap length chosen), omega (arith, halfway.enough, ap length chosen))

  -- the runs that are left: its own, and those after it unless it stops the chain
  runs_with : (stopped : Bool) → stops (is_root start.guid) (status_of (run_at start held handler).invocation.ended) ≡ stopped
      → (let run = run_at start held handler in
      left_at start k held ≡ run ∷ (if stopped then [] else left_with start (k + 1) run.message run.live))
  unfolding left_with
  runs_with stopped is =
      let After : Invoked → Bool → List Invoked = λ run stopped.
      run ∷ (if stopped then [] else runs_left start (rest_of start (k + 1)) run.message run.live) in
      let Run : Message → Invoked = λ m. invoked start.core.site start.saved handler m held.live in
      ap (λ handlers. runs_left start handlers held.buffer.message held.live) chosen
      ∙ ap (λ (m : Message). After (Run m) (stops (is_root start.guid) (status_of (Run m).invocation.ended))) halfway.given
      ∙ ap (After (run_at start held handler)) is

  -- a handler of the chain that doesn't stop it
  called : (blanks : ℕ) → blanks + 1 ≡ held.blanks
      → stops (is_root start.guid) (status_of (run_at start held handler).invocation.ended) ≡ false
      → Halfway start (k + 1) (held_after start held handler blanks)
  called blanks fewer goes_on =
      let run = run_at start held handler in
      let rest = left_with start (k + 1) run.message run.live in
      let next = result_after (is_root start.guid) held.result (status_of run.invocation.ended) in
      let runs : left_at start k held ≡ run ∷ rest = runs_with false goes_on in
      record {
        given = given_after start.core.site start.saved handler held.buffer.message held.live start.guid own halfway.given;
        result =
            halfway.result ∙ ap (comes_to start held.result) runs
            ∙ ap (λ (b : Bool). if b then next else comes_to start next rest) goes_on;
        message = halfway.message ∙ ap (message_after held.buffer.message) runs;
        buffer = ap (λ (b : BufferState). record b { message = run.message }) halfway.buffer;
        live = halfway.live ∙ ap (live_after held.live) runs;
        invocations =
            halfway.invocations ∙ ap (λ rest'. held.made.items ++ invocations_of rest') runs
            ∙ sym (append_assoc held.made.items (run.invocation ∷ []) (invocations_of rest));
        room = halfway.room;
        place = omega (arith, halfway.place, ap length chosen, length-append held.made.items (run.invocation ∷ []));
        blanks = omega (arith, halfway.blanks, ap length runs);
        enough = omega (arith, halfway.enough, ap length chosen);
      }

  -- one that stops it
  stopped : (blanks : ℕ) → blanks + 1 ≡ held.blanks
      → stops (is_root start.guid) (status_of (run_at start held handler).invocation.ended) ≡ true
      → Managed start (held_after start held handler blanks)
  stopped blanks fewer stops_here =
      let run = run_at start held handler in
      let next = result_after (is_root start.guid) held.result (status_of run.invocation.ended) in
      let runs : left_at start k held ≡ run ∷ [] = runs_with true stops_here in
      let message : message_after start.buffer.message (whole start) ≡ run.message =
      halfway.message ∙ ap (message_after held.buffer.message) runs in
      let items : start.made.items ++ invocations_of (whole start) ≡ held.made.items ++ run.invocation ∷ [] =
      halfway.invocations ∙ ap (λ rest'. held.made.items ++ invocations_of rest') runs in
      record {
        result = sym (halfway.result ∙ ap (comes_to start held.result) runs ∙ ap (λ (b : Bool). if b then next else next) stops_here);
        message =
            ap (λ (b : BufferState). record b { message = run.message }) halfway.buffer
            ∙ ap (λ (m : Message). record start.buffer { message = m }) (sym message);
        live = sym (halfway.live ∙ ap (live_after held.live) runs);
        invocations = λ i. record { items = sym items i; room = halfway.room i };
        blanks = omega (arith, halfway.blanks, ap length runs);
      }

-- ---- one call, as the code knows it

-- of a handler of the chain at place k: what its run counts as, and what the code holds after it
pub record Call (start : Start) (held : Held) (handler : Handler) (root : Bool) (status : ℕ) (after : Held) : Type 0 where
  pub kind : root ≡ is_root start.guid
  pub status_is : status ≡ status_of (run_at start held handler).invocation.ended
  pub result_is : after.result ≡ result_after root held.result status
  pub live_is : after.live ≡ (run_at start held handler).live
  pub buffer_is : after.buffer ≡ record held.buffer { message = (run_at start held handler).message }
  pub made_is : after.made ≡ record {
    items = held.made.items ++ (run_at start held handler).invocation ∷ [];
    room = held.made.room;
  }
  pub blanks_are : after.blanks + 1 ≡ held.blanks

module _ (start : Start) (held : Held) (handler : Handler) (root : Bool) (status : ℕ) (after : Held)
    (call : Call start held handler root status after) where
  after_is : held_after start held handler after.blanks ≡ after
  after_is =
      let run = run_at start held handler in
      let result : after.result ≡ result_after (is_root start.guid) held.result (status_of run.invocation.ended) =
      call.result_is ∙ ap (λ r. result_after r held.result status) call.kind
      ∙ ap (result_after (is_root start.guid) held.result) call.status_is in
      sym (λ i. record { result = result i; live = call.live_is i; buffer = call.buffer_is i; made = call.made_is i; blanks = after.blanks })

  stops_as : (b : Bool) → stops root status ≡ b → stops (is_root start.guid) (status_of (run_at start held handler).invocation.ended) ≡ b
  stops_as b is = ap (stops (is_root start.guid)) (sym call.status_is) ∙ ap (λ r. stops r status) (sym call.kind) ∙ is

module _ (start : Start) (k : ℕ) (handler : Handler) (found : slice_get start.core.site.handlers k ≡ Some handler)
    (own : option_eq same_guid handler.guid start.guid ≡ true) where
  -- after a call that goes on
  pub goes_on : (held : Held) (root : Bool) (status : ℕ) (after : Held) → Halfway start k held → Call start held handler root status after
      → stops root status ≡ false → Halfway start (k + 1) after
  goes_on held root status after halfway call is =
      subst (Halfway start (k + 1)) (after_is start held handler root status after call)
      (called start k handler found own held halfway after.blanks call.blanks_are
      (stops_as start held handler root status after call false is))

  -- after a call that stops the chain
  pub ends : (held : Held) (root : Bool) (status : ℕ) (after : Held) → Halfway start k held → Call start held handler root status after
      → stops root status ≡ true → Managed start after
  ends held root status after halfway call is =
      subst (Managed start) (after_is start held handler root status after call)
      (stopped start k handler found own held halfway after.blanks call.blanks_are
      (stops_as start held handler root status after call true is))

-- ---- the core under way

-- a core of which a step has changed this is the one at the start with it
pub core_with : (core before after : CoreState) (live : Live) → before ≡ record core { live = before.live }
    → after ≡ record before { live = live } → after ≡ record core { live = live }
core_with core before after live b a = a ∙ ap (λ (c : CoreState). record c { live = live }) b
