-- One entry for a closed group: from two states that agree after erasing, with two requests that agree after projecting, it gets one share.
use Rattle.std.proofs.Common.{◌≡◌, inl, inr, ℕ, zero, suc, ◌≤◌, Bool, true, false, cond, find, if◌then◌else◌, ◌==◌, ◌&&◌, not, List}
use Rattle.std.proofs.Common.{[], ◌∷◌, ◌++◌, map, min, take, Option, Some, None, refl, sym, ap, ◌∙◌, arith}
use Rattle.std.specs.List.{All, list_all}
use Rattle.std.proofs.lemmas.Bool.Decides.{nat_tests}
use Rattle.std.proofs.lemmas.List.Elements.{All-filter}
use Rattle.std.specs.Option.{option_eq, unwrap_or}
use Rattle.image_groups.specs.Erasing.{projected_registers}
use Rattle.image_groups.specs.Groups.{AreAlike, Group, is_handler_of}
use Rattle.image_groups.specs.Laws.{Facts}
use Rattle.mm_base.specs.Guid.{same_guid}
use Rattle.mm_base.specs.Statuses.{not_found, success}
use Rattle.mm_base.specs.declared.cells.Saved.{Saved}
use Rattle.mm_base.specs.declared.entry.Request.{Request}
use Rattle.mm_base.specs.declared.entry.Shape.{Shape}
use Rattle.mm_base.specs.declared.entry.Shape.TheVariants.{BadLength, BadHeader, NoHandler, Dispatched}
use Rattle.mm_base.specs.declared.guid.Guid.{Guid}
use Rattle.mm_base.specs.declared.handler.Handler.{Handler}
use Rattle.mm_core.specs.CommunicateHeader.{header_bytes, header_of, is_lawful}
use Rattle.mm_core.specs.CoreState.{Site}
use Rattle.mm_core.specs.EntryStep.{chain_runs, entry_step, has_none, message_of, reply_as, root_runs, shape_of, status_as}
use Rattle.mm_core.specs.HandlerChain.{invocations_of, live_after}
use Rattle.mm_core.specs.Message.{Invoked, Message, no_message}
use Rattle.mmi_registry.specs.ChainLaws.{best_of}
use Rattle.mmi_registry.specs.ChainRule.{is_final}
use Rattle.mmi_registry.specs.Handlers.{chain_of, handler_at}
use Rattle.supervisor_calls.specs.Laws.{IsSite}
use Rattle.supervisor_calls.specs.Tables.{Live}
use Rattle.mm_groups.specs.ChainLaws.{erased_run}
use Rattle.mm_groups.specs.Share.{Answer, is_addressed, is_served_by, own_invocations, projected, share_of}
use Rattle.mm_groups.proofs.ChainLemmas.{AreFound, AreOthers, AreOwn, RootsAlike, chain_ready, chain_same, invocations_same, live_same, message_same}
use Rattle.mm_groups.proofs.ChainLemmas.{none_own, others_left, roots_alike, runs_ready, statuses_same}
use Rattle.mm_groups.proofs.HandlerRunLemmas.{IsReady, erased}

-- ---- all of some handlers

own_from : (test : Handler → Bool) (handlers : List Handler) → list_all test handlers ≡ true → All (λ h. test h ≡ true) handlers
own_from test [] all k d less = absurd (omega (arith, less))
own_from test (first ∷ handlers) all zero d less = by_first (test first) all
  where
    by_first : (b : Bool) → (b && list_all test handlers) ≡ true → b ≡ true
    by_first true e = refl
    by_first false e = absurd cc
own_from test (first ∷ handlers) all (suc k) d less = own_from test handlers (by_first (test first) all) k d (omega (arith, less))
  where
    by_first : (b : Bool) → (b && list_all test handlers) ≡ true → list_all test handlers ≡ true
    by_first true e = e
    by_first false e = absurd cc

all_from : (test : Handler → Bool) (handlers : List Handler) → All (λ h. test h ≡ true) handlers → list_all test handlers ≡ true
all_from test [] each = refl
all_from test (first ∷ handlers) each =
    ap (λ (b : Bool). b && list_all test handlers) (each 0 first (omega arith))
    ∙ all_from test handlers (λ k d less. each (suc k) d (omega (arith, less)))

module _ (group : Group) (site : Site) (placed : IsSite site.supervised) (facts : Facts group site.supervised)
    (alike : (guid : Guid) → AreAlike group site.handlers guid) (founds : AreFound group site placed facts site.handlers) where
  abbrev left : Live → Live
  left = erased group site placed facts

  abbrev left_run : Invoked → Invoked
  left_run = erased_run group site

  abbrev Ready : Live → Type 0
  Ready = IsReady group site placed facts

  abbrev seen : Saved → Saved
  seen saved = projected_registers group site.supervised saved

  -- the handlers of a GUID are all the group's, or none is
  pub owners : (guid : Guid) (b : Bool) → is_served_by group site guid ≡ b
      → cond b (AreOwn group site placed facts (chain_of (Some guid) site.handlers))
      (AreOthers group site placed facts (chain_of (Some guid) site.handlers))
  owners guid true is = own_from (is_handler_of group) (chain_of (Some guid) site.handlers) is
  owners guid false is = by_case (alike guid)
    where
      by_case : AreAlike group site.handlers guid → AreOthers group site placed facts (chain_of (Some guid) site.handlers)
      by_case (inl all) =
          let e : true ≡ false = sym (all_from (is_handler_of group) (chain_of (Some guid) site.handlers) all) ∙ is in
          absurd cc
      by_case (inr none) = none

  pub chain_founds : (guid : Option Guid) → AreFound group site placed facts (chain_of guid site.handlers)
  chain_founds guid = All-filter (λ h. option_eq same_guid h.guid guid) (λ h. handler_at h.number site.handlers ≡ Some h) site.handlers founds

  abbrev chain : Request → Live → List Invoked
  chain request live = chain_runs site request live (shape_of site request)

  -- ---- a request that isn't addressed to the group

  chain_none : (request : Request) (live : Live) (shape : Shape) → Ready live → is_addressed group site shape ≡ false
      → (own_invocations group site (invocations_of (chain_runs site request live shape)) ≡ [])
      × (left (live_after live (chain_runs site request live shape)) ≡ left live)
  chain_none request live BadLength ready no_one = (refl, refl)
  chain_none request live BadHeader ready no_one = (refl, refl)
  chain_none request live (NoHandler guid) ready no_one = (refl, refl)
  chain_none request live (Dispatched guid) ready no_one = (
    none_own group site placed facts false request.saved (chain_of (Some guid) site.handlers) (message_of request) live ready
        (owners guid false no_one) (chain_founds (Some guid)),
    others_left group site placed facts false request.saved (chain_of (Some guid) site.handlers) (message_of request) live ready
        (owners guid false no_one),
  )

  chain_stays_ready : (request : Request) (live : Live) (shape : Shape) → Ready live → Ready (live_after live (chain_runs site request live shape))
  chain_stays_ready request live BadLength ready = ready
  chain_stays_ready request live BadHeader ready = ready
  chain_stays_ready request live (NoHandler guid) ready = ready
  chain_stays_ready request live (Dispatched guid) ready =
      chain_ready group site placed facts false request.saved (chain_of (Some guid) site.handlers) (message_of request) live ready

  -- ---- a request that is

  -- what a group may learn of it
  abbrev told : Request → Request
  told request = record { lane = request.lane; length = request.length; bytes = request.bytes; saved = seen request.saved }

  chain_told : (request : Request) (live : Live) (shape : Shape) → Ready live → is_addressed group site shape ≡ true
      → chain_runs site (told request) (left live) shape ≡ map left_run (chain_runs site request live shape)
  chain_told request live BadLength ready is = absurd cc
  chain_told request live BadHeader ready is = absurd cc
  chain_told request live (NoHandler guid) ready is = absurd cc
  chain_told request live (Dispatched guid) ready is =
      chain_same group site placed facts request.saved (chain_of (Some guid) site.handlers) (message_of request) live ready (owners guid true is)

  status_same : (shape : Shape) (runs : List Invoked) → status_as (map left_run runs) shape ≡ status_as runs shape
  status_same BadLength runs = refl
  status_same BadHeader runs = refl
  status_same (NoHandler guid) runs = refl
  status_same (Dispatched guid) runs =
      ap (λ (statuses : List ℕ). if unwrap_or (find is_final statuses) (best_of statuses) == success then success else not_found)
      (statuses_same group site placed facts runs)

  reply_same : (request : Request) (shape : Shape) (runs : List Invoked) → reply_as request (map left_run runs) shape ≡ reply_as request runs shape
  reply_same request BadLength runs = refl
  reply_same request BadHeader runs = refl
  reply_same request (NoHandler guid) runs = refl
  reply_same request (Dispatched guid) runs =
      ap (λ (m : Message). header_bytes request ++ take (min m.size (header_of request).size) m.buffer)
      (message_same group site placed facts (message_of request) runs)

  -- a request that is addressed to a group has at least a header
  addressed_long : (request : Request) → is_addressed group site (shape_of site request) ≡ true → 24 ≤ request.length
  addressed_long request is = by_law (is_lawful request) refl is
    where
      rest : Shape
      rest =
          if not (header_of request).fits then BadHeader
          else if has_none (chain_of (Some (header_of request).guid) site.handlers) then NoHandler (header_of request).guid
          else Dispatched (header_of request).guid

      by_law : (b : Bool) → is_lawful request ≡ b → is_addressed group site (if not b then BadLength else rest) ≡ true → 24 ≤ request.length
      by_law true lawful is = grind (arith, nat_tests, lawful)
      by_law false lawful is = absurd cc

  -- ---- shares

  pub answer_of : Request → List Invoked → Option Answer
  answer_of request runs =
      let shape = shape_of site request in
      if is_addressed group site shape
      then Some (record { shape = shape; status = status_as runs shape; reply = reply_as request runs shape }) else None

  pub record SharesAlike (request asked : Request) (live other : Live) : Type 0 where
    pub answer : answer_of request (chain request live) ≡ answer_of asked (chain asked other)
    pub own : own_invocations group site (invocations_of (chain request live)) ≡ own_invocations group site (invocations_of (chain asked other))
    pub states : left (live_after live (chain request live)) ≡ left (live_after other (chain asked other))
    pub registers : seen request.saved ≡ seen asked.saved

  module _ (request asked : Request) (live other : Live) (ready : Ready live) (prepared : Ready other) (same : left live ≡ left other) where
    both_told : is_addressed group site (shape_of site request) ≡ true → is_addressed group site (shape_of site asked) ≡ true
        → told request ≡ told asked
        → SharesAlike request asked live other
    unfolding answer_of
    both_told first second is =
        let here = chain_told request live (shape_of site request) ready first in
        let there = chain_told asked other (shape_of site asked) prepared second in
        let runs : map left_run (chain request live) ≡ map left_run (chain asked other) =
        sym here ∙ (λ i. chain_runs site (is i) (same i) (shape_of site (is i))) ∙ there in
        let answer : (r : Request) (runs : List Invoked) → Option Answer = λ r runs. answer_of r runs in
        record {
          answer = answer_told request (chain request live) ∙ (λ i. answer_of (is i) (runs i)) ∙ sym (answer_told asked (chain asked other));
          own =
              ap (own_invocations group site)
              (sym (invocations_same group site placed facts (chain request live)) ∙ ap invocations_of runs
              ∙ invocations_same group site placed facts (chain asked other));
          states =
              sym (live_same group site placed facts live (chain request live)) ∙ (λ i. live_after (same i) (runs i))
              ∙ live_same group site placed facts other (chain asked other);
          registers = ap (λ (r : Request). r.saved) is;
        }
      where
        answer_told : (r : Request) (runs : List Invoked) → answer_of r runs ≡ answer_of (told r) (map left_run runs)
        answer_told r runs = λ i.
            if is_addressed group site (shape_of site r)
            then Some (record {
              shape = shape_of site r;
              status = sym (status_same (shape_of site r) runs) i;
              reply = sym (reply_same r (shape_of site r) runs) i;
            }) else None

    none_told : is_addressed group site (shape_of site request) ≡ false → is_addressed group site (shape_of site asked) ≡ false
        → seen request.saved ≡ seen asked.saved → SharesAlike request asked live other
    unfolding answer_of
    none_told first second registers =
        let here = chain_none request live (shape_of site request) ready first in
        let there = chain_none asked other (shape_of site asked) prepared second in
        record {
          answer = none request (chain request live) first ∙ sym (none asked (chain asked other) second);
          own = here.0 ∙ sym there.0;
          states = here.1 ∙ same ∙ sym there.1;
          registers = registers;
        }
      where
        none : (r : Request) (runs : List Invoked) → is_addressed group site (shape_of site r) ≡ false → answer_of r runs ≡ None
        none r runs is =
            ap (λ (b : Bool). if b then Some
            (record { shape = shape_of site r; status = status_as runs (shape_of site r); reply = reply_as r runs (shape_of site r) }) else None) is

    abbrev left_of : Bool → Request → Request
    left_of b r = if b then told r else record { lane = 0; length = 0; bytes = []; saved = seen r.saved }

    by_address : (b c : Bool) → is_addressed group site (shape_of site request) ≡ b → is_addressed group site (shape_of site asked) ≡ c
        → left_of b request ≡ left_of c asked → SharesAlike request asked live other
    by_address true true first second is = both_told first second is
    by_address true false first second is =
        let none : request.length ≡ 0 = ap (λ (r : Request). r.length) is in
        absurd (omega (arith, none, addressed_long request first))
    by_address false true first second is =
        let none : 0 ≡ asked.length = ap (λ (r : Request). r.length) is in
        absurd (omega (arith, none, addressed_long asked second))
    by_address false false first second is = none_told first second (ap (λ (r : Request). r.saved) is)

    chains_alike : projected group site request ≡ projected group site asked → SharesAlike request asked live other
    chains_alike is =
        by_address (is_addressed group site (shape_of site request)) (is_addressed group site (shape_of site asked)) refl refl is

    roots : (alike : SharesAlike request asked live other)
        → RootsAlike group site placed facts (root_runs site request (live_after live (chain request live)))
        (root_runs site asked (live_after other (chain asked other)))
        (live_after live (chain request live)) (live_after other (chain asked other))
    roots alike =
        roots_alike group site placed facts request.saved asked.saved alike.registers (chain_of None site.handlers) no_message no_message
        (live_after live (chain request live)) (live_after other (chain asked other))
        (chain_stays_ready request live (shape_of site request) ready) (chain_stays_ready asked other (shape_of site asked) prepared)
        alike.states (chain_founds None)

    pub share_alike : projected group site request ≡ projected group site asked
        → share_of group site (entry_step site live request).0 ≡ share_of group site (entry_step site other asked).0
    unfolding entry_step answer_of
    share_alike is =
        let alike = chains_alike is in
        let later = roots alike in
        λ i. record { answer = alike.answer i; chain = alike.own i; root = later.own i }

    pub states_alike : projected group site request ≡ projected group site asked
        → left (entry_step site live request).1 ≡ left (entry_step site other asked).1
    unfolding entry_step
    states_alike is = (roots (chains_alike is)).states

  pub step_ready : (request : Request) (live : Live) → Ready live → Ready (entry_step site live request).1
  unfolding entry_step
  step_ready request live ready =
      runs_ready group site placed facts true request.saved (chain_of None site.handlers) no_message (live_after live (chain request live))
      (chain_stays_ready request live (shape_of site request) ready)
