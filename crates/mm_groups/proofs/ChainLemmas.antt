-- Chains of handlers of a closed group and of others, and the root pass, whose handlers are mixed.
use Rattle.std.proofs.Common.{◌≡◌, ℕ, zero, suc, ◌<◌, Bool, true, false, cond, if◌then◌else◌, ◌==◌, List, [], ◌∷◌, map, find}
use Rattle.std.proofs.Common.{Option, Some, refl, sym, ap, ◌∙◌, arith}
use Rattle.std.specs.List.{All, AllPairs, slice_index_or}
use Rattle.std.specs.Option.{option_map_or}
use Rattle.std.proofs.lemmas.Bool.Decides.{nat_tests}
use Rattle.std.proofs.lemmas.List.Elements.{All-head, All-tail}
use Rattle.image_groups.specs.Erasing.{projected_registers}
use Rattle.image_groups.specs.Groups.{Group, is_handler_of}
use Rattle.image_groups.specs.Laws.{Facts}
use Rattle.mm_base.specs.declared.cells.Saved.{Saved}
use Rattle.mm_base.specs.declared.handler.Handler.{Handler}
use Rattle.mm_base.specs.declared.invocation.Invocation.{Invocation}
use Rattle.mm_core.specs.CoreState.{Site}
use Rattle.mm_core.specs.HandlerChain.{invocations_of, live_after, message_after, runs_of, statuses_of, through_stop}
use Rattle.mm_core.specs.Invoked.{invoked}
use Rattle.mm_core.specs.Message.{Invoked, Message, no_message, status_of}
use Rattle.mmi_registry.specs.ChainRule.{stops}
use Rattle.mmi_registry.specs.Handlers.{handler_at}
use Rattle.supervisor_calls.specs.Laws.{IsSite}
use Rattle.supervisor_calls.specs.Tables.{Live}
use Rattle.mm_groups.specs.ChainLaws.{erased_run}
use Rattle.mm_groups.specs.Share.{is_of_group, own_invocations}
use Rattle.mm_groups.proofs.HandlerRunLemmas.{IsReady, erased, handler_left, handler_named, handler_ready, handler_same}

-- ---- handlers by their numbers

same_number : (n : ℕ) → (n == n) ≡ true
same_number n = grind (arith, nat_tests)

other_number : (a b : ℕ) → a < b → (a == b) ≡ false
other_number a b less = grind (arith, nat_tests)

-- where numbers rise, each handler is found by its number
pub found : (handlers : List Handler) → AllPairs (λ earlier later. earlier.number < later.number) handlers
    → All (λ handler. handler_at handler.number handlers ≡ Some handler) handlers
found [] rising k d less = absurd (omega (arith, less))
found (first ∷ handlers) rising zero d less =
    ap (λ (b : Bool). cond b (Some first) (find (λ h. h.number == first.number) handlers)) (same_number first.number)
found (first ∷ handlers) rising (suc k) d less =
    let other : Handler = slice_index_or handlers k d in
    let below : first.number < other.number = rising 0 (suc k) d (omega arith) less in
    ap (λ (b : Bool). cond b (Some first) (handler_at other.number handlers)) (other_number first.number other.number below)
    ∙ found handlers (λ i j d before within. rising (suc i) (suc j) d (omega (arith, before)) (omega (arith, within))) k d (omega (arith, less))

module _ (group : Group) (site : Site) (placed : IsSite site.supervised) (facts : Facts group site.supervised) where
  abbrev left : Live → Live
  left = erased group site placed facts

  abbrev left_run : Invoked → Invoked
  left_run = erased_run group site

  abbrev Ready : Live → Type 0
  Ready = IsReady group site placed facts

  abbrev seen : Saved → Saved
  seen saved = projected_registers group site.supervised saved

  abbrev pub AreFound : List Handler → Type 0
  AreFound handlers = All (λ handler. handler_at handler.number site.handlers ≡ Some handler) handlers

  abbrev pub AreOwn : List Handler → Type 0
  AreOwn handlers = All (λ handler. is_handler_of group handler ≡ true) handlers

  abbrev pub AreOthers : List Handler → Type 0
  AreOthers handlers = All (λ handler. is_handler_of group handler ≡ false) handlers

  -- ---- runs that are erased

  stop_same : (root : Bool) (runs : List Invoked) → through_stop root (map left_run runs) ≡ map left_run (through_stop root runs)
  stop_same root [] = refl
  stop_same root (run ∷ runs) = by_stop (stops root (status_of run.invocation.ended)) (through_stop root (map left_run runs)) (stop_same root runs)
    where
      by_stop : (b : Bool) (rest : List Invoked) → rest ≡ map left_run (through_stop root runs)
          → (left_run run ∷ (if b then [] else rest)) ≡ map left_run (run ∷ (if b then [] else through_stop root runs))
      by_stop true rest is = refl
      by_stop false rest is = ap (λ (r : List Invoked). left_run run ∷ r) is

  pub invocations_same : (runs : List Invoked) → invocations_of (map left_run runs) ≡ invocations_of runs
  invocations_same [] = refl
  invocations_same (run ∷ runs) = ap (λ (rest : List Invocation). run.invocation ∷ rest) (invocations_same runs)

  pub statuses_same : (runs : List Invoked) → statuses_of (map left_run runs) ≡ statuses_of runs
  statuses_same [] = refl
  statuses_same (run ∷ runs) = ap (λ (rest : List ℕ). status_of run.invocation.ended ∷ rest) (statuses_same runs)

  pub message_same : (message : Message) (runs : List Invoked) → message_after message (map left_run runs) ≡ message_after message runs
  message_same message [] = refl
  message_same message (run ∷ runs) = message_same run.message runs

  pub live_same : (live : Live) (runs : List Invoked) → live_after (left live) (map left_run runs) ≡ left (live_after live runs)
  live_same live [] = refl
  live_same live (run ∷ runs) = live_same run.live runs

  -- ---- a chain of the group's handlers

  runs_same : (saved : Saved) (handlers : List Handler) (message : Message) (live : Live) → Ready live → AreOwn handlers
      → runs_of false site (seen saved) handlers message (left live) ≡ map left_run (runs_of false site saved handlers message live)
  runs_same saved [] message live ready own = refl
  runs_same saved (handler ∷ handlers) message live ready own =
      let run : Invoked = invoked site saved handler message live in
      let same : invoked site (seen saved) handler message (left live) ≡ left_run run =
      handler_same group site placed facts saved handler message live ready (All-head (λ h. is_handler_of group h ≡ true) handler handlers own) in
      ap (λ (r : Invoked). r ∷ runs_of false site (seen saved) handlers r.message r.live) same
      ∙ ap (λ (rest : List Invoked). left_run run ∷ rest)
      (runs_same saved handlers run.message run.live (handler_ready group site placed facts saved handler message live ready)
      (All-tail (λ h. is_handler_of group h ≡ true) handler handlers own))

  pub chain_same : (saved : Saved) (handlers : List Handler) (message : Message) (live : Live) → Ready live → AreOwn handlers
      → through_stop false (runs_of false site (seen saved) handlers message (left live))
      ≡ map left_run (through_stop false (runs_of false site saved handlers message live))
  chain_same saved handlers message live ready own =
      ap (through_stop false) (runs_same saved handlers message live ready own) ∙ stop_same false (runs_of false site saved handlers message live)

  -- ---- runs of others

  -- an invocation is the group's exactly where its handler is
  named : (handler : Handler) (invocation : Invocation) → invocation.handler ≡ handler.number → handler_at handler.number site.handlers ≡ Some handler
      → is_of_group group site.handlers invocation ≡ is_handler_of group handler
  named handler invocation same is =
      ap (λ (n : ℕ). option_map_or (is_handler_of group) (handler_at n site.handlers) false) same
      ∙ ap (λ (found : Option Handler). option_map_or (is_handler_of group) found false) is

  pub others_left : (root : Bool) (saved : Saved) (handlers : List Handler) (message : Message) (live : Live) → Ready live → AreOthers handlers
      → left (live_after live (through_stop root (runs_of root site saved handlers message live))) ≡ left live
  others_left root saved [] message live ready others = refl
  others_left root saved (handler ∷ handlers) message live ready others =
      by_stop (stops root (status_of run.invocation.ended))
      (others_left root saved handlers run.message run.live (handler_ready group site placed facts saved handler given live ready)
      (All-tail (λ h. is_handler_of group h ≡ false) handler handlers others))
      (handler_left group site placed facts saved handler given live ready (All-head (λ h. is_handler_of group h ≡ false) handler handlers others))
    where
      given : Message
      given = if root then no_message else message

      run : Invoked
      run = invoked site saved handler given live

      by_stop : (b : Bool)
          → left (live_after run.live (through_stop root (runs_of root site saved handlers run.message run.live))) ≡ left run.live
          → left run.live ≡ left live
          → left (live_after run.live (if b then [] else through_stop root (runs_of root site saved handlers run.message run.live))) ≡ left live
      by_stop true rest first = first
      by_stop false rest first = rest ∙ first

  pub none_own : (root : Bool) (saved : Saved) (handlers : List Handler) (message : Message) (live : Live) → Ready live → AreOthers handlers
      → AreFound handlers
      → own_invocations group site (invocations_of (through_stop root (runs_of root site saved handlers message live))) ≡ []
  none_own root saved [] message live ready others founds = refl
  none_own root saved (handler ∷ handlers) message live ready others founds =
      ap (λ (b : Bool). cond b (run.invocation ∷ own_invocations group site (invocations_of rest)) (own_invocations group site (invocations_of rest)))
      (named handler run.invocation (handler_named group site placed facts saved handler given live ready)
      (All-head (λ h. handler_at h.number site.handlers ≡ Some h) handler handlers founds)
      ∙ All-head (λ h. is_handler_of group h ≡ false) handler handlers others)
      ∙ by_stop (stops root (status_of run.invocation.ended))
      (none_own root saved handlers run.message run.live (handler_ready group site placed facts saved handler given live ready)
      (All-tail (λ h. is_handler_of group h ≡ false) handler handlers others)
      (All-tail (λ h. handler_at h.number site.handlers ≡ Some h) handler handlers founds))
    where
      given : Message
      given = if root then no_message else message

      run : Invoked
      run = invoked site saved handler given live

      rest : List Invoked
      rest = if stops root (status_of run.invocation.ended) then [] else through_stop root (runs_of root site saved handlers run.message run.live)

      by_stop : (b : Bool)
          → own_invocations group site (invocations_of (through_stop root (runs_of root site saved handlers run.message run.live))) ≡ []
          → own_invocations group site (invocations_of (if b then [] else through_stop root (runs_of root site saved handlers run.message run.live)))
          ≡ []
      by_stop true none = refl
      by_stop false none = none

  pub chain_ready : (root : Bool) (saved : Saved) (handlers : List Handler) (message : Message) (live : Live) → Ready live
      → Ready (live_after live (through_stop root (runs_of root site saved handlers message live)))
  chain_ready root saved [] message live ready = ready
  chain_ready root saved (handler ∷ handlers) message live ready =
      by_stop (stops root (status_of run.invocation.ended))
      (chain_ready root saved handlers run.message run.live (handler_ready group site placed facts saved handler given live ready))
      (handler_ready group site placed facts saved handler given live ready)
    where
      given : Message
      given = if root then no_message else message

      run : Invoked
      run = invoked site saved handler given live

      by_stop : (b : Bool)
          → Ready (live_after run.live (through_stop root (runs_of root site saved handlers run.message run.live)))
          → Ready run.live
          → Ready (live_after run.live (if b then [] else through_stop root (runs_of root site saved handlers run.message run.live)))
      by_stop true rest first = first
      by_stop false rest first = rest

  pub runs_ready : (root : Bool) (saved : Saved) (handlers : List Handler) (message : Message) (live : Live) → Ready live
      → Ready (live_after live (runs_of root site saved handlers message live))
  runs_ready root saved [] message live ready = ready
  runs_ready root saved (handler ∷ handlers) message live ready =
      runs_ready root saved handlers (invoked site saved handler (if root then no_message else message) live).message
      (invoked site saved handler (if root then no_message else message) live).live
      (handler_ready group site placed facts saved handler (if root then no_message else message) live ready)

  -- ---- the root pass, from two states that agree after erasing, with registers that agree after projecting

  pub record RootsAlike (first second : List Invoked) (live other : Live) : Type 0 where
    pub own : own_invocations group site (invocations_of first) ≡ own_invocations group site (invocations_of second)
    pub states : left (live_after live first) ≡ left (live_after other second)

  module _ (saved asked : Saved) (registers : seen saved ≡ seen asked) where
    module _ (handler : Handler) (live other : Live) (ready : Ready live) (prepared : Ready other) (same : left live ≡ left other)
        (found_is : handler_at handler.number site.handlers ≡ Some handler) where
      run : Invoked
      run = invoked site saved handler no_message live

      sister : Invoked
      sister = invoked site asked handler no_message other

      module _ (first second : List Invoked) (rest : left run.live ≡ left sister.live → RootsAlike first second run.live sister.live) where
        own_step : is_handler_of group handler ≡ true → RootsAlike (run ∷ first) (sister ∷ second) live other
        unfolding run sister
        own_step mine =
            let both : left_run run ≡ left_run sister =
            sym (handler_same group site placed facts saved handler no_message live ready mine)
            ∙ (λ i. invoked site (registers i) handler no_message (same i))
            ∙ handler_same group site placed facts asked handler no_message other prepared mine in
            let invocation : run.invocation ≡ sister.invocation = ap (λ (r : Invoked). r.invocation) both in
            let later = rest (ap (λ (r : Invoked). r.live) both) in
            record {
              own = λ i. cond (is_of_group group site.handlers (invocation i)) (invocation i ∷ later.own i) (later.own i);
              states = later.states;
            }

        other_step : is_handler_of group handler ≡ false → RootsAlike (run ∷ first) (sister ∷ second) live other
        unfolding run sister
        other_step others =
            let later =
            rest (handler_left group site placed facts saved handler no_message live ready others ∙ same
            ∙ sym (handler_left group site placed facts asked handler no_message other prepared others)) in
            let here = named handler run.invocation (handler_named group site placed facts saved handler no_message live ready) found_is ∙ others in
            let there = named handler sister.invocation (handler_named group site placed facts asked handler no_message other prepared) found_is
            ∙ others in
            record {
              own =
                  ap (λ (b : Bool). cond b (run.invocation ∷ own_invocations group site (invocations_of first))
                  (own_invocations group site (invocations_of first))) here
                  ∙ later.own
                  ∙ sym (ap (λ (b : Bool). cond b (sister.invocation ∷ own_invocations group site (invocations_of second))
                  (own_invocations group site (invocations_of second))) there);
              states = later.states;
            }

        step_alike : (b : Bool) → is_handler_of group handler ≡ b → RootsAlike (run ∷ first) (sister ∷ second) live other
        step_alike true is = own_step is
        step_alike false is = other_step is

    pub roots_alike : (handlers : List Handler) (message given : Message) (live other : Live) → Ready live → Ready other → left live ≡ left other
        → AreFound handlers
        → RootsAlike (runs_of true site saved handlers message live) (runs_of true site asked handlers given other) live other
    unfolding run sister
    roots_alike [] message given live other ready prepared same founds = record { own = refl; states = same }
    roots_alike (handler ∷ handlers) message given live other ready prepared same founds =
        step_alike handler live other ready prepared same (All-head (λ h. handler_at h.number site.handlers ≡ Some h) handler handlers founds)
        (runs_of true site saved handlers
        (run handler live other ready prepared same (All-head (λ h. handler_at h.number site.handlers ≡ Some h) handler handlers founds)).message
        (run handler live other ready prepared same (All-head (λ h. handler_at h.number site.handlers ≡ Some h) handler handlers founds)).live)
        (runs_of true site asked handlers
        (sister handler live other ready prepared same (All-head (λ h. handler_at h.number site.handlers ≡ Some h) handler handlers founds)).message
        (sister handler live other ready prepared same (All-head (λ h. handler_at h.number site.handlers ≡ Some h) handler handlers founds)).live)
        (λ is. roots_alike handlers _ _ _ _ (handler_ready group site placed facts saved handler no_message live ready)
        (handler_ready group site placed facts asked handler no_message other prepared) is
        (All-tail (λ h. handler_at h.number site.handlers ≡ Some h) handler handlers founds))
        (is_handler_of group handler) refl
