-- What contracts see of a world after changes of its parts.
use Rattle.std.proofs.Common.{◌≡◌, ℕ, ◌+◌, List, [], ◌∷◌, ◌++◌, length, slice_set, zero, suc, ◌-◌, ◌<◌, Some, refl, sym, ap, ◌∙◌, arith}
use Rattle.std.specs.List.{slice_get}
use Rattle.mm_base.specs.Receipt.{receipt_of}
use Rattle.mm_base.specs.declared.entry.Entry.{Entry}
use Rattle.mm_base.specs.declared.entry.Outcome.{Outcome}
use Rattle.mm_base.specs.declared.entry.Request.{Request}
use Rattle.mm_base.specs.declared.receipt.Receipt.{Receipt}
use Rattle.comm_core.specs.Processor.{next_action}
use Rattle.comm_core.specs.WorldState.{LaneState, WorldState}
use Rattle.comm_core.specs.TransitionsInside.{lane_at, lane_answered, acts_once, acts_times, goes_on, asked, turns}
use Rattle.comm_core.specs.declared.action.Action.{Action}
use Rattle.comm_core.specs.declared.action.Action.TheVariants.{Rest}
use Rattle.comm_core.specs.declared.trace.Trace.{Trace}
use Rattle.comm_core.specs.declared.trace.Trace.TheVariants.{Turned}
use Rattle.comm_core.proofs.LaneLemmas.{lane_at-is}

-- a world by its parts
abbrev pub seen_by : {M : Type 0} → ℕ → List LaneState → M → List Entry → List Trace → WorldState M
seen_by words lanes machine entries trace = record {
  words = words;
  lanes = lanes;
  machine = machine;
  entries = entries;
  trace = trace;
}

module _ {M : Type 0} (step : M → Request → Outcome × M) where
  module _ (words : ℕ) (lanes : List LaneState) (machine now_machine : M) (entries now_entries : List Entry)
      (trace now_trace : List Trace) where
    -- the world after a turn, by its parts
    pub seen_turn : (lane : ℕ) (at acted : LaneState) (request : Request) (outcome : Outcome) (receipt : Receipt)
        → slice_get lanes lane ≡ Some at
        → request ≡ asked lane at.processor.stage
        → outcome ≡ (step machine request).0
        → now_machine ≡ (step machine request).1
        → now_entries ≡ entries ++ record { request = request; outcome = outcome } ∷ []
        → receipt ≡ receipt_of (length entries) outcome
        → acted ≡ lane_answered at receipt
        → now_trace ≡ trace ++ Turned lane (length entries) ∷ []
        → seen_by words (slice_set lanes lane acted) now_machine now_entries now_trace
        ≡ turns step (seen_by words lanes machine entries trace) lane (lane_at (seen_by words lanes machine entries trace) lane)
    seen_turn lane at acted request outcome receipt there re oe me ee ce ae te =
        let r : Request = asked lane at.processor.stage in
        let o : Outcome = (step machine r).0 in
        let w : WorldState M = seen_by words lanes machine entries trace in
        let outcome_is : outcome ≡ o = oe ∙ ap (λ x. (step machine x).0) re in
        let acted_is : acted ≡ lane_answered at (receipt_of (length entries) o) =
        ae ∙ ap (lane_answered at) (ce ∙ ap (receipt_of (length entries)) outcome_is) in
        let machine_is : now_machine ≡ (step machine r).1 = me ∙ ap (λ x. (step machine x).1) re in
        let entries_are : now_entries ≡ entries ++ record { request = r; outcome = o } ∷ [] =
        ee ∙ ap (λ x. entries ++ record { request = x; outcome = outcome } ∷ []) re
        ∙ ap (λ x. entries ++ record { request = r; outcome = x } ∷ []) outcome_is in
        ap (λ x. seen_by words (slice_set lanes lane x) now_machine now_entries now_trace) acted_is
        ∙ ap (λ x. seen_by words (slice_set lanes lane (lane_answered at (receipt_of (length entries) o))) x now_entries now_trace)
        machine_is
        ∙ ap (λ x. seen_by words (slice_set lanes lane (lane_answered at (receipt_of (length entries) o))) (step machine r).1 x now_trace)
        entries_are
        ∙ ap (λ x. seen_by words (slice_set lanes lane (lane_answered at (receipt_of (length entries) o))) (step machine r).1
        (entries ++ record { request = r; outcome = o } ∷ []) x) te
        ∙ ap (turns step w lane) (sym (lane_at-is w lane at there))

  -- the world after the next action, once that is known
  pub acts_next : (lane : ℕ) (w v : WorldState M) (a : Action)
      → next_action w.words (lane_at w lane).processor.stage ≡ a
      → v ≡ goes_on step w lane (lane_at w lane) a
      → v ≡ acts_once step lane w
  acts_next lane w v a next is = is ∙ ap (goes_on step w lane (lane_at w lane)) (sym next)

  -- a resting lane does nothing
  pub rest_stays : (lane n : ℕ) (w : WorldState M)
      → next_action w.words (lane_at w lane).processor.stage ≡ Rest
      → acts_times step lane n w ≡ w
  rest_stays lane zero w e = refl
  rest_stays lane (suc n) w e = ap (λ a. acts_times step lane n (goes_on step w lane (lane_at w lane) a)) e ∙ rest_stays lane n w e

  -- one action less is left
  pub acts_one_less : (lane n i : ℕ) (w : WorldState M)
      → i < n
      → acts_times step lane (n - i) w ≡ acts_times step lane (n - (i + 1)) (acts_once step lane w)
  acts_one_less lane n i w h =
      let e : n - i ≡ suc (n - (i + 1)) = omega arith in
      ap (λ k. acts_times step lane k w) e
