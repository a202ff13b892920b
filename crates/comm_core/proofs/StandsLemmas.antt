-- A world goes on standing: each action and each event takes it where the past goes.
use Rattle.std.proofs.Common.{◌≡◌, ◌≤◌, ◌<◌, ℕ, zero, suc, ◌+◌, ◌==◌, Bool, true, false, if◌then◌else◌, nat_lt, List, [], ◌∷◌, ◌++◌, length, map, take, drop, Some, unwrap_or, slice_index, slice_set, Result, Ok, Err, OnOk, OnErr, refl, sym, ap, ◌∙◌, subst, arith, append_assoc, length-append, inl, inr, get_or, ◌&&◌, get_or-set_other, get_or-set_same}
use Rattle.std.proofs.Math.ListN.{length-set}
use Rattle.std.specs.List.{slice_get, sum_by}
use Rattle.std.proofs.lemmas.Bool.{cases_lt, eqb-true, eqb-false, eq-eqb, ne_eqb, ltb-true}
use Rattle.std.proofs.lemmas.List.{get_or-replicate, length-replicate}
use Rattle.std.proofs.lemmas.Option.{slice_get_within}
use Rattle.mm_base.specs.Numbers.{bytes_of_word, bytes_of_words}
use Rattle.mm_base.specs.Prepared.{PreparedState}
use Rattle.mm_base.specs.Receipt.{receipt_of}
use Rattle.mm_base.specs.Replay.{replayed, left_by, outcomes}
use Rattle.mm_base.specs.declared.cells.Saved.{Saved}
use Rattle.mm_base.specs.declared.entry.Outcome.{Outcome}
use Rattle.mm_base.specs.declared.entry.Request.{Request}
use Rattle.mm_base.specs.declared.receipt.Receipt.{Receipt}
use Rattle.comm_core.specs.Piece.{needed, store, answer, request_in}
use Rattle.comm_core.specs.Capture.{Mark, Did, trace_of, value_at, last_saved, rings, pieces, newest, requests, outcomes_of, rests, next, made, act, acts, longest, happens, after_events, course}
use Rattle.comm_core.specs.Capture.{Rung as RungMark}
use Rattle.comm_core.specs.Processor.{next_action, is_resting, after_load, after_store}
use Rattle.comm_core.specs.Standing.{Place, AtRest, Called, Capturing, Answering, StandsIn, next_at}
use Rattle.comm_core.specs.WorldState.{LaneState, WorldState}
use Rattle.comm_core.specs.WorldPast.{LaneStands, Follows, StandsAt, StandsForEvents}
use Rattle.comm_core.specs.WorldReadiness.{IsOfWorld, entries_asked, rings_in, turns_to_come}
use Rattle.comm_core.specs.TransitionsInside.{asked, no_lane, new_lanes, lane_at, lane_rung, lane_loaded, lane_answered, lane_stored, lane_poked, loads_word, stores_word, turns, goes_on, acts_once, acts_times, rung_at, pokes, after_event, prepared_for}
use Rattle.comm_core.specs.declared.action.Action.{Action}
use Rattle.comm_core.specs.declared.action.Action.TheVariants.{Rest, Load, Turn, Store}
use Rattle.comm_core.specs.declared.event.Event.{Event}
use Rattle.comm_core.specs.declared.event.Event.TheVariants.{Ring, Poke, Steps, Run}
use Rattle.comm_core.specs.declared.processor.Stage.{Stage}
use Rattle.comm_core.specs.declared.processor.Stage.TheVariants.{Resting, Rung, Loading, Turning, Storing}
use Rattle.comm_core.specs.declared.trace.Trace.TheVariants.{Loaded, Stored, Poked, Turned}
use Rattle.comm_core.proofs.CourseLemmas.{moved, told_more, other_lane}
use Rattle.comm_core.proofs.LaneLemmas.{after_set, sum_changed, lane_there, lane_at-is, new_lane_there, sum-new_lanes}
use Rattle.comm_core.proofs.PieceLemmas.{loaded-captured}
use Rattle.comm_core.proofs.ReadyLemmas.{next_is_store, never_load, never_turn, turn_enough, capture_stores, load_within, load_turns, store_turns}
use Rattle.mm_history.proofs.RunLemmas.{replayed-snoc, left_by-snoc}
use Rattle.comm_core.proofs.ReplayLemmas.{length-replayed, length-outcomes, outcomes-snoc}
use Rattle.comm_core.proofs.StandingLemmas.{at_rest, is_away, away, next_of_place, last_saved-rung, to_called, to_capturing, to_capturing_more, to_answering, to_answering_more, to_rest}

-- the next action of a place is that of the stage that follows it
follows_next : (words : ℕ) (place : Place) (last : Saved) (stage : Stage)
    → Follows place last stage
    → next_at words place ≡ next_action words stage
follows_next words place last Resting f = ap (next_at words) f
follows_next words place last (Rung prepared saved) f = ap (next_at words) f.at
follows_next words place last (Loading prepared saved len loaded) f =
    ap (next_at words) f.at ∙ ap (λ n. if nat_lt n (needed words len) then Load (2 + n) else Turn) (sym f.count)
follows_next words place last (Turning bytes) f = absurd f
follows_next words place last (Storing receipt stored) f =
    ap (next_at words) f.at ∙ ap (λ r. unwrap_or (slice_get (map store (answer r)) stored) Rest) (sym f.receipt_is)

module _ {M : Type 0} (step : M → Request → Outcome × M) (m : M) (past : List Mark) (w : WorldState M) (lane : ℕ) (seen : LaneState) where
  -- the next action of a lane is that of its processor
  pub stands_next : StandsAt step m past w
      → slice_get w.lanes lane ≡ Some seen
      → next w.words (outcomes_of step m past) lane past ≡ next_action w.words seen.processor.stage
  stands_next s there =
      let own = s.each lane seen there in
      next_of_place w.words (outcomes_of step m past) lane past own.place own.stands
      ∙ follows_next w.words own.place (last_saved lane past) seen.processor.stage own.stage

-- words as bytes
bytes_of_words-snoc : (values : List ℕ) (value : ℕ) → bytes_of_words (values ++ value ∷ []) ≡ bytes_of_words values ++ bytes_of_word value
bytes_of_words-snoc [] value = refl
bytes_of_words-snoc (v ∷ values) value =
    ap (λ bs. bytes_of_word v ++ bs) (bytes_of_words-snoc values value)
    ∙ sym (append_assoc (bytes_of_word v) (bytes_of_words values) (bytes_of_word value))

-- after a load, the stage follows the lane's place
pub record Follower (words : ℕ) (outs : List Outcome) (lane : ℕ) (past : List Mark) (stage : Stage) : Type 0 where
  pub place : Place
  pub stands : StandsIn words outs lane past place
  pub follows : Follows place (last_saved lane past) stage

load_word : (words loaded n word : ℕ)
    → (if nat_lt loaded n then Load (2 + loaded) else Turn) ≡ Load word
    → (loaded < n) × (2 + loaded ≡ word)
load_word words loaded n word e =
    elim (nat_lt loaded n)
    as (λ b. nat_lt loaded n ≡ b → (if b then Load (2 + loaded) else Turn) ≡ Load word → (loaded < n) × (2 + loaded ≡ word)) [
      | true ↦ λ t f. (ltb-true loaded n t, cc)
      | false ↦ λ t f. absurd cc
    ] refl e

less_of : (n most : ℕ) → n < most → ((n + 1 ≡ most) → ⊥) → suc n < most
less_of n most l h = elim (cases_lt (suc n) most) [ inl below ↦ below | inr more ↦ absurd (h (omega arith)) ]

-- a lane's words after a store or a poke to it
set_values : (values : List ℕ) (value_of : ℕ → ℕ) (word value : ℕ)
    → ((i : ℕ) → i < length values → slice_index values i ≡ value_of i)
    → (i : ℕ)
    → i < length (slice_set values word value)
    → slice_index (slice_set values word value) i ≡ (if word == i then value else value_of i)
set_values values value_of word value h i l =
    let within : i < length values = omega (arith, length-set values word value) in
    elim (word == i) as (λ b. (word == i) ≡ b → slice_index (slice_set values word value) i ≡ (if b then value else value_of i)) [
      | true ↦
          λ e. ap (slice_index (slice_set values word value)) (sym (eqb-true word i e))
          ∙ get_or-set_same values word value 0 (omega (arith, eqb-true word i e))
      | false ↦ λ e. get_or-set_other values word i value 0 (λ f. eqb-false word i e (sym f)) ∙ h i within
    ] refl

-- what is left of a store: its place in the answer
store_at : (stores : List (ℕ × ℕ)) (n word value : ℕ)
    → unwrap_or (slice_get (map store stores) n) Rest ≡ Store word value
    → slice_get stores n ≡ Some (word, value)
store_at [] n word value e = absurd cc
store_at (to ∷ stores) zero word value e =
    let a : to.0 ≡ word = cc in let b : to.1 ≡ value = cc in ap (λ x. Some (x, to.1)) a ∙ ap (λ y. Some (word, y)) b
store_at (to ∷ stores) (suc n) word value e = store_at stores n word value e

-- The turn: the captured request is the one that the past tells.
captured_request : (lane : ℕ) (past : List Mark) (words : ℕ) (outs : List Outcome) (place : Place) (stage : Stage)
    → StandsIn words outs lane past place
    → Follows place (last_saved lane past) stage
    → next_action words stage ≡ Turn
    → request_in lane (last_saved lane past) (newest (pieces lane past)) ≡ asked lane stage
captured_request lane past words outs place Resting s f e = absurd cc
captured_request lane past words outs place (Rung prepared saved) s f e = absurd cc
captured_request lane past words outs place (Loading prepared saved len loaded) s f e =
    let P : Place → Type 0 = λ p. StandsIn words outs lane past p in
    let here : StandsIn words outs lane past (Capturing len f.values) = subst P f.at s in
    ap (λ ps. request_in lane (last_saved lane past) (newest ps)) here.0.split
    ∙ ap (λ vs. record { lane = lane; length = len; bytes = take len (bytes_of_words (drop 1 vs)); saved = last_saved lane past })
    (loaded-captured lane len f.values)
    ∙ ap (λ bs. record { lane = lane; length = len; bytes = take len bs; saved = last_saved lane past }) (sym f.bytes)
    ∙ ap (λ r. record { lane = lane; length = len; bytes = take len prepared.captured.items; saved = r }) (sym f.registers)
captured_request lane past words outs place (Turning bytes) s f e = absurd f
captured_request lane past words outs place (Storing receipt stored) s f e = absurd (never_turn _ (next_is_store (answer receipt) stored) e)

-- a value that a lane has in this word, where something is stored to a word of it
own_value : (lane word i value other : ℕ) → (if word == i then value else other) ≡ (if (lane == lane) && (word == i) then value else other)
own_value lane word i value other = ap (λ b. if b && (word == i) then value else other) (sym (eq-eqb lane lane refl))

module _ (words : ℕ) (outs : List Outcome) (lane : ℕ) where
  module _ (past : List Mark) where
    follow_load : (place : Place) (stage : Stage) (word value : ℕ)
        → StandsIn words outs lane past place
        → Follows place (last_saved lane past) stage
        → next_action words stage ≡ Load word
        → Follower words outs lane (Did (Loaded lane word value) ∷ past) (after_load stage value)
    follow_load place Resting word value s f e = absurd cc
    follow_load place (Rung prepared saved) word value s f e =
        let zero_word : 0 ≡ word = cc in
        let P : Place → Type 0 = λ p. StandsIn words outs lane past p in
        let Q : ℕ → Type 0 = λ n. StandsIn words outs lane (Did (Loaded lane n value) ∷ past) (Capturing value []) in
        record {
          place = Capturing value [];
          stands = subst Q zero_word (to_capturing words outs lane value past (subst P f.at s));
          follows = record { values = []; at = refl; registers = f.registers; count = refl; bytes = f.nothing };
        }
    follow_load place (Loading prepared saved len loaded) word value s f e =
        let n = load_word words loaded (needed words len) word e in
        let P : Place → Type 0 = λ p. StandsIn words outs lane past p in
        let more = to_capturing_more words outs lane len f.values value past (subst P f.at s) (omega (arith, n.0, f.count)) in
        let w : 2 + length f.values ≡ word = ap (λ k. 2 + k) (sym f.count) ∙ n.1 in
        let Q : ℕ → Type 0 = λ k. StandsIn words outs lane (Did (Loaded lane k value) ∷ past) (Capturing len (f.values ++ value ∷ [])) in
        record {
          place = Capturing len (f.values ++ value ∷ []);
          stands = subst Q w more;
          follows = record {
            values = f.values ++ value ∷ [];
            at = refl;
            registers = f.registers;
            count = ap (λ k. k + 1) f.count ∙ sym (length-append f.values (value ∷ []));
            bytes = ap (λ bs. bs ++ bytes_of_word value) f.bytes ∙ sym (bytes_of_words-snoc f.values value);
          };
        }
    follow_load place (Turning bytes) word value s f e = absurd f
    follow_load place (Storing receipt stored) word value s f e = absurd (never_load _ (next_is_store (answer receipt) stored) word e)

    follow_store : (place : Place) (stage : Stage) (word value : ℕ)
        → StandsIn words outs lane past place
        → Follows place (last_saved lane past) stage
        → next_action words stage ≡ Store word value
        → Follower words outs lane (Did (Stored lane word value) ∷ past) (after_store stage)
    follow_store place Resting word value s f e = absurd cc
    follow_store place (Rung prepared saved) word value s f e = absurd cc
    follow_store place (Loading prepared saved len loaded) word value s f e = absurd (capture_stores words len loaded word value e)
    follow_store place (Turning bytes) word value s f e = absurd f
    follow_store place (Storing receipt stored) word value s f e =
        let P : Place → Type 0 = λ p. StandsIn words outs lane past p in
        let here : StandsIn words outs lane past (Answering f.len f.values f.position f.outcome stored) = subst P f.at s in
        let Q : Receipt → Type 0 = λ r. slice_get (answer r) stored ≡ Some (word, value) in
        let to = subst Q f.receipt_is (store_at (answer receipt) stored word value e) in
        let same = ap (λ r. length (answer r)) f.receipt_is in
        let less : stored < length (answer (receipt_of f.position f.outcome)) = here.1.more in
        elim (stored + 1 == length (answer receipt))
        as (λ b. (stored + 1 == length (answer receipt)) ≡ b
        → Follower words outs lane (Did (Stored lane word value) ∷ past) (if b then Resting else Storing receipt (stored + 1))) [
          | true ↦ λ t. record {
            place = AtRest;
            stands =
                to_rest words outs lane f.len f.values f.position f.outcome stored (word, value) past here to
                (omega (arith, eqb-true (stored + 1) (length (answer receipt)) t, same));
            follows = refl;
          }
          | false ↦ λ t.
              let other : (stored + 1 ≡ length (answer receipt)) → ⊥ = eqb-false (stored + 1) (length (answer receipt)) t in
              record {
                place = Answering f.len f.values f.position f.outcome (suc stored);
                stands =
                    to_answering_more words outs lane f.len f.values f.position f.outcome stored (word, value) past here to
                    (less_of stored (length (answer (receipt_of f.position f.outcome))) less (λ q. other (omega (arith, q, same))));
                follows = record {
                  len = f.len;
                  values = f.values;
                  position = f.position;
                  outcome = f.outcome;
                  at = ap (Answering f.len f.values f.position f.outcome) (omega arith);
                  receipt_is = f.receipt_is;
                };
              }
        ] refl

    follow_turn : (place : Place) (stage : Stage) (outcome : Outcome)
        → StandsIn words outs lane past place
        → Follows place (last_saved lane past) stage
        → next_action words stage ≡ Turn
        → Follower words (outs ++ outcome ∷ []) lane (Did (Turned lane (length outs)) ∷ past) (Storing (receipt_of (length outs) outcome) 0)
    follow_turn place Resting outcome s f e = absurd cc
    follow_turn place (Rung prepared saved) outcome s f e = absurd cc
    follow_turn place (Loading prepared saved len loaded) outcome s f e =
        let P : Place → Type 0 = λ p. StandsIn words outs lane past p in
        let here : StandsIn words outs lane past (Capturing len f.values) = subst P f.at s in
        let enough : length f.values ≡ needed words len = omega (arith, turn_enough words len loaded e, here.1, f.count) in
        record {
          place = Answering len f.values (length outs) outcome 0;
          stands = to_answering words outs lane len f.values outcome past here enough;
          follows = record { len = len; values = f.values; position = length outs; outcome = outcome; at = refl; receipt_is = refl };
        }
    follow_turn place (Turning bytes) outcome s f e = absurd f
    follow_turn place (Storing receipt stored) outcome s f e = absurd (never_turn _ (next_is_store (answer receipt) stored) e)

    -- A lane stands where its processor acts.
    own_load : (seen : LaneState) (word : ℕ)
        → LaneStands words outs lane past seen
        → next_action words seen.processor.stage ≡ Load word
        → word < length seen.values
        → LaneStands words outs lane (Did (Loaded lane word (value_at lane word past)) ∷ past) (lane_loaded seen word)
    own_load seen word s e within =
        let f = follow_load s.place seen.processor.stage word (value_at lane word past) s.stands s.stage e in
        let P : ℕ → Type 0 = λ v. Follows f.place (last_saved lane past) (after_load seen.processor.stage v) in
        record { place = f.place; stands = f.stands; stage = subst P (sym (s.values word within)) f.follows; values = s.values }

    own_store : (seen : LaneState) (word value : ℕ)
        → LaneStands words outs lane past seen
        → next_action words seen.processor.stage ≡ Store word value
        → LaneStands words outs lane (Did (Stored lane word value) ∷ past) (lane_stored seen word value)
    own_store seen word value s e =
        let f = follow_store s.place seen.processor.stage word value s.stands s.stage e in
        record {
          place = f.place;
          stands = f.stands;
          stage = f.follows;
          values =
              λ i h. set_values seen.values (λ j. value_at lane j past) word value s.values i h
              ∙ own_value lane word i value (value_at lane i past);
        }

    own_poke : (seen : LaneState) (word value : ℕ)
        → LaneStands words outs lane past seen
        → LaneStands words outs lane (Did (Poked lane word value) ∷ past) (lane_poked seen word value)
    own_poke seen word value s = record {
      place = s.place;
      stands = moved words outs lane past (Did (Poked lane word value) ∷ past) s.place refl refl s.stands;
      stage = s.stage;
      values =
          λ i h. set_values seen.values (λ j. value_at lane j past) word value s.values i h
          ∙ own_value lane word i value (value_at lane i past);
    }

  -- the turn, whose position is how many outcomes there were
  own_turn : (n : ℕ) (past : List Mark) (seen : LaneState) (outcome : Outcome)
      → length outs ≡ n
      → LaneStands words outs lane past seen
      → next_action words seen.processor.stage ≡ Turn
      → LaneStands words (outs ++ outcome ∷ []) lane (Did (Turned lane n) ∷ past) (lane_answered seen (receipt_of n outcome))
  own_turn n past seen outcome counted s e =
      let f = follow_turn past s.place seen.processor.stage outcome s.stands s.stage e in
      let P : ℕ → Type 0 =
      λ k. LaneStands words (outs ++ outcome ∷ []) lane (Did (Turned lane k) ∷ past) (lane_answered seen (receipt_of k outcome)) in
      subst P counted record { place = f.place; stands = f.stands; stage = f.follows; values = s.values }

  -- A lane stays where it stands while another one acts: its pieces, its rings and its words are as they were.
  stays_put : (past later : List Mark) (seen : LaneState)
      → pieces lane later ≡ pieces lane past
      → rings lane later ≡ rings lane past
      → last_saved lane later ≡ last_saved lane past
      → ((word : ℕ) → value_at lane word later ≡ value_at lane word past)
      → LaneStands words outs lane past seen
      → LaneStands words outs lane later seen
  stays_put past later seen pe re le ve s =
      let P : Saved → Type 0 = λ r. Follows s.place r seen.processor.stage in
      record {
        place = s.place;
        stands = moved words outs lane past later s.place pe re s.stands;
        stage = subst P (sym le) s.stage;
        values = λ word h. s.values word h ∙ sym (ve word);
      }

-- a word of a lane, where something is stored to another lane
other_value : (other lane word i value old : ℕ) → (other ≡ lane → ⊥) → (if (other == lane) && (word == i) then value else old) ≡ old
other_value other lane word i value old apart = ap (λ b. if b && (word == i) then value else old) (ne_eqb other lane apart)

-- one outcome more leaves a lane where it stands
stays_told : (words : ℕ) (outs more : List Outcome) (lane : ℕ) (past : List Mark) (seen : LaneState)
    → LaneStands words outs lane past seen
    → LaneStands words (outs ++ more) lane past seen
stays_told words outs more lane past seen s =
    record { place = s.place; stands = told_more words outs more lane past s.place s.stands; stage = s.stage; values = s.values }

module _ {M : Type 0} (step : M → Request → Outcome × M) (m : M) (past : List Mark) (w : WorldState M) (lane : ℕ) (seen : LaneState) where
  -- a world stands after a load
  pub stands_load : (word : ℕ)
      → StandsAt step m past w
      → slice_get w.lanes lane ≡ Some seen
      → next_action w.words seen.processor.stage ≡ Load word
      → word < length seen.values
      → StandsAt step m (Did (Loaded lane word (value_at lane word past)) ∷ past) (loads_word w lane seen word)
  stands_load word s there e within =
      let outs : List Outcome = outcomes_of step m past in
      let own = s.each lane seen there in
      let value = own.values word within in
      let later : List Mark = Did (Loaded lane word (value_at lane word past)) ∷ past in
      record {
        each =
            after_set w.lanes lane (lane_loaded seen word) (λ k x. LaneStands w.words outs k later x)
            (slice_get_within w.lanes lane seen there)
            (own_load w.words outs lane past seen word own e within)
            (λ k x apart at. stays_put w.words outs k past later x (other_lane lane k _ _ apart) refl refl (λ i. refl) (s.each k x at));
        trace = ap (λ v. w.trace ++ Loaded lane word v ∷ []) value ∙ ap (λ t. t ++ Loaded lane word (value_at lane word past) ∷ []) s.trace;
        entries = s.entries;
        now = s.now;
      }

  -- a world stands after a poke, which is of no lane's pieces
  pub stands_poke : (word value : ℕ)
      → StandsAt step m past w
      → slice_get w.lanes lane ≡ Some seen
      → StandsAt step m (Did (Poked lane word value) ∷ past) (pokes w lane seen word value)
  stands_poke word value s there =
      let outs : List Outcome = outcomes_of step m past in
      let later : List Mark = Did (Poked lane word value) ∷ past in
      record {
        each =
            after_set w.lanes lane (lane_poked seen word value) (λ k x. LaneStands w.words outs k later x)
            (slice_get_within w.lanes lane seen there)
            (own_poke w.words outs lane past seen word value (s.each lane seen there))
            (λ k x apart at. stays_put w.words outs k past later x refl refl refl
            (λ i. other_value lane k word i value (value_at k i past) apart) (s.each k x at));
        trace = ap (λ t. t ++ Poked lane word value ∷ []) s.trace;
        entries = s.entries;
        now = s.now;
      }

  pub stands_store : (word value : ℕ)
      → StandsAt step m past w
      → slice_get w.lanes lane ≡ Some seen
      → next_action w.words seen.processor.stage ≡ Store word value
      → StandsAt step m (Did (Stored lane word value) ∷ past) (stores_word w lane seen word value)
  stands_store word value s there e =
      let outs : List Outcome = outcomes_of step m past in
      let later : List Mark = Did (Stored lane word value) ∷ past in
      record {
        each =
            after_set w.lanes lane (lane_stored seen word value) (λ k x. LaneStands w.words outs k later x)
            (slice_get_within w.lanes lane seen there)
            (own_store w.words outs lane past seen word value (s.each lane seen there) e)
            (λ k x apart at. stays_put w.words outs k past later x (other_lane lane k _ _ apart) refl refl
            (λ i. other_value lane k word i value (value_at k i past) apart) (s.each k x at));
        trace = ap (λ t. t ++ Stored lane word value ∷ []) s.trace;
        entries = s.entries;
        now = s.now;
      }

  pub stands_turn : StandsAt step m past w
      → slice_get w.lanes lane ≡ Some seen
      → next_action w.words seen.processor.stage ≡ Turn
      → StandsAt step m (Did (Turned lane (length (requests past))) ∷ past) (turns step w lane seen)
  stands_turn s there e =
      let rs : List Request = requests past in
      let r : Request = asked lane seen.processor.stage in
      let outs : List Outcome = outcomes_of step m past in
      let own = s.each lane seen there in
      let told_request = captured_request lane past w.words outs own.place seen.processor.stage own.stands own.stage e in
      let later : List Mark = Did (Turned lane (length rs)) ∷ past in
      let grown : requests later ≡ rs ++ r ∷ [] = ap (λ x. rs ++ x ∷ []) told_request in
      let now : w.machine ≡ left_by step m rs = s.now in
      let o : Outcome = (step w.machine r).0 in
      let outs_grown : outcomes_of step m later ≡ outs ++ o ∷ [] =
      ap (outcomes step m) grown ∙ outcomes-snoc step m rs r ∙ ap (λ (x : M). outs ++ (step x r).0 ∷ []) (sym now) in
      let entries_counted : length w.entries ≡ length rs = ap length s.entries ∙ length-replayed step m rs in
      let acted : LaneState = lane_answered seen (receipt_of (length rs) o) in
      let Each : ℕ → List Outcome → Type 0 =
      λ n os. (k : ℕ) (x : LaneState) → slice_get (slice_set w.lanes lane (lane_answered seen (receipt_of n o))) k ≡ Some x
      → LaneStands w.words os k later x in
      let each : Each (length rs) (outs ++ o ∷ []) =
      after_set w.lanes lane acted (λ k x. LaneStands w.words (outs ++ o ∷ []) k later x) (slice_get_within w.lanes lane seen there)
      (own_turn w.words outs lane (length rs) past seen o (length-outcomes step m rs) own e)
      (λ k x apart at. stays_put w.words (outs ++ o ∷ []) k past later x (other_lane lane k _ _ apart) refl refl (λ i. refl)
      (stays_told w.words outs (o ∷ []) k past x (s.each k x at))) in
      let P : ℕ → Type 0 = λ n. Each n (outs ++ o ∷ []) in
      record {
        each = subst (Each (length w.entries)) (sym outs_grown) (subst P (sym entries_counted) each);
        trace = ap (λ t. t ++ Turned lane (length w.entries) ∷ []) s.trace ∙ ap (λ n. trace_of past ++ Turned lane n ∷ []) entries_counted;
        entries =
            ap (λ es. es ++ record { request = r; outcome = o } ∷ []) s.entries
            ∙ ap (λ (x : M). replayed step m rs ++ record { request = r; outcome = (step x r).0 } ∷ []) now
            ∙ sym (replayed-snoc step m rs r) ∙ ap (replayed step m) (sym grown);
        now = ap (λ (x : M). (step x r).1) now ∙ sym (left_by-snoc step m rs r) ∙ ap (left_by step m) (sym grown);
      }

  -- a world stands after an action of a lane
  stands_goes_on : (a : Action)
      → StandsAt step m past w
      → slice_get w.lanes lane ≡ Some seen
      → length seen.values ≡ w.words + 2
      → next_action w.words seen.processor.stage ≡ a
      → StandsAt step m (made lane a past) (goes_on step w lane seen a)
  stands_goes_on Rest s there ll e = s
  stands_goes_on (Load word) s there ll e =
      stands_load word s there e (omega (arith, load_within w.words word seen.processor.stage e))
  stands_goes_on Turn s there ll e = stands_turn s there e
  stands_goes_on (Store word value) s there ll e = stands_store word value s there e

-- what an action of a lane leaves as it is: how many words each lane has, how many lanes there are, and that this one has
-- all its words
record Keeps {M : Type 0} (w v : WorldState M) (lane : ℕ) : Type 0 where
  words : v.words ≡ w.words
  lanes : length v.lanes ≡ length w.lanes
  size : length (lane_at v lane).values ≡ length (lane_at w lane).values

keeps_set : {M : Type 0} (w v : WorldState M) (lane : ℕ) (seen acted : LaneState)
    → slice_get w.lanes lane ≡ Some seen
    → v.words ≡ w.words
    → v.lanes ≡ slice_set w.lanes lane acted
    → length acted.values ≡ length seen.values
    → Keeps w v lane
keeps_set w v lane seen acted there ws ls size = record {
  words = ws;
  lanes = ap length ls ∙ length-set w.lanes lane acted;
  size =
      ap (λ (xs : List LaneState). length (get_or xs lane no_lane).values) ls
      ∙ ap (λ (x : LaneState). length x.values) (get_or-set_same w.lanes lane acted no_lane (slice_get_within w.lanes lane seen there))
      ∙ size ∙ ap (λ (x : LaneState). length x.values) (sym (lane_at-is w lane seen there));
}

module _ {M : Type 0} (step : M → Request → Outcome × M) where
  goes_on_keeps : (w : WorldState M) (lane : ℕ) (seen : LaneState) (a : Action)
      → slice_get w.lanes lane ≡ Some seen
      → Keeps w (goes_on step w lane seen a) lane
  goes_on_keeps w lane seen Rest there = record { words = refl; lanes = refl; size = refl }
  goes_on_keeps w lane seen (Load word) there =
      keeps_set w (loads_word w lane seen word) lane seen (lane_loaded seen word) there refl refl refl
  goes_on_keeps w lane seen Turn there = keeps_set w (turns step w lane seen) lane seen _ there refl refl refl
  goes_on_keeps w lane seen (Store word value) there =
      keeps_set w (stores_word w lane seen word value) lane seen (lane_stored seen word value) there refl refl
      (length-set seen.values word value)

  acts_once_keeps : (lane : ℕ) (w : WorldState M) → lane < length w.lanes → Keeps w (acts_once step lane w) lane
  acts_once_keeps lane w h =
      goes_on_keeps w lane (lane_at w lane) (next_action w.words (lane_at w lane).processor.stage) (lane_there w lane h)

  -- how many words each lane has, and how many lanes there are, after actions
  pub acts_times_words : (lane n : ℕ) (w : WorldState M) → lane < length w.lanes → (acts_times step lane n w).words ≡ w.words
  acts_times_words lane zero w h = refl
  acts_times_words lane (suc n) w h =
      let k = acts_once_keeps lane w h in
      acts_times_words lane n (acts_once step lane w) (omega (arith, h, k.lanes)) ∙ k.words

  pub acts_times_lanes : (lane n : ℕ) (w : WorldState M) → lane < length w.lanes → length (acts_times step lane n w).lanes ≡ length w.lanes
  acts_times_lanes lane zero w h = refl
  acts_times_lanes lane (suc n) w h =
      let k = acts_once_keeps lane w h in
      acts_times_lanes lane n (acts_once step lane w) (omega (arith, h, k.lanes)) ∙ k.lanes

-- a world stands after actions
pub stands_acts : {M : Type 0} (step : M → Request → Outcome × M) (m : M) (lane n words : ℕ) (past : List Mark) (w : WorldState M)
    → StandsAt step m past w
    → lane < length w.lanes
    → length (lane_at w lane).values ≡ w.words + 2
    → w.words ≡ words
    → StandsAt step m (acts step m words lane n past) (acts_times step lane n w)
stands_acts step m lane zero words past w s h ll ws = s
stands_acts {M} step m lane (suc n) words past w s h ll ws =
    let seen : LaneState = lane_at w lane in
    let a : Action = next_action w.words seen.processor.stage in
    let k = acts_once_keeps step lane w h in
    let on = stands_goes_on step m past w lane seen a s (lane_there w lane h) ll refl in
    let next_is : next words (outcomes_of step m past) lane past ≡ a =
    ap (λ k. next k (outcomes_of step m past) lane past) (sym ws) ∙ stands_next step m past w lane seen s (lane_there w lane h) in
    let P : Action → Type 0 = λ x. StandsAt step m (made lane x past) (acts_once step lane w) in
    stands_acts step m lane n words (act step m words lane past) (acts_once step lane w) (subst P (sym next_is) on)
    (omega (arith, k.lanes, h)) (k.size ∙ ll ∙ ap (λ x. x + 2) (sym k.words)) (k.words ∙ ws)

resting_place : (place : Place) (last : Saved) (stage : Stage) → Follows place last stage → is_resting stage ≡ true → place ≡ AtRest
resting_place place last Resting f e = f
resting_place place last (Rung prepared saved) f e = absurd cc
resting_place place last (Loading prepared saved len loaded) f e = absurd cc
resting_place place last (Turning bytes) f e = absurd cc
resting_place place last (Storing receipt stored) f e = absurd cc

module _ (words : ℕ) (outs : List Outcome) (lane : ℕ) (past : List Mark) where
  -- a lane rests exactly where its processor does
  follow_rests : (place : Place) (stage : Stage)
      → StandsIn words outs lane past place
      → Follows place (last_saved lane past) stage
      → rests words outs lane past ≡ is_resting stage
  follow_rests place Resting s f =
      let P : Place → Type 0 = λ p. StandsIn words outs lane past p in
      at_rest words outs lane past (subst P f s)
  follow_rests place (Rung prepared saved) s f = away words outs lane past place s (ap is_away f.at)
  follow_rests place (Loading prepared saved len loaded) s f = away words outs lane past place s (ap is_away f.at)
  follow_rests place (Turning bytes) s f = absurd f
  follow_rests place (Storing receipt stored) s f = away words outs lane past place s (ap is_away f.at)

  own_ring : (seen : LaneState) (prepared : PreparedState) (saved : Saved)
      → prepared.captured.items ≡ []
      → is_resting seen.processor.stage ≡ true
      → LaneStands words outs lane past seen
      → LaneStands words outs lane (RungMark lane saved ∷ past) (lane_rung seen prepared saved)
  own_ring seen prepared saved nothing resting s =
      let P : Place → Type 0 = λ p. StandsIn words outs lane past p in
      let here : StandsIn words outs lane past AtRest =
      subst P (resting_place s.place (last_saved lane past) seen.processor.stage s.stage resting) s.stands in
      record {
        place = Called;
        stands = to_called words outs lane saved past here;
        stage = record { at = refl; registers = sym (last_saved-rung lane saved past); nothing = nothing };
        values = s.values;
      }

-- a ring is accepted exactly where the processor rests
stands_ring : {M : Type 0} (step : M → Request → Outcome × M) (m : M) (past : List Mark) (w : WorldState M) (lane : ℕ) (seen : LaneState)
    (prepared : PreparedState) (saved : Saved)
    → slice_get w.lanes lane ≡ Some seen
    → prepared.captured.items ≡ []
    → StandsAt step m past w
    → StandsAt step m (if rests w.words (outcomes_of step m past) lane past then RungMark lane saved ∷ past else past)
    (rung_at w lane seen prepared saved)
stands_ring {M} step m past w lane seen prepared saved there nothing s =
    let outs : List Outcome = outcomes_of step m past in
    let own = s.each lane seen there in
    let later : List Mark = RungMark lane saved ∷ past in
    let now : WorldState M = record w { lanes = slice_set w.lanes lane (lane_rung seen prepared saved) } in
    let R : Bool → Type 0 = λ b. StandsAt step m (if b then later else past) (if is_resting seen.processor.stage then now else w) in
    subst R (sym (follow_rests w.words outs lane past own.place seen.processor.stage own.stands own.stage))
    (elim (is_resting seen.processor.stage)
    as (λ b. is_resting seen.processor.stage ≡ b → StandsAt step m (if b then later else past) (if b then now else w)) [
      | true ↦ λ e. record {
        each =
            after_set w.lanes lane (lane_rung seen prepared saved) (λ k x. LaneStands w.words outs k later x)
            (slice_get_within w.lanes lane seen there)
            (own_ring w.words outs lane past seen prepared saved nothing e own)
            (λ k x apart at. stays_put w.words outs k past later x refl (other_lane lane k _ _ apart) (other_lane lane k _ _ apart)
            (λ i. refl) (s.each k x at));
        trace = s.trace;
        entries = s.entries;
        now = s.now;
      }
      | false ↦ λ e. s
    ] refl)

-- each lane has all its words
abbrev pub AreSized : {M : Type 0} → WorldState M → Type 0
AreSized w = (lane : ℕ) (seen : LaneState) → slice_get w.lanes lane ≡ Some seen → length seen.values ≡ w.words + 2

-- what an accepted ring changes of a world
rung_words : {M : Type 0} (w v : WorldState M) (b : Bool) → v.words ≡ w.words → (if b then v else w).words ≡ w.words
rung_words w v true e = e
rung_words w v false e = refl

rung_lanes : {M : Type 0} (w v : WorldState M) (b : Bool)
    → length v.lanes ≡ length w.lanes
    → length (if b then v else w).lanes ≡ length w.lanes
rung_lanes w v true e = e
rung_lanes w v false e = refl

after_events-snoc : {M : Type 0} (step : M → Request → Outcome × M) (m : M) (words : ℕ) (events : List Event) (event : Event)
    (past : List Mark)
    → after_events step m words (events ++ event ∷ []) past ≡ happens step m words event (after_events step m words events past)
after_events-snoc step m words [] event past = refl
after_events-snoc step m words (e ∷ events) event past = after_events-snoc step m words events event (happens step m words e past)

module _ {M : Type 0} (step : M → Request → Outcome × M) (calls : M → ℕ) where
  -- a world stands after an event
  pub stands_event : (m : M) (past : List Mark) (w : WorldState M) (event : Event)
      → IsOfWorld (length w.lanes) w.words event
      → AreSized w
      → StandsAt step m past w
      → StandsAt step m (happens step m w.words event past) (after_event step calls w event)
  stands_event m past w (Ring lane saved) of_world sized s =
      stands_ring step m past w lane (lane_at w lane) (prepared_for w.words (calls w.machine)) saved (lane_there w lane of_world) refl s
  stands_event m past w (Poke lane word value) of_world sized s =
      stands_poke step m past w lane (lane_at w lane) word value s (lane_there w lane of_world.0)
  stands_event m past w (Steps lane count) of_world sized s =
      stands_acts step m lane count w.words past w s of_world (sized lane (lane_at w lane) (lane_there w lane of_world)) refl
  stands_event m past w (Run lane) of_world sized s =
      stands_acts step m lane (longest w.words) w.words past w s of_world (sized lane (lane_at w lane) (lane_there w lane of_world)) refl

  -- no event changes how many words each lane has, or how many lanes there are
  pub after_event_words : (w : WorldState M) (event : Event)
      → IsOfWorld (length w.lanes) w.words event
      → (after_event step calls w event).words ≡ w.words
  after_event_words w (Ring lane saved) of_world =
      rung_words w (record w { lanes = slice_set w.lanes lane (lane_rung (lane_at w lane) (prepared_for w.words (calls w.machine)) saved) })
      (is_resting (lane_at w lane).processor.stage) refl
  after_event_words w (Poke lane word value) of_world = refl
  after_event_words w (Steps lane count) of_world = acts_times_words step lane count w of_world
  after_event_words w (Run lane) of_world = acts_times_words step lane (longest w.words) w of_world

  pub after_event_lanes : (w : WorldState M) (event : Event)
      → IsOfWorld (length w.lanes) w.words event
      → length (after_event step calls w event).lanes ≡ length w.lanes
  after_event_lanes w (Ring lane saved) of_world =
      let acted : LaneState = lane_rung (lane_at w lane) (prepared_for w.words (calls w.machine)) saved in
      rung_lanes w (record w { lanes = slice_set w.lanes lane acted }) (is_resting (lane_at w lane).processor.stage)
      (length-set w.lanes lane acted)
  after_event_lanes w (Poke lane word value) of_world = length-set w.lanes lane (lane_poked (lane_at w lane) word value)
  after_event_lanes w (Steps lane count) of_world = acts_times_lanes step lane count w of_world
  after_event_lanes w (Run lane) of_world = acts_times_lanes step lane (longest w.words) w of_world

  -- a world that stood for events stands for them and one more
  pub stands_for_more : (m : M) (events : List Event) (event : Event) (w v : WorldState M)
      → IsOfWorld (length w.lanes) w.words event
      → AreSized w
      → v ≡ after_event step calls w event
      → StandsForEvents step m events w
      → StandsForEvents step m (events ++ event ∷ []) v
  stands_for_more m events event w v of_world sized is s =
      let on = stands_event m (course step m w.words events) w event of_world sized s in
      let past : course step m v.words (events ++ event ∷ []) ≡ happens step m w.words event (course step m w.words events) =
      ap (λ (x : WorldState M). course step m x.words (events ++ event ∷ [])) is
      ∙ ap (λ n. course step m n (events ++ event ∷ [])) (after_event_words w event of_world)
      ∙ after_events-snoc step m w.words events event [] in
      let P : WorldState M → Type 0 = λ x. StandsAt step m (happens step m w.words event (course step m w.words events)) x in
      let Q : List Mark → Type 0 = λ p. StandsAt step m p v in
      subst Q (sym past) (subst P (sym is) on)

-- the same where an event may be out of memory
pub stands_on_ok : {M T E : Type 0} (r : Result T E) (step : M → Request → Outcome × M) (calls : M → ℕ) (event : Event) (w v : WorldState M)
    → IsOfWorld (length w.lanes) w.words event
    → AreSized w
    → OnOk r (v ≡ after_event step calls w event)
    → OnOk r ((m : M) (events : List Event) → StandsForEvents step m events w → StandsForEvents step m (events ++ event ∷ []) v)
stands_on_ok (Ok x) step calls event w v of_world sized is = λ m events s. stands_for_more step calls m events event w v of_world sized is s
stands_on_ok (Err e) step calls event w v of_world sized is = tt

-- what holds of the world after an event, and of the one before it, holds where the event may be out of memory
pub either_way : {M T E : Type 0} (r : Result T E) (P : WorldState M → Type 0) (w u v : WorldState M)
    → OnOk r (v ≡ u)
    → OnErr r (v ≡ w)
    → P u
    → P w
    → P v
either_way (Ok x) P w u v ok err pu pw = subst P (sym ok) pu
either_way (Err e) P w u v ok err pu pw = subst P (sym err) pw

-- a turn is to come in front of it
asked_turn : (words : ℕ) (stage : Stage) → next_action words stage ≡ Turn → turns_to_come stage ≡ 1
asked_turn words Resting e = absurd cc
asked_turn words (Rung prepared saved) e = refl
asked_turn words (Loading prepared saved len loaded) e = refl
asked_turn words (Turning bytes) e = refl
asked_turn words (Storing receipt stored) e = absurd (never_turn _ (next_is_store (answer receipt) stored) e)

-- no action asks for an entry
goes_on_asked : {M : Type 0} (step : M → Request → Outcome × M) (w : WorldState M) (lane : ℕ) (seen : LaneState) (a : Action)
    → slice_get w.lanes lane ≡ Some seen
    → next_action w.words seen.processor.stage ≡ a
    → entries_asked (goes_on step w lane seen a) ≡ entries_asked w
goes_on_asked step w lane seen Rest there e = refl
goes_on_asked step w lane seen (Load word) there e =
    omega (
      arith,
      sum_changed (λ (x : LaneState). turns_to_come x.processor.stage) w.lanes lane seen (lane_loaded seen word) there,
      load_turns (slice_index seen.values word) seen.processor.stage,
    )
goes_on_asked step w lane seen Turn there e =
    let request : Request = asked lane seen.processor.stage in
    let o : Outcome = (step w.machine request).0 in
    let acted : LaneState = lane_answered seen (receipt_of (length w.entries) o) in
    omega (
      arith,
      length-append w.entries (record { request = request; outcome = o } ∷ []),
      asked_turn w.words seen.processor.stage e,
      sum_changed (λ (x : LaneState). turns_to_come x.processor.stage) w.lanes lane seen acted there,
    )
goes_on_asked step w lane seen (Store word value) there e =
    omega (
      arith,
      sum_changed (λ (x : LaneState). turns_to_come x.processor.stage) w.lanes lane seen (lane_stored seen word value) there,
      store_turns seen.processor.stage,
    )

pub acts_times_asked : {M : Type 0} (step : M → Request → Outcome × M) (lane n : ℕ) (w : WorldState M)
    → lane < length w.lanes
    → entries_asked (acts_times step lane n w) ≡ entries_asked w
acts_times_asked step lane zero w h = refl
acts_times_asked step lane (suc n) w h =
    acts_times_asked step lane n (acts_once step lane w) (omega (arith, h, (acts_once_keeps step lane w h).lanes))
    ∙ goes_on_asked step w lane (lane_at w lane) (next_action w.words (lane_at w lane).processor.stage) (lane_there w lane h) refl

rung_asked : {M : Type 0} (w : WorldState M) (lane : ℕ) (seen : LaneState) (prepared : PreparedState) (saved : Saved)
    → slice_get w.lanes lane ≡ Some seen
    → entries_asked (rung_at w lane seen prepared saved) ≤ entries_asked w + 1
rung_asked {M} w lane seen prepared saved there =
    let acted : LaneState = lane_rung seen prepared saved in
    let now : WorldState M = record w { lanes = slice_set w.lanes lane acted } in
    let more : entries_asked now ≤ entries_asked w + 1 =
    omega (arith, sum_changed (λ (x : LaneState). turns_to_come x.processor.stage) w.lanes lane seen acted there) in
    elim (is_resting seen.processor.stage)
    as (λ b. entries_asked (if b then now else w) ≤ entries_asked w + 1) [ true ↦ more | false ↦ omega arith ]

-- an event asks for no more entries than it is rings
pub after_event_asked : {M : Type 0} (step : M → Request → Outcome × M) (calls : M → ℕ) (w : WorldState M) (event : Event)
    → IsOfWorld (length w.lanes) w.words event
    → entries_asked (after_event step calls w event) ≤ entries_asked w + rings_in event
after_event_asked step calls w (Ring lane saved) of_world =
    rung_asked w lane (lane_at w lane) (prepared_for w.words (calls w.machine)) saved (lane_there w lane of_world)
after_event_asked step calls w (Poke lane word value) of_world =
    omega (
      arith,
      sum_changed (λ (x : LaneState). turns_to_come x.processor.stage) w.lanes lane (lane_at w lane)
          (lane_poked (lane_at w lane) word value) (lane_there w lane of_world.0),
    )
after_event_asked step calls w (Steps lane count) of_world = omega (arith, acts_times_asked step lane count w of_world)
after_event_asked step calls w (Run lane) of_world = omega (arith, acts_times_asked step lane (longest w.words) w of_world)

-- a new world stands where nothing has happened
pub stands_new : {M : Type 0} (step : M → Request → Outcome × M) (m : M) (words lanes : ℕ)
    → StandsAt step m [] (record { words = words; lanes = new_lanes words lanes; machine = m; entries = []; trace = [] })
stands_new step m words lanes = record {
  each = λ lane seen here.
      let P : LaneState → Type 0 = λ x. LaneStands words (outcomes_of step m []) lane [] x in
      subst P (sym (new_lane_there words lanes lane seen here)) record {
        place = AtRest;
        stands = record { counted = refl; before = tt };
        stage = refl;
        values = λ word h. get_or-replicate (words + 2) word 0 0 (omega (arith, h, length-replicate {A = ℕ} (words + 2) 0));
      };
  trace = refl;
  entries = refl;
  now = refl;
}

-- and asks for no entry
pub asked_new : (words lanes : ℕ) → sum_by (λ (x : LaneState). turns_to_come x.processor.stage) (new_lanes words lanes) ≡ 0
asked_new words lanes = sum-new_lanes (λ (x : LaneState). turns_to_come x.processor.stage) words lanes (λ lane. refl)
