-- Where every lane stands after every list of events, whatever the other lanes do, and that a run leads to rest.
use Rattle.std.proofs.Common.{◌≡◌, ◌≤◌, ◌<◌, ℕ, zero, suc, ◌+◌, ◌-◌, ◌*◌, ◌==◌, Bool, true, false, if◌then◌else◌, nat_lt, List, [], ◌∷◌, ◌++◌, length, take, drop, get_or, refl, sym, ap, ◌∙◌, subst, arith, length-append, inl, inr}
use Rattle.std.proofs.lemmas.Bool.{cases_lt, eqb-true, eqb-false, ne_eqb, ltb-true, ltb-false}
use Rattle.std.proofs.lemmas.List.{length-take}
use Rattle.std.proofs.lemmas.Option.{slice_get-get_or}
use Rattle.mm_base.specs.Numbers.{bytes_of_word, bytes_of_words}
use Rattle.mm_base.specs.Receipt.{receipt_of}
use Rattle.mm_base.specs.Replay.{left_by}
use Rattle.mm_base.specs.declared.cells.Saved.{Saved}
use Rattle.mm_base.specs.declared.entry.Outcome.{Outcome}
use Rattle.mm_base.specs.declared.entry.Request.{Request}
use Rattle.comm_core.specs.Piece.{needed, answer, request_in}
use Rattle.comm_core.specs.Capture.{Mark, Rung, Did, rings, pieces, newest, last_saved, value_at, requests, outcomes_of, rests, next, made, act, acts, longest, happens, after_events, course}
use Rattle.comm_core.specs.Standing.{captured, AreWhole, StandsIn, next_at, Place, AtRest, Called, Capturing, Answering}
use Rattle.comm_core.specs.declared.action.Action.{Action}
use Rattle.comm_core.specs.declared.action.Action.TheVariants.{Rest, Load, Turn, Store}
use Rattle.comm_core.specs.declared.event.Event.{Event}
use Rattle.comm_core.specs.declared.event.Event.TheVariants.{Ring, Poke, Steps, Run}
use Rattle.comm_core.specs.declared.trace.Trace.TheVariants.{Loaded, Stored, Poked, Turned}
use Rattle.comm_core.proofs.PieceLemmas.{loaded-captured}
use Rattle.comm_core.proofs.ProcessorLemmas.{needed_within, length-answer_within}
use Rattle.comm_core.proofs.ReplayLemmas.{length-outcomes, outcomes-snoc}
use Rattle.comm_core.proofs.StandingLemmas.{at_rest, away, next_of_place, next_store, told_stays, whole_stay, to_called, to_capturing, to_capturing_more, to_answering, to_answering_more, to_rest}

-- no outcome's reply is longer than its request
abbrev pub IsBounded : {M : Type 0} → (M → Request → Outcome × M) → Type 0
IsBounded {M} step = (m : M) (r : Request) → length (step m r).0.reply ≤ length r.bytes

-- an answer under way has at most two stores more than the lane has words
abbrev pub IsShort : ℕ → Place → Type 0
IsShort words AtRest = Unit {0}
IsShort words Called = Unit {0}
IsShort words (Capturing len values) = Unit {0}
IsShort words (Answering len values position outcome stored) = length (answer (receipt_of position outcome)) ≤ words + 2

-- the lane has a place
pub record Placed {M : Type 0} (step : M → Request → Outcome × M) (m : M) (words lane : ℕ) (past : List Mark) : Type 0 where
  pub place : Place
  pub stands : StandsIn words (outcomes_of step m past) lane past place
  pub short : IsShort words place

-- the most actions that are left to make
abbrev pub left : ℕ → Place → ℕ
left words AtRest = 0
left words Called = longest words
left words (Capturing len values) = needed words len - length values + words + 3
left words (Answering len values position outcome stored) = length (answer (receipt_of position outcome)) - stored

-- the lane has a place from which less is left
pub record Acted {M : Type 0} (step : M → Request → Outcome × M) (m : M) (words lane : ℕ) (now : List Mark) (most : ℕ) : Type 0 where
  pub placed : Placed step m words lane now
  pub less : left words placed.place ≤ most

length-bytes_of_words : (values : List ℕ) → length (bytes_of_words values) ≡ 8 * length values
length-bytes_of_words [] = refl
length-bytes_of_words (v ∷ values) = omega (arith, length-append (bytes_of_word v) (bytes_of_words values), length-bytes_of_words values)

-- the request of a capture is no longer than the words that were loaded
length-request : (lane len : ℕ) (saved : Saved) (values : List ℕ) (ps : List (List _)) (older : List (List _))
    → ps ≡ captured lane len values ∷ older
    → length (request_in lane saved (newest ps)).bytes ≤ 8 * length values
length-request lane len saved values ps older e =
    let same : (request_in lane saved (newest ps)).bytes ≡ take len (bytes_of_words values) =
    ap (λ qs. (request_in lane saved (newest qs)).bytes) e
    ∙ ap (λ vs. take len (bytes_of_words (drop 1 vs))) (loaded-captured lane len values) in
    omega (arith, ap length same, length-take len (bytes_of_words values), length-bytes_of_words values)

-- a turn of any lane gives one outcome more
pub outcomes-turned : {M : Type 0} (step : M → Request → Outcome × M) (m : M) (lane position : ℕ) (past : List Mark)
    → outcomes_of step m (Did (Turned lane position) ∷ past)
    ≡ outcomes_of step m past ++
    (step (left_by step m (requests past)) (request_in lane (last_saved lane past) (newest (pieces lane past)))).0 ∷ []
outcomes-turned step m lane position past =
    outcomes-snoc step m (requests past) (request_in lane (last_saved lane past) (newest (pieces lane past)))

module _ (words : ℕ) (outs : List Outcome) where
  -- what doesn't touch a lane's pieces and rings leaves it where it stands
  pub moved : (lane : ℕ) (past now : List Mark) (place : Place)
      → pieces lane now ≡ pieces lane past
      → rings lane now ≡ rings lane past
      → StandsIn words outs lane past place
      → StandsIn words outs lane now place
  moved lane past now AtRest pe re s = record {
    counted = re ∙ s.counted ∙ ap (λ ps. length ps + 0) (sym pe);
    before = let P : List (List _) → Type 0 = λ ps. AreWhole words outs lane ps in subst P (sym pe) s.before;
  }
  moved lane past now Called pe re s = record {
    counted = re ∙ s.counted ∙ ap (λ ps. length ps + 1) (sym pe);
    before = let P : List (List _) → Type 0 = λ ps. AreWhole words outs lane ps in subst P (sym pe) s.before;
  }
  moved lane past now (Capturing len values) pe re s =
      (record { older = s.0.older; split = pe ∙ s.0.split; counted = re ∙ s.0.counted ∙ ap length (sym pe); before = s.0.before }, s.1)
  moved lane past now (Answering len values position outcome stored) pe re s =
      (record { older = s.0.older; split = pe ∙ s.0.split; counted = re ∙ s.0.counted ∙ ap length (sym pe); before = s.0.before }, s.1)

  -- one outcome more leaves it there too
  pub told_more : (more : List Outcome) (lane : ℕ) (past : List Mark) (place : Place)
      → StandsIn words outs lane past place
      → StandsIn words (outs ++ more) lane past place
  told_more more lane past AtRest s = record { counted = s.counted; before = whole_stay words outs more lane (pieces lane past) s.before }
  told_more more lane past Called s = record { counted = s.counted; before = whole_stay words outs more lane (pieces lane past) s.before }
  told_more more lane past (Capturing len values) s = (
    record {
      older = s.0.older;
      split = s.0.split;
      counted = s.0.counted;
      before =
          whole_stay words outs more lane s.0.older s.0.before;
    },
    s.1,
  )
  told_more more lane past (Answering len values position outcome stored) s = (
    record { older = s.0.older; split = s.0.split; counted = s.0.counted; before = whole_stay words outs more lane s.0.older s.0.before },
    record { enough = s.1.enough; told_so = told_stays outs more position outcome s.1.told_so; more = s.1.more },
  )

-- marks of another lane
pub other_lane : {X : Type 0} (other lane : ℕ) (x y : X) → (other ≡ lane → ⊥) → (if other == lane then x else y) ≡ y
other_lane other lane x y h = ap (λ b. if b then x else y) (ne_eqb other lane h)

-- no more is left than a ring's most actions
left_within : (words : ℕ) (place : Place) → IsShort words place → left words place ≤ longest words
left_within words AtRest h = omega arith
left_within words Called h = omega arith
left_within words (Capturing len values) h = omega (arith, needed_within words len)
left_within words (Answering len values position outcome stored) h = omega (arith, h)

module _ {M : Type 0} (step : M → Request → Outcome × M) (m : M) (words lane : ℕ) where
  -- the lane's own next action
  turn_own : (past : List Mark) (len : ℕ) (values : List ℕ)
      → IsBounded step
      → StandsIn words (outcomes_of step m past) lane past (Capturing len values)
      → length values ≡ needed words len
      → Acted step m words lane (made lane Turn past) (words + 2)
  turn_own past len values bounded s enough =
      let request : Request = request_in lane (last_saved lane past) (newest (pieces lane past)) in
      let outcome : Outcome = (step (left_by step m (requests past)) request).0 in
      let n : ℕ = length (requests past) in
      let on = to_answering words (outcomes_of step m past) lane len values outcome past s enough in
      let P : ℕ → Type 0 =
      λ k. StandsIn words (outcomes_of step m past ++ outcome ∷ []) lane (Did (Turned lane k) ∷ past) (Answering len values k outcome 0) in
      let Q : List Outcome → Type 0 = λ os. StandsIn words os lane (Did (Turned lane n) ∷ past) (Answering len values n outcome 0) in
      let short : length (answer (receipt_of n outcome)) ≤ words + 2 =
      length-answer_within words (receipt_of n outcome)
      (omega (
        arith,
        bounded (left_by step m (requests past)) request,
        length-request lane len (last_saved lane past) values (pieces lane past) s.0.older s.0.split,
        enough,
        needed_within words len,
      )) in
      record {
        placed = record {
          place = Answering len values n outcome 0;
          stands = subst Q (sym (outcomes-turned step m lane n past)) (subst P (length-outcomes step m (requests past)) on);
          short = short;
        };
        less = omega (arith, short);
      }

  store_own : (past : List Mark) (len : ℕ) (values : List ℕ) (position : ℕ) (outcome : Outcome) (stored : ℕ)
      → StandsIn words (outcomes_of step m past) lane past (Answering len values position outcome stored)
      → length (answer (receipt_of position outcome)) ≤ words + 2
      → Acted step m words lane (made lane (next_at words (Answering len values position outcome stored)) past)
      (length (answer (receipt_of position outcome)) - stored - 1)
  store_own past len values position outcome stored s h =
      let stores : List (ℕ × ℕ) = answer (receipt_of position outcome) in
      let to : ℕ × ℕ = get_or stores stored (0, 0) in
      let there = slice_get-get_or stores stored (0, 0) s.1.more in
      let P : Action → Type 0 = λ a. Acted step m words lane (made lane a past) (length stores - stored - 1) in
      subst P (sym (next_store words len values position outcome stored to there))
      (elim (cases_lt (suc stored) (length stores)) [
        | inl more ↦ record {
          placed = record {
            place = Answering len values position outcome (suc stored);
            stands = to_answering_more words (outcomes_of step m past) lane len values position outcome stored to past s there more;
            short = h;
          };
          less = omega arith;
        }
        | inr last ↦ record {
          placed = record {
            place = AtRest;
            stands =
                to_rest words (outcomes_of step m past) lane len values position outcome stored to past s there (omega (arith, s.1.more));
            short = tt;
          };
          less = omega arith;
        }
      ])

  made_own : (past : List Mark) (place : Place)
      → IsBounded step
      → StandsIn words (outcomes_of step m past) lane past place
      → IsShort words place
      → Acted step m words lane (made lane (next_at words place) past) (left words place - 1)
  made_own past AtRest bounded s h = record { placed = record { place = AtRest; stands = s; short = tt }; less = omega arith }
  made_own past Called bounded s h =
      let value : ℕ = value_at lane 0 past in
      record {
        placed = record {
          place = Capturing value [];
          stands = to_capturing words (outcomes_of step m past) lane value past s;
          short = tt;
        };
        less = omega (arith, needed_within words value);
      }
  made_own past (Capturing len values) bounded s h =
      let n : ℕ = needed words len in
      elim (nat_lt (length values) n)
      as (λ b. nat_lt (length values) n ≡ b
      → Acted step m words lane (made lane (if b then Load (2 + length values) else Turn) past) (n - length values + words + 3 - 1)) [
        | true ↦ λ e.
            let value : ℕ = value_at lane (2 + length values) past in
            let less : length values < n = ltb-true (length values) n e in
            record {
              placed = record {
                place = Capturing len (values ++ value ∷ []);
                stands = to_capturing_more words (outcomes_of step m past) lane len values value past s less;
                short = tt;
              };
              less = omega (arith, length-append values (value ∷ []), less);
            }
        | false ↦ λ e.
            let t = turn_own past len values bounded s (omega (arith, ltb-false (length values) n e, s.1)) in
            record { placed = t.placed; less = omega (arith, t.less) }
      ] refl
  made_own past (Answering len values position outcome stored) bounded s h =
      store_own past len values position outcome stored s h

  pub act_own : (past : List Mark)
      → IsBounded step
      → (p : Placed step m words lane past)
      → Acted step m words lane (act step m words lane past) (left words p.place - 1)
  act_own past bounded p =
      let P : Action → Type 0 = λ a. Acted step m words lane (made lane a past) (left words p.place - 1) in
      subst P (sym (next_of_place words (outcomes_of step m past) lane past p.place p.stands))
      (made_own past p.place bounded p.stands p.short)

  pub acts_own : (n : ℕ) (past : List Mark)
      → IsBounded step
      → (p : Placed step m words lane past)
      → Acted step m words lane (acts step m words lane n past) (left words p.place - n)
  acts_own zero past bounded p = record { placed = p; less = omega arith }
  acts_own (suc n) past bounded p =
      let a = act_own past bounded p in
      let on = acts_own n (act step m words lane past) bounded a.placed in
      record { placed = on.placed; less = omega (arith, on.less, a.less) }

  made_other : (other : ℕ) (past : List Mark) (a : Action)
      → (other ≡ lane → ⊥)
      → Placed step m words lane past
      → Placed step m words lane (made other a past)
  made_other other past Rest h p = p
  made_other other past (Load word) h p = record {
    place = p.place;
    stands =
        moved words (outcomes_of step m past) lane past (Did (Loaded other word (value_at other word past)) ∷ past) p.place
        (other_lane other lane _ _ h) refl p.stands;
    short = p.short;
  }
  made_other other past Turn h p =
      let n : ℕ = length (requests past) in
      let request : Request = request_in other (last_saved other past) (newest (pieces other past)) in
      let outcome : Outcome = (step (left_by step m (requests past)) request).0 in
      let now : List Mark = Did (Turned other n) ∷ past in
      let Q : List Outcome → Type 0 = λ os. StandsIn words os lane now p.place in
      let on = told_more words (outcomes_of step m past) (outcome ∷ []) lane past p.place p.stands in
      record {
        place = p.place;
        stands =
            subst Q (sym (outcomes-turned step m other n past))
            (moved words (outcomes_of step m past ++ outcome ∷ []) lane past now p.place (other_lane other lane _ _ h) refl on);
        short = p.short;
      }
  made_other other past (Store word value) h p = record {
    place = p.place;
    stands =
        moved words (outcomes_of step m past) lane past (Did (Stored other word value) ∷ past) p.place
        (other_lane other lane _ _ h) refl p.stands;
    short = p.short;
  }

  acts_other : (other n : ℕ) (past : List Mark)
      → (other ≡ lane → ⊥)
      → Placed step m words lane past
      → Placed step m words lane (acts step m words other n past)
  acts_other other zero past h p = p
  acts_other other (suc n) past h p =
      acts_other other n (act step m words other past) h
      (made_other other past (next words (outcomes_of step m past) other past) h p)

  -- n actions of any lane
  pub acts_any : (other n : ℕ) (past : List Mark)
      → IsBounded step
      → Placed step m words lane past
      → Placed step m words lane (acts step m words other n past)
  acts_any other n past bounded p =
      elim (other == lane) as (λ b. (other == lane) ≡ b → Placed step m words lane (acts step m words other n past)) [
        | true ↦ λ e.
            let P : ℕ → Type 0 = λ l. Placed step m words lane (acts step m words l n past) in
            subst P (sym (eqb-true other lane e)) (acts_own n past bounded p).placed
        | false ↦ λ e. acts_other other n past (eqb-false other lane e) p
      ] refl

  -- a ring of any lane
  ring_own : (saved : Saved) (past : List Mark) (place : Place)
      → StandsIn words (outcomes_of step m past) lane past place
      → IsShort words place
      → Placed step m words lane (if rests words (outcomes_of step m past) lane past then Rung lane saved ∷ past else past)
  ring_own saved past AtRest s h =
      let R : Bool → Type 0 = λ b. Placed step m words lane (if b then Rung lane saved ∷ past else past) in
      subst R (sym (at_rest words (outcomes_of step m past) lane past s))
      record { place = Called; stands = to_called words (outcomes_of step m past) lane saved past s; short = tt }
  ring_own saved past Called s h =
      let R : Bool → Type 0 = λ b. Placed step m words lane (if b then Rung lane saved ∷ past else past) in
      subst R (sym (away words (outcomes_of step m past) lane past Called s refl)) record { place = Called; stands = s; short = h }
  ring_own saved past (Capturing len values) s h =
      let R : Bool → Type 0 = λ b. Placed step m words lane (if b then Rung lane saved ∷ past else past) in
      subst R
      (sym (away words (outcomes_of step m past) lane past (Capturing len values) s refl))
      record { place = Capturing len values; stands = s; short = h }
  ring_own saved past (Answering len values position outcome stored) s h =
      let R : Bool → Type 0 = λ b. Placed step m words lane (if b then Rung lane saved ∷ past else past) in
      subst R
      (sym (away words (outcomes_of step m past) lane past (Answering len values position outcome stored) s refl))
      record { place = Answering len values position outcome stored; stands = s; short = h }

  ring_other : (other : ℕ) (saved : Saved) (past : List Mark) (b : Bool)
      → (other ≡ lane → ⊥)
      → Placed step m words lane past
      → Placed step m words lane (if b then Rung other saved ∷ past else past)
  ring_other other saved past false h p = p
  ring_other other saved past true h p = record {
    place = p.place;
    stands = moved words (outcomes_of step m past) lane past (Rung other saved ∷ past) p.place refl (other_lane other lane _ _ h) p.stands;
    short = p.short;
  }

  -- every event leaves every lane at a place
  pub happens_placed : (event : Event) (past : List Mark)
      → IsBounded step
      → Placed step m words lane past
      → Placed step m words lane (happens step m words event past)
  happens_placed (Ring other saved) past bounded p =
      elim (other == lane) as (λ b. (other == lane) ≡ b → Placed step m words lane (happens step m words (Ring other saved) past)) [
        | true ↦ λ e.
            let P : ℕ → Type 0 = λ l. Placed step m words lane (happens step m words (Ring l saved) past) in
            subst P (sym (eqb-true other lane e)) (ring_own saved past p.place p.stands p.short)
        | false ↦ λ e. ring_other other saved past (rests words (outcomes_of step m past) other past) (eqb-false other lane e) p
      ] refl
  happens_placed (Poke other word value) past bounded p = record {
    place = p.place;
    stands = moved words (outcomes_of step m past) lane past (Did (Poked other word value) ∷ past) p.place refl refl p.stands;
    short = p.short;
  }
  happens_placed (Steps other count) past bounded p = acts_any other count past bounded p
  happens_placed (Run other) past bounded p = acts_any other (longest words) past bounded p

  after_events_placed : (events : List Event) (past : List Mark)
      → IsBounded step
      → Placed step m words lane past
      → Placed step m words lane (after_events step m words events past)
  after_events_placed [] past bounded p = p
  after_events_placed (event ∷ events) past bounded p =
      after_events_placed events (happens step m words event past) bounded (happens_placed event past bounded p)

  pub course_placed : (events : List Event) → IsBounded step → Placed step m words lane (course step m words events)
  course_placed events bounded =
      after_events_placed events [] bounded record { place = AtRest; stands = record { counted = refl; before = tt }; short = tt }

  -- a place from which nothing is left is at rest
  none_left : (past : List Mark) (place : Place)
      → left words place ≤ 0
      → StandsIn words (outcomes_of step m past) lane past place
      → rests words (outcomes_of step m past) lane past ≡ true
  none_left past AtRest h s = at_rest words (outcomes_of step m past) lane past s
  none_left past Called h s = absurd (omega (arith, h))
  none_left past (Capturing len values) h s = absurd (omega (arith, h))
  none_left past (Answering len values position outcome stored) h s = absurd (omega (arith, h, s.1.more))

  pub runs_to_rest : (past : List Mark)
      → IsBounded step
      → Placed step m words lane past
      → rests words (outcomes_of step m (acts step m words lane (longest words) past)) lane (acts step m words lane (longest words) past)
      ≡ true
  runs_to_rest past bounded p =
      let on = acts_own (longest words) past bounded p in
      none_left (acts step m words lane (longest words) past) on.placed.place
      (omega (arith, on.less, left_within words p.place p.short)) on.placed.stands
