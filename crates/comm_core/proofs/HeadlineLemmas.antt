-- From what a world stands for to its headline.
use Rattle.std.proofs.Common.{◌≡◌, ◌<◌, ℕ, zero, suc, ◌+◌, ◌==◌, Bool, true, false, if◌then◌else◌, ◌&&◌, nat_lt, List, [], ◌∷◌, ◌++◌, length, map, take, drop, reverse, Option, Some, None, unwrap_or, slice_index, refl, sym, ap, ◌∙◌, subst, arith}
use Rattle.std.proofs.lemmas.Bool.{eqb-true, eqb-false, ne_eqb}
use Rattle.std.proofs.lemmas.List.{append-nil, map-append, reverse-append}
use Rattle.std.proofs.lemmas.Option.{none-some, same_Some, slice_get-map}
use Rattle.std.specs.List.{slice_get}
use Rattle.std.specs.Option.{option_map}
use Rattle.mm_base.specs.Numbers.{bytes_of_words}
use Rattle.mm_base.specs.Receipt.{receipt_of}
use Rattle.mm_base.specs.Replay.{replayed, left_by}
use Rattle.mm_base.specs.declared.cells.Saved.{Saved}
use Rattle.mm_base.specs.declared.entry.Entry.{Entry}
use Rattle.mm_base.specs.declared.entry.Outcome.{Outcome}
use Rattle.mm_base.specs.declared.entry.Request.{Request}
use Rattle.comm_core.specs.Piece.{needed, store, answer, whole, loaded, length_in, turn_in, receipt_at, request_in}
use Rattle.comm_core.specs.Capture.{Mark, Rung, Did, trace_of, value_at, last_saved, joined, pieces, marks_of, pieces_in, newest, requests, outcomes_of, rests, made, act, acts, longest, happens, after_events, course}
use Rattle.mm_history.specs.History.{requests_of}
use Rattle.comm_core.specs.Headline.{TellsTrue, turns_in, numbered_turns, outcomes_in, WasCapturedOnce}
use Rattle.comm_core.specs.Laws.{Begins, LoadsOnce, IsServed, action_of}
use Rattle.comm_core.specs.Standing.{captured, answered, AreWhole, StandsIn, next_at, Place, AtRest, Called, Capturing, Answering}
use Rattle.comm_core.specs.WorldHeadline.{HasHeadline}
use Rattle.comm_core.specs.WorldState.{LaneState, WorldState, lane_values}
use Rattle.comm_core.specs.WorldPast.{StandsForEvents}
use Rattle.comm_core.specs.declared.action.Action.{Action}
use Rattle.comm_core.specs.declared.action.Action.TheVariants.{Rest, Load, Turn}
use Rattle.comm_core.specs.declared.event.Event.{Event}
use Rattle.comm_core.specs.declared.event.Event.TheVariants.{Ring, Poke, Steps, Run}
use Rattle.comm_core.specs.declared.trace.Trace.{Trace}
use Rattle.comm_core.specs.declared.trace.Trace.TheVariants.{Loaded, Stored, Poked, Turned}
use Rattle.comm_core.proofs.CourseLemmas.{IsBounded, Placed, acts_any, happens_placed, course_placed}
use Rattle.comm_core.proofs.LaneLemmas.{last_or_front}
use Rattle.comm_core.proofs.LawLemmas.{served, one_whole, older_whole, loads_answered, each_begins}
use Rattle.comm_core.proofs.PieceLemmas.{turn_in-made, receipt_at-told}
use Rattle.comm_core.proofs.StandingLemmas.{next_of_place, pieces-loaded_length, pieces-loaded, pieces-stored, pieces-turned}

-- a trace tells what its past does
marks_of-snoc : (trace : List Trace) (record_made : Trace) → marks_of (trace ++ record_made ∷ []) ≡ Did record_made ∷ marks_of trace
marks_of-snoc trace record_made =
    ap reverse (map-append Did trace (record_made ∷ [])) ∙ reverse-append (map Did trace) (Did record_made ∷ [])

pub pieces_told : (lane : ℕ) (past : List Mark) → pieces_in lane (trace_of past) ≡ pieces lane past
pieces_told lane [] = refl
pieces_told lane (Rung l saved ∷ past) = pieces_told lane past
pieces_told lane (Did (Loaded l word value) ∷ past) =
    ap (pieces lane) (marks_of-snoc (trace_of past) (Loaded l word value))
    ∙ ap (λ ps. if l == lane then (if word == 0 then (Loaded l word value ∷ []) ∷ ps else joined (Loaded l word value) ps) else ps)
    (pieces_told lane past)
pieces_told lane (Did (Stored l word value) ∷ past) =
    ap (pieces lane) (marks_of-snoc (trace_of past) (Stored l word value))
    ∙ ap (λ ps. if l == lane then joined (Stored l word value) ps else ps) (pieces_told lane past)
pieces_told lane (Did (Poked l word value) ∷ past) =
    ap (pieces lane) (marks_of-snoc (trace_of past) (Poked l word value)) ∙ pieces_told lane past
pieces_told lane (Did (Turned l position) ∷ past) =
    ap (pieces lane) (marks_of-snoc (trace_of past) (Turned l position))
    ∙ ap (λ ps. if l == lane then joined (Turned l position) ps else ps) (pieces_told lane past)

value_told : (lane word : ℕ) (past : List Mark) → value_at lane word (marks_of (trace_of past)) ≡ value_at lane word past
value_told lane word [] = refl
value_told lane word (Rung l saved ∷ past) = value_told lane word past
value_told lane word (Did (Loaded l w value) ∷ past) =
    ap (value_at lane word) (marks_of-snoc (trace_of past) (Loaded l w value)) ∙ value_told lane word past
value_told lane word (Did (Stored l w value) ∷ past) =
    ap (value_at lane word) (marks_of-snoc (trace_of past) (Stored l w value))
    ∙ ap (λ v. if (l == lane) && (w == word) then value else v) (value_told lane word past)
value_told lane word (Did (Poked l w value) ∷ past) =
    ap (value_at lane word) (marks_of-snoc (trace_of past) (Poked l w value))
    ∙ ap (λ v. if (l == lane) && (w == word) then value else v) (value_told lane word past)
value_told lane word (Did (Turned l position) ∷ past) =
    ap (value_at lane word) (marks_of-snoc (trace_of past) (Turned l position)) ∙ value_told lane word past

true_told : (past : List Mark) → TellsTrue past → TellsTrue (marks_of (trace_of past))
true_told [] t = tt
true_told (Rung l saved ∷ past) t = true_told past t
true_told (Did (Loaded l w value) ∷ past) t =
    subst TellsTrue (sym (marks_of-snoc (trace_of past) (Loaded l w value))) (t.0 ∙ sym (value_told l w past), true_told past t.1)
true_told (Did (Stored l w value) ∷ past) t = subst TellsTrue (sym (marks_of-snoc (trace_of past) (Stored l w value))) (true_told past t)
true_told (Did (Poked l w value) ∷ past) t = subst TellsTrue (sym (marks_of-snoc (trace_of past) (Poked l w value))) (true_told past t)
true_told (Did (Turned l position) ∷ past) t = subst TellsTrue (sym (marks_of-snoc (trace_of past) (Turned l position))) (true_told past t)

-- the turns of a trace that grows
turns_in-append : (xs ys : List Trace) → turns_in (xs ++ ys) ≡ turns_in xs ++ turns_in ys
turns_in-append [] ys = refl
turns_in-append (Loaded lane word value ∷ xs) ys = turns_in-append xs ys
turns_in-append (Stored lane word value ∷ xs) ys = turns_in-append xs ys
turns_in-append (Poked lane word value ∷ xs) ys = turns_in-append xs ys
turns_in-append (Turned lane position ∷ xs) ys = ap (λ turns. (lane, position) ∷ turns) (turns_in-append xs ys)

numbered_turns-snoc : (k : ℕ) (rs : List Request) (r : Request) → numbered_turns k (rs ++ r ∷ []) ≡ numbered_turns k rs ++ (r.lane, k + length rs) ∷ []
numbered_turns-snoc k [] r = ap (λ n. (r.lane, n) ∷ []) (omega arith)
numbered_turns-snoc k (q ∷ rs) r =
    ap (λ turns. (q.lane, k) ∷ turns)
    (numbered_turns-snoc (k + 1) rs r ∙ ap (λ n. numbered_turns (k + 1) rs ++ (r.lane, n) ∷ []) (omega arith))

-- An entry's request is what one of these pieces, which came to its turn, loaded.
record Entered (ps : List (List Trace)) (position : ℕ) (request : Request) : Type 0 where
  place : ℕ
  piece : List Trace
  there : slice_get ps place ≡ Some piece
  turn : turn_in piece ≡ Some position
  request_is : request ≡ request_in request.lane request.saved piece

-- a new piece in front
entered_new : (piece : List Trace) (ps : List (List Trace)) (position : ℕ) (request : Request)
    → Entered ps position request
    → Entered (piece ∷ ps) position request
entered_new piece ps position request e =
    record { place = suc e.place; piece = e.piece; there = e.there; turn = e.turn; request_is = e.request_is }

-- the newest piece, which has no turn yet, in another form
entered_under : (p q : List Trace) (older : List (List Trace)) (position : ℕ) (request : Request)
    → turn_in p ≡ None
    → Entered (p ∷ older) position request
    → Entered (q ∷ older) position request
entered_under p q older position request none e = by e.place e.there
  where
    by : (place : ℕ) → slice_get (p ∷ older) place ≡ Some e.piece → Entered (q ∷ older) position request
    by zero there =
        let same : p ≡ e.piece = same_Some p e.piece there in
        absurd (none-some position (sym none ∙ ap turn_in same ∙ e.turn))
    by (suc k) there = record { place = suc k; piece = e.piece; there = there; turn = e.turn; request_is = e.request_is }

-- what a store after a piece leaves
turn_in-stored : (piece : List Trace) (lane word value : ℕ) → turn_in (piece ++ Stored lane word value ∷ []) ≡ turn_in piece
turn_in-stored [] lane word value = refl
turn_in-stored (Loaded l w v ∷ piece) lane word value = turn_in-stored piece lane word value
turn_in-stored (Stored l w v ∷ piece) lane word value = turn_in-stored piece lane word value
turn_in-stored (Poked l w v ∷ piece) lane word value = turn_in-stored piece lane word value
turn_in-stored (Turned l position ∷ piece) lane word value = refl

loaded-stored : (piece : List Trace) (lane word value : ℕ) → loaded (piece ++ Stored lane word value ∷ []) ≡ loaded piece
loaded-stored [] lane word value = refl
loaded-stored (Loaded l w v ∷ piece) lane word value = ap (λ vs. v ∷ vs) (loaded-stored piece lane word value)
loaded-stored (Stored l w v ∷ piece) lane word value = loaded-stored piece lane word value
loaded-stored (Poked l w v ∷ piece) lane word value = loaded-stored piece lane word value
loaded-stored (Turned l position ∷ piece) lane word value = loaded-stored piece lane word value

-- what a turn after a piece leaves
turn_in-turned : (piece : List Trace) (lane position : ℕ)
    → turn_in piece ≡ None
    → turn_in (piece ++ Turned lane position ∷ []) ≡ Some position
turn_in-turned [] lane position none = refl
turn_in-turned (Loaded l w v ∷ piece) lane position none = turn_in-turned piece lane position none
turn_in-turned (Stored l w v ∷ piece) lane position none = turn_in-turned piece lane position none
turn_in-turned (Poked l w v ∷ piece) lane position none = turn_in-turned piece lane position none
turn_in-turned (Turned l p ∷ piece) lane position none = absurd (none-some p (sym none))

loaded-turned : (piece : List Trace) (lane position : ℕ) → loaded (piece ++ Turned lane position ∷ []) ≡ loaded piece
loaded-turned [] lane position = refl
loaded-turned (Loaded l w v ∷ piece) lane position = ap (λ vs. v ∷ vs) (loaded-turned piece lane position)
loaded-turned (Stored l w v ∷ piece) lane position = loaded-turned piece lane position
loaded-turned (Poked l w v ∷ piece) lane position = loaded-turned piece lane position
loaded-turned (Turned l p ∷ piece) lane position = loaded-turned piece lane position

-- a request is known by what was loaded
request_in-same : (lane : ℕ) (saved : Saved) (p q : List Trace) → loaded p ≡ loaded q → request_in lane saved p ≡ request_in lane saved q
request_in-same lane saved p q e =
    let of : List ℕ → Request = λ vs. record {
      lane = lane;
      length = unwrap_or (slice_get vs 0) 0;
      bytes = take (unwrap_or (slice_get vs 0) 0) (bytes_of_words (drop 1 vs));
      saved = saved;
    } in
    ap of e

-- a store after the newest piece
entered_stored : (p : List Trace) (older : List (List Trace)) (lane word value position : ℕ) (request : Request)
    → Entered (p ∷ older) position request
    → Entered ((p ++ Stored lane word value ∷ []) ∷ older) position request
entered_stored p older lane word value position request e = by e.place e.there
  where
    q : List Trace
    q = p ++ Stored lane word value ∷ []

    by : (place : ℕ) → slice_get (p ∷ older) place ≡ Some e.piece → Entered (q ∷ older) position request
    by zero there =
        let same : p ≡ e.piece = same_Some p e.piece there in
        record {
          place = 0;
          piece = q;
          there = refl;
          turn = turn_in-stored p lane word value ∙ ap turn_in same ∙ e.turn;
          request_is =
              e.request_is ∙ request_in-same request.lane request.saved e.piece q (sym (loaded-stored p lane word value ∙ ap loaded same));
        }
    by (suc k) there = record { place = suc k; piece = e.piece; there = there; turn = e.turn; request_is = e.request_is }

-- a turn after the newest piece, which makes its entry
entered_turned : (p : List Trace) (older : List (List Trace)) (lane position : ℕ) (saved : Saved)
    → turn_in p ≡ None
    → Entered ((p ++ Turned lane position ∷ []) ∷ older) position (request_in lane saved p)
entered_turned p older lane position saved none = record {
  place = 0;
  piece = p ++ Turned lane position ∷ [];
  there = refl;
  turn = turn_in-turned p lane position none;
  request_is = request_in-same lane saved p (p ++ Turned lane position ∷ []) (sym (loaded-turned p lane position));
}

-- every entry is entered
abbrev AllEntered : List Mark → Type 0
AllEntered past =
    (position : ℕ) (request : Request) → slice_get (requests past) position ≡ Some request
    → Entered (pieces request.lane past) position request

-- what a lane does leaves the pieces of the others
entered_any : (l : ℕ) (past now : List Mark) (position : ℕ) (request : Request)
    → (Entered (pieces l past) position request → Entered (pieces l now) position request)
    → ((lane : ℕ) → (l ≡ lane → ⊥) → pieces lane now ≡ pieces lane past)
    → Entered (pieces request.lane past) position request
    → Entered (pieces request.lane now) position request
entered_any l past now position request own other e =
    elim (l == request.lane) as (λ b. (l == request.lane) ≡ b → Entered (pieces request.lane now) position request) [
      | true ↦ λ h.
          let P : ℕ → Type 0 = λ k. Entered (pieces k past) position request → Entered (pieces k now) position request in
          subst P (eqb-true l request.lane h) own e
      | false ↦ λ h.
          let Q : List (List Trace) → Type 0 = λ ps. Entered ps position request in
          subst Q (sym (other request.lane (eqb-false l request.lane h))) e
    ] refl

elsewhere : {X : Type 0} (l lane : ℕ) (x y : X) → (l ≡ lane → ⊥) → (if l == lane then x else y) ≡ y
elsewhere l lane x y h = ap (λ b. if b then x else y) (ne_eqb l lane h)

-- what a past tells of its loads, its turns and its entries
record Tells (past : List Mark) : Type 0 where
  loads : TellsTrue past
  turns : turns_in (trace_of past) ≡ numbered_turns 0 (requests past)
  entered : AllEntered past

-- a record that is no turn leaves the turns
no_turn : (past : List Mark) (t : Trace)
    → turns_in (t ∷ []) ≡ []
    → turns_in (trace_of past) ≡ numbered_turns 0 (requests past)
    → turns_in (trace_of past ++ t ∷ []) ≡ numbered_turns 0 (requests past)
no_turn past t none e =
    turns_in-append (trace_of past) (t ∷ []) ∙ ap (λ more. turns_in (trace_of past) ++ more) none ∙ append-nil (turns_in (trace_of past))
    ∙ e

module _ (l : ℕ) where
  -- the load of the length
  tells_length : (value : ℕ) (past : List Mark) → value ≡ value_at l 0 past → Tells past → Tells (Did (Loaded l 0 value) ∷ past)
  tells_length value past is t =
      let now : List Mark = Did (Loaded l 0 value) ∷ past in
      record {
        loads = (is, t.loads);
        turns = no_turn past (Loaded l 0 value) refl t.turns;
        entered = λ position request h.
            entered_any l past now position request
            (λ e.
            let P : List (List Trace) → Type 0 = λ ps. Entered ps position request in
            subst P (sym (pieces-loaded_length l value past)) (entered_new (Loaded l 0 value ∷ []) (pieces l past) position request e))
            (λ lane other. elsewhere l lane _ _ other) (t.entered position request h);
      }

  -- the load of a data word, where the newest piece has no turn yet
  tells_word : (word value : ℕ) (past : List Mark) (p : List Trace) (older : List (List Trace))
      → (word ≡ 0 → ⊥)
      → pieces l past ≡ p ∷ older
      → turn_in p ≡ None
      → value ≡ value_at l word past
      → Tells past
      → Tells (Did (Loaded l word value) ∷ past)
  tells_word word value past p older some split none is t =
      let now : List Mark = Did (Loaded l word value) ∷ past in
      let made_one : Trace = Loaded l word value in
      let grown : pieces l now ≡ (p ++ made_one ∷ []) ∷ older = pieces-loaded l word value past some ∙ ap (joined made_one) split in
      record {
        loads = (is, t.loads);
        turns = no_turn past made_one refl t.turns;
        entered = λ position request h.
            entered_any l past now position request
            (λ e.
            let P : List (List Trace) → Type 0 = λ ps. Entered ps position request in
            subst P (sym grown) (entered_under p (p ++ made_one ∷ []) older position request none (subst P split e)))
            (λ lane other. elsewhere l lane _ _ other) (t.entered position request h);
      }

  -- a store
  tells_store : (word value : ℕ) (past : List Mark) (p : List Trace) (older : List (List Trace))
      → pieces l past ≡ p ∷ older
      → Tells past
      → Tells (Did (Stored l word value) ∷ past)
  tells_store word value past p older split t =
      let now : List Mark = Did (Stored l word value) ∷ past in
      let grown : pieces l now ≡ (p ++ Stored l word value ∷ []) ∷ older =
      pieces-stored l word value past ∙ ap (joined (Stored l word value)) split in
      record {
        loads = t.loads;
        turns = no_turn past (Stored l word value) refl t.turns;
        entered = λ position request h.
            entered_any l past now position request
            (λ e.
            let P : List (List Trace) → Type 0 = λ ps. Entered ps position request in
            subst P (sym grown) (entered_stored p older l word value position request (subst P split e)))
            (λ lane other. elsewhere l lane _ _ other) (t.entered position request h);
      }

  -- the turn, which makes an entry
  tells_turn : (past : List Mark) (p : List Trace) (older : List (List Trace))
      → pieces l past ≡ p ∷ older
      → turn_in p ≡ None
      → Tells past
      → Tells (Did (Turned l (length (requests past))) ∷ past)
  tells_turn past p older split none t =
      let n : ℕ = length (requests past) in
      let now : List Mark = Did (Turned l n) ∷ past in
      let made_one : Trace = Turned l n in
      let saved : Saved = last_saved l past in
      let asked : Request = request_in l saved (newest (pieces l past)) in
      let grown : pieces l now ≡ (p ++ made_one ∷ []) ∷ older = pieces-turned l n past ∙ ap (joined made_one) split in
      let newest_is : newest (pieces l past) ≡ p = ap newest split in
      record {
        loads = t.loads;
        turns =
            turns_in-append (trace_of past) (made_one ∷ []) ∙ ap (λ turns. turns ++ (l, n) ∷ []) t.turns
            ∙ ap (λ k. numbered_turns 0 (requests past) ++ (l, k) ∷ []) (omega arith)
            ∙ sym (numbered_turns-snoc 0 (requests past) asked);
        entered = λ position request h.
            last_or_front (requests past) asked request position (Entered (pieces request.lane now) position request) h
            (λ front.
            entered_any l past now position request
            (λ e.
            let P : List (List Trace) → Type 0 = λ ps. Entered ps position request in
            subst P (sym grown) (entered_under p (p ++ made_one ∷ []) older position request none (subst P split e)))
            (λ lane other. elsewhere l lane _ _ other) (t.entered position request front))
            (λ at is.
            let P : List (List Trace) → Type 0 = λ ps. Entered ps n (request_in l saved p) in
            let Q : Request → Type 0 = λ r. Entered (pieces r.lane now) position r in
            let R : ℕ → Type 0 = λ k. Entered (pieces l now) k asked in
            let S : List Trace → Type 0 = λ q. Entered (pieces l now) n (request_in l saved q) in
            subst Q is (subst R (sym at) (subst S (sym newest_is) (subst P (sym grown) (entered_turned p older l n saved none)))));
      }

-- each lane has a place, and the past tells its entries
record Kept {M : Type 0} (step : M → Request → Outcome × M) (m : M) (words : ℕ) (past : List Mark) : Type 0 where
  placed : (lane : ℕ) → Placed step m words lane past
  tells : Tells past

-- a ring and a poke leave what the past tells
tells_ring : (l : ℕ) (saved : Saved) (past : List Mark) (b : Bool) → Tells past → Tells (if b then Rung l saved ∷ past else past)
tells_ring l saved past true t = record { loads = t.loads; turns = t.turns; entered = t.entered }
tells_ring l saved past false t = t

tells_poke : (l word value : ℕ) (past : List Mark) → Tells past → Tells (Did (Poked l word value) ∷ past)
tells_poke l word value past t = record { loads = t.loads; turns = no_turn past (Poked l word value) refl t.turns; entered = t.entered }

-- nothing happened yet
nothing_entered : AllEntered []
nothing_entered position request h = absurd (none-some request h)

module _ {M : Type 0} (step : M → Request → Outcome × M) (m : M) (words : ℕ) where
  -- the lane's next action at its place
  tells_next : (l : ℕ) (past : List Mark) (place : Place)
      → StandsIn words (outcomes_of step m past) l past place
      → Tells past
      → Tells (made l (next_at words place) past)
  tells_next l past AtRest s t = t
  tells_next l past Called s t = tells_length l (value_at l 0 past) past refl t
  tells_next l past (Capturing len values) s t =
      elim (nat_lt (length values) (needed words len)) as (λ b. Tells (made l (if b then Load (2 + length values) else Turn) past)) [
        | true ↦
            tells_word l (2 + length values) (value_at l (2 + length values) past) past (captured l len values) s.0.older
            (λ e. absurd (omega (arith, e)))
            s.0.split (turn_in-made l 2 values) refl t
        | false ↦ tells_turn l past (captured l len values) s.0.older s.0.split (turn_in-made l 2 values) t
      ]
  tells_next l past (Answering len values position outcome stored) s t =
      let P : Option Action → Type 0 = λ a. Tells (made l (unwrap_or a Rest) past) in
      subst P (sym (slice_get-map store (answer (receipt_of position outcome)) stored))
      (by (slice_get (answer (receipt_of position outcome)) stored))
    where
      by : (next_store : Option (ℕ × ℕ)) → Tells (made l (unwrap_or (option_map store next_store) Rest) past)
      by None = t
      by (Some (word, value)) =
          tells_store l word value past
          (answered l len values position (take stored (answer (receipt_of position outcome)))) s.0.older s.0.split t

  act_kept : (l : ℕ) (past : List Mark) → IsBounded step → Kept step m words past → Kept step m words (act step m words l past)
  act_kept l past bounded k =
      let p = k.placed l in
      let P : Action → Type 0 = λ a. Tells (made l a past) in
      record {
        placed = λ lane. acts_any step m words lane l 1 past bounded (k.placed lane);
        tells =
            subst P (sym (next_of_place words (outcomes_of step m past) l past p.place p.stands))
            (tells_next l past p.place p.stands k.tells);
      }

  acts_kept : (l n : ℕ) (past : List Mark) → IsBounded step → Kept step m words past → Kept step m words (acts step m words l n past)
  acts_kept l zero past bounded k = k
  acts_kept l (suc n) past bounded k = acts_kept l n (act step m words l past) bounded (act_kept l past bounded k)

  happens_kept : (event : Event) (past : List Mark)
      → IsBounded step
      → Kept step m words past
      → Kept step m words (happens step m words event past)
  happens_kept (Ring l saved) past bounded k = record {
    placed = λ lane. happens_placed step m words lane (Ring l saved) past bounded (k.placed lane);
    tells = tells_ring l saved past (rests words (outcomes_of step m past) l past) k.tells;
  }
  happens_kept (Poke l word value) past bounded k = record {
    placed = λ lane. happens_placed step m words lane (Poke l word value) past bounded (k.placed lane);
    tells = tells_poke l word value past k.tells;
  }
  happens_kept (Steps l count) past bounded k = acts_kept l count past bounded k
  happens_kept (Run l) past bounded k = acts_kept l (longest words) past bounded k

  after_events_kept : (events : List Event) (past : List Mark)
      → IsBounded step
      → Kept step m words past
      → Kept step m words (after_events step m words events past)
  after_events_kept [] past bounded k = k
  after_events_kept (event ∷ events) past bounded k =
      after_events_kept events (happens step m words event past) bounded (happens_kept event past bounded k)

  course_kept : (events : List Event) → IsBounded step → Kept step m words (course step m words events)
  course_kept events bounded =
      after_events_kept events [] bounded record {
        placed = λ lane. course_placed step m words lane [] bounded;
        tells = record { loads = tt; turns = refl; entered = nothing_entered };
      }

-- the requests of a replay are those that were replayed
requests_replayed : {M : Type 0} (step : M → Request → Outcome × M) (m : M) (rs : List Request) → requests_of (replayed step m rs) ≡ rs
requests_replayed step m [] = refl
requests_replayed step m (r ∷ rs) = ap (λ qs. r ∷ qs) (requests_replayed step (step m r).1 rs)

request_at : (entries : List Entry) (rs : List Request) (position : ℕ) (entry : Entry)
    → requests_of entries ≡ rs
    → slice_get entries position ≡ Some entry
    → slice_get rs position ≡ Some entry.request
request_at entries rs position entry is h =
    ap (λ qs. slice_get qs position) (sym is) ∙ slice_get-map (λ (e : Entry). e.request) entries position
    ∙ ap (option_map (λ (e : Entry). e.request)) h

outcome_at : (entries : List Entry) (position : ℕ) (entry : Entry)
    → slice_get entries position ≡ Some entry
    → slice_get (map (λ (e : Entry). e.outcome) entries) position ≡ Some entry.outcome
outcome_at entries position entry h =
    slice_get-map (λ (e : Entry). e.outcome) entries position ∙ ap (option_map (λ (e : Entry). e.outcome)) h

module _ (words : ℕ) (outs : List Outcome) (lane : ℕ) where
  -- a piece that came to its turn loads each word of its request once
  whole_once : (ps : List (List Trace)) (k : ℕ) (piece : List Trace)
      → AreWhole words outs lane ps
      → slice_get ps k ≡ Some piece
      → LoadsOnce words piece
  whole_once ps k piece w h = (served words outs lane piece (one_whole words outs lane ps k piece w h)).loads

  newest_or_older : (p : List Trace) (older : List (List Trace)) (k : ℕ) (piece : List Trace)
      → AreWhole words outs lane older
      → slice_get (p ∷ older) k ≡ Some piece
      → (p ≡ piece → LoadsOnce words piece)
      → LoadsOnce words piece
  newest_or_older p older zero piece w h newest_once = newest_once (same_Some p piece h)
  newest_or_older p older (suc k) piece w h newest_once = whole_once older k piece w h

  turned_once : (past : List Mark) (place : Place) (k : ℕ) (piece : List Trace) (position : ℕ)
      → StandsIn words outs lane past place
      → slice_get (pieces lane past) k ≡ Some piece
      → turn_in piece ≡ Some position
      → LoadsOnce words piece
  turned_once past AtRest k piece position s h t = whole_once (pieces lane past) k piece s.before h
  turned_once past Called k piece position s h t = whole_once (pieces lane past) k piece s.before h
  turned_once past (Capturing len values) k piece position s h t =
      newest_or_older (captured lane len values) s.0.older k piece s.0.before (ap (λ ps. slice_get ps k) (sym s.0.split) ∙ h)
      (λ e. absurd (none-some position (sym (turn_in-made lane 2 values) ∙ ap turn_in e ∙ t)))
  turned_once past (Answering len values at outcome stored) k piece position s h t =
      let P : List Trace → Type 0 = λ p. LoadsOnce words p in
      newest_or_older (answered lane len values at (take stored (answer (receipt_of at outcome)))) s.0.older k piece s.0.before
      (ap (λ ps. slice_get ps k) (sym s.0.split) ∙ h)
      (λ e. subst P e (loads_answered words lane len values at (take stored (answer (receipt_of at outcome))) s.1.enough))

-- an entry was captured once
captured_once : {M : Type 0} (step : M → Request → Outcome × M) (m : M) (words : ℕ) (past : List Mark) (position : ℕ) (entry : Entry)
    → Kept step m words past
    → slice_get (replayed step m (requests past)) position ≡ Some entry
    → WasCapturedOnce words (trace_of past) position entry
captured_once step m words past position entry k h =
    let rs : List Request = requests past in
    let lane : ℕ = entry.request.lane in
    let outs : List Outcome = outcomes_of step m past in
    let e = k.tells.entered position entry.request (request_at (replayed step m rs) rs position entry (requests_replayed step m rs) h) in
    let p = k.placed lane in
    let begins = each_begins words outs lane past p.place e.place e.piece p.stands e.there in
    let length_is : length_in e.piece ≡ entry.request.length = sym (ap (λ (r : Request). r.length) e.request_is) in
    let receipt_is : receipt_at outs (turn_in e.piece) ≡ Some (receipt_of position entry.outcome) =
    ap (receipt_at outs) e.turn ∙ receipt_at-told outs position entry.outcome (outcome_at (replayed step m rs) position entry h) in
    record {
      place = e.place;
      piece = e.piece;
      there = ap (λ ps. slice_get ps e.place) (pieces_told lane past) ∙ e.there;
      turn = e.turn;
      request = e.request_is;
      once = turned_once words outs lane past p.place e.place e.piece position p.stands e.there e.turn;
      in_order =
          ap (λ actions. take (length (map action_of e.piece)) actions)
          (ap (λ n. whole words n (Some (receipt_of position entry.outcome))) (sym length_is)
          ∙ ap (whole words (length_in e.piece)) (sym receipt_is)) ∙ begins;
    }

-- each piece but the newest was served whole
served_older : (words : ℕ) (outs : List Outcome) (lane : ℕ) (past : List Mark) (at : Place) (place : ℕ) (piece : List Trace)
    → StandsIn words outs lane past at
    → slice_get (pieces lane past) (place + 1) ≡ Some piece
    → IsServed words outs piece
served_older words outs lane past at place piece s h =
    let e : suc place ≡ place + 1 = omega arith in
    served words outs lane piece (older_whole words outs lane past at place piece s (ap (slice_get (pieces lane past)) e ∙ h))

-- values of a world's lane are those of a lane that is there
lane_of : (lanes : List LaneState) (lane : ℕ) (values : List ℕ)
    → slice_get (lane_values lanes) lane ≡ Some values
    → (seen : LaneState) × ((slice_get lanes lane ≡ Some seen) × (seen.values ≡ values))
lane_of [] lane values there = absurd (none-some values there)
lane_of (seen ∷ lanes) zero values there = (seen, (refl, same_Some seen.values values there))
lane_of (seen ∷ lanes) (suc lane) values there = lane_of lanes lane values there

-- what stands for events has the headline
pub headline_of : {M : Type 0} (step : M → Request → Outcome × M) (m : M) (events : List Event) (w : WorldState M)
    → IsBounded step
    → StandsForEvents step m events w
    → HasHeadline step m w
headline_of {M} step m events w bounded s =
    let past : List Mark = course step m w.words events in
    let rs : List Request = requests past in
    let k = course_kept step m w.words events bounded in
    let outs : List Outcome = outcomes_of step m past in
    let are_outs : outcomes_in w.entries ≡ outs = ap outcomes_in s.entries in
    let are_pieces : (lane : ℕ) → pieces_in lane w.trace ≡ pieces lane past = λ lane. ap (pieces_in lane) s.trace ∙ pieces_told lane past in
    let is_requests : requests_of w.entries ≡ rs = ap requests_of s.entries ∙ requests_replayed step m rs in
    let T : List Trace → Type 0 = λ t. TellsTrue (marks_of t) in
    record {
      true_loads = subst T (sym s.trace) (true_told past k.tells.loads);
      turns = ap turns_in s.trace ∙ k.tells.turns ∙ ap (numbered_turns 0) (sym is_requests);
      each_once = λ position entry h.
          let W : List Trace → Type 0 = λ t. WasCapturedOnce w.words t position entry in
          subst W (sym s.trace) (captured_once step m w.words past position entry k (ap (λ es. slice_get es position) (sym s.entries) ∙ h));
      served = λ lane place piece h.
          let S : List Outcome → Type 0 = λ os. IsServed w.words os piece in
          subst S (sym are_outs)
          (served_older w.words outs lane past (k.placed lane).place place piece (k.placed lane).stands
          (ap (λ ps. slice_get ps (place + 1)) (sym (are_pieces lane)) ∙ h));
      begun = λ lane piece h.
          let B : List Outcome → Type 0 =
          λ os. Begins (map action_of piece) (whole w.words (length_in piece) (receipt_at os (turn_in piece))) in
          subst B (sym are_outs)
          (each_begins w.words outs lane past (k.placed lane).place 0 piece (k.placed lane).stands
          (ap (λ ps. slice_get ps 0) (sym (are_pieces lane)) ∙ h));
      one_thread = s.entries ∙ ap (replayed step m) (sym is_requests);
      state = s.now ∙ ap (left_by step m) (sym is_requests);
      last_values = λ lane values word there h.
          let at = lane_of w.lanes lane values there in
          let V : List ℕ → Type 0 = λ vs. word < length vs → slice_index vs word ≡ value_at lane word past in
          subst V at.1.1 (λ inside. (s.each lane at.0 at.1.0).values word inside) h
          ∙ sym (value_told lane word past)
          ∙ ap (λ t. value_at lane word (marks_of t)) (sym s.trace);
    }
