-- What a world keeps ready for a ring under way, and that each action leaves it so.
use Rattle.std.proofs.Common.{◌≡◌, ◌≤◌, ◌<◌, ℕ, zero, suc, ◌+◌, ◌-◌, ◌*◌, ◌^◌, ◌==◌, true, false, if◌then◌else◌, nat_lt, List, [], ◌∷◌, ◌++◌, length, map, take, max, get_or, unwrap_or, slice_set, Some, refl, sym, ap, ◌∙◌, subst, arith, length-append}
use Rattle.std.proofs.Math.ListN.{length-set}
use Rattle.std.specs.List.{slice_get, sum_by}
use Rattle.std.specs.Option.{option_map}
use Rattle.std.proofs.lemmas.Bool.{ltb-true, ltb-false}
use Rattle.std.proofs.lemmas.List.{length-replicate}
use Rattle.std.proofs.lemmas.Option.{slice_get-map, slice_get-get_or, slice_get_within, get_or_from_slice_get}
use Rattle.mm_base.specs.Numbers.{words_for, words_of_bytes}
use Rattle.mm_base.specs.Room.{RoomState}
use Rattle.mm_base.specs.Prepared.{PreparedState, Suffices}
use Rattle.mm_base.specs.declared.cells.Saved.{Saved}
use Rattle.mm_base.specs.declared.receipt.Receipt.{Receipt}
use Rattle.comm_core.specs.Capture.{longest}
use Rattle.comm_core.specs.Piece.{needed, answer, store, from_word}
use Rattle.comm_core.specs.Processor.{is_resting, IsSound, IsBlank, MayRing, sealed, next_action, after_load, after_store, to_come, MayLoad, MayStore, MayTake}
use Rattle.comm_core.specs.WorldState.{LaneState}
use Rattle.comm_core.specs.WorldReadiness.{IsReady, IsLaneReady, HasRoom, IsRoomy, turns_to_come}
use Rattle.comm_core.specs.TransitionsInside.{asked, no_lane, new_lanes, records_left, lane_rung, lane_loaded, lane_answered, lane_stored, lane_poked}
use Rattle.comm_core.specs.declared.action.Action.{Action}
use Rattle.comm_core.specs.declared.action.Action.TheVariants.{Rest, Load, Turn, Store}
use Rattle.comm_core.specs.declared.processor.Stage.{Stage}
use Rattle.comm_core.specs.declared.processor.Stage.TheVariants.{Resting, Rung, Loading, Turning, Storing}
use Rattle.comm_core.specs.declared.trace.Trace.{Trace}
use Rattle.comm_core.proofs.ProcessorLemmas.{needed_within, length-answer_within}
use Rattle.comm_core.proofs.AnswerLemmas.{length-first_words}
use Rattle.comm_core.proofs.LaneLemmas.{after_set, sum_changed, sum_within, part_of_sum, same_sum, turns_within, length-new_lanes, new_lane_there, sum-new_lanes}

-- what an answer has next is a store or nothing
pub data IsStoreOrRest : Action → Type 0 where
  is_store : (word value : ℕ) → IsStoreOrRest (Store word value)
  is_none : IsStoreOrRest Rest

pub next_is_store : (stores : List (ℕ × ℕ)) (n : ℕ) → IsStoreOrRest (unwrap_or (slice_get (map store stores) n) Rest)
next_is_store [] n = is_none
next_is_store (to ∷ stores) zero = is_store to.0 to.1
next_is_store (to ∷ stores) (suc n) = next_is_store stores n

pub never_load : (a : Action) → IsStoreOrRest a → (word : ℕ) → a ≡ Load word → ⊥
never_load (Store w v) s word e = cc
never_load Rest s word e = cc
never_load (Load w) s word e = elim s [ ]
never_load Turn s word e = elim s [ ]

pub never_turn : (a : Action) → IsStoreOrRest a → a ≡ Turn → ⊥
never_turn (Store w v) s e = cc
never_turn Rest s e = cc
never_turn (Load w) s e = elim s [ ]
never_turn Turn s e = elim s [ ]

-- what a capture has next is a load that it needs, or its turn
pub record IsNeeded (words len loaded word : ℕ) : Type 0 where
  pub less : loaded < needed words len
  pub word_is : word ≡ 2 + loaded

load_needed : (words len loaded word : ℕ)
    → (if nat_lt loaded (needed words len) then Load (2 + loaded) else Turn) ≡ Load word
    → IsNeeded words len loaded word
load_needed words len loaded word e =
    elim (nat_lt loaded (needed words len))
    as (λ b. nat_lt loaded (needed words len) ≡ b → (if b then Load (2 + loaded) else Turn) ≡ Load word → IsNeeded words len loaded word) [
      | true ↦ λ t f. record { less = ltb-true loaded (needed words len) t; word_is = cc }
      | false ↦ λ t f. absurd cc
    ] refl e

pub turn_enough : (words len loaded : ℕ)
    → (if nat_lt loaded (needed words len) then Load (2 + loaded) else Turn) ≡ Turn
    → needed words len ≤ loaded
turn_enough words len loaded e =
    elim (nat_lt loaded (needed words len))
    as (λ b. nat_lt loaded (needed words len) ≡ b → (if b then Load (2 + loaded) else Turn) ≡ Turn → needed words len ≤ loaded)
    [ true ↦ λ t f. absurd cc | false ↦ λ t f. ltb-false loaded (needed words len) t ] refl e

pub capture_stores : (words len loaded word value : ℕ)
    → (if nat_lt loaded (needed words len) then Load (2 + loaded) else Turn) ≡ Store word value
    → ⊥
capture_stores words len loaded word value e =
    elim (nat_lt loaded (needed words len))
    as (λ b. (if b then Load (2 + loaded) else Turn) ≡ Store word value → ⊥) [ true ↦ λ f. cc | false ↦ λ f. cc ] e

-- a load may be fed where it is next
pub may_load : (words word : ℕ) (stage : Stage) → next_action words stage ≡ Load word → MayLoad words stage
may_load words word Resting e = absurd cc
may_load words word (Rung prepared saved) e = tt
may_load words word (Loading prepared saved len loaded) e = (load_needed words len loaded word e).less
may_load words word (Turning bytes) e = absurd cc
may_load words word (Storing receipt stored) e = never_load _ (next_is_store (answer receipt) stored) word e

-- it is of a word that the lane has
pub load_within : (words word : ℕ) (stage : Stage) → next_action words stage ≡ Load word → word < words + 2
load_within words word Resting e = absurd cc
load_within words word (Rung prepared saved) e = let z : 0 ≡ word = cc in omega (arith, z)
load_within words word (Loading prepared saved len loaded) e =
    let n = load_needed words len loaded word e in omega (arith, n.less, n.word_is, needed_within words len)
load_within words word (Turning bytes) e = absurd cc
load_within words word (Storing receipt stored) e = absurd (never_load _ (next_is_store (answer receipt) stored) word e)

-- a load uses up one record
load_counts : (words word value : ℕ) (stage : Stage)
    → next_action words stage ≡ Load word
    → to_come words (after_load stage value) + 1 ≤ to_come words stage
load_counts words word value Resting e = absurd cc
load_counts words word value (Rung prepared saved) e = omega arith
load_counts words word value (Loading prepared saved len loaded) e =
    let n = load_needed words len loaded word e in omega (arith, n.less, needed_within words len)
load_counts words word value (Turning bytes) e = absurd cc
load_counts words word value (Storing receipt stored) e = absurd (never_load _ (next_is_store (answer receipt) stored) word e)

load_room : (words calls value : ℕ) (stage : Stage) → HasRoom words calls stage → HasRoom words calls (after_load stage value)
load_room words calls value Resting r = tt
load_room words calls value (Rung prepared saved) r = r
load_room words calls value (Loading prepared saved len loaded) r = record { calls_fit = r.calls_fit; reply = r.reply; second = r.second }
load_room words calls value (Turning bytes) r = r
load_room words calls value (Storing receipt stored) r = tt

-- a load leaves the turn to come
pub load_turns : (value : ℕ) (stage : Stage) → turns_to_come (after_load stage value) ≡ turns_to_come stage
load_turns value Resting = refl
load_turns value (Rung prepared saved) = refl
load_turns value (Loading prepared saved len loaded) = refl
load_turns value (Turning bytes) = refl
load_turns value (Storing receipt stored) = refl

-- the next action of a lane that is looked up
pub next_there : (words : ℕ) (lanes : List LaneState) (lane : ℕ) (at : LaneState) (a : Action)
    → slice_get lanes lane ≡ Some at
    → next_action words (get_or lanes lane no_lane).processor.stage ≡ a
    → next_action words at.processor.stage ≡ a
next_there words lanes lane at a there e =
    ap (λ (x : LaneState). next_action words x.processor.stage) (sym (get_or_from_slice_get lanes lane at no_lane there)) ∙ e

pub found_there : (words : ℕ) (lanes : List LaneState) (lane : ℕ) (at : LaneState) (a : Action)
    → slice_get lanes lane ≡ Some at
    → at.processor.words ≡ words
    → a ≡ next_action at.processor.words at.processor.stage
    → next_action words (get_or lanes lane no_lane).processor.stage ≡ a
found_there words lanes lane at a there ws e =
    ap (λ (x : LaneState). next_action words x.processor.stage) (get_or_from_slice_get lanes lane at no_lane there)
    ∙ ap (λ (n : ℕ). next_action n at.processor.stage) (sym ws) ∙ sym e

-- a store is fed where it is next
pub may_store : (words word value : ℕ) (stage : Stage) → next_action words stage ≡ Store word value → MayStore stage
may_store words word value Resting e = absurd cc
may_store words word value (Rung prepared saved) e = absurd cc
may_store words word value (Loading prepared saved len loaded) e = absurd (capture_stores words len loaded word value e)
may_store words word value (Turning bytes) e = absurd cc
may_store words word value (Storing receipt stored) e = tt

-- there is a store at this place
stored_within : (stores : List (ℕ × ℕ)) (n word value : ℕ)
    → unwrap_or (slice_get (map store stores) n) Rest ≡ Store word value
    → n < length stores
stored_within [] n word value e = absurd cc
stored_within (to ∷ stores) zero word value e = omega arith
stored_within (to ∷ stores) (suc n) word value e = omega (arith, stored_within stores n word value e)

store_counts : (words word value : ℕ) (stage : Stage)
    → next_action words stage ≡ Store word value
    → to_come words (after_store stage) + 1 ≤ to_come words stage
store_counts words word value Resting e = absurd cc
store_counts words word value (Rung prepared saved) e = absurd cc
store_counts words word value (Loading prepared saved len loaded) e = absurd (capture_stores words len loaded word value e)
store_counts words word value (Turning bytes) e = absurd cc
store_counts words word value (Storing receipt stored) e =
    let less = stored_within (answer receipt) stored word value e in
    elim (stored + 1 == length (answer receipt))
    as (λ b. to_come words (if b then Resting else Storing receipt (stored + 1)) + 1 ≤ length (answer receipt) - stored)
    [ true ↦ omega (arith, less) | false ↦ omega (arith, less) ]

store_room : (words calls : ℕ) (stage : Stage) → HasRoom words calls stage → HasRoom words calls (after_store stage)
store_room words calls Resting r = tt
store_room words calls (Rung prepared saved) r = r
store_room words calls (Loading prepared saved len loaded) r = r
store_room words calls (Turning bytes) r = r
store_room words calls (Storing receipt stored) r =
    elim (stored + 1 == length (answer receipt))
    as (λ b. HasRoom words calls (if b then Resting else Storing receipt (stored + 1))) [ true ↦ tt | false ↦ tt ]

-- a store leaves the turn to come, or made
pub store_turns : (stage : Stage) → turns_to_come (after_store stage) ≡ turns_to_come stage
store_turns Resting = refl
store_turns (Rung prepared saved) = refl
store_turns (Loading prepared saved len loaded) = refl
store_turns (Turning bytes) = refl
store_turns (Storing receipt stored) =
    elim (stored + 1 == length (answer receipt))
    as (λ b. turns_to_come (if b then Resting else Storing receipt (stored + 1)) ≡ 0) [ true ↦ refl | false ↦ refl ]

module _ (words : ℕ) (lanes : List LaneState) (calls n : ℕ) where
  -- a world stays ready where one lane makes a record
  ready_made : (now_n : ℕ) (t u : RoomState Trace) (made : Trace) (lane : ℕ) (at acted : LaneState)
      → IsReady words lanes calls n t
      → slice_get lanes lane ≡ Some at
      → IsLaneReady words calls lane acted
      → to_come words acted.processor.stage + 1 ≤ to_come words at.processor.stage
      → now_n + turns_to_come acted.processor.stage ≤ n + turns_to_come at.processor.stage
      → u ≡ record { items = t.items ++ made ∷ []; room = t.room }
      → IsReady words (slice_set lanes lane acted) calls now_n u
  ready_made now_n t u made lane at acted r there ready less turns ue =
      let Q : RoomState Trace → Type 0 = λ y. IsReady words (slice_set lanes lane acted) calls now_n y in
      subst Q (sym ue) record {
        low = r.low;
        high = r.high;
        few = omega (arith, r.few, length-set lanes lane acted);
        each =
            after_set lanes lane acted (λ k x. IsLaneReady words calls k x) (slice_get_within lanes lane at there) ready
            (λ k x apart here. r.each k x here);
        records =
            omega (
              arith,
              length-append t.items (made ∷ []),
              r.records,
              less,
              sum_changed (λ (x : LaneState). to_come words x.processor.stage) lanes lane at acted there,
            );
        turns_fit =
            omega (arith, r.turns_fit, turns, sum_changed (λ (x : LaneState). turns_to_come x.processor.stage) lanes lane at acted there);
      }

  module _ (t : RoomState Trace) where
    -- a record finds its room where more records of some lane are to come
    pub room_for : (lane : ℕ) (at : LaneState)
        → IsReady words lanes calls n t
        → slice_get lanes lane ≡ Some at
        → 1 ≤ to_come words at.processor.stage
        → length t.items < t.room
    room_for lane at r there more =
        omega (arith, r.records, part_of_sum (λ (x : LaneState). to_come words x.processor.stage) lanes lane at there, more)

    pub room_for_load : (lane : ℕ) (at : LaneState) (word : ℕ)
        → IsReady words lanes calls n t
        → slice_get lanes lane ≡ Some at
        → next_action words at.processor.stage ≡ Load word
        → length t.items < t.room
    room_for_load lane at word r there e =
        room_for lane at r there (omega (arith, load_counts words word 0 at.processor.stage e))

    -- a world stays ready after a load
    pub ready_load : (u : RoomState Trace) (made : Trace) (lane : ℕ) (at acted : LaneState) (word : ℕ)
        → IsReady words lanes calls n t
        → slice_get lanes lane ≡ Some at
        → next_action words at.processor.stage ≡ Load word
        → acted ≡ lane_loaded at word
        → u ≡ record { items = t.items ++ made ∷ []; room = t.room }
        → IsReady words (slice_set lanes lane acted) calls n u
    ready_load u made lane at acted word r there e ae ue =
        let P : LaneState → Type 0 = λ x. IsReady words (slice_set lanes lane x) calls n u in
        let own = r.each lane at there in
        let value : ℕ = get_or at.values word 0 in
        let ready : IsLaneReady words calls lane (lane_loaded at word) = record {
          number = own.number;
          words_are = own.words_are;
          size = own.size;
          memory = load_room words calls value at.processor.stage own.memory;
        } in
        subst P (sym ae)
        (ready_made n t u made lane at (lane_loaded at word) r there ready (load_counts words word value at.processor.stage e)
        (omega (arith, load_turns value at.processor.stage)) ue)

    pub room_for_store : (lane : ℕ) (at : LaneState) (word value : ℕ)
        → IsReady words lanes calls n t
        → slice_get lanes lane ≡ Some at
        → next_action words at.processor.stage ≡ Store word value
        → length t.items < t.room
    room_for_store lane at word value r there e =
        room_for lane at r there (omega (arith, store_counts words word value at.processor.stage e))

    pub ready_store : (u : RoomState Trace) (made : Trace) (lane : ℕ) (at acted : LaneState) (word value : ℕ)
        → IsReady words lanes calls n t
        → slice_get lanes lane ≡ Some at
        → next_action words at.processor.stage ≡ Store word value
        → acted ≡ lane_stored at word value
        → u ≡ record { items = t.items ++ made ∷ []; room = t.room }
        → IsReady words (slice_set lanes lane acted) calls n u
    ready_store u made lane at acted word value r there e ae ue =
        let P : LaneState → Type 0 = λ x. IsReady words (slice_set lanes lane x) calls n u in
        let own = r.each lane at there in
        let ready : IsLaneReady words calls lane (lane_stored at word value) = record {
          number = own.number;
          words_are = own.words_are;
          size = length-set at.values word value ∙ own.size;
          memory = store_room words calls at.processor.stage own.memory;
        } in
        subst P (sym ae)
        (ready_made n t u made lane at (lane_stored at word value) r there ready (store_counts words word value at.processor.stage e)
        (omega (arith, store_turns at.processor.stage)) ue)

    -- how many records are to come, as the code counts them
    pub left_is : IsReady words lanes calls n t → records_left lanes ≡ sum_by (λ (x : LaneState). to_come words x.processor.stage) lanes
    left_is r =
        same_sum (λ (x : LaneState). to_come x.processor.words x.processor.stage) (λ (x : LaneState). to_come words x.processor.stage) lanes
        (λ k x here. ap (λ w. to_come w x.processor.stage) (r.each k x here).words_are)

-- a world is ready after a poke
pub ready_poke : (words : ℕ) (lanes : List LaneState) (calls n left : ℕ) (t reserved u : RoomState Trace) (made : Trace) (lane : ℕ)
    (at acted : LaneState) (word value : ℕ)
    → IsReady words lanes calls n t
    → slice_get lanes lane ≡ Some at
    → acted ≡ lane_poked at word value
    → left ≡ records_left lanes
    → reserved ≡ record { items = t.items; room = max t.room (length t.items + (left + 1)) }
    → u ≡ record { items = reserved.items ++ made ∷ []; room = reserved.room }
    → IsReady words (slice_set lanes lane acted) calls n u
ready_poke words lanes calls n left t reserved u made lane at acted word value r there ae le re ue =
    let P : LaneState → Type 0 = λ x. IsReady words (slice_set lanes lane x) calls n u in
    let now : LaneState = lane_poked at word value in
    let Q : RoomState Trace → Type 0 = λ y. IsReady words (slice_set lanes lane now) calls n y in
    let own = r.each lane at there in
    let ready : IsLaneReady words calls lane now = record {
      number = own.number;
      words_are = own.words_are;
      size = length-set at.values word value ∙ own.size;
      memory = own.memory;
    } in
    let room = ue ∙ ap (λ (x : RoomState Trace). record { items = x.items ++ made ∷ []; room = x.room }) re in
    subst P (sym ae) (subst Q (sym room) record {
      low = r.low;
      high = r.high;
      few = omega (arith, r.few, length-set lanes lane now);
      each =
          after_set lanes lane now (λ k x. IsLaneReady words calls k x) (slice_get_within lanes lane at there) ready
          (λ k x apart here. r.each k x here);
      records =
          omega (
            arith,
            length-append t.items (made ∷ []),
            r.records,
            le,
            left_is words lanes calls n t r,
            sum_changed (λ (x : LaneState). to_come words x.processor.stage) lanes lane at now there,
          );
      turns_fit = omega (arith, r.turns_fit, sum_changed (λ (x : LaneState). turns_to_come x.processor.stage) lanes lane at now there);
    })

-- the stores are to words below this one
Below : ℕ → List (ℕ × ℕ) → Type 0
Below most [] = Unit {0}
Below most (to ∷ stores) = (to.0 < most) × Below most stores

below-append : (most : ℕ) (xs ys : List (ℕ × ℕ)) → Below most xs → Below most ys → Below most (xs ++ ys)
unfolding Below
below-append most [] ys hx hy = hy
below-append most (x ∷ xs) ys hx hy = (hx.0, below-append most xs ys hx.1 hy)

below-from_word : (most word : ℕ) (values : List ℕ) → word + length values ≤ most → Below most (from_word word values)
unfolding Below
below-from_word most word [] h = tt
below-from_word most word (value ∷ values) h = (omega arith, below-from_word most (word + 1) values (omega arith))

below-one : (most word value : ℕ) → word < most → Below most ((word, value) ∷ [])
unfolding Below
below-one most word value h = (h, tt)

below-none : (most : ℕ) → Below most []
unfolding Below
below-none most = tt

below-answer : (words : ℕ) (receipt : Receipt) → length receipt.bytes ≤ 8 * words → Below (words + 2) (answer receipt)
below-answer words receipt h =
    let most : ℕ = words + 2 in
    let n : ℕ = words_for (length receipt.bytes) in
    let reply : Below most (from_word 2 (words_of_bytes receipt.bytes) ++ (0, length receipt.bytes) ∷ []) =
    below-append most (from_word 2 (words_of_bytes receipt.bytes)) ((0, length receipt.bytes) ∷ [])
    (below-from_word most 2 (words_of_bytes receipt.bytes) (omega (arith, length-first_words n receipt.bytes)))
    (below-one most 0 (length receipt.bytes) (omega arith)) in
    below-append most (if receipt.dispatched then from_word 2 (words_of_bytes receipt.bytes) ++ (0, length receipt.bytes) ∷ [] else [])
    ((1, receipt.status) ∷ [])
    (elim receipt.dispatched
    as (λ b. Below most (if b then from_word 2 (words_of_bytes receipt.bytes) ++ (0, length receipt.bytes) ∷ [] else [])) [
      | true ↦ reply
      | false ↦ below-none most
    ])
    (below-one most 1 receipt.status (omega arith))

store_below : (most : ℕ) (stores : List (ℕ × ℕ)) (n word value : ℕ)
    → Below most stores
    → unwrap_or (slice_get (map store stores) n) Rest ≡ Store word value
    → word < most
unfolding Below
store_below most [] n word value b e = absurd cc
store_below most (to ∷ stores) zero word value b e = let w : to.0 ≡ word = cc in omega (arith, w, b.0)
store_below most (to ∷ stores) (suc n) word value b e = store_below most stores n word value b.1 e

-- a store is to a word that the lane has
pub store_within : (words word value : ℕ) (stage : Stage)
    → IsSound words stage
    → next_action words stage ≡ Store word value
    → word < words + 2
store_within words word value Resting s e = absurd cc
store_within words word value (Rung prepared saved) s e = absurd cc
store_within words word value (Loading prepared saved len loaded) s e = absurd (capture_stores words len loaded word value e)
store_within words word value (Turning bytes) s e = absurd cc
store_within words word value (Storing receipt stored) s e =
    store_below (words + 2) (answer receipt) stored word value (below-answer words receipt s.fits) e

-- the request is taken where the turn is next, and it wasn't taken
pub may_take : (words calls : ℕ) (stage : Stage) → HasRoom words calls stage → next_action words stage ≡ Turn → MayTake words stage
may_take words calls Resting r e = absurd cc
may_take words calls (Rung prepared saved) r e = absurd cc
may_take words calls (Loading prepared saved len loaded) r e = turn_enough words len loaded e
may_take words calls (Turning bytes) r e = absurd r
may_take words calls (Storing receipt stored) r e = absurd (never_turn _ (next_is_store (answer receipt) stored) e)

-- the memory that is handed out at the turn has place for whatever the machine answers
pub suffices : (words calls lane : ℕ) (stage : Stage) (p : PreparedState)
    → HasRoom words calls stage
    → next_action words stage ≡ Turn
    → p ≡ sealed lane stage p
    → length p.entry.request.bytes ≤ 8 * words
    → Suffices calls p × (length p.entry.request.bytes ≤ p.second)
suffices words calls lane Resting p r e s b = absurd cc
suffices words calls lane (Rung prepared saved) p r e s b = absurd cc
suffices words calls lane (Loading prepared saved len loaded) p r e s b =
    let c : p.calls ≡ prepared.calls = ap (λ (x : PreparedState). x.calls) s in
    let y : p.reply ≡ prepared.reply = ap (λ (x : PreparedState). x.reply) s in
    let z : p.second ≡ prepared.second = ap (λ (x : PreparedState). x.second) s in (
      record { calls = omega (arith, c, r.calls_fit); reply = omega (arith, y, b, r.reply); second = omega (arith, z, b, r.second) },
      omega (arith, z, b, r.second),
    )
suffices words calls lane (Turning bytes) p r e s b = absurd r
suffices words calls lane (Storing receipt stored) p r e s b = absurd (never_turn _ (next_is_store (answer receipt) stored) e)

-- the request that is handed out is the one that was captured
pub request_asked : (words calls number lane : ℕ) (stage : Stage) (p : PreparedState)
    → HasRoom words calls stage
    → next_action words stage ≡ Turn
    → number ≡ lane
    → p ≡ sealed number stage p
    → p.entry.request ≡ asked lane stage
request_asked words calls number lane Resting p r e l s = absurd cc
request_asked words calls number lane (Rung prepared saved) p r e l s = absurd cc
request_asked words calls number lane (Loading prepared saved len loaded) p r e l s =
    ap (λ (x : PreparedState). x.entry.request) s
    ∙ ap (λ n. record { lane = n; length = len; bytes = take len prepared.captured.items; saved = saved }) l
request_asked words calls number lane (Turning bytes) p r e l s = absurd r
request_asked words calls number lane (Storing receipt stored) p r e l s = absurd (never_turn _ (next_is_store (answer receipt) stored) e)

turn_counts : (words calls : ℕ) (stage : Stage)
    → HasRoom words calls stage
    → next_action words stage ≡ Turn
    → (words + 3 ≤ to_come words stage) × (turns_to_come stage ≡ 1)
turn_counts words calls Resting r e = absurd cc
turn_counts words calls (Rung prepared saved) r e = absurd cc
turn_counts words calls (Loading prepared saved len loaded) r e = (omega arith, refl)
turn_counts words calls (Turning bytes) r e = absurd r
turn_counts words calls (Storing receipt stored) r e = absurd (never_turn _ (next_is_store (answer receipt) stored) e)

pub room_for_turn : (words : ℕ) (lanes : List LaneState) (calls n : ℕ) (t : RoomState Trace) (lane : ℕ) (at : LaneState)
    → IsReady words lanes calls n t
    → slice_get lanes lane ≡ Some at
    → next_action words at.processor.stage ≡ Turn
    → length t.items < t.room
room_for_turn words lanes calls n t lane at r there e =
    room_for words lanes calls n t lane at r there
    (omega (arith, (turn_counts words calls at.processor.stage (r.each lane at there).memory e).0))

-- a world stays ready after a turn
pub ready_turn : (words : ℕ) (lanes : List LaneState) (calls now_calls n now_n : ℕ) (t u : RoomState Trace) (made : Trace) (lane : ℕ)
    (at acted : LaneState) (receipt : Receipt)
    → IsReady words lanes calls n t
    → slice_get lanes lane ≡ Some at
    → next_action words at.processor.stage ≡ Turn
    → length receipt.bytes ≤ 8 * words
    → now_calls ≡ calls
    → now_n ≡ n + 1
    → acted ≡ lane_answered at receipt
    → u ≡ record { items = t.items ++ made ∷ []; room = t.room }
    → IsReady words (slice_set lanes lane acted) now_calls now_n u
ready_turn words lanes calls now_calls n now_n t u made lane at acted receipt r there e b ce ne ae ue =
    let P : LaneState → Type 0 = λ x. IsReady words (slice_set lanes lane x) now_calls now_n u in
    let Q : ℕ → Type 0 = λ k. IsReady words (slice_set lanes lane (lane_answered at receipt)) k now_n u in
    let own = r.each lane at there in
    let k = turn_counts words calls at.processor.stage own.memory e in
    let ready : IsLaneReady words calls lane (lane_answered at receipt) =
    record { number = own.number; words_are = own.words_are; size = own.size; memory = tt } in
    subst P (sym ae) (subst Q (sym ce)
    (ready_made words lanes calls n now_n t u made lane at (lane_answered at receipt) r there ready
    (omega (arith, k.0, length-answer_within words receipt b)) (omega (arith, k.1, ne)) ue))

-- only a resting processor has nothing next
pub rest_resting : (words : ℕ) (stage : Stage) → IsSound words stage → next_action words stage ≡ Rest → is_resting stage ≡ true
rest_resting words Resting s e = refl
rest_resting words (Rung prepared saved) s e = absurd cc
rest_resting words (Loading prepared saved len loaded) s e =
    absurd
    (elim (nat_lt loaded (needed words len))
    as (λ b. (if b then Load (2 + loaded) else Turn) ≡ Rest → ⊥) [ true ↦ λ f. cc | false ↦ λ f. cc ] e)
rest_resting words (Turning bytes) s e = absurd cc
rest_resting words (Storing receipt stored) s e =
    let to : ℕ × ℕ = get_or (answer receipt) stored (0, 0) in
    let is : next_action words (Storing receipt stored) ≡ store to =
    ap (λ o. unwrap_or o Rest)
    (slice_get-map store (answer receipt) stored ∙ ap (option_map store) (slice_get-get_or (answer receipt) stored (0, 0) s.more)) in
    absurd cc

-- a resting processor may be rung
pub may_ring : (words : ℕ) (stage : Stage) (prepared : PreparedState)
    → is_resting stage ≡ true
    → IsBlank words prepared
    → MayRing words stage prepared
may_ring words Resting prepared e b = b
may_ring words (Rung p saved) prepared e b = absurd cc
may_ring words (Loading p saved len loaded) prepared e b = absurd cc
may_ring words (Turning bytes) prepared e b = absurd cc
may_ring words (Storing receipt stored) prepared e b = absurd cc

-- a world is ready after an accepted ring
pub ready_ring : (words : ℕ) (lanes : List LaneState) (calls n left most : ℕ) (t u : RoomState Trace) (lane : ℕ) (at acted : LaneState)
    (prepared : PreparedState) (saved : Saved)
    → IsReady words lanes calls n t
    → slice_get lanes lane ≡ Some at
    → is_resting at.processor.stage ≡ true
    → n < 2 ^ 32
    → IsRoomy words calls prepared
    → acted ≡ lane_rung at prepared saved
    → left ≡ records_left lanes
    → most ≡ longest words
    → u ≡ record { items = t.items; room = max t.room (length t.items + (left + most)) }
    → IsReady words (slice_set lanes lane acted) calls n u
ready_ring words lanes calls n left most t u lane at acted prepared saved r there e few roomy ae le me ue =
    let P : LaneState → Type 0 = λ x. IsReady words (slice_set lanes lane x) calls n u in
    let now : LaneState = lane_rung at prepared saved in
    let Q : RoomState Trace → Type 0 = λ y. IsReady words (slice_set lanes lane now) calls n y in
    let own = r.each lane at there in
    let ready : IsLaneReady words calls lane now =
    record { number = own.number; words_are = own.words_are; size = own.size; memory = roomy } in
    let counted : length (slice_set lanes lane now) ≡ length lanes = length-set lanes lane now in
    subst P (sym ae) (subst Q (sym ue) record {
      low = r.low;
      high = r.high;
      few = omega (arith, r.few, counted);
      each =
          after_set lanes lane now (λ k x. IsLaneReady words calls k x) (slice_get_within lanes lane at there) ready
          (λ k x apart here. r.each k x here);
      records =
          omega (
            arith,
            le,
            me,
            left_is words lanes calls n t r,
            sum_changed (λ (x : LaneState). to_come words x.processor.stage) lanes lane at now there,
          );
      turns_fit =
          omega (
            arith,
            few,
            r.few,
            counted,
            sum_within (λ (x : LaneState). turns_to_come x.processor.stage) 1 (slice_set lanes lane now)
                (λ x. turns_within x.processor.stage),
          );
    })

-- a new world is ready
pub ready_new : (words lanes calls : ℕ)
    → 3 ≤ words
    → words ≤ 512
    → lanes ≤ 16
    → IsReady words (new_lanes words lanes) calls 0 (record { items = []; room = 0 })
ready_new words lanes calls low high few = record {
  low = low;
  high = high;
  few = omega (arith, few, length-new_lanes words lanes);
  each = λ lane seen here.
      let P : LaneState → Type 0 = λ x. IsLaneReady words calls lane x in
      subst P
      (sym (new_lane_there words lanes lane seen here))
      record { number = refl; words_are = refl; size = length-replicate (words + 2) 0; memory = tt };
  records = omega (arith, sum-new_lanes (λ (x : LaneState). to_come words x.processor.stage) words lanes (λ lane. refl));
  turns_fit = omega (arith, sum-new_lanes (λ (x : LaneState). turns_to_come x.processor.stage) words lanes (λ lane. refl));
}
