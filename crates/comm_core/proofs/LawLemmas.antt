-- What the pieces of a lane are, whole ones and the newest one, and how the captured requests grow.
use Rattle.std.proofs.Common.{◌≡◌, ◌≤◌, ◌<◌, ℕ, zero, suc, ◌+◌, ◌-◌, ◌==◌, Bool, true, false, if◌then◌else◌, List, [], ◌∷◌, ◌++◌, length, map, take, drop, Some, refl, sym, ap, ◌∙◌, subst, arith, append_assoc, inl, inr}
use Rattle.std.proofs.Math.Seq.{take-length}
use Rattle.std.proofs.lemmas.Bool.{cases_lt, eq-eqb, eqb-true, eqb-false, ne_eqb}
use Rattle.std.specs.List.{slice_get}
use Rattle.mm_base.specs.Receipt.{receipt_of}
use Rattle.mm_base.specs.declared.entry.Outcome.{Outcome}
use Rattle.mm_base.specs.declared.entry.Request.{Request}
use Rattle.mm_base.specs.declared.receipt.Receipt.{Receipt}
use Rattle.comm_core.specs.Piece.{needed, loads_from, store, answer, whole, loaded, length_in, turn_in, receipt_at, next_in, request_in}
use Rattle.comm_core.specs.Capture.{Mark, Rung, Did, pieces, newest, last_saved, requests, outcomes_of, is_rest, rests, made, next, acts, act, longest, happens, after_events, course}
use Rattle.comm_core.specs.Laws.{Begins, action_of, loads_of, after_turn, IsOfRequest, LoadsOnce, IsServed}
use Rattle.comm_core.specs.Standing.{loads_made, captured, answered, IsWhole, AreWhole, StandsIn, Place, AtRest, Called, Capturing, Answering}
use Rattle.comm_core.specs.declared.action.Action.{Action}
use Rattle.comm_core.specs.declared.action.Action.TheVariants.{Rest, Load, Turn, Store}
use Rattle.comm_core.specs.declared.event.Event.{Event}
use Rattle.comm_core.specs.declared.event.Event.TheVariants.{Ring, Poke, Steps, Run}
use Rattle.comm_core.specs.declared.trace.Trace.{Trace}
use Rattle.comm_core.specs.declared.trace.Trace.TheVariants.{Loaded, Stored, Poked, Turned}
use Rattle.comm_core.proofs.PieceLemmas.{loaded-stores, turn_in-answered, turn_in-made, receipt_at-told, next_in-captured}
use Rattle.comm_core.proofs.StandingLemmas.{whole_rests, capturing_busy, answering_next, answering_busy}

-- how lists begin
begins_with : {X : Type 0} (xs ys : List X) → Begins xs (xs ++ ys)
begins_with [] ys = refl
begins_with (x ∷ xs) ys = ap (λ rest. x ∷ rest) (begins_with xs ys)

pub begins_by : {X : Type 0} (xs rest ys : List X) → ys ≡ xs ++ rest → Begins xs ys
begins_by xs rest ys e = ap (take (length xs)) e ∙ begins_with xs rest

module _ (lane : ℕ) where
  -- the actions of a piece's records
  actions-loads_made : (word : ℕ) (values : List ℕ) (rest : List Trace)
      → map action_of (loads_made lane word values ++ rest) ≡ loads_from word (length values) ++ map action_of rest
  actions-loads_made word [] rest = refl
  actions-loads_made word (value ∷ values) rest = ap (λ more. Load word ∷ more) (actions-loads_made (word + 1) values rest)

  actions-made : (word : ℕ) (values : List ℕ) → map action_of (loads_made lane word values) ≡ loads_from word (length values)
  actions-made word [] = refl
  actions-made word (value ∷ values) = ap (λ more. Load word ∷ more) (actions-made (word + 1) values)

  actions-stores : (stores : List (ℕ × ℕ)) → map action_of (map (λ to. Stored lane to.0 to.1) stores) ≡ map store stores
  actions-stores [] = refl
  actions-stores (to ∷ stores) = ap (λ more. store to ∷ more) (actions-stores stores)

  actions-answered : (len : ℕ) (values : List ℕ) (position : ℕ) (stores : List (ℕ × ℕ))
      → map action_of (answered lane len values position stores) ≡ Load 0 ∷ (loads_from 2 (length values) ++ Turn ∷ map store stores)
  actions-answered len values position stores =
      ap (λ more. Load 0 ∷ more)
      (actions-loads_made 2 values (Turned lane position ∷ map (λ to. Stored lane to.0 to.1) stores)
      ∙ ap (λ more. loads_from 2 (length values) ++ Turn ∷ more) (actions-stores stores))

unequal : {X : Type 0} (w word : ℕ) (x y : X) → (w ≡ word → ⊥) → (if w == word then x else y) ≡ y
unequal w word x y h = ap (λ b. if b then x else y) (ne_eqb w word h)

equal : {X : Type 0} (w word : ℕ) (x y : X) → w ≡ word → (if w == word then x else y) ≡ x
equal w word x y h = ap (λ b. if b then x else y) (eq-eqb w word h)

module _ (word lane : ℕ) where
  -- the loads of one word
  loads_of-stores : (stores : List (ℕ × ℕ)) → loads_of word (map (λ to. Stored lane to.0 to.1) stores) ≡ 0
  loads_of-stores [] = refl
  loads_of-stores (to ∷ stores) = loads_of-stores stores

  loads_below : (from : ℕ) (values : List ℕ) (rest : List Trace)
      → word < from
      → loads_of word (loads_made lane from values ++ rest) ≡ loads_of word rest
  loads_below from [] rest h = refl
  loads_below from (value ∷ values) rest h =
      unequal from word _ _ (λ e. absurd (omega (arith, e, h))) ∙ loads_below (from + 1) values rest (omega (arith, h))

  loads_above : (from : ℕ) (values : List ℕ) (rest : List Trace)
      → from + length values ≤ word
      → loads_of word (loads_made lane from values ++ rest) ≡ loads_of word rest
  loads_above from [] rest h = refl
  loads_above from (value ∷ values) rest h =
      unequal from word _ _ (λ e. absurd (omega (arith, e, h))) ∙ loads_above (from + 1) values rest (omega (arith, h))

  loads_within : (from : ℕ) (values : List ℕ) (rest : List Trace)
      → from ≤ word
      → word < from + length values
      → loads_of word (loads_made lane from values ++ rest) ≡ loads_of word rest + 1
  loads_within from [] rest h l = absurd (omega (arith, h, l))
  loads_within from (value ∷ values) rest h l =
      elim (from == word)
      as (λ b. (from == word) ≡ b
      → (if b then loads_of word (loads_made lane (from + 1) values ++ rest) + 1 else loads_of word
      (loads_made lane (from + 1) values ++ rest)) ≡ loads_of word rest + 1) [
        | true ↦ λ e. ap (λ n. n + 1) (loads_below (from + 1) values rest (omega (arith, eqb-true from word e)))
        | false ↦ λ e.
            let other : (from ≡ word) → ⊥ = eqb-false from word e in
            elim (cases_lt from word) [
              | inl less ↦ loads_within (from + 1) values rest (omega (arith, less)) (omega (arith, l))
              | inr more ↦ absurd (other (omega (arith, more, h)))
            ]
      ] refl

-- what stands after the turn
after_turn-loads_made : (lane word : ℕ) (values : List ℕ) (rest : List Trace)
    → after_turn (loads_made lane word values ++ rest) ≡ after_turn rest
after_turn-loads_made lane word [] rest = refl
after_turn-loads_made lane word (value ∷ values) rest = after_turn-loads_made lane (word + 1) values rest

module _ (words lane len : ℕ) (values : List ℕ) (position : ℕ) (stores : List (ℕ × ℕ)) where
  once_answered : (word : ℕ)
      → length values ≡ needed words len
      → IsOfRequest words len word
      → loads_of word (answered lane len values position stores) ≡ 1
  once_answered word enough (inl z) =
      equal 0 word _ _ (sym z)
      ∙ ap (λ n. n + 1)
      (loads_below word lane 2 values (Turned lane position ∷ map (λ to. Stored lane to.0 to.1) stores) (omega (arith, z))
      ∙ loads_of-stores word lane stores)
  once_answered word enough (inr i) =
      unequal 0 word _ _ (λ e. absurd (omega (arith, e, i.0)))
      ∙ loads_within word lane 2 values (Turned lane position ∷ map (λ to. Stored lane to.0 to.1) stores) i.0 (omega (arith, i.1, enough))
      ∙ ap (λ n. n + 1) (loads_of-stores word lane stores)

  none_answered : (word : ℕ)
      → length values ≡ needed words len
      → (IsOfRequest words len word → ⊥)
      → loads_of word (answered lane len values position stores) ≡ 0
  none_answered word enough h =
      unequal 0 word _ _ (λ e. h (inl (sym e)))
      ∙ elim (cases_lt word 2) [
        | inl below ↦ loads_below word lane 2 values (Turned lane position ∷ map (λ to. Stored lane to.0 to.1) stores) below
        | inr from ↦ elim (cases_lt word (2 + needed words len)) [
          | inl within ↦ absurd (h (inr (from, within)))
          | inr above ↦
              loads_above word lane 2 values (Turned lane position ∷ map (λ to. Stored lane to.0 to.1) stores)
              (omega (arith, above, enough))
        ]
      ]
      ∙ loads_of-stores word lane stores

  -- an answered piece loads each word of its request once, no other, and none after its turn
  pub loads_answered : length values ≡ needed words len → LoadsOnce words (answered lane len values position stores)
  loads_answered enough = record {
    once = λ word h. once_answered word enough h;
    no_other = λ word h. none_answered word enough h;
    before_turn =
        ap loaded (after_turn-loads_made lane 2 values (Turned lane position ∷ map (λ to. Stored lane to.0 to.1) stores))
        ∙ loaded-stores lane stores;
  }

-- every piece is how a whole piece begins
abbrev pub BeginsWhole : ℕ → List Outcome → List Trace → Type 0
BeginsWhole words outs piece = Begins (map action_of piece) (whole words (length_in piece) (receipt_at outs (turn_in piece)))

loads_from-split : (word n m : ℕ) → m ≤ n → loads_from word n ≡ loads_from word m ++ loads_from (word + m) (n - m)
loads_from-split word n zero h = ap (λ w. loads_from w n) (omega arith) ∙ ap (loads_from (word + 0)) (omega arith)
loads_from-split word zero (suc m) h = absurd (omega (arith, h))
loads_from-split word (suc n) (suc m) h =
    let w : word + 1 + m ≡ word + suc m = omega arith in
    let k : n - m ≡ suc n - suc m = omega arith in
    ap (λ more. Load word ∷ more) (loads_from-split (word + 1) n m (omega (arith, h)))
    ∙ ap (λ x. Load word ∷ (loads_from (word + 1) m ++ loads_from x (n - m))) w
    ∙ ap (λ x. Load word ∷ (loads_from (word + 1) m ++ loads_from (word + suc m) x)) k

map-split : {X Y : Type 0} (f : X → Y) (xs : List X) (n : ℕ) → map f xs ≡ map f (take n xs) ++ map f (drop n xs)
map-split f xs zero = refl
map-split f [] (suc n) = refl
map-split f (x ∷ xs) (suc n) = ap (λ ys. f x ∷ ys) (map-split f xs n)

module _ (words : ℕ) (outs : List Outcome) (lane : ℕ) where
  -- a whole piece is served
  pub served : (piece : List Trace) → IsWhole words outs lane piece → IsServed words outs piece
  served piece w =
      let receipt : Receipt = receipt_of w.position w.outcome in
      let stores : List (ℕ × ℕ) = answer receipt in
      let P : List Trace → Type 0 = λ p. IsServed words outs p in
      subst P (sym w.records)
      record {
        receipt = receipt;
        of_turn =
            ap (receipt_at outs) (turn_in-answered lane w.len w.values w.position stores)
            ∙ receipt_at-told outs w.position w.outcome w.told_so;
        in_order =
            actions-answered lane w.len w.values w.position stores ∙ ap (λ n. Load 0 ∷ (loads_from 2 n ++ Turn ∷ map store stores)) w.enough;
        loads = loads_answered words lane w.len w.values w.position stores w.enough;
      }

  -- each piece of whole ones is whole
  pub one_whole : (ps : List (List Trace)) (k : ℕ) (piece : List Trace)
      → AreWhole words outs lane ps
      → slice_get ps k ≡ Some piece
      → IsWhole words outs lane piece
  one_whole [] k piece w h = absurd cc
  one_whole (p ∷ ps) zero piece w h =
      let e : p ≡ piece = cc in
      let P : List Trace → Type 0 = λ q. IsWhole words outs lane q in subst P e w.0
  one_whole (p ∷ ps) (suc k) piece w h = one_whole ps k piece w.1 h

  -- where the newest piece is busy, one that rests is an older one
  whole_older : (newest_piece : List Trace) (older : List (List Trace)) (k : ℕ) (piece : List Trace)
      → AreWhole words outs lane older
      → is_rest (next_in words outs newest_piece) ≡ false
      → slice_get (newest_piece ∷ older) k ≡ Some piece
      → is_rest (next_in words outs piece) ≡ true
      → IsWhole words outs lane piece
  whole_older p older zero piece w busy h r =
      let e : p ≡ piece = cc in
      let same : false ≡ true = sym busy ∙ ap (λ q. is_rest (next_in words outs q)) e ∙ r in absurd cc
  whole_older p older (suc k) piece w busy h r = one_whole older k piece w h

  pub whole_of_rest : (past : List Mark) (place : Place) (k : ℕ) (piece : List Trace)
      → StandsIn words outs lane past place
      → slice_get (pieces lane past) k ≡ Some piece
      → is_rest (next_in words outs piece) ≡ true
      → IsWhole words outs lane piece
  whole_of_rest past AtRest k piece s h r = one_whole (pieces lane past) k piece s.before h
  whole_of_rest past Called k piece s h r = one_whole (pieces lane past) k piece s.before h
  whole_of_rest past (Capturing len values) k piece s h r =
      whole_older (captured lane len values) s.0.older k piece s.0.before
      (ap is_rest (next_in-captured words outs lane len values s.1) ∙ capturing_busy words len values)
      (ap (λ ps. slice_get ps k) (sym s.0.split) ∙ h) r
  whole_of_rest past (Answering len values position outcome stored) k piece s h r =
      whole_older (answered lane len values position (take stored (answer (receipt_of position outcome)))) s.0.older k piece s.0.before
      (ap is_rest (answering_next words outs lane past len values position outcome stored s.1)
      ∙ answering_busy words outs len values position outcome stored s.1)
      (ap (λ ps. slice_get ps k) (sym s.0.split) ∙ h) r

  -- the older pieces are whole in any case
  pub older_whole : (past : List Mark) (place : Place) (k : ℕ) (piece : List Trace)
      → StandsIn words outs lane past place
      → slice_get (pieces lane past) (suc k) ≡ Some piece
      → IsWhole words outs lane piece
  older_whole past AtRest k piece s h = one_whole (pieces lane past) (suc k) piece s.before h
  older_whole past Called k piece s h = one_whole (pieces lane past) (suc k) piece s.before h
  older_whole past (Capturing len values) k piece s h =
      one_whole s.0.older k piece s.0.before (ap (λ ps. slice_get ps (suc k)) (sym s.0.split) ∙ h)
  older_whole past (Answering len values position outcome stored) k piece s h =
      one_whole s.0.older k piece s.0.before (ap (λ ps. slice_get ps (suc k)) (sym s.0.split) ∙ h)

  pub older_rests : (past : List Mark) (place : Place) (k : ℕ) (piece : List Trace)
      → StandsIn words outs lane past place
      → slice_get (pieces lane past) (k + 1) ≡ Some piece
      → is_rest (next_in words outs piece) ≡ true
  older_rests past place k piece s h =
      let e : suc k ≡ k + 1 = omega arith in
      ap is_rest (whole_rests words outs lane piece (older_whole past place k piece s (ap (slice_get (pieces lane past)) e ∙ h)))

  begins_whole : (piece : List Trace) → IsWhole words outs lane piece → BeginsWhole words outs piece
  begins_whole piece w =
      let s = served piece w in
      let e : whole words (length_in piece) (receipt_at outs (turn_in piece)) ≡ map action_of piece =
      ap (whole words (length_in piece)) s.of_turn ∙ sym s.in_order in
      ap (take (length (map action_of piece))) e ∙ take-length (map action_of piece)

  begins_captured : (len : ℕ) (values : List ℕ) → length values ≤ needed words len → BeginsWhole words outs (captured lane len values)
  begins_captured len values h =
      let n : ℕ = needed words len in
      let v : ℕ = length values in
      let rest : List Action = loads_from (2 + v) (n - v) ++ Turn ∷ [] in
      let is : whole words len (receipt_at outs (turn_in (captured lane len values))) ≡ map action_of (captured lane len values) ++ rest =
      ap (λ t. whole words len (receipt_at outs t)) (turn_in-made lane 2 values)
      ∙ ap (λ ls. Load 0 ∷ (ls ++ Turn ∷ [])) (loads_from-split 2 n v h)
      ∙ ap (λ ls. Load 0 ∷ ls) (append_assoc (loads_from 2 v) (loads_from (2 + v) (n - v)) (Turn ∷ []))
      ∙ ap (λ ls. Load 0 ∷ (ls ++ rest)) (sym (actions-made lane 2 values)) in
      begins_by (map action_of (captured lane len values)) rest _ is

  begins_answered : (len : ℕ) (values : List ℕ) (position : ℕ) (outcome : Outcome) (stored : ℕ)
      → length values ≡ needed words len
      → slice_get outs position ≡ Some outcome
      → BeginsWhole words outs (answered lane len values position (take stored (answer (receipt_of position outcome))))
  begins_answered len values position outcome stored enough told_so =
      let stores : List (ℕ × ℕ) = answer (receipt_of position outcome) in
      let front : List (ℕ × ℕ) = take stored stores in
      let rest : List Action = map store (drop stored stores) in
      let is : whole words len (receipt_at outs (turn_in (answered lane len values position front)))
      ≡ map action_of (answered lane len values position front) ++ rest =
      ap (λ t. whole words len (receipt_at outs t)) (turn_in-answered lane len values position front)
      ∙ ap (whole words len) (receipt_at-told outs position outcome told_so)
      ∙ ap (λ n. Load 0 ∷ (loads_from 2 n ++ Turn ∷ map store stores)) (sym enough)
      ∙ ap (λ ss. Load 0 ∷ (loads_from 2 (length values) ++ Turn ∷ ss)) (map-split store stores stored)
      ∙ ap (λ ls. Load 0 ∷ ls) (sym (append_assoc (loads_from 2 (length values)) (Turn ∷ map store front) rest))
      ∙ ap (λ ls. ls ++ rest) (sym (actions-answered lane len values position front)) in
      begins_by (map action_of (answered lane len values position front)) rest _ is

  begins_older : (newest_piece : List Trace) (older : List (List Trace)) (k : ℕ) (piece : List Trace)
      → AreWhole words outs lane older
      → BeginsWhole words outs newest_piece
      → slice_get (newest_piece ∷ older) k ≡ Some piece
      → BeginsWhole words outs piece
  begins_older p older zero piece w b h =
      let e : p ≡ piece = cc in
      let P : List Trace → Type 0 = λ q. BeginsWhole words outs q in subst P e b
  begins_older p older (suc k) piece w b h = begins_whole piece (one_whole older k piece w h)

  pub each_begins : (past : List Mark) (place : Place) (k : ℕ) (piece : List Trace)
      → StandsIn words outs lane past place
      → slice_get (pieces lane past) k ≡ Some piece
      → BeginsWhole words outs piece
  each_begins past AtRest k piece s h = begins_whole piece (one_whole (pieces lane past) k piece s.before h)
  each_begins past Called k piece s h = begins_whole piece (one_whole (pieces lane past) k piece s.before h)
  each_begins past (Capturing len values) k piece s h =
      begins_older (captured lane len values) s.0.older k piece s.0.before (begins_captured len values s.1)
      (ap (λ ps. slice_get ps k) (sym s.0.split) ∙ h)
  each_begins past (Answering len values position outcome stored) k piece s h =
      begins_older (answered lane len values position (take stored (answer (receipt_of position outcome)))) s.0.older k piece s.0.before
      (begins_answered len values position outcome stored s.1.enough s.1.told_so)
      (ap (λ ps. slice_get ps k) (sym s.0.split) ∙ h)

-- the requests grow at their end
pub record Grows (before now : List Request) : Type 0 where
  pub more : List Request
  pub is : now ≡ before ++ more

grows_on : (before now : List Request) (r : Request) → Grows before now → Grows before (now ++ r ∷ [])
grows_on before now r g = record { more = g.more ++ r ∷ []; is = ap (λ rs. rs ++ r ∷ []) g.is ∙ append_assoc before g.more (r ∷ []) }

same_requests : (past : List Mark) → Grows (requests past) (requests past)
same_requests past = record { more = []; is = sym (nothing_more (requests past)) }
  where
    nothing_more : (rs : List Request) → rs ++ [] ≡ rs
    nothing_more [] = refl
    nothing_more (r ∷ rs) = ap (λ more. r ∷ more) (nothing_more rs)

requests_grow : (newer past : List Mark) → Grows (requests past) (requests (newer ++ past))
requests_grow [] past = same_requests past
requests_grow (Rung lane saved ∷ newer) past = requests_grow newer past
requests_grow (Did (Loaded lane word value) ∷ newer) past = requests_grow newer past
requests_grow (Did (Stored lane word value) ∷ newer) past = requests_grow newer past
requests_grow (Did (Poked lane word value) ∷ newer) past = requests_grow newer past
requests_grow (Did (Turned lane position) ∷ newer) past =
    grows_on (requests past) (requests (newer ++ past))
    (request_in lane (last_saved lane (newer ++ past)) (newest (pieces lane (newer ++ past)))) (requests_grow newer past)

pub requests_begin : (past newer : List Mark) → Begins (requests past) (requests (newer ++ past))
requests_begin past newer = let g = requests_grow newer past in begins_by (requests past) g.more (requests (newer ++ past)) g.is

-- what events make happen stands in front of what happened before
pub record Newer (past now : List Mark) : Type 0 where
  pub newer : List Mark
  pub is : now ≡ newer ++ past

newer_mark : (past now : List Mark) (mark : Mark) → Newer past now → Newer past (mark ∷ now)
newer_mark past now mark n = record { newer = mark ∷ n.newer; is = ap (λ marks. mark ∷ marks) n.is }

newer_made : (past now : List Mark) (lane : ℕ) (a : Action) → Newer past now → Newer past (made lane a now)
newer_made past now lane Rest n = n
newer_made past now lane (Load word) n = newer_mark past now _ n
newer_made past now lane Turn n = newer_mark past now _ n
newer_made past now lane (Store word value) n = newer_mark past now _ n

newer_ring : (past now : List Mark) (mark : Mark) (b : Bool) → Newer past now → Newer past (if b then mark ∷ now else now)
newer_ring past now mark true n = newer_mark past now mark n
newer_ring past now mark false n = n

module _ {M : Type 0} (step : M → Request → Outcome × M) (m : M) (words : ℕ) where
  newer_acts : (lane k : ℕ) (past now : List Mark) → Newer past now → Newer past (acts step m words lane k now)
  newer_acts lane zero past now n = n
  newer_acts lane (suc k) past now n =
      newer_acts lane k past (act step m words lane now) (newer_made past now lane (next words (outcomes_of step m now) lane now) n)

  newer_happens : (event : Event) (past now : List Mark) → Newer past now → Newer past (happens step m words event now)
  newer_happens (Ring lane saved) past now n = newer_ring past now (Rung lane saved) (rests words (outcomes_of step m now) lane now) n
  newer_happens (Poke lane word value) past now n = newer_mark past now _ n
  newer_happens (Steps lane count) past now n = newer_acts lane count past now n
  newer_happens (Run lane) past now n = newer_acts lane (longest words) past now n

  newer_after_events : (events : List Event) (past now : List Mark) → Newer past now → Newer past (after_events step m words events now)
  newer_after_events [] past now n = n
  newer_after_events (event ∷ events) past now n =
      newer_after_events events past (happens step m words event now) (newer_happens event past now n)

  pub after_events-append : (events more : List Event) (past : List Mark)
      → after_events step m words (events ++ more) past ≡ after_events step m words more (after_events step m words events past)
  after_events-append [] more past = refl
  after_events-append (e ∷ events) more past = after_events-append events more (happens step m words e past)

  pub course_begins : (events more : List Event)
      → Begins (requests (course step m words events)) (requests (course step m words (events ++ more)))
  course_begins events more =
      let past : List Mark = course step m words events in
      let n = newer_after_events more past past record { newer = []; is = refl } in
      let is : course step m words (events ++ more) ≡ n.newer ++ past = after_events-append events more [] ∙ n.is in
      let P : List Mark → Type 0 = λ p. Begins (requests past) (requests p) in
      subst P (sym is) (requests_begin past n.newer)
