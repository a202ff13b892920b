-- Where a lane stands, what it has next there, and where each thing that happens takes it.
use Rattle.std.proofs.Common.{◌≡◌, ◌≤◌, ◌<◌, ℕ, zero, suc, ◌+◌, ◌==◌, ◌&&◌, Bool, true, false, if◌then◌else◌, nat_lt, List, [], ◌∷◌, ◌++◌, length, map, take, Some, unwrap_or, refl, sym, ap, ◌∙◌, subst, arith, append_assoc, length-append}
use Rattle.std.proofs.Math.Seq.{take-length}
use Rattle.std.proofs.lemmas.List.{length-map, length-take, map-append}
use Rattle.std.proofs.lemmas.Option.{slice_get_past, slice_get-map, slice_get_within, slice_get-get_or}
use Rattle.std.specs.List.{slice_get, list_all}
use Rattle.std.specs.Option.{option_map}
use Rattle.std.proofs.lemmas.Bool.{eq-eqb, ne_eqb}
use Rattle.mm_base.specs.Numbers.{words_of_bytes}
use Rattle.mm_base.specs.declared.receipt.Receipt.{Receipt}
use Rattle.mm_base.specs.Receipt.{receipt_of}
use Rattle.mm_base.specs.declared.entry.Outcome.{Outcome}
use Rattle.mm_base.specs.declared.cells.Saved.{Saved}
use Rattle.comm_core.specs.Piece.{needed, store, answer, from_word, next_in}
use Rattle.comm_core.specs.Capture.{Mark, Rung, Did, rings, last_saved, pieces, joined, newest, is_rest, rests, current, next}
use Rattle.comm_core.specs.Standing.{captured, answered, IsWhole, AreWhole, IsIn, IsTold, StandsIn, next_at, Place, AtRest, Called, Capturing, Answering}
use Rattle.comm_core.specs.declared.action.Action.{Action}
use Rattle.comm_core.specs.declared.action.Action.TheVariants.{Rest, Load, Turn}
use Rattle.comm_core.specs.declared.trace.Trace.{Trace}
use Rattle.comm_core.specs.declared.trace.Trace.TheVariants.{Loaded, Stored, Turned}
use Rattle.comm_core.proofs.PieceLemmas.{slice_get-front, slice_get-after, loads_made-snoc, next_in-captured, next_in-answered}

module _ (words : ℕ) (outs : List Outcome) (lane : ℕ) where
  -- a whole piece has nothing next
  pub whole_rests : (piece : List Trace) → IsWhole words outs lane piece → next_in words outs piece ≡ Rest
  whole_rests piece w =
      let stores : List (ℕ × ℕ) = answer (receipt_of w.position w.outcome) in
      ap (next_in words outs) w.records ∙ next_in-answered words outs lane w.len w.values w.position w.outcome stores w.enough w.told_so
      ∙ ap (λ o. unwrap_or o Rest) (slice_get_past (map store stores) (length stores) (rw (length-map stores store) (omega arith)))

  pub whole_rest : (ps : List (List Trace)) → AreWhole words outs lane ps → list_all (λ piece. is_rest (next_in words outs piece)) ps ≡ true
  whole_rest [] w = refl
  whole_rest (piece ∷ older) w =
      ap (λ a. is_rest a && list_all (λ p. is_rest (next_in words outs p)) older) (whole_rests piece w.0)
      ∙ whole_rest older w.1

-- the outcome at a position stays as more outcomes come
pub told_stays : (outs more : List Outcome) (position : ℕ) (outcome : Outcome)
    → slice_get outs position ≡ Some outcome
    → slice_get (outs ++ more) position ≡ Some outcome
told_stays outs more position outcome h = slice_get-front outs more position (slice_get_within outs position outcome h) ∙ h

module _ (words : ℕ) (outs more : List Outcome) (lane : ℕ) where
  pub whole_stays : (piece : List Trace) → IsWhole words outs lane piece → IsWhole words (outs ++ more) lane piece
  whole_stays piece w = record {
    len = w.len;
    values = w.values;
    position = w.position;
    outcome = w.outcome;
    records = w.records;
    enough = w.enough;
    told_so = told_stays outs more w.position w.outcome w.told_so;
  }

  pub whole_stay : (ps : List (List Trace)) → AreWhole words outs lane ps → AreWhole words (outs ++ more) lane ps
  whole_stay [] w = tt
  whole_stay (piece ∷ older) w = (whole_stays piece w.0, whole_stay older w.1)

-- whether a place is not at rest
abbrev pub is_away : Place → Bool
is_away AtRest = false
is_away Called = true
is_away (Capturing len values) = true
is_away (Answering len values position outcome stored) = true

module _ (words len : ℕ) (values : List ℕ) where
  -- the next action of a capture or an answer is none of resting
  pub capturing_busy : is_rest (next_at words (Capturing len values)) ≡ false
  capturing_busy =
      elim (nat_lt (length values) (needed words len))
      as (λ b. is_rest (if b then Load (2 + length values) else Turn) ≡ false) [ true ↦ refl | false ↦ refl ]

  -- the store that is next
  pub next_store : (position : ℕ) (outcome : Outcome) (stored : ℕ) (to : ℕ × ℕ)
      → slice_get (answer (receipt_of position outcome)) stored ≡ Some to
      → next_at words (Answering len values position outcome stored) ≡ store to
  next_store position outcome stored to h =
      ap (λ o. unwrap_or o Rest) (slice_get-map store (answer (receipt_of position outcome)) stored ∙ ap (option_map store) h)

length-take_front : {X : Type 0} (xs : List X) (n : ℕ) → n ≤ length xs → length (take n xs) ≡ n
length-take_front xs n h = length-take n xs ∙ omega arith

pub answering_busy : (words : ℕ) (outs : List Outcome) (len : ℕ) (values : List ℕ) (position : ℕ) (outcome : Outcome) (stored : ℕ)
    → IsTold words outs len values position outcome stored
    → is_rest (next_at words (Answering len values position outcome stored)) ≡ false
answering_busy words outs len values position outcome stored t =
    ap is_rest
    (next_store words len values position outcome stored _ (slice_get-get_or (answer (receipt_of position outcome)) stored (0, 0) t.more))

module _ (words : ℕ) (outs : List Outcome) (lane : ℕ) (past : List Mark) where
  -- what the lane has next in its newest piece
  in_next : (piece : List Trace) (a : Action)
      → IsIn words outs lane past piece
      → next_in words outs piece ≡ a
      → is_rest a ≡ false
      → (rests words outs lane past ≡ false) × (next words outs lane past ≡ a)
  in_next piece a i n busy =
      let equal : (rings lane past == length (pieces lane past)) ≡ true = eq-eqb _ _ i.counted in
      let some_busy : list_all (λ p. is_rest (next_in words outs p)) (pieces lane past) ≡ false =
      ap (list_all (λ p. is_rest (next_in words outs p))) i.split
      ∙ ap (λ b. b && list_all (λ p. is_rest (next_in words outs p)) i.older) (ap is_rest n ∙ busy) in
      let no_rest : rests words outs lane past ≡ false =
      ap (λ b. b && list_all (λ p. is_rest (next_in words outs p)) (pieces lane past)) equal ∙ some_busy in (
        no_rest,
        ap (λ b. if b then Rest else next_in words outs (current lane past)) no_rest
            ∙ ap (λ b. next_in words outs (if b then newest (pieces lane past) else [])) equal
            ∙ ap (λ ps. next_in words outs (newest ps)) i.split ∙ n,
      )

  -- at rest a lane rests, and elsewhere it doesn't
  pub at_rest : StandsIn words outs lane past AtRest → rests words outs lane past ≡ true
  at_rest b =
      ap (λ e. e && list_all (λ p. is_rest (next_in words outs p)) (pieces lane past)) (eq-eqb _ _ (b.counted ∙ omega arith))
      ∙ whole_rest words outs lane (pieces lane past) b.before

  pub answering_next : (len : ℕ) (values : List ℕ) (position : ℕ) (outcome : Outcome) (stored : ℕ)
      → IsTold words outs len values position outcome stored
      → next_in words outs (answered lane len values position (take stored (answer (receipt_of position outcome))))
      ≡ next_at words (Answering len values position outcome stored)
  answering_next len values position outcome stored t =
      let stores : List (ℕ × ℕ) = answer (receipt_of position outcome) in
      next_in-answered words outs lane len values position outcome (take stored stores) t.enough t.told_so
      ∙ ap (λ n. unwrap_or (slice_get (map store stores) n) Rest) (length-take_front stores stored (omega (arith, t.more)))

  -- away from rest a lane doesn't rest
  pub away : (place : Place) → StandsIn words outs lane past place → is_away place ≡ true → rests words outs lane past ≡ false
  away AtRest s h = cc
  away Called s h =
      ap (λ e. e && list_all (λ p. is_rest (next_in words outs p)) (pieces lane past))
      (ne_eqb _ _ (λ e. absurd (omega (arith, e, s.counted))))
  away (Capturing len values) s h =
      (in_next _ _ s.0 (next_in-captured words outs lane len values s.1) (capturing_busy words len values)).0
  away (Answering len values position outcome stored) s h =
      (in_next _ _ s.0 (answering_next len values position outcome stored s.1)
      (answering_busy words outs len values position outcome stored s.1)).0

  -- the next action of a lane is that of its place
  pub next_of_place : (place : Place) → StandsIn words outs lane past place → next words outs lane past ≡ next_at words place
  next_of_place AtRest s = ap (λ b. if b then Rest else next_in words outs (current lane past)) (at_rest s)
  next_of_place Called s =
      ap (λ b. if b then Rest else next_in words outs (current lane past)) (away Called s refl)
      ∙ ap (λ b. next_in words outs (if b then newest (pieces lane past) else [])) (ne_eqb _ _ (λ e. absurd (omega (arith, e, s.counted))))
  next_of_place (Capturing len values) s =
      (in_next _ _ s.0 (next_in-captured words outs lane len values s.1) (capturing_busy words len values)).1
  next_of_place (Answering len values position outcome stored) s =
      (in_next _ _ s.0 (answering_next len values position outcome stored s.1)
      (answering_busy words outs len values position outcome stored s.1)).1

-- own marks of a lane
same_lane : {X : Type 0} (lane : ℕ) (x y : X) → (if lane == lane then x else y) ≡ x
same_lane lane x y = ap (λ b. if b then x else y) (eq-eqb lane lane refl)

module _ (lane : ℕ) where
  pub rings-rung : (saved : Saved) (past : List Mark) → rings lane (Rung lane saved ∷ past) ≡ rings lane past + 1
  rings-rung saved past = same_lane lane (rings lane past + 1) (rings lane past)

  pub last_saved-rung : (saved : Saved) (past : List Mark) → last_saved lane (Rung lane saved ∷ past) ≡ saved
  last_saved-rung saved past = same_lane lane saved (last_saved lane past)

  pub pieces-loaded_length : (value : ℕ) (past : List Mark)
      → pieces lane (Did (Loaded lane 0 value) ∷ past) ≡ (Loaded lane 0 value ∷ []) ∷ pieces lane past
  pieces-loaded_length value past = same_lane lane ((Loaded lane 0 value ∷ []) ∷ pieces lane past) (pieces lane past)

  pub pieces-loaded : (word value : ℕ) (past : List Mark)
      → (word ≡ 0 → ⊥)
      → pieces lane (Did (Loaded lane word value) ∷ past) ≡ joined (Loaded lane word value) (pieces lane past)
  pieces-loaded word value past h =
      let own : List (List Trace) =
      if word == 0 then (Loaded lane word value ∷ []) ∷ pieces lane past else joined (Loaded lane word value) (pieces lane past) in
      same_lane lane own (pieces lane past)
      ∙ ap (λ b. if b then (Loaded lane word value ∷ []) ∷ pieces lane past else joined (Loaded lane word value) (pieces lane past))
      (ne_eqb word 0 h)

  pub pieces-stored : (word value : ℕ) (past : List Mark)
      → pieces lane (Did (Stored lane word value) ∷ past) ≡ joined (Stored lane word value) (pieces lane past)
  pieces-stored word value past = same_lane lane (joined (Stored lane word value) (pieces lane past)) (pieces lane past)

  pub pieces-turned : (position : ℕ) (past : List Mark)
      → pieces lane (Did (Turned lane position) ∷ past) ≡ joined (Turned lane position) (pieces lane past)
  pieces-turned position past = same_lane lane (joined (Turned lane position) (pieces lane past)) (pieces lane past)

-- an answer has at least the store of the status
pub 0_lt_answer : (receipt : Receipt) → 0 < length (answer receipt)
0_lt_answer receipt =
    let front : List (ℕ × ℕ) =
    if receipt.dispatched then from_word 2 (words_of_bytes receipt.bytes) ++ (0, length receipt.bytes) ∷ [] else [] in
    omega (arith, length-append front ((1, receipt.status) ∷ []))

-- a store
answered-snoc : (lane len : ℕ) (values : List ℕ) (position : ℕ) (stores : List (ℕ × ℕ)) (to : ℕ × ℕ)
    → answered lane len values position stores ++ Stored lane to.0 to.1 ∷ [] ≡ answered lane len values position (stores ++ to ∷ [])
answered-snoc lane len values position stores to =
    append_assoc (captured lane len values) (Turned lane position ∷ map (λ t. Stored lane t.0 t.1) stores) (Stored lane to.0 to.1 ∷ [])
    ∙ ap (λ rest. captured lane len values ++ Turned lane position ∷ rest) (sym (map-append (λ t. Stored lane t.0 t.1) stores (to ∷ [])))

take_one_more : {X : Type 0} (xs : List X) (n : ℕ) (x : X) → slice_get xs n ≡ Some x → take n xs ++ x ∷ [] ≡ take (suc n) xs
take_one_more [] n x h = cc
take_one_more (y ∷ xs) zero x h = cc
take_one_more (y ∷ xs) (suc n) x h = ap (λ rest. y ∷ rest) (take_one_more xs n x h)

module _ (words : ℕ) (outs : List Outcome) (lane : ℕ) where
  -- a record joins the newest piece
  joins : (past now : List Mark) (piece grown : List Trace) (t : Trace)
      → IsIn words outs lane past piece
      → pieces lane now ≡ joined t (pieces lane past)
      → rings lane now ≡ rings lane past
      → piece ++ t ∷ [] ≡ grown
      → IsIn words outs lane now grown
  joins past now piece grown t i ps rs g =
      let split : pieces lane now ≡ grown ∷ i.older = ps ∙ ap (joined t) i.split ∙ ap (λ p. p ∷ i.older) g in
      record {
        older = i.older;
        split = split;
        counted = rs ∙ i.counted ∙ ap length i.split ∙ sym (ap length split);
        before = i.before;
      }

  -- a ring that is accepted
  pub to_called : (saved : Saved) (past : List Mark)
      → StandsIn words outs lane past AtRest
      → StandsIn words outs lane (Rung lane saved ∷ past) Called
  to_called saved past s = record {
    counted = rings-rung lane saved past ∙ ap (λ n. n + 1) s.counted ∙ omega arith;
    before = s.before;
  }

  -- the load of the length
  pub to_capturing : (value : ℕ) (past : List Mark)
      → StandsIn words outs lane past Called
      → StandsIn words outs lane (Did (Loaded lane 0 value) ∷ past) (Capturing value [])
  to_capturing value past s = (
    record {
      older = pieces lane past;
      split = pieces-loaded_length lane value past;
      counted = s.counted ∙ omega arith ∙ sym (ap length (pieces-loaded_length lane value past));
      before = s.before;
    },
    omega arith,
  )

  -- the load of a data word
  pub to_capturing_more : (len : ℕ) (values : List ℕ) (value : ℕ) (past : List Mark)
      → StandsIn words outs lane past (Capturing len values)
      → length values < needed words len
      → StandsIn words outs lane (Did (Loaded lane (2 + length values) value) ∷ past) (Capturing len (values ++ value ∷ []))
  to_capturing_more len values value past s less =
      let grown : captured lane len values ++ Loaded lane (2 + length values) value ∷ [] ≡ captured lane len (values ++ value ∷ []) =
      ap (λ rest. Loaded lane 0 len ∷ rest) (sym (loads_made-snoc lane 2 values value)) in (
        joins past _ (captured lane len values) _ _ s.0
            (pieces-loaded lane (2 + length values) value past (λ e. absurd (omega (arith, e)))) refl grown,
        omega (arith, length-append values (value ∷ []), less),
      )

  -- the turn, which gives one outcome more
  pub to_answering : (len : ℕ) (values : List ℕ) (outcome : Outcome) (past : List Mark)
      → StandsIn words outs lane past (Capturing len values)
      → length values ≡ needed words len
      → StandsIn words (outs ++ outcome ∷ []) lane (Did (Turned lane (length outs)) ∷ past) (Answering len values (length outs) outcome 0)
  to_answering len values outcome past s enough =
      let i =
      joins past (Did (Turned lane (length outs)) ∷ past) (captured lane len values) (answered lane len values (length outs) [])
      (Turned lane (length outs)) s.0 (pieces-turned lane (length outs) past) refl refl in
      let here : slice_get (outs ++ outcome ∷ []) (length outs) ≡ Some outcome =
      slice_get-after outs (outcome ∷ []) (length outs) 0 (omega arith) in (
        record {
          older = i.older;
          split = i.split;
          counted = i.counted;
          before = whole_stay words outs (outcome ∷ []) lane i.older i.before;
        },
        record { enough = enough; told_so = here; more = 0_lt_answer (receipt_of (length outs) outcome) },
      )

  module _ (len : ℕ) (values : List ℕ) (position : ℕ) (outcome : Outcome) (stored : ℕ) (to : ℕ × ℕ) (past : List Mark) where
    stored_in : StandsIn words outs lane past (Answering len values position outcome stored)
        → slice_get (answer (receipt_of position outcome)) stored ≡ Some to
        → IsIn words outs lane (Did (Stored lane to.0 to.1) ∷ past)
        (answered lane len values position (take (suc stored) (answer (receipt_of position outcome))))
    stored_in s h =
        let stores : List (ℕ × ℕ) = answer (receipt_of position outcome) in
        joins past (Did (Stored lane to.0 to.1) ∷ past) (answered lane len values position (take stored stores)) _
        (Stored lane to.0 to.1) s.0
        (pieces-stored lane to.0 to.1 past) refl
        (answered-snoc lane len values position (take stored stores) to
        ∙ ap (answered lane len values position) (take_one_more stores stored to h))

    pub to_answering_more : StandsIn words outs lane past (Answering len values position outcome stored)
        → slice_get (answer (receipt_of position outcome)) stored ≡ Some to
        → suc stored < length (answer (receipt_of position outcome))
        → StandsIn words outs lane (Did (Stored lane to.0 to.1) ∷ past) (Answering len values position outcome (suc stored))
    to_answering_more s h more =
        (stored_in s h, record { enough = s.1.enough; told_so = s.1.told_so; more = more })

    -- the last store
    pub to_rest : StandsIn words outs lane past (Answering len values position outcome stored)
        → slice_get (answer (receipt_of position outcome)) stored ≡ Some to
        → suc stored ≡ length (answer (receipt_of position outcome))
        → StandsIn words outs lane (Did (Stored lane to.0 to.1) ∷ past) AtRest
    to_rest s h last =
        let stores : List (ℕ × ℕ) = answer (receipt_of position outcome) in
        let i = stored_in s h in
        let w : IsWhole words outs lane (answered lane len values position (take (suc stored) stores)) = record {
          len = len;
          values = values;
          position = position;
          outcome = outcome;
          records = ap (answered lane len values position) (ap (λ n. take n stores) last ∙ take-length stores);
          enough = s.1.enough;
          told_so = s.1.told_so;
        } in
        record {
          counted = i.counted ∙ omega arith;
          before = let P : List (List Trace) → Type 0 = λ ps. AreWhole words outs lane ps in subst P (sym i.split) (w, i.before);
        }
