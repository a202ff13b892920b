-- What a piece has next, by how far it has come.
use Rattle.std.proofs.Common.{◌≡◌, ◌≤◌, ◌<◌, ℕ, zero, suc, ◌+◌, if◌then◌else◌, List, [], ◌∷◌, ◌++◌, length, map, Some, None, unwrap_or, refl, sym, ap, ◌∙◌, nat_lt, arith, length-append, inl, inr}
use Rattle.std.proofs.lemmas.List.{length-map}
use Rattle.std.specs.List.{slice_get}
use Rattle.std.specs.Option.{option_map}
use Rattle.std.proofs.lemmas.Bool.{cases_lt, lt-ltb, le-ltb}
use Rattle.mm_base.specs.Receipt.{receipt_of}
use Rattle.mm_base.specs.declared.entry.Outcome.{Outcome}
use Rattle.comm_core.specs.Piece.{needed, loads_from, store, answer, whole, loaded, turn_in, receipt_at, next_in}
use Rattle.comm_core.specs.Standing.{loads_made, captured, answered, next_at}
use Rattle.comm_core.specs.Standing.{Capturing}
use Rattle.comm_core.specs.declared.action.Action.{Action}
use Rattle.comm_core.specs.declared.action.Action.TheVariants.{Rest, Load, Turn}
use Rattle.comm_core.specs.declared.trace.Trace.{Trace}
use Rattle.comm_core.specs.declared.trace.Trace.TheVariants.{Loaded, Stored, Turned}

-- lists by place
pub slice_get-front : {X : Type 0} (xs ys : List X) (i : ℕ) → i < length xs → slice_get (xs ++ ys) i ≡ slice_get xs i
slice_get-front [] ys i h = absurd (omega arith)
slice_get-front (x ∷ xs) ys zero h = refl
slice_get-front (x ∷ xs) ys (suc i) h = slice_get-front xs ys i (omega arith)

pub slice_get-after : {X : Type 0} (xs ys : List X) (i j : ℕ) → i ≡ length xs + j → slice_get (xs ++ ys) i ≡ slice_get ys j
slice_get-after [] ys i j e = ap (slice_get ys) (e ∙ omega arith)
slice_get-after (x ∷ xs) ys zero j e = absurd (omega arith)
slice_get-after (x ∷ xs) ys (suc i) j e = slice_get-after xs ys i j (omega arith)

-- the loads of a whole piece
pub length-loads_from : (word n : ℕ) → length (loads_from word n) ≡ n
length-loads_from word zero = refl
length-loads_from word (suc n) = ap suc (length-loads_from (word + 1) n)

pub slice_get-loads_from : (word n i : ℕ) → i < n → slice_get (loads_from word n) i ≡ Some (Load (word + i))
slice_get-loads_from word zero i h = absurd (omega arith)
slice_get-loads_from word (suc n) zero h = ap (λ w. Some (Load w)) (omega arith)
slice_get-loads_from word (suc n) (suc i) h =
    slice_get-loads_from (word + 1) n i (omega arith) ∙ ap (λ w. Some (Load w)) (omega arith)

module _ (lane : ℕ) where
  -- the records of loads
  pub length-loads_made : (word : ℕ) (values : List ℕ) → length (loads_made lane word values) ≡ length values
  length-loads_made word [] = refl
  length-loads_made word (value ∷ values) = ap suc (length-loads_made (word + 1) values)

  pub loads_made-snoc : (word : ℕ) (values : List ℕ) (value : ℕ)
      → loads_made lane word (values ++ value ∷ []) ≡ loads_made lane word values ++ Loaded lane (word + length values) value ∷ []
  loads_made-snoc word [] value = ap (λ w. Loaded lane w value ∷ []) (omega arith)
  loads_made-snoc word (v ∷ values) value =
      ap (λ rest. Loaded lane word v ∷ rest)
      (loads_made-snoc (word + 1) values value ∙ ap (λ w. loads_made lane (word + 1) values ++ Loaded lane w value ∷ []) (omega arith))

  pub loaded-loads_made : (word : ℕ) (values : List ℕ) (rest : List Trace)
      → loaded (loads_made lane word values ++ rest) ≡ values ++ loaded rest
  loaded-loads_made word [] rest = refl
  loaded-loads_made word (value ∷ values) rest = ap (λ vs. value ∷ vs) (loaded-loads_made (word + 1) values rest)

  pub turn_in-loads_made : (word : ℕ) (values : List ℕ) (rest : List Trace) → turn_in (loads_made lane word values ++ rest) ≡ turn_in rest
  turn_in-loads_made word [] rest = refl
  turn_in-loads_made word (value ∷ values) rest = turn_in-loads_made (word + 1) values rest

  pub loaded-stores : (stores : List (ℕ × ℕ)) → loaded (map (λ to. Stored lane to.0 to.1) stores) ≡ []
  loaded-stores [] = refl
  loaded-stores (to ∷ stores) = loaded-stores stores

  -- the values that the loads of a piece gave
  pub loaded-made : (word : ℕ) (values : List ℕ) → loaded (loads_made lane word values) ≡ values
  loaded-made word [] = refl
  loaded-made word (value ∷ values) = ap (λ vs. value ∷ vs) (loaded-made (word + 1) values)

  pub turn_in-made : (word : ℕ) (values : List ℕ) → turn_in (loads_made lane word values) ≡ None
  turn_in-made word [] = refl
  turn_in-made word (value ∷ values) = turn_in-made (word + 1) values

  pub loaded-captured : (len : ℕ) (values : List ℕ) → loaded (captured lane len values) ≡ len ∷ values
  loaded-captured len values = ap (λ vs. len ∷ vs) (loaded-made 2 values)

-- after m loads comes the next one, or the turn
capture_at : (n m : ℕ) → m ≤ n → unwrap_or (slice_get (loads_from 2 n ++ Turn ∷ []) m) Rest ≡ (if nat_lt m n then Load (2 + m) else Turn)
capture_at n m h =
    elim (cases_lt m n) [
      | inl less ↦
          ap (λ o. unwrap_or o Rest) (slice_get-front (loads_from 2 n) (Turn ∷ []) m (rw (length-loads_from 2 n) less) ∙ slice_get-loads_from 2 n m less)
          ∙ sym (ap (λ b. if b then Load (2 + m) else Turn) (lt-ltb m n less))
      | inr more ↦
          ap (λ o. unwrap_or o Rest) (slice_get-after (loads_from 2 n) (Turn ∷ []) m 0 (rw (length-loads_from 2 n) (omega arith)))
          ∙ sym (ap (λ b. if b then Load (2 + m) else Turn) (le-ltb m n more))
    ]

-- the receipt of a piece's turn
pub receipt_at-told : (outs : List Outcome) (position : ℕ) (outcome : Outcome)
    → slice_get outs position ≡ Some outcome
    → receipt_at outs (Some position) ≡ Some (receipt_of position outcome)
receipt_at-told outs position outcome h = ap (option_map (receipt_of position)) h

module _ (lane len : ℕ) (values : List ℕ) (position : ℕ) (stores : List (ℕ × ℕ)) where
  pub turn_in-answered : turn_in (answered lane len values position stores) ≡ Some position
  turn_in-answered = turn_in-loads_made lane 2 values (Turned lane position ∷ map (λ to. Stored lane to.0 to.1) stores)

  length-answered : length (answered lane len values position stores) ≡ suc (length values + suc (length stores))
  length-answered =
      ap suc
      (length-append (loads_made lane 2 values) (Turned lane position ∷ map (λ to. Stored lane to.0 to.1) stores)
      ∙ ap (λ n. n + suc (length (map (λ to. Stored lane to.0 to.1) stores))) (length-loads_made lane 2 values)
      ∙ ap (λ n. length values + suc n) (length-map stores (λ to. Stored lane to.0 to.1)))

module _ (words : ℕ) (outs : List Outcome) (lane len : ℕ) (values : List ℕ) where
  -- a piece under capture has the next load, or its turn
  pub next_in-captured : length values ≤ needed words len
      → next_in words outs (captured lane len values) ≡ next_at words (Capturing len values)
  next_in-captured h =
      ap (λ t. unwrap_or (slice_get (whole words len (receipt_at outs t)) (length (captured lane len values))) Rest)
      (turn_in-made lane 2 values)
      ∙ ap (λ n. unwrap_or (slice_get (loads_from 2 (needed words len) ++ Turn ∷ []) n) Rest) (length-loads_made lane 2 values)
      ∙ capture_at (needed words len) (length values) h

  -- after the turn a piece has the stores that are left
  pub next_in-answered : (position : ℕ) (outcome : Outcome) (stores : List (ℕ × ℕ))
      → length values ≡ needed words len
      → slice_get outs position ≡ Some outcome
      → next_in words outs (answered lane len values position stores)
      ≡ unwrap_or (slice_get (map store (answer (receipt_of position outcome))) (length stores)) Rest
  next_in-answered position outcome stores enough told_so =
      let n : ℕ = needed words len in
      let rest : List Action = Turn ∷ map store (answer (receipt_of position outcome)) in
      ap (λ t. unwrap_or (slice_get (whole words len (receipt_at outs t)) (length (answered lane len values position stores))) Rest)
      (turn_in-answered lane len values position stores)
      ∙ ap (λ r. unwrap_or (slice_get (whole words len r) (length (answered lane len values position stores))) Rest)
      (receipt_at-told outs position outcome told_so)
      ∙ ap (λ k. unwrap_or (slice_get (Load 0 ∷ (loads_from 2 n ++ rest)) k) Rest) (length-answered lane len values position stores)
      ∙ ap (λ o. unwrap_or o Rest)
      (slice_get-after (loads_from 2 n) rest (length values + suc (length stores)) (suc (length stores)) (rw (length-loads_from 2 n) (omega arith)))
