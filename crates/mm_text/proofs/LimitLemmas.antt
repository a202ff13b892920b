-- Within which limits a script is whose lines are each in range.
use Rattle.std.proofs.Common.{◌≡◌, ℕ, zero, suc, ◌+◌, ◌*◌, ◌<◌, ◌≤◌, Bool, true, false, not, ◌&&◌, nat_lt, nat_le, cond, List, [], ◌∷◌, ◌++◌, length, take, refl, ap, sym, subst, ◌∙◌, count_by, arith}
use Rattle.std.proofs.lemmas.Bool.{and_parts, not-true, false≢true, ltb-true, leb-true}
use Rattle.std.proofs.lemmas.List.{length-append, take_all}
use Rattle.std.proofs.lemmas.List.Elements.{All-nil, All-cons, All-head, All-tail, All-append}
use Rattle.std.proofs.lemmas.List.Sums.{sum_by-cons, sum_by-append}
use Rattle.std.specs.List.{All, flat_map, list_all, sum_by}
use Rattle.mm_base.specs.Cells.{may_hold, IsOpeningCell}
use Rattle.mm_base.specs.Numbers.{words_of_bytes, words_for, first_words}
use Rattle.mm_base.specs.declared.cells.CellWrite.{CellWrite}
use Rattle.mm_base.specs.declared.handler.Handler.{Handler as Registered}
use Rattle.mm_core.specs.Scripted.{is_stub, AreStubs, numbered}
use Rattle.comm_core.specs.WorldReadiness.{rings_in}
use Rattle.comm_core.specs.declared.event.Event.{Event}
use Rattle.comm_core.specs.declared.event.Event.TheVariants as event
use Rattle.comm_core.specs.declared.script.Script.{Script}
use Rattle.mm_text.specs.Fields.{keyword_of}
use Rattle.comm_core.specs.WorldReadiness.{IsOfWorld}
use Rattle.mm_text.specs.Limits.{IsWithinLimits}
use Rattle.mm_text.specs.ScriptText.{lines_of, said_in, is_event, has_none, may_stand, lane_count, word_count, kind_of, place_of, is_handler, is_ring, are_distinct, is_in_range, Says, IsAccepted, pokes_from, saved_of, events_of, cells_of, stubs_of, script_of, IsScript}
use Rattle.mm_text.proofs.BuilderLemmas.{lane_count-push, word_count-push, flat_map-push, count_by-push, length-numbered}
use Rattle.mm_text.proofs.SaysLemmas.{some-at, take-some}
use Rattle.mm_text.specs.declared.line.CellKind.{CellKind}
use Rattle.mm_text.specs.declared.line.Line.{Line}
use Rattle.mm_text.specs.declared.line.Line.TheVariants.{Lanes, Cell, Handler, Poke, Fill, Ring, Step, Steps, Run}
use Rattle.mm_text.specs.declared.line.Named.{Named}

-- whether a line is a handler's, and whether it rings
abbrev handles : Line → Bool
handles line = is_handler (keyword_of line)

abbrev rings : Line → Bool
rings line = is_ring (keyword_of line)

-- the number of lanes and of words are in range
record IsSized (lanes words : ℕ) : Type 0 where
  lanes_low : 1 ≤ lanes
  lanes_high : lanes ≤ 16
  words_low : 3 ≤ words
  words_high : words ≤ 512

-- what lines that are accepted one by one say is within the limits
record IsBounded (lines : List Line) : Type 0 where
  sized : has_none lines ≡ false → IsSized (lane_count lines) (word_count lines)
  cells : All IsOpeningCell (flat_map cells_of lines)
  few : count_by handles lines ≤ 64
  rung : count_by rings lines ≤ 8192
  events : All (IsOfWorld (lane_count lines) (word_count lines)) (flat_map events_of lines)

bounded-none : IsBounded []
bounded-none = record {
  sized = λ some. absurd (false≢true (sym some));
  cells = All-nil IsOpeningCell;
  few = omega arith;
  rung = omega arith;
  events = All-nil (IsOfWorld 0 0);
}

sized_by : (lanes words : ℕ) → (nat_le 1 lanes && nat_le lanes 16 && nat_le 3 words && nat_le words 512) ≡ true → IsSized lanes words
sized_by lanes words e =
    let a = and_parts (nat_le 1 lanes && nat_le lanes 16 && nat_le 3 words) (nat_le words 512) e in
    let b = and_parts (nat_le 1 lanes && nat_le lanes 16) (nat_le 3 words) a.0 in
    let d = and_parts (nat_le 1 lanes) (nat_le lanes 16) b.0 in
    record {
      lanes_low = leb-true 1 lanes d.0;
      lanes_high = leb-true lanes 16 d.1;
      words_low = leb-true 3 words b.1;
      words_high = leb-true words 512 a.1;
    }

bounded-lanes : (before : List Line) (lanes words : ℕ) → has_none before ≡ true
    → (nat_le 1 lanes && nat_le lanes 16 && nat_le 3 words && nat_le words 512) ≡ true → IsBounded (before ++ Lanes lanes words ∷ [])
bounded-lanes (line ∷ before) lanes words none inside = absurd (false≢true none)
bounded-lanes [] lanes words none inside = record {
  sized = λ some. sized_by lanes words inside;
  cells = All-nil IsOpeningCell;
  few = omega arith;
  rung = omega arith;
  events = All-nil (IsOfWorld lanes words);
}

count-within : (p : Line → Bool) (lines : List Line) (line : Line) (most : ℕ) → count_by p lines + cond (p line) 1 0 ≤ most → count_by p (lines ++ line ∷ []) ≤ most
count-within p lines line most h = subst (λ n. n ≤ most) (sym (count_by-push p lines line)) h

events-within : (before : List Line) (line : Line) → has_none before ≡ false → All (IsOfWorld (lane_count before) (word_count before)) (flat_map events_of before)
    → All (IsOfWorld (lane_count before) (word_count before)) (events_of line)
    → All (IsOfWorld (lane_count (before ++ line ∷ [])) (word_count (before ++ line ∷ []))) (flat_map events_of (before ++ line ∷ []))
events-within before line some old more =
    let P : List Event → Type 0 = λ events. All (IsOfWorld (lane_count before) (word_count before)) events in
    let Q : ℕ → Type 0 = λ n. All (IsOfWorld n (word_count before)) (flat_map events_of (before ++ line ∷ [])) in
    let R : ℕ → Type 0 = λ n. All (IsOfWorld (lane_count (before ++ line ∷ [])) n) (flat_map events_of (before ++ line ∷ [])) in
    subst R (sym (word_count-push before line some))
    (subst Q (sym (lane_count-push before line some))
    (subst P (sym (flat_map-push events_of before line)) (All-append (IsOfWorld (lane_count before) (word_count before)) (flat_map events_of before) (events_of line) old more)))

-- what a line behind the first adds
record IsBounding (before : List Line) (line : Line) : Type 0 where
  some : has_none before ≡ false
  cells : All IsOpeningCell (cells_of line)
  few : count_by handles before + cond (handles line) 1 0 ≤ 64
  rung : count_by rings before + cond (rings line) 1 0 ≤ 8192
  events : All (IsOfWorld (lane_count before) (word_count before)) (events_of line)

bounded-later : (before : List Line) (line : Line) → IsBounded before → IsBounding before line → IsBounded (before ++ line ∷ [])
bounded-later before line b m =
    let P : List CellWrite → Type 0 = λ cells. All IsOpeningCell cells in
    let Q : ℕ → Type 0 = λ n. IsSized n (word_count before) in
    let R : ℕ → Type 0 = λ n. IsSized (lane_count (before ++ line ∷ [])) n in
    record {
      sized = λ some. subst R (sym (word_count-push before line m.some)) (subst Q (sym (lane_count-push before line m.some)) (b.sized m.some));
      cells = subst P (sym (flat_map-push cells_of before line)) (All-append IsOpeningCell (flat_map cells_of before) (cells_of line) b.cells m.cells);
      few = count-within handles before line 64 m.few;
      rung = count-within rings before line 8192 m.rung;
      events = events-within before line m.some b.events m.events;
    }

add_none : (n most : ℕ) → n ≤ most → n + 0 ≤ most
add_none n most h = omega arith

one_more : (n most : ℕ) → nat_lt n most ≡ true → n + 1 ≤ most
one_more n most h = let less = ltb-true n most h in omega arith

one_event : (lanes words : ℕ) (e : Event) → IsOfWorld lanes words e → All (IsOfWorld lanes words) (e ∷ [])
one_event lanes words e h = All-cons (IsOfWorld lanes words) e [] h (All-nil (IsOfWorld lanes words))

-- a line that says one event which is no ring
bounding-event : (before : List Line) (line : Line) → IsBounded before → has_none before ≡ false → handles line ≡ false → rings line ≡ false → cells_of line ≡ []
    → All (IsOfWorld (lane_count before) (word_count before)) (events_of line) → IsBounding before line
bounding-event before line b some h r no_cells events =
    let P : Bool → Type 0 = λ t. count_by handles before + cond t 1 0 ≤ 64 in
    let Q : Bool → Type 0 = λ t. count_by rings before + cond t 1 0 ≤ 8192 in
    let R : List CellWrite → Type 0 = λ cells. All IsOpeningCell cells in
    record {
      some = some;
      cells = subst R (sym no_cells) (All-nil IsOpeningCell);
      few = subst P (sym h) (add_none (count_by handles before) 64 b.few);
      rung = subst Q (sym r) (add_none (count_by rings before) 8192 b.rung);
      events = events;
    }

length-first_words : (n : ℕ) (bytes : List ℕ) → length (first_words n bytes) ≡ n
length-first_words zero bytes = refl
length-first_words (suc n) bytes = ap suc (length-first_words n _)

pokes_from-within : (lanes words lane word : ℕ) (values : List ℕ) → lane < lanes → word + length values ≤ words + 2 → All (IsOfWorld lanes words) (pokes_from lane word values)
pokes_from-within lanes words lane word [] there h = All-nil (IsOfWorld lanes words)
pokes_from-within lanes words lane word (value ∷ values) there h =
    let here : word < words + 2 = omega arith in
    let rest : (word + 1) + length values ≤ words + 2 = omega arith in
    All-cons (IsOfWorld lanes words) (event.Poke lane word value) (pokes_from lane (word + 1) values) (there, here) (pokes_from-within lanes words lane (word + 1) values there rest)

fill-within : (lanes words lane : ℕ) (bytes : List ℕ) → lane < lanes → length bytes ≤ 8 * words → All (IsOfWorld lanes words) (events_of (Fill lane bytes))
fill-within lanes words lane bytes there h =
    let none : 0 < words + 2 = omega arith in
    let few : 2 + length (words_of_bytes bytes) ≤ words + 2 = omega (arith, length-first_words (words_for (length bytes)) bytes) in
    All-append (IsOfWorld lanes words) (pokes_from lane 2 (words_of_bytes bytes)) (event.Poke lane 0 (length bytes) ∷ [])
    (pokes_from-within lanes words lane 2 (words_of_bytes bytes) there few)
    (one_event lanes words (event.Poke lane 0 (length bytes)) (there, none))

bounding-fill : (before : List Line) (lane : ℕ) (bytes : List ℕ) → IsBounded before → has_none before ≡ false → is_in_range before (Fill lane bytes) ≡ true
    → IsBounding before (Fill lane bytes)
bounding-fill before lane bytes b some inside =
    let lanes = lane_count before in
    let words = word_count before in
    let a = and_parts (nat_lt lane lanes && nat_le 1 (length bytes)) (nat_le (length bytes) (8 * words)) inside in
    let d = and_parts (nat_lt lane lanes) (nat_le 1 (length bytes)) a.0 in
    bounding-event before (Fill lane bytes) b some refl refl refl
    (fill-within lanes words lane bytes (ltb-true lane lanes d.0) (leb-true (length bytes) (8 * words) a.1))

bounding-poke : (before : List Line) (lane word value : ℕ) → IsBounded before → has_none before ≡ false → is_in_range before (Poke lane word value) ≡ true
    → IsBounding before (Poke lane word value)
bounding-poke before lane word value b some inside =
    let a = and_parts (nat_lt lane (lane_count before)) (nat_lt word (word_count before + 2)) inside in
    bounding-event before (Poke lane word value) b some refl refl refl
    (one_event (lane_count before) (word_count before) (event.Poke lane word value) (ltb-true lane (lane_count before) a.0, ltb-true word (word_count before + 2) a.1))

bounding-ring : (before : List Line) (lane : ℕ) (registers : List Named) → IsBounded before → has_none before ≡ false → is_in_range before (Ring lane registers) ≡ true
    → IsBounding before (Ring lane registers)
bounding-ring before lane registers b some inside =
    let there = list_all (λ named. nat_lt named.register 19) registers in
    let a = and_parts (nat_lt lane (lane_count before) && there && are_distinct registers) (nat_lt (count_by rings before) 8192) inside in
    let d = and_parts (nat_lt lane (lane_count before) && there) (are_distinct registers) a.0 in
    let f = and_parts (nat_lt lane (lane_count before)) there d.0 in
    record {
      some = some;
      cells = All-nil IsOpeningCell;
      few = add_none (count_by handles before) 64 b.few;
      rung = one_more (count_by rings before) 8192 a.1;
      events = one_event (lane_count before) (word_count before) (event.Ring lane (saved_of registers)) (ltb-true lane (lane_count before) f.0);
    }

bounding-cell : (before : List Line) (kind : CellKind) (at value : ℕ) → IsBounded before → has_none before ≡ false → may_hold (kind_of kind) (place_of kind at) value ≡ true
    → IsBounding before (Cell kind at value)
bounding-cell before kind at value b some inside = record {
  some = some;
  cells = All-cons IsOpeningCell (record { kind = kind_of kind; at = place_of kind at; n = 1; value = value }) [] (record { one = refl; there = inside }) (All-nil IsOpeningCell);
  few = add_none (count_by handles before) 64 b.few;
  rung = add_none (count_by rings before) 8192 b.rung;
  events = All-nil (IsOfWorld (lane_count before) (word_count before));
}

-- the first line stands in front of those that ask for one
some_of : (before : List Line) (quiet : Bool) → (not (has_none before) && quiet) ≡ true → has_none before ≡ false
some_of before quiet e = not-true (has_none before) (and_parts (not (has_none before)) quiet e).0

bounded-more : (before : List Line) (line : Line) → IsBounded before → may_stand before (keyword_of line) ≡ true → is_in_range before line ≡ true
    → IsBounded (before ++ line ∷ [])
bounded-more before (Lanes lanes words) b may inside = bounded-lanes before lanes words may inside
bounded-more before (Cell kind at value) b may inside =
    bounded-later before (Cell kind at value) b
    (bounding-cell before kind at value b (some_of before (list_all (λ line. not (is_event (keyword_of line))) before) may) inside)
bounded-more before (Handler guid status) b may inside =
    bounded-later before (Handler guid status) b
    (record {
      some = some_of before (list_all (λ line. not (is_event (keyword_of line))) before) may;
      cells = All-nil IsOpeningCell;
      few = one_more (count_by handles before) 64 inside;
      rung = add_none (count_by rings before) 8192 b.rung;
      events = All-nil (IsOfWorld (lane_count before) (word_count before));
    })
bounded-more before (Poke lane word value) b may inside =
    bounded-later before (Poke lane word value) b (bounding-poke before lane word value b (not-true (has_none before) may) inside)
bounded-more before (Fill lane bytes) b may inside = bounded-later before (Fill lane bytes) b (bounding-fill before lane bytes b (not-true (has_none before) may) inside)
bounded-more before (Ring lane registers) b may inside =
    bounded-later before (Ring lane registers) b (bounding-ring before lane registers b (not-true (has_none before) may) inside)
bounded-more before (Step lane) b may inside =
    bounded-later before (Step lane) b
    (bounding-event before (Step lane) b (not-true (has_none before) may) refl refl refl
    (one_event (lane_count before) (word_count before) (event.Steps lane 1) (ltb-true lane (lane_count before) inside)))
bounded-more before (Steps lane count) b may inside =
    let a = and_parts (nat_lt lane (lane_count before) && nat_le 1 count) (nat_le count 2048) inside in
    let d = and_parts (nat_lt lane (lane_count before)) (nat_le 1 count) a.0 in
    bounded-later before (Steps lane count) b
    (bounding-event before (Steps lane count) b (not-true (has_none before) may) refl refl refl
    (one_event (lane_count before) (word_count before) (event.Steps lane count) (ltb-true lane (lane_count before) d.0)))
bounded-more before (Run lane) b may inside =
    bounded-later before (Run lane) b
    (bounding-event before (Run lane) b (not-true (has_none before) may) refl refl refl
    (one_event (lane_count before) (word_count before) (event.Run lane) (ltb-true lane (lane_count before) inside)))

bounded-front : (handlers : Bool) (text : List (List ℕ)) (lines : List Line) → Says handlers text lines → (k : ℕ) → k ≤ length lines → IsBounded (take k lines)
bounded-front handlers text lines s zero h = bounded-none
bounded-front handlers text lines s (suc k) h =
    let count : length (said_in text) ≡ length lines = s.count in
    let w = some-at (said_in text) k (omega arith) in
    let x = some-at lines k (omega arith) in
    let a : IsAccepted handlers (take k lines) w.0 x.0 = s.each k w.0 x.0 w.1 x.1 in
    subst IsBounded (sym (take-some lines k x.0 x.1))
    (bounded-more (take k lines) x.0 (bounded-front handlers text lines s k (omega arith)) a.in_order a.in_range)

-- what a text says is within the limits
bounded-all : (handlers : Bool) (text : List (List ℕ)) (lines : List Line) → Says handlers text lines → IsBounded lines
bounded-all handlers text lines s =
    subst IsBounded (take_all (length lines) lines (omega arith)) (bounded-front handlers text lines s (length lines) (omega arith))

-- the stubs of lines
stubs_one : (line : Line) → length (stubs_of line) ≡ cond (handles line) 1 0
stubs_one (Lanes lanes words) = refl
stubs_one (Cell kind at value) = refl
stubs_one (Handler guid status) = refl
stubs_one (Poke lane word value) = refl
stubs_one (Fill lane bytes) = refl
stubs_one (Ring lane registers) = refl
stubs_one (Step lane) = refl
stubs_one (Steps lane count) = refl
stubs_one (Run lane) = refl

length-stubs : (lines : List Line) → length (flat_map stubs_of lines) ≡ count_by handles lines
length-stubs [] = refl
length-stubs (line ∷ lines) =
    length-append (stubs_of line) (flat_map stubs_of lines) ∙ ap (λ n. n + length (flat_map stubs_of lines)) (stubs_one line)
    ∙ ap (λ n. cond (handles line) 1 0 + n) (length-stubs lines) ∙ sym (sum_by-cons (λ x. cond (handles x) 1 0) line lines)

stub : Registered → Type 0
stub handler = is_stub handler.body ≡ true

stubs_line : (line : Line) → AreStubs (stubs_of line)
stubs_line (Handler guid status) = All-cons (λ handler. is_stub handler.body ≡ true) _ [] refl (All-nil (λ handler. is_stub handler.body ≡ true))
stubs_line (Lanes lanes words) = All-nil (λ handler. is_stub handler.body ≡ true)
stubs_line (Cell kind at value) = All-nil (λ handler. is_stub handler.body ≡ true)
stubs_line (Poke lane word value) = All-nil (λ handler. is_stub handler.body ≡ true)
stubs_line (Fill lane bytes) = All-nil (λ handler. is_stub handler.body ≡ true)
stubs_line (Ring lane registers) = All-nil (λ handler. is_stub handler.body ≡ true)
stubs_line (Step lane) = All-nil (λ handler. is_stub handler.body ≡ true)
stubs_line (Steps lane count) = All-nil (λ handler. is_stub handler.body ≡ true)
stubs_line (Run lane) = All-nil (λ handler. is_stub handler.body ≡ true)

stubs_all : (lines : List Line) → AreStubs (flat_map stubs_of lines)
stubs_all [] = All-nil (λ handler. is_stub handler.body ≡ true)
stubs_all (line ∷ lines) =
    All-append (λ handler. is_stub handler.body ≡ true) (stubs_of line) (flat_map stubs_of lines) (stubs_line line) (stubs_all lines)

stubs_numbered : (number : ℕ) (handlers : List Registered) → AreStubs handlers → AreStubs (numbered number handlers)
stubs_numbered number [] h = All-nil (λ handler. is_stub handler.body ≡ true)
stubs_numbered number (handler ∷ handlers) h =
    All-cons (λ x. is_stub x.body ≡ true) (record { number = number; guid = handler.guid; body = handler.body }) (numbered (number + 1) handlers)
    (All-head (λ x. is_stub x.body ≡ true) handler handlers h)
    (stubs_numbered (number + 1) handlers (All-tail (λ x. is_stub x.body ≡ true) handler handlers h))

-- the rings of lines
pokes_from-rings : (lane word : ℕ) (values : List ℕ) → sum_by rings_in (pokes_from lane word values) ≡ 0
pokes_from-rings lane word [] = refl
pokes_from-rings lane word (value ∷ values) =
    sum_by-cons rings_in (event.Poke lane word value) (pokes_from lane (word + 1) values) ∙ ap (λ n. 0 + n) (pokes_from-rings lane (word + 1) values)

fill-rings : (lane : ℕ) (bytes : List ℕ) → sum_by rings_in (events_of (Fill lane bytes)) ≡ 0
fill-rings lane bytes =
    sum_by-append rings_in (pokes_from lane 2 (words_of_bytes bytes)) (event.Poke lane 0 (length bytes) ∷ [])
    ∙ ap (λ n. n + 0) (pokes_from-rings lane 2 (words_of_bytes bytes))

rings_one : (line : Line) → sum_by rings_in (events_of line) ≡ cond (rings line) 1 0
rings_one (Lanes lanes words) = refl
rings_one (Cell kind at value) = refl
rings_one (Handler guid status) = refl
rings_one (Poke lane word value) = refl
rings_one (Fill lane bytes) = fill-rings lane bytes
rings_one (Ring lane registers) = refl
rings_one (Step lane) = refl
rings_one (Steps lane count) = refl
rings_one (Run lane) = refl

sum-rings : (lines : List Line) → sum_by rings_in (flat_map events_of lines) ≡ count_by rings lines
sum-rings [] = refl
sum-rings (line ∷ lines) =
    sum_by-append rings_in (events_of line) (flat_map events_of lines) ∙ ap (λ n. n + sum_by rings_in (flat_map events_of lines)) (rings_one line)
    ∙ ap (λ n. cond (rings line) 1 0 + n) (sum-rings lines) ∙ sym (sum_by-cons (λ x. cond (rings x) 1 0) line lines)

some_lines : (lines : List Line) → (lines ≡ [] → ⊥) → has_none lines ≡ false
some_lines [] h = absurd (h refl)
some_lines (line ∷ lines) h = refl

lines-within : (lines : List Line) → IsBounded lines → has_none lines ≡ false → IsWithinLimits (script_of lines)
unfolding script_of
lines-within lines b some =
    let sized = b.sized some in
    record {
      lanes_low = sized.lanes_low;
      lanes_high = sized.lanes_high;
      words_low = sized.words_low;
      words_high = sized.words_high;
      opening = b.cells;
      few = subst (λ n. n ≤ 64) (sym (length-numbered 1 (flat_map stubs_of lines) ∙ length-stubs lines)) b.few;
      stubs = stubs_numbered 1 (flat_map stubs_of lines) (stubs_all lines);
      rings = subst (λ n. n ≤ 8192) (sym (sum-rings lines)) b.rung;
      events = b.events;
    }

-- a script that a text spells is within the limits
pub script-within : (handlers : Bool) (text : List ℕ) (script : Script) → IsScript handlers text script → IsWithinLimits script
script-within handlers text script s =
    subst IsWithinLimits (sym s.means) (lines-within s.lines (bounded-all handlers (lines_of text) s.lines s.says) (some_lines s.lines s.some))
