-- What is kept of the lines of a text stands for them, from line to line.
use Rattle.std.proofs.Common.{◌≡◌, ℕ, suc, ◌+◌, ◌*◌, ◌<◌, ◌≤◌, Bool, true, false, not, if◌then◌else◌, ◌&&◌, nat_lt, nat_le, cond, List, [], ◌∷◌, ◌++◌, length, Option, refl, ap, sym, ◌∙◌, count_by, arith}
use Rattle.std.proofs.lemmas.Bool.{and_parts, not-true, false≢true, ltb-true, leb-true}
use Rattle.std.proofs.lemmas.List.{append-nil, length-append}
use Rattle.std.proofs.lemmas.List.Concat.{flat_map-append}
use Rattle.std.proofs.lemmas.List.Sums.{sum_by_push}
use Rattle.std.specs.List.{flat_map, list_all}
use Rattle.mm_base.specs.declared.guid.Guid.{Guid}
use Rattle.mm_base.specs.declared.handler.Handler.{Handler as Registered}
use Rattle.mm_base.specs.declared.handler.HandlerBody.TheVariants.{Stub}
use Rattle.mm_core.specs.Scripted.{numbered}
use Rattle.mm_text.specs.Fields.{keyword_of}
use Rattle.mm_text.specs.ScriptText.{is_event, has_none, may_stand, lane_count, word_count, is_handler, is_ring, are_distinct, is_in_range, events_of, cells_of, stubs_of, script_of}
use Rattle.mm_text.specs.ScriptReaderInside.{phase_of, is_empty, is_opening, stands_in, are_registers, accepts, happened, behind, built, IsSmall, StandsFor}
use Rattle.mm_text.specs.declared.line.CellKind.{CellKind}
use Rattle.mm_text.specs.declared.line.Keyword.{Keyword}
use Rattle.mm_text.specs.declared.line.Keyword.TheVariants as keyword
use Rattle.mm_text.specs.declared.line.Line.{Line}
use Rattle.mm_text.specs.declared.line.Line.TheVariants.{Lanes, Cell, Handler, Poke, Fill, Ring, Step, Steps, Run}
use Rattle.mm_text.specs.declared.line.Named.{Named}
use Rattle.mm_text.specs.declared.script_builder.Phase.{Phase}
use Rattle.mm_text.specs.declared.script_builder.Phase.TheVariants.{Empty, Opening, Happening}
use Rattle.mm_text.specs.declared.script_builder.ScriptBuilder.{ScriptBuilder}

-- no line says that something happens
abbrev quiet : List Line → Bool
quiet lines = list_all (λ line. not (is_event (keyword_of line))) lines

empty_by : (t : Bool) → is_empty (if t then Opening else Happening) ≡ false
empty_by true = refl
empty_by false = refl

opening_by : (t : Bool) → is_opening (if t then Opening else Happening) ≡ t
opening_by true = refl
opening_by false = refl

pub phase-empty : (lines : List Line) → is_empty (phase_of lines) ≡ has_none lines
phase-empty [] = refl
phase-empty (line ∷ lines) = empty_by (quiet (line ∷ lines))

phase-opening : (lines : List Line) → is_opening (phase_of lines) ≡ (not (has_none lines) && quiet lines)
phase-opening [] = refl
phase-opening (line ∷ lines) = opening_by (quiet (line ∷ lines))

stands_at : (lines : List Line) (keyword : Keyword) → stands_in (phase_of lines) keyword ≡ may_stand lines keyword
stands_at lines keyword.Lanes = phase-empty lines
stands_at lines keyword.Cell = phase-opening lines
stands_at lines keyword.Handler = phase-opening lines
stands_at lines keyword.Poke = ap not (phase-empty lines)
stands_at lines keyword.Fill = ap not (phase-empty lines)
stands_at lines keyword.Ring = ap not (phase-empty lines)
stands_at lines keyword.Step = ap not (phase-empty lines)
stands_at lines keyword.Run = ap not (phase-empty lines)

-- whether a line may stand is known by how far the lines have come
pub stands-may_stand : (lines : List Line) (builder : ScriptBuilder) → StandsFor lines builder → (keyword : Keyword)
    → stands_in builder.phase keyword ≡ may_stand lines keyword
stands-may_stand lines builder s keyword = ap (λ phase. stands_in phase keyword) s.phase ∙ stands_at lines keyword

and_regroup : (a b c d : Bool) → (a && (b && c) && d) ≡ (a && b && c && d)
and_regroup true true c d = refl
and_regroup true false c d = refl
and_regroup false b c d = refl

-- whether a line is in range is known by what is kept
pub accepts-in_range : (lines : List Line) (builder : ScriptBuilder) → StandsFor lines builder → (line : Line) → accepts builder line ≡ is_in_range lines line
accepts-in_range lines builder s (Lanes lanes words) = refl
accepts-in_range lines builder s (Cell kind at value) = refl
accepts-in_range lines builder s (Handler guid status) = ap (λ n. nat_lt n 64) s.count
accepts-in_range lines builder s (Poke lane word value) =
    ap (λ n. nat_lt lane n && nat_lt word (builder.words + 2)) s.lanes ∙ ap (λ n. nat_lt lane (lane_count lines) && nat_lt word (n + 2)) s.words
accepts-in_range lines builder s (Fill lane bytes) =
    ap (λ n. nat_lt lane n && nat_le 1 (length bytes) && nat_le (length bytes) (8 * builder.words)) s.lanes
    ∙ ap (λ n. nat_lt lane (lane_count lines) && nat_le 1 (length bytes) && nat_le (length bytes) (8 * n)) s.words
accepts-in_range lines builder s (Ring lane registers) =
    ap (λ n. nat_lt lane n && are_registers registers && nat_lt builder.rings 8192) s.lanes
    ∙ ap (λ n. nat_lt lane (lane_count lines) && are_registers registers && nat_lt n 8192) s.rings
    ∙ and_regroup (nat_lt lane (lane_count lines)) (list_all (λ named. nat_lt named.register 19) registers) (are_distinct registers)
    (nat_lt (count_by (λ line. is_ring (keyword_of line)) lines) 8192)
accepts-in_range lines builder s (Step lane) = ap (λ n. nat_lt lane n) s.lanes
accepts-in_range lines builder s (Steps lane count) = ap (λ n. nat_lt lane n && nat_le 1 count && nat_le count 2048) s.lanes
accepts-in_range lines builder s (Run lane) = ap (λ n. nat_lt lane n) s.lanes

and_last : (a b : Bool) → (a && (b && true)) ≡ (a && b)
and_last true true = refl
and_last true false = refl
and_last false b = refl

and_first : (a b c d : Bool) → (b && c) ≡ d → ((a && b) && c) ≡ (a && d)
and_first true b c d e = e
and_first false b c d e = refl

list_all-push : {X : Type 0} (p : X → Bool) (xs : List X) (x : X) → list_all p (xs ++ x ∷ []) ≡ (list_all p xs && p x)
list_all-push p [] x = by_case (p x)
  where
    by_case : (t : Bool) → (t && true) ≡ t
    by_case true = refl
    by_case false = refl
list_all-push p (y ∷ xs) x = ap (λ t. p y && t) (list_all-push p xs x) ∙ sym (and_first (p y) (list_all p xs) (p x) (list_all p xs && p x) refl)

-- behind one more line
none_pushed : (lines : List Line) (line : Line) → has_none (lines ++ line ∷ []) ≡ false
none_pushed [] line = refl
none_pushed (first ∷ lines) line = refl

pub lane_count-push : (lines : List Line) (line : Line) → has_none lines ≡ false → lane_count (lines ++ line ∷ []) ≡ lane_count lines
lane_count-push [] line e = absurd (false≢true (sym e))
lane_count-push (first ∷ lines) line e = refl

pub word_count-push : (lines : List Line) (line : Line) → has_none lines ≡ false → word_count (lines ++ line ∷ []) ≡ word_count lines
word_count-push [] line e = absurd (false≢true (sym e))
word_count-push (first ∷ lines) line e = refl

phase-pushed : (lines : List Line) (line : Line) (t : Bool) → (quiet lines && not (is_event (keyword_of line))) ≡ t
    → phase_of (lines ++ line ∷ []) ≡ (if t then Opening else Happening)
phase-pushed lines line t e =
    ap (λ none. if none then Empty else if quiet (lines ++ line ∷ []) then Opening else Happening) (none_pushed lines line)
    ∙ ap (λ q. if q then Opening else Happening) (list_all-push (λ x. not (is_event (keyword_of x))) lines line ∙ e)

and_no : (a b : Bool) → b ≡ true → (a && not b) ≡ false
and_no true true e = refl
and_no false b e = refl
and_no true false e = absurd (false≢true e)

and_yes : (a b : Bool) → a ≡ true → b ≡ false → (a && not b) ≡ true
and_yes true false e f = refl
and_yes true true e f = absurd (false≢true (sym f))
and_yes false b e f = absurd (false≢true e)

phase-happening : (lines : List Line) (line : Line) → is_event (keyword_of line) ≡ true → phase_of (lines ++ line ∷ []) ≡ Happening
phase-happening lines line e = phase-pushed lines line false (and_no (quiet lines) (is_event (keyword_of line)) e)

phase-still_opening : (lines : List Line) (line : Line) → quiet lines ≡ true → is_event (keyword_of line) ≡ false → phase_of (lines ++ line ∷ []) ≡ Opening
phase-still_opening lines line q e = phase-pushed lines line true (and_yes (quiet lines) (is_event (keyword_of line)) q e)

pub length-numbered : (number : ℕ) (handlers : List Registered) → length (numbered number handlers) ≡ length handlers
length-numbered number [] = refl
length-numbered number (handler ∷ handlers) = ap suc (length-numbered (number + 1) handlers)

numbered-push : (number : ℕ) (handlers : List Registered) (handler : Registered)
    → numbered number (handlers ++ handler ∷ []) ≡ numbered number handlers ++ record { number = number + length handlers; guid = handler.guid; body = handler.body } ∷ []
numbered-push number [] handler = ap (λ n. record { number = n; guid = handler.guid; body = handler.body } ∷ []) (omega arith)
numbered-push number (first ∷ handlers) handler =
    ap (λ rest. record { number = number; guid = first.guid; body = first.body } ∷ rest)
    (numbered-push (number + 1) handlers handler
    ∙ ap (λ n. numbered (number + 1) handlers ++ record { number = n; guid = handler.guid; body = handler.body } ∷ []) (omega arith))

-- one more line adds what it makes
pub flat_map-push : {Y : Type 0} (f : Line → List Y) (lines : List Line) (line : Line) → flat_map f (lines ++ line ∷ []) ≡ flat_map f lines ++ f line
flat_map-push f lines line = flat_map-append f lines (line ∷ []) ∙ ap (λ x. flat_map f lines ++ x) (append-nil (f line))

flat_map-same : {Y : Type 0} (f : Line → List Y) (lines : List Line) (line : Line) (kept : List Y) → kept ≡ flat_map f lines → f line ≡ []
    → kept ≡ flat_map f (lines ++ line ∷ [])
flat_map-same f lines line kept e none =
    e ∙ sym (append-nil (flat_map f lines)) ∙ ap (λ x. flat_map f lines ++ x) (sym none) ∙ sym (flat_map-push f lines line)

flat_map-more : {Y : Type 0} (f : Line → List Y) (lines : List Line) (line : Line) (kept : List Y) → kept ≡ flat_map f lines
    → kept ++ f line ≡ flat_map f (lines ++ line ∷ [])
flat_map-more f lines line kept e = ap (λ x. x ++ f line) e ∙ sym (flat_map-push f lines line)

pub count_by-push : (p : Line → Bool) (lines : List Line) (line : Line) → count_by p (lines ++ line ∷ []) ≡ count_by p lines + cond (p line) 1 0
count_by-push p lines line = sum_by_push (λ x. cond (p x) 1 0) lines line

count-same : (p : Line → Bool) (lines : List Line) (line : Line) (kept : ℕ) → kept ≡ count_by p lines → p line ≡ false → kept ≡ count_by p (lines ++ line ∷ [])
count-same p lines line kept e other =
    e ∙ add_none (count_by p lines) ∙ ap (λ t. count_by p lines + cond t 1 0) (sym other) ∙ sym (count_by-push p lines line)
  where
    add_none : (n : ℕ) → n ≡ n + 0
    add_none n = omega arith

count-more : (p : Line → Bool) (lines : List Line) (line : Line) (kept : ℕ) → kept ≡ count_by p lines → p line ≡ true → kept + 1 ≡ count_by p (lines ++ line ∷ [])
count-more p lines line kept e this =
    ap (λ n. n + 1) e ∙ ap (λ t. count_by p lines + cond t 1 0) (sym this) ∙ sym (count_by-push p lines line)

handlers-same : (lines : List Line) (line : Line) (kept : List Registered) → kept ≡ numbered 1 (flat_map stubs_of lines) → stubs_of line ≡ []
    → kept ≡ numbered 1 (flat_map stubs_of (lines ++ line ∷ []))
handlers-same lines line kept e none = e ∙ ap (numbered 1) (flat_map-same stubs_of lines line (flat_map stubs_of lines) refl none)

handlers-more : (lines : List Line) (guid : Option Guid) (status : ℕ) (kept : List Registered) → kept ≡ numbered 1 (flat_map stubs_of lines)
    → kept ++ record { number = length kept + 1; guid = guid; body = Stub status } ∷ [] ≡ numbered 1 (flat_map stubs_of (lines ++ Handler guid status ∷ []))
handlers-more lines guid status kept e =
    let stubs : List Registered = flat_map stubs_of lines in
    let count : length kept ≡ length stubs = ap length e ∙ length-numbered 1 stubs in
    let number : length kept + 1 ≡ 1 + length stubs = omega arith in
    ap (λ n. kept ++ record { number = n; guid = guid; body = Stub status } ∷ []) number
    ∙ ap (λ x. x ++ record { number = 1 + length stubs; guid = guid; body = Stub status } ∷ []) e
    ∙ sym (numbered-push 1 stubs (record { number = 0; guid = guid; body = Stub status }))
    ∙ ap (numbered 1) (sym (flat_map-push stubs_of lines (Handler guid status)))

-- a line that says that something happens, and is no ring
stands-happened : (lines : List Line) (builder : ScriptBuilder) (line : Line) → StandsFor lines builder → has_none lines ≡ false
    → is_event (keyword_of line) ≡ true → is_handler (keyword_of line) ≡ false → is_ring (keyword_of line) ≡ false → cells_of line ≡ [] → stubs_of line ≡ []
    → StandsFor (lines ++ line ∷ []) (happened builder (events_of line))
stands-happened lines builder line s some event no_handler no_ring no_cells no_stubs = record {
  phase = sym (phase-happening lines line event);
  lanes = s.lanes ∙ sym (lane_count-push lines line some);
  words = s.words ∙ sym (word_count-push lines line some);
  cells = flat_map-same cells_of lines line builder.cells s.cells no_cells;
  handlers = handlers-same lines line builder.handlers s.handlers no_stubs;
  count = count-same (λ x. is_handler (keyword_of x)) lines line (length builder.handlers) s.count no_handler;
  rings = count-same (λ x. is_ring (keyword_of x)) lines line builder.rings s.rings no_ring;
  events = flat_map-more events_of lines line builder.events s.events;
}

stands-ring : (lines : List Line) (builder : ScriptBuilder) (lane : ℕ) (registers : List Named) → StandsFor lines builder → has_none lines ≡ false
    → StandsFor (lines ++ Ring lane registers ∷ []) (behind builder (Ring lane registers))
stands-ring lines builder lane registers s some =
    let line : Line = Ring lane registers in
    record {
      phase = sym (phase-happening lines line refl);
      lanes = s.lanes ∙ sym (lane_count-push lines line some);
      words = s.words ∙ sym (word_count-push lines line some);
      cells = flat_map-same cells_of lines line builder.cells s.cells refl;
      handlers = handlers-same lines line builder.handlers s.handlers refl;
      count = count-same (λ x. is_handler (keyword_of x)) lines line (length builder.handlers) s.count refl;
      rings = count-more (λ x. is_ring (keyword_of x)) lines line builder.rings s.rings refl;
      events = flat_map-more events_of lines line builder.events s.events;
    }

opening_of : (lines : List Line) → is_opening (phase_of lines) ≡ true → phase_of lines ≡ Opening
opening_of lines e = by_phase (phase_of lines) e
  where
    by_phase : (phase : Phase) → is_opening phase ≡ true → phase ≡ Opening
    by_phase Empty h = absurd (false≢true h)
    by_phase Opening h = refl
    by_phase Happening h = absurd (false≢true h)

-- the lines stand where cells and handlers may
record IsOpen (lines : List Line) : Type 0 where
  some : has_none lines ≡ false
  calm : quiet lines ≡ true

open_of : (lines : List Line) → (not (has_none lines) && quiet lines) ≡ true → IsOpen lines
open_of lines e =
    let both = and_parts (not (has_none lines)) (quiet lines) e in
    record { some = not-true (has_none lines) both.0; calm = both.1 }

stands-cell : (lines : List Line) (builder : ScriptBuilder) (kind : CellKind) (at value : ℕ) → StandsFor lines builder
    → (not (has_none lines) && quiet lines) ≡ true → StandsFor (lines ++ Cell kind at value ∷ []) (behind builder (Cell kind at value))
stands-cell lines builder kind at value s may =
    let line : Line = Cell kind at value in
    let opened = open_of lines may in
    record {
      phase = s.phase ∙ opening_of lines (phase-opening lines ∙ may) ∙ sym (phase-still_opening lines line opened.calm refl);
      lanes = s.lanes ∙ sym (lane_count-push lines line opened.some);
      words = s.words ∙ sym (word_count-push lines line opened.some);
      cells = flat_map-more cells_of lines line builder.cells s.cells;
      handlers = handlers-same lines line builder.handlers s.handlers refl;
      count = count-same (λ x. is_handler (keyword_of x)) lines line (length builder.handlers) s.count refl;
      rings = count-same (λ x. is_ring (keyword_of x)) lines line builder.rings s.rings refl;
      events = flat_map-same events_of lines line builder.events s.events refl;
    }

stands-handler : (lines : List Line) (builder : ScriptBuilder) (guid : Option Guid) (status : ℕ) → StandsFor lines builder
    → (not (has_none lines) && quiet lines) ≡ true → StandsFor (lines ++ Handler guid status ∷ []) (behind builder (Handler guid status))
stands-handler lines builder guid status s may =
    let line : Line = Handler guid status in
    let opened = open_of lines may in
    let stub : Registered = record { number = length builder.handlers + 1; guid = guid; body = Stub status } in
    record {
      phase = s.phase ∙ opening_of lines (phase-opening lines ∙ may) ∙ sym (phase-still_opening lines line opened.calm refl);
      lanes = s.lanes ∙ sym (lane_count-push lines line opened.some);
      words = s.words ∙ sym (word_count-push lines line opened.some);
      cells = flat_map-same cells_of lines line builder.cells s.cells refl;
      handlers = handlers-more lines guid status builder.handlers s.handlers;
      count = length-append builder.handlers (stub ∷ []) ∙ count-more (λ x. is_handler (keyword_of x)) lines line (length builder.handlers) s.count refl;
      rings = count-same (λ x. is_ring (keyword_of x)) lines line builder.rings s.rings refl;
      events = flat_map-same events_of lines line builder.events s.events refl;
    }

stands-lanes : (lines : List Line) (builder : ScriptBuilder) (lanes words : ℕ) → StandsFor lines builder → has_none lines ≡ true
    → StandsFor (lines ++ Lanes lanes words ∷ []) (behind builder (Lanes lanes words))
stands-lanes (line ∷ lines) builder lanes words s none = absurd (false≢true none)
stands-lanes [] builder lanes words s none = record {
  phase = refl;
  lanes = refl;
  words = refl;
  cells = s.cells;
  handlers = s.handlers;
  count = s.count;
  rings = s.rings;
  events = s.events;
}

-- what is kept behind a line that may stand there stands for all of them
pub stands-behind : (lines : List Line) (builder : ScriptBuilder) (line : Line) → StandsFor lines builder → may_stand lines (keyword_of line) ≡ true
    → StandsFor (lines ++ line ∷ []) (behind builder line)
stands-behind lines builder (Lanes lanes words) s may = stands-lanes lines builder lanes words s may
stands-behind lines builder (Cell kind at value) s may = stands-cell lines builder kind at value s may
stands-behind lines builder (Handler guid status) s may = stands-handler lines builder guid status s may
stands-behind lines builder (Poke lane word value) s may =
    stands-happened lines builder (Poke lane word value) s (not-true (has_none lines) may) refl refl refl refl refl
stands-behind lines builder (Fill lane bytes) s may = stands-happened lines builder (Fill lane bytes) s (not-true (has_none lines) may) refl refl refl refl refl
stands-behind lines builder (Ring lane registers) s may = stands-ring lines builder lane registers s (not-true (has_none lines) may)
stands-behind lines builder (Step lane) s may = stands-happened lines builder (Step lane) s (not-true (has_none lines) may) refl refl refl refl refl
stands-behind lines builder (Steps lane count) s may = stands-happened lines builder (Steps lane count) s (not-true (has_none lines) may) refl refl refl refl refl
stands-behind lines builder (Run lane) s may = stands-happened lines builder (Run lane) s (not-true (has_none lines) may) refl refl refl refl refl

-- what is built is what the lines say
pub built-script : (lines : List Line) (builder : ScriptBuilder) → StandsFor lines builder → built builder ≡ script_of lines
unfolding script_of
built-script lines builder s =
    ap (λ n. record (built builder) { lanes = n }) s.lanes
    ∙ ap (λ n. record (built builder) { lanes = lane_count lines; words = n }) s.words
    ∙ ap (λ x. record (built builder) { lanes = lane_count lines; words = word_count lines; opening = record { cells = x } }) s.cells
    ∙ ap (λ x. record (script_of lines) { handlers = x; events = builder.events }) s.handlers
    ∙ ap (λ x. record (script_of lines) { events = x }) s.events

-- what is known of lines that are accepted
pub poke-fits : (builder : ScriptBuilder) (line : Line) (lane word value : ℕ) → line ≡ Poke lane word value → accepts builder line ≡ true
    → (lane < builder.lanes) × (word < builder.words + 2)
poke-fits builder line lane word value same e =
    let both = and_parts (nat_lt lane builder.lanes) (nat_lt word (builder.words + 2)) (ap (accepts builder) (sym same) ∙ e) in
    (ltb-true lane builder.lanes both.0, ltb-true word (builder.words + 2) both.1)

pub fill-fits : (builder : ScriptBuilder) (line : Line) (lane : ℕ) (bytes : List ℕ) → line ≡ Fill lane bytes → accepts builder line ≡ true
    → (lane < builder.lanes) × (length bytes ≤ 8 * builder.words)
fill-fits builder line lane bytes same e =
    let both = and_parts (nat_lt lane builder.lanes && nat_le 1 (length bytes)) (nat_le (length bytes) (8 * builder.words)) (ap (accepts builder) (sym same) ∙ e) in
    let more = and_parts (nat_lt lane builder.lanes) (nat_le 1 (length bytes)) both.0 in
    (ltb-true lane builder.lanes more.0, leb-true (length bytes) (8 * builder.words) both.1)

pub ring-fits : (builder : ScriptBuilder) (line : Line) (lane : ℕ) (registers : List Named) → line ≡ Ring lane registers → accepts builder line ≡ true
    → (lane < builder.lanes) × (builder.rings < 8192)
ring-fits builder line lane registers same e =
    let both = and_parts (nat_lt lane builder.lanes && are_registers registers) (nat_lt builder.rings 8192) (ap (accepts builder) (sym same) ∙ e) in
    let more = and_parts (nat_lt lane builder.lanes) (are_registers registers) both.0 in
    (ltb-true lane builder.lanes more.0, ltb-true builder.rings 8192 both.1)

pub step-fits : (builder : ScriptBuilder) (line : Line) (lane : ℕ) → line ≡ Step lane → accepts builder line ≡ true → lane < builder.lanes
step-fits builder line lane same e = ltb-true lane builder.lanes (ap (accepts builder) (sym same) ∙ e)

pub run-fits : (builder : ScriptBuilder) (line : Line) (lane : ℕ) → line ≡ Run lane → accepts builder line ≡ true → lane < builder.lanes
run-fits builder line lane same e = ltb-true lane builder.lanes (ap (accepts builder) (sym same) ∙ e)

pub steps-fit : (builder : ScriptBuilder) (line : Line) (lane count : ℕ) → line ≡ Steps lane count → accepts builder line ≡ true
    → (lane < builder.lanes) × (count ≤ 2048)
steps-fit builder line lane count same e =
    let both = and_parts (nat_lt lane builder.lanes && nat_le 1 count) (nat_le count 2048) (ap (accepts builder) (sym same) ∙ e) in
    let more = and_parts (nat_lt lane builder.lanes) (nat_le 1 count) both.0 in
    (ltb-true lane builder.lanes more.0, leb-true count 2048 both.1)

-- lanes and their words stay few
pub few-behind : (builder : ScriptBuilder) (line : Line) → accepts builder line ≡ true → IsSmall builder → IsSmall (behind builder line)
few-behind builder (Lanes lanes words) e few =
    let both = and_parts (nat_le 1 lanes && nat_le lanes 16 && nat_le 3 words) (nat_le words 512) e in
    let more = and_parts (nat_le 1 lanes && nat_le lanes 16) (nat_le 3 words) both.0 in
    record { lanes = leb-true lanes 16 (and_parts (nat_le 1 lanes) (nat_le lanes 16) more.0).1; words = leb-true words 512 both.1 }
few-behind builder (Cell kind at value) e few = record { lanes = few.lanes; words = few.words }
few-behind builder (Handler guid status) e few = record { lanes = few.lanes; words = few.words }
few-behind builder (Poke lane word value) e few = record { lanes = few.lanes; words = few.words }
few-behind builder (Fill lane bytes) e few = record { lanes = few.lanes; words = few.words }
few-behind builder (Ring lane registers) e few = record { lanes = few.lanes; words = few.words }
few-behind builder (Step lane) e few = record { lanes = few.lanes; words = few.words }
few-behind builder (Steps lane count) e few = record { lanes = few.lanes; words = few.words }
few-behind builder (Run lane) e few = record { lanes = few.lanes; words = few.words }
