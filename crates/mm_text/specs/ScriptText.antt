-- The text of a script: which lines it says, and what these make happen.
use Rattle.std.specs.Prelude.{◌≡◌, ◌≢◌, ℕ, ◌+◌, ◌*◌, Bool, true, false, if◌then◌else◌, ◌==◌, ◌&&◌, not, nat_lt, nat_le, List, [], ◌∷◌, ◌++◌, length, map, filter, take, count_by, Some, slice_get}
use Rattle.std.specs.List.{flat_map, list_all, range_with_len, slice_split}
use Rattle.mm_base.specs.Cells.{may_hold}
use Rattle.mm_base.specs.Numbers.{words_of_bytes}
use Rattle.mm_base.specs.declared.access.Kind.{Kind}
use Rattle.mm_base.specs.declared.access.Kind.TheVariants.{Memory, Io, Msr}
use Rattle.mm_base.specs.declared.cells.CellWrite.{CellWrite}
use Rattle.mm_base.specs.declared.cells.Saved.{Saved}
use Rattle.mm_base.specs.declared.handler.Handler.{Handler as Registered}
use Rattle.mm_base.specs.declared.handler.HandlerBody.TheVariants.{Stub}
use Rattle.mm_core.specs.Scripted.{numbered}
use Rattle.comm_core.specs.declared.event.Event.{Event}
use Rattle.comm_core.specs.declared.event.Event.TheVariants as event
use Rattle.comm_core.specs.declared.script.Script.{Script}
use Rattle.mm_text.specs.Fields.{Spells, keyword_of}
use Rattle.mm_text.specs.declared.line.CellKind.{CellKind}
use Rattle.mm_text.specs.declared.line.CellKind.TheVariants as cells
use Rattle.mm_text.specs.declared.line.Keyword.{Keyword}
use Rattle.mm_text.specs.declared.line.Keyword.TheVariants as keyword
use Rattle.mm_text.specs.declared.line.Line.{Line}
use Rattle.mm_text.specs.declared.line.Line.TheVariants.{Lanes, Cell, Handler, Poke, Fill, Ring, Step, Steps, Run}
use Rattle.mm_text.specs.declared.line.Named.{Named}

-- the lines of a text as they stand in it, set apart by line feeds (the last one needs none)
abbrev pub lines_of : List ℕ → List (List ℕ)
lines_of text = slice_split (λ byte. byte == 10) text

-- the words of a line, set apart by one or more spaces; spaces at its ends count for nothing
abbrev pub words_of : List ℕ → List (List ℕ)
words_of line = filter (λ word. nat_lt 0 (length word)) (slice_split (λ byte. byte == 32) line)

-- whether a word begins with `#`
abbrev pub is_comment : List ℕ → Bool
is_comment [] = false
is_comment (byte ∷ bytes) = byte == 35

-- whether a line of these words is passed: it has none, or it is a comment
abbrev pub is_passed : List (List ℕ) → Bool
is_passed [] = true
is_passed (word ∷ words) = is_comment word

-- the lines that are not passed, each by its words
abbrev pub said_in : List (List ℕ) → List (List (List ℕ))
said_in lines = filter (λ words. not (is_passed words)) (map words_of lines)

-- A line is one of this text: handler lines are those of the text with handlers alone.
abbrev pub is_of_text : Bool → Keyword → Bool
is_of_text handlers keyword.Lanes = true
is_of_text handlers keyword.Cell = true
is_of_text handlers keyword.Handler = handlers
is_of_text handlers keyword.Poke = true
is_of_text handlers keyword.Fill = true
is_of_text handlers keyword.Ring = true
is_of_text handlers keyword.Step = true
is_of_text handlers keyword.Run = true

-- whether a line of this keyword says that something happens
abbrev pub is_event : Keyword → Bool
is_event keyword.Lanes = false
is_event keyword.Cell = false
is_event keyword.Handler = false
is_event keyword.Poke = true
is_event keyword.Fill = true
is_event keyword.Ring = true
is_event keyword.Step = true
is_event keyword.Run = true

-- there is no line
abbrev pub has_none : List Line → Bool
has_none [] = true
has_none (line ∷ lines) = false

-- Whether a line of this keyword may stand behind these lines: `lanes` first of all and once, every other line behind it, and
-- cell and handler lines in front of all that happens.
abbrev pub may_stand : List Line → Keyword → Bool
may_stand before keyword.Lanes = has_none before
may_stand before keyword.Cell = not (has_none before) && list_all (λ line. not (is_event (keyword_of line))) before
may_stand before keyword.Handler = not (has_none before) && list_all (λ line. not (is_event (keyword_of line))) before
may_stand before keyword.Poke = not (has_none before)
may_stand before keyword.Fill = not (has_none before)
may_stand before keyword.Ring = not (has_none before)
may_stand before keyword.Step = not (has_none before)
may_stand before keyword.Run = not (has_none before)

-- how many lanes there are, and how many data words each has, by the first line
abbrev pub lanes_said : Line → ℕ
lanes_said (Lanes lanes words) = lanes
lanes_said (Cell kind at value) = 0
lanes_said (Handler guid status) = 0
lanes_said (Poke lane word value) = 0
lanes_said (Fill lane bytes) = 0
lanes_said (Ring lane registers) = 0
lanes_said (Step lane) = 0
lanes_said (Steps lane count) = 0
lanes_said (Run lane) = 0

abbrev pub words_said : Line → ℕ
words_said (Lanes lanes words) = words
words_said (Cell kind at value) = 0
words_said (Handler guid status) = 0
words_said (Poke lane word value) = 0
words_said (Fill lane bytes) = 0
words_said (Ring lane registers) = 0
words_said (Step lane) = 0
words_said (Steps lane count) = 0
words_said (Run lane) = 0

abbrev pub lane_count : List Line → ℕ
lane_count [] = 0
lane_count (line ∷ lines) = lanes_said line

abbrev pub word_count : List Line → ℕ
word_count [] = 0
word_count (line ∷ lines) = words_said line

-- the kind of a cell line's cell, and its place: a device byte counts from the window's begin
abbrev pub kind_of : CellKind → Kind
kind_of cells.Io = Io
kind_of cells.Msr = Msr
kind_of cells.Device = Memory

abbrev pub place_of : CellKind → ℕ → ℕ
place_of cells.Io at = at
place_of cells.Msr at = at
place_of cells.Device at = 0xfe000000 + at

-- whether a line is a handler's, and whether it rings
abbrev pub is_handler : Keyword → Bool
is_handler keyword.Lanes = false
is_handler keyword.Cell = false
is_handler keyword.Handler = true
is_handler keyword.Poke = false
is_handler keyword.Fill = false
is_handler keyword.Ring = false
is_handler keyword.Step = false
is_handler keyword.Run = false

abbrev pub is_ring : Keyword → Bool
is_ring keyword.Lanes = false
is_ring keyword.Cell = false
is_ring keyword.Handler = false
is_ring keyword.Poke = false
is_ring keyword.Fill = false
is_ring keyword.Ring = true
is_ring keyword.Step = false
is_ring keyword.Run = false

-- no register is named twice
abbrev pub are_distinct : List Named → Bool
are_distinct [] = true
are_distinct (named ∷ others) = list_all (λ other. not (other.register == named.register)) others && are_distinct others

-- Whether the numbers of a line are in range, behind these lines: 1 to 16 lanes of 3 to 512 data words; cells that the
-- platform has, with values that they may hold; at most 64 stubs; lanes and words that are there; at most as many bytes as a
-- lane has; saved registers 0 to 18, none named twice; at most 8,192 rings; 1 to 2,048 steps.
abbrev pub is_in_range : List Line → Line → Bool
is_in_range before (Lanes lanes words) = nat_le 1 lanes && nat_le lanes 16 && nat_le 3 words && nat_le words 512
is_in_range before (Cell kind at value) = may_hold (kind_of kind) (place_of kind at) value
is_in_range before (Handler guid status) = nat_lt (count_by (λ line. is_handler (keyword_of line)) before) 64
is_in_range before (Poke lane word value) = nat_lt lane (lane_count before) && nat_lt word (word_count before + 2)
is_in_range before (Fill lane bytes) = nat_lt lane (lane_count before) && nat_le 1 (length bytes) && nat_le (length bytes) (8 * word_count before)
is_in_range before (Ring lane registers) =
    nat_lt lane (lane_count before) && list_all (λ named. nat_lt named.register 19) registers && are_distinct registers
    && nat_lt (count_by (λ line. is_ring (keyword_of line)) before) 8192
is_in_range before (Step lane) = nat_lt lane (lane_count before)
is_in_range before (Steps lane count) = nat_lt lane (lane_count before) && nat_le 1 count && nat_le count 2048
is_in_range before (Run lane) = nat_lt lane (lane_count before)

-- A line is accepted behind these lines: the words spell it, it is of this text, may stand there, and is in range.
pub record IsAccepted (handlers : Bool) (before : List Line) (words : List (List ℕ)) (line : Line) : Type 0 where
  pub spelled : Spells line words
  pub of_text : is_of_text handlers (keyword_of line) ≡ true
  pub in_order : may_stand before (keyword_of line) ≡ true
  pub in_range : is_in_range before line ≡ true

-- A text, by its lines as they stand in it, says these lines: one for each line that is not passed, each accepted behind those
-- in front of it.
pub record Says (handlers : Bool) (text : List (List ℕ)) (lines : List Line) : Type 0 where
  pub count : length (said_in text) ≡ length lines
  pub each : (k : ℕ) (words : List (List ℕ)) (line : Line) → slice_get (said_in text) k ≡ Some words → slice_get lines k ≡ Some line → IsAccepted handlers (take k lines) words line

-- pokes of these values to the words of a lane from this one on, rising
abbrev pub pokes_from : ℕ → ℕ → List ℕ → List Event
pokes_from lane word [] = []
pokes_from lane word (value ∷ values) = event.Poke lane word value ∷ pokes_from lane (word + 1) values

-- the value that is named for a register, or 0
abbrev pub value_of : List Named → ℕ → ℕ
value_of [] register = 0
value_of (named ∷ others) register = if named.register == register then named.value else value_of others register

-- the saved registers that are named so; the unnamed ones are 0
abbrev pub saved_of : List Named → Saved
saved_of registers = record { 0 = map (value_of registers) (range_with_len 0 19) }

-- What a line makes happen. A fill pokes the data words that its bytes need, the last one filled with zeros, and then the number
-- of bytes into the length word; later data words keep what they had.
abbrev pub events_of : Line → List Event
events_of (Lanes lanes words) = []
events_of (Cell kind at value) = []
events_of (Handler guid status) = []
events_of (Poke lane word value) = event.Poke lane word value ∷ []
events_of (Fill lane bytes) = pokes_from lane 2 (words_of_bytes bytes) ++ event.Poke lane 0 (length bytes) ∷ []
events_of (Ring lane registers) = event.Ring lane (saved_of registers) ∷ []
events_of (Step lane) = event.Steps lane 1 ∷ []
events_of (Steps lane count) = event.Steps lane count ∷ []
events_of (Run lane) = event.Run lane ∷ []

-- the opening cell of a line, if it is one's
abbrev pub cells_of : Line → List CellWrite
cells_of (Lanes lanes words) = []
cells_of (Cell kind at value) = record { kind = kind_of kind; at = place_of kind at; n = 1; value = value } ∷ []
cells_of (Handler guid status) = []
cells_of (Poke lane word value) = []
cells_of (Fill lane bytes) = []
cells_of (Ring lane registers) = []
cells_of (Step lane) = []
cells_of (Steps lane count) = []
cells_of (Run lane) = []

-- the stub of a line, if it is one's
abbrev pub stubs_of : Line → List Registered
stubs_of (Lanes lanes words) = []
stubs_of (Cell kind at value) = []
stubs_of (Handler guid status) = record { number = 0; guid = guid; body = Stub status } ∷ []
stubs_of (Poke lane word value) = []
stubs_of (Fill lane bytes) = []
stubs_of (Ring lane registers) = []
stubs_of (Step lane) = []
stubs_of (Steps lane count) = []
stubs_of (Run lane) = []

-- what lines say as a whole: the stubs are numbered from 1 on
unfoldable pub script_of : List Line → Script
script_of lines = record {
  lanes = lane_count lines;
  words = word_count lines;
  opening = record { cells = flat_map cells_of lines };
  handlers = numbered 1 (flat_map stubs_of lines);
  events = flat_map events_of lines;
}

-- A text spells a script: it says at least one line, and the script is what its lines say.
pub record IsScript (handlers : Bool) (text : List ℕ) (script : Script) : Type 0 where
  pub lines : List Line
  pub says : Says handlers (lines_of text) lines
  pub some : lines ≢ []
  pub means : script ≡ script_of lines
