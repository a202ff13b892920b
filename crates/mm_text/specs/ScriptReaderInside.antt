-- No public clause cites this file.
-- How a text is read in one pass: what is kept of the lines so far, and what each further line makes of it.
use Rattle.std.specs.Prelude.{◌≡◌, ℕ, ◌+◌, ◌*◌, ◌≤◌, Bool, true, false, if◌then◌else◌, ◌&&◌, not, nat_lt, nat_le, List, [], ◌∷◌, ◌++◌, length, count_by}
use Rattle.std.specs.List.{flat_map, list_all}
use Rattle.mm_base.specs.Cells.{may_hold}
use Rattle.mm_base.specs.declared.end.End.{End}
use Rattle.mm_base.specs.declared.end.End.TheVariants as end
use Rattle.mm_base.specs.declared.handler.HandlerBody.TheVariants.{Stub}
use Rattle.mm_base.specs.declared.text.TextKind.{TextKind}
use Rattle.mm_base.specs.declared.text.TextKind.TheVariants.{Words, Number}
use Rattle.mm_core.specs.Scripted.{numbered}
use Rattle.comm_core.specs.declared.event.Event.{Event}
use Rattle.comm_core.specs.declared.script.Script.{Script}
use Rattle.mm_text.specs.Fields.{keyword_of}
use Rattle.mm_text.specs.Refusal.{IsRefused}
use Rattle.mm_text.specs.ScriptText.{is_passed, is_event, has_none, lane_count, word_count, kind_of, place_of, is_handler, is_ring, are_distinct, events_of, cells_of, stubs_of, Says, IsAccepted}
use Rattle.mm_text.specs.declared.line.Keyword.{Keyword}
use Rattle.mm_text.specs.declared.line.Keyword.TheVariants as keyword
use Rattle.mm_text.specs.declared.line.Line.{Line}
use Rattle.mm_text.specs.declared.line.Line.TheVariants.{Lanes, Cell, Handler, Poke, Fill, Ring, Step, Steps, Run}
use Rattle.mm_text.specs.declared.line.Named.{Named}
use Rattle.mm_text.specs.declared.line_end.LineEnd.{LineEnd}
use Rattle.mm_text.specs.declared.line_end.LineEnd.TheVariants as line_end
use Rattle.mm_text.specs.declared.script_builder.Phase.{Phase}
use Rattle.mm_text.specs.declared.script_builder.Phase.TheVariants.{Empty, Opening, Happening}
use Rattle.mm_text.specs.declared.script_builder.ScriptBuilder.{ScriptBuilder}
use Rattle.mm_text.specs.declared.script_reader.LineFault.{LineFault}
use Rattle.mm_text.specs.declared.script_reader.LineFault.TheVariants as fault
use Rattle.mm_text.specs.declared.text_end.TextFault.{TextFault}

-- how far lines have come: there is none, none says that something happens, or one does
abbrev pub phase_of : List Line → Phase
phase_of lines = if has_none lines then Empty else if list_all (λ line. not (is_event (keyword_of line))) lines then Opening else Happening

-- whether there is no line yet, and whether lines may still come that stand in front of all that happens
abbrev pub is_empty : Phase → Bool
is_empty Empty = true
is_empty Opening = false
is_empty Happening = false

abbrev pub is_opening : Phase → Bool
is_opening Empty = false
is_opening Opening = true
is_opening Happening = false

-- whether a line of this keyword may stand where the text has come so far
abbrev pub stands_in : Phase → Keyword → Bool
stands_in phase keyword.Lanes = is_empty phase
stands_in phase keyword.Cell = is_opening phase
stands_in phase keyword.Handler = is_opening phase
stands_in phase keyword.Poke = not (is_empty phase)
stands_in phase keyword.Fill = not (is_empty phase)
stands_in phase keyword.Ring = not (is_empty phase)
stands_in phase keyword.Step = not (is_empty phase)
stands_in phase keyword.Run = not (is_empty phase)

-- whether these registers are there, each named once
abbrev pub are_registers : List Named → Bool
are_registers registers = list_all (λ named. nat_lt named.register 19) registers && are_distinct registers

-- whether the numbers of a line are in range, by what is kept of the lines in front of it
abbrev pub accepts : ScriptBuilder → Line → Bool
accepts builder (Lanes lanes words) = nat_le 1 lanes && nat_le lanes 16 && nat_le 3 words && nat_le words 512
accepts builder (Cell kind at value) = may_hold (kind_of kind) (place_of kind at) value
accepts builder (Handler guid status) = nat_lt (length builder.handlers) 64
accepts builder (Poke lane word value) = nat_lt lane builder.lanes && nat_lt word (builder.words + 2)
accepts builder (Fill lane bytes) = nat_lt lane builder.lanes && nat_le 1 (length bytes) && nat_le (length bytes) (8 * builder.words)
accepts builder (Ring lane registers) = nat_lt lane builder.lanes && are_registers registers && nat_lt builder.rings 8192
accepts builder (Step lane) = nat_lt lane builder.lanes
accepts builder (Steps lane count) = nat_lt lane builder.lanes && nat_le 1 count && nat_le count 2048
accepts builder (Run lane) = nat_lt lane builder.lanes

-- what is kept where these events happen behind all
abbrev pub happened : ScriptBuilder → List Event → ScriptBuilder
happened builder events = record builder { phase = Happening; events = builder.events ++ events }

-- what is kept behind one more line
abbrev pub behind : ScriptBuilder → Line → ScriptBuilder
behind builder (Lanes lanes words) = record builder { phase = Opening; lanes = lanes; words = words }
behind builder (Cell kind at value) = record builder { cells = builder.cells ++ cells_of (Cell kind at value) }
behind builder (Handler guid status) = record builder { handlers = builder.handlers ++ record { number = length builder.handlers + 1; guid = guid; body = Stub status } ∷ [] }
behind builder (Poke lane word value) = happened builder (events_of (Poke lane word value))
behind builder (Fill lane bytes) = happened builder (events_of (Fill lane bytes))
behind builder (Ring lane registers) = record (happened builder (events_of (Ring lane registers))) { rings = builder.rings + 1 }
behind builder (Step lane) = happened builder (events_of (Step lane))
behind builder (Steps lane count) = happened builder (events_of (Steps lane count))
behind builder (Run lane) = happened builder (events_of (Run lane))

-- the script of what is kept
abbrev pub built : ScriptBuilder → Script
built builder = record { lanes = builder.lanes; words = builder.words; opening = record { cells = builder.cells }; handlers = builder.handlers; events = builder.events }

-- there are few enough lanes and words that sums of them fit
pub record IsSmall (builder : ScriptBuilder) : Type 0 where
  pub lanes : builder.lanes ≤ 16
  pub words : builder.words ≤ 512

-- what is kept of lines stands for them
pub record StandsFor (lines : List Line) (builder : ScriptBuilder) : Type 0 where
  pub phase : builder.phase ≡ phase_of lines
  pub lanes : builder.lanes ≡ lane_count lines
  pub words : builder.words ≡ word_count lines
  pub cells : builder.cells ≡ flat_map cells_of lines
  pub handlers : builder.handlers ≡ numbered 1 (flat_map stubs_of lines)
  pub count : length builder.handlers ≡ count_by (λ line. is_handler (keyword_of line)) lines
  pub rings : builder.rings ≡ count_by (λ line. is_ring (keyword_of line)) lines
  pub events : builder.events ≡ flat_map events_of lines

-- A line was read: it is passed and changes nothing, or it is accepted, and what is kept stands for one line more.
pub data GoesOn (handlers : Bool) (before : List Line) (words : List (List ℕ)) (builder : ScriptBuilder) : Type 0 where
  Passed : is_passed words ≡ true → StandsFor before builder → GoesOn handlers before words builder
  Accepted : is_passed words ≡ false → (line : Line) → IsAccepted handlers before words line → StandsFor (before ++ line ∷ []) builder → GoesOn handlers before words builder

-- a line is not passed, and refused for a kind
pub record IsFaulty (handlers : Bool) (before : List Line) (words : List (List ℕ)) (kind : TextKind) : Type 0 where
  pub said : is_passed words ≡ false
  pub refused : IsRefused handlers before words kind

-- what a refusal says of a line; out of memory says nothing
abbrev pub SaysRefused : Bool → List Line → List (List ℕ) → LineFault → Type 0
SaysRefused handlers before words (fault.Refused kind) = IsFaulty handlers before words kind
SaysRefused handlers before words (fault.NoMemory refused) = Unit {0}

-- the refusal of a line that was not read
abbrev pub fault_of : LineEnd → LineFault
fault_of line_end.Words = fault.Refused Words
fault_of line_end.Number = fault.Refused Number
fault_of (line_end.NoMemory refused) = fault.NoMemory refused

-- the end of a text at the refusal of this line
abbrev pub ended_at : ℕ → LineFault → End TextFault
ended_at line (fault.Refused kind) = end.Fault (record { line = line; kind = kind })
ended_at line (fault.NoMemory refused) = end.NoMemory refused

-- all lines of a text were read, and what is kept stands for what they say
pub record HasRead (handlers : Bool) (text : List (List ℕ)) (builder : ScriptBuilder) : Type 0 where
  pub lines : List Line
  pub says : Says handlers text lines
  pub stands : StandsFor lines builder
