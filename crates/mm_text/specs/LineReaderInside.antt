-- No public clause cites this file.
-- The lines of a script again, as functions from their words to what they say, and what reading functions answer.
use Rattle.std.specs.Prelude.{◌≡◌, ℕ, Bool, true, false, ◌&&◌, ◌==◌, nat_le, if◌then◌else◌, List, [], ◌∷◌, length, codes, Option, Some, None, is_some, option_map, option_and_then, Result, Ok, Err, MatchResult}
use Rattle.std.specs.Char.{is_digit}
use Rattle.std.specs.List.{list_all}
use Rattle.std.specs.Result.{result_ok}
use Rattle.std.specs.Str.{bytes_eq}
use Rattle.std.specs.Str.Parse.{digits_value}
use Rattle.hex.specs.Hex.{decode_of}
use Rattle.mm_base.specs.Guid.{guid_from_text}
use Rattle.mm_base.specs.declared.guid.Guid.{Guid}
use Rattle.mm_text.specs.declared.line.CellKind.{CellKind}
use Rattle.mm_text.specs.declared.line.CellKind.TheVariants as cells
use Rattle.mm_text.specs.declared.line.Keyword.{Keyword}
use Rattle.mm_text.specs.declared.line.Keyword.TheVariants as keyword
use Rattle.mm_text.specs.declared.line.Line.{Line}
use Rattle.mm_text.specs.declared.line.Line.TheVariants.{Lanes, Cell, Handler, Poke, Fill, Ring, Step, Steps, Run}
use Rattle.mm_text.specs.declared.line.Named.{Named}
use Rattle.mm_text.specs.declared.line_end.LineEnd.{LineEnd}
use Rattle.mm_text.specs.declared.line_end.LineEnd.TheVariants.{Words, Number, NoMemory}

-- a second step, where the first gave something
infixl 10 ◌>>=◌
abbrev pub ◌>>=◌ : {A B : Type 0} → Option A → (A → Option B) → Option B
first >>= more = option_and_then more first

-- what stands in front of the first of this byte, and what stands behind it
abbrev pub split_at : ℕ → List ℕ → Option (List ℕ × List ℕ)
split_at stop [] = None
split_at stop (byte ∷ text) = if byte == stop then Some ([], text) else option_map (λ p. (byte ∷ p.0, p.1)) (split_at stop text)

-- whether a word is one digit in this base or more, and at most so many
abbrev pub is_number : ℕ → ℕ → List ℕ → Bool
is_number base most word = nat_le 1 (length word) && nat_le (length word) most && list_all (λ byte. is_digit byte base) word

-- a number of at most so many digits in this base
unfoldable pub digits_in : ℕ → ℕ → List ℕ → Option ℕ
digits_in base most word = if is_number base most word then Some (digits_value base word) else None

-- a decimal number of at most 10 digits
abbrev pub decimal_in : List ℕ → Option ℕ
decimal_in word = digits_in 10 10 word

-- a hexadecimal number of at most 16 digits
abbrev pub hexadecimal_in : List ℕ → Option ℕ
hexadecimal_in word = digits_in 16 16 word

-- the bytes of a word of hexadecimal digits
unfoldable pub bytes_in : List ℕ → Option (List ℕ)
bytes_in word = result_ok (decode_of word)

-- whom a stub is registered for: `root`, or a GUID
unfoldable pub owner_in : List ℕ → Option (Option Guid)
owner_in word = if bytes_eq word (codes "root") then Some None else option_map Some (guid_from_text word)

-- a kind of cells
unfoldable pub cells_in : List ℕ → Option CellKind
cells_in word =
    if bytes_eq word (codes "io") then Some cells.Io
    else if bytes_eq word (codes "msr") then Some cells.Msr
    else if bytes_eq word (codes "dev") then Some cells.Device
    else None

-- a register's number and its value, by their words
abbrev pub pair_by : List ℕ × List ℕ → Option Named
pair_by halves = do
  register ← decimal_in halves.0
  value ← hexadecimal_in halves.1
  Some (record { register = register; value = value })

-- a register's number and its value, with the first `=` between them
unfoldable pub pair_in : List ℕ → Option Named
pair_in word = split_at 61 word >>= pair_by

-- a pair for each word
abbrev pub pairs_in : List (List ℕ) → Option (List Named)
pairs_in [] = Some []
pairs_in (word ∷ words) = do
  first ← pair_in word
  others ← pairs_in words
  Some (first ∷ others)

-- whether a word has a `=`
unfoldable pub has_equals : List ℕ → Bool
has_equals word = is_some (split_at 61 word)

-- the keyword that a word spells
unfoldable pub keyword_of_word : List ℕ → Option Keyword
keyword_of_word word =
    if bytes_eq word (codes "lanes") then Some keyword.Lanes
    else if bytes_eq word (codes "cell") then Some keyword.Cell
    else if bytes_eq word (codes "handler") then Some keyword.Handler
    else if bytes_eq word (codes "poke") then Some keyword.Poke
    else if bytes_eq word (codes "fill") then Some keyword.Fill
    else if bytes_eq word (codes "ring") then Some keyword.Ring
    else if bytes_eq word (codes "step") then Some keyword.Step
    else if bytes_eq word (codes "run") then Some keyword.Run
    else None

-- what the words behind `lanes` say
unfoldable pub lanes_in : List (List ℕ) → Option Line
lanes_in (lanes ∷ words ∷ []) = do
  count ← decimal_in lanes
  data_words ← decimal_in words
  Some (Lanes count data_words)
lanes_in others = None

-- what the words behind `cell` say
unfoldable pub cell_in : List (List ℕ) → Option Line
cell_in (kind ∷ at ∷ value ∷ []) = do
  cell ← cells_in kind
  place ← hexadecimal_in at
  held ← hexadecimal_in value
  Some (Cell cell place held)
cell_in others = None

-- what the words behind `handler` say
unfoldable pub handler_in : List (List ℕ) → Option Line
handler_in (owner ∷ status ∷ []) = do
  guid ← owner_in owner
  answer ← hexadecimal_in status
  Some (Handler guid answer)
handler_in others = None

-- what the words behind `poke` say
unfoldable pub poke_in : List (List ℕ) → Option Line
poke_in (lane ∷ word ∷ value ∷ []) = do
  number ← decimal_in lane
  place ← decimal_in word
  held ← hexadecimal_in value
  Some (Poke number place held)
poke_in others = None

-- what the words behind `fill` say
unfoldable pub fill_in : List (List ℕ) → Option Line
fill_in (lane ∷ digits ∷ []) = do
  number ← decimal_in lane
  bytes ← bytes_in digits
  Some (Fill number bytes)
fill_in others = None

-- what the words behind `ring` say
unfoldable pub ring_in : List (List ℕ) → Option Line
ring_in [] = None
ring_in (lane ∷ pairs) = do
  number ← decimal_in lane
  registers ← pairs_in pairs
  Some (Ring number registers)

-- what the words behind `step` say
unfoldable pub step_in : List (List ℕ) → Option Line
step_in (lane ∷ []) = option_map Step (decimal_in lane)
step_in (lane ∷ count ∷ []) = do
  number ← decimal_in lane
  actions ← decimal_in count
  Some (Steps number actions)
step_in others = None

-- what the words behind `run` say
unfoldable pub run_in : List (List ℕ) → Option Line
run_in (lane ∷ []) = option_map Run (decimal_in lane)
run_in others = None

-- what the words behind a keyword say
unfoldable pub line_behind : Keyword → List (List ℕ) → Option Line
line_behind keyword.Lanes words = lanes_in words
line_behind keyword.Cell words = cell_in words
line_behind keyword.Handler words = handler_in words
line_behind keyword.Poke words = poke_in words
line_behind keyword.Fill words = fill_in words
line_behind keyword.Ring words = ring_in words
line_behind keyword.Step words = step_in words
line_behind keyword.Run words = run_in words

-- what the words of a line say
unfoldable pub line_in : List (List ℕ) → Option Line
line_in [] = None
line_in (word ∷ words) = keyword_of_word word >>= (λ keyword. line_behind keyword words)

-- whether the words behind `cell` have its form: three, the first one a kind of cells
unfoldable pub is_cell_form : List (List ℕ) → Bool
is_cell_form (kind ∷ at ∷ value ∷ []) = is_some (cells_in kind)
is_cell_form others = false

-- whether the words behind `ring` have its form: one, and then pairs
unfoldable pub is_ring_form : List (List ℕ) → Bool
is_ring_form [] = false
is_ring_form (lane ∷ pairs) = list_all has_equals pairs

-- whether the words behind `step` have its form: one or two
unfoldable pub is_step_form : List (List ℕ) → Bool
is_step_form (lane ∷ []) = true
is_step_form (lane ∷ count ∷ []) = true
is_step_form others = false

-- whether the words behind a keyword have the form of its line
unfoldable pub form_behind : Keyword → List (List ℕ) → Bool
form_behind keyword.Lanes words = length words == 2
form_behind keyword.Cell words = is_cell_form words
form_behind keyword.Handler words = length words == 2
form_behind keyword.Poke words = length words == 3
form_behind keyword.Fill words = length words == 2
form_behind keyword.Ring words = is_ring_form words
form_behind keyword.Step words = is_step_form words
form_behind keyword.Run words = length words == 1

-- whether the words behind a first word have the form of a line that begins with it
abbrev pub form_from : Option Keyword → List (List ℕ) → Bool
form_from None words = false
form_from (Some keyword) words = form_behind keyword words

-- whether the words of a line have a line's form
unfoldable pub has_form : List (List ℕ) → Bool
has_form [] = false
has_form (word ∷ words) = form_from (keyword_of_word word) words

-- what words say, or else that one of them can't be read
abbrev pub or_unreadable : {A : Type 0} → Option A → Result A LineEnd
or_unreadable None = Err Number
or_unreadable (Some said) = Ok said

-- the answer for words that have a line's form or not, and say this: the form is judged first
abbrev pub judged : Bool → Option Line → Result Line LineEnd
judged form said = if form then or_unreadable said else Err Words

-- an end is the one that is to be answered; out of memory says nothing
abbrev pub IsEnd : {A : Type 0} → Result A LineEnd → LineEnd → Type 0
IsEnd said Words = said ≡ Err Words
IsEnd said Number = said ≡ Err Number
IsEnd said (NoMemory refused) = Unit {0}

-- a reading function gives what is to be answered, or is out of memory
abbrev pub Gives : {A : Type 0} → Result A LineEnd → Result A LineEnd → Type 0
Gives said result = MatchResult result (λ value. said ≡ Ok value) (IsEnd said)
