-- The lines of a script, and the words that spell them. A line is a list of fields, and each field has its spellings: so
-- this says how lines are written, and reads none.
use Rattle.std.specs.Prelude.{◌≡◌, ℕ, ◌≤◌, List, [], ◌∷◌, ◌++◌, length, map, codes, Contains, Option, Some, None, Ok}
use Rattle.std.specs.Str.Parse.{AllDigits, digits_value}
use Rattle.hex.specs.Hex.{decode_of}
use Rattle.mm_base.specs.Guid.{guid_from_text}
use Rattle.mm_base.specs.declared.guid.Guid.{Guid}
use Rattle.mm_text.specs.declared.line.CellKind.{CellKind}
use Rattle.mm_text.specs.declared.line.CellKind.TheVariants as cells
use Rattle.mm_text.specs.declared.line.Keyword.{Keyword}
use Rattle.mm_text.specs.declared.line.Keyword.TheVariants as keyword
use Rattle.mm_text.specs.declared.line.Line.{Line}
use Rattle.mm_text.specs.declared.line.Line.TheVariants.{Lanes, Cell, Handler, Poke, Fill, Ring, Step, Steps, Run}
use Rattle.mm_text.specs.declared.line.Named.{Named}

-- what one word of a line says
pub data Field : Type 0 where
  Letters : (text : List ℕ) → Field
  Decimal : (number : ℕ) → Field
  Hexadecimal : (number : ℕ) → Field
  Bytes : (bytes : List ℕ) → Field
  Name : (guid : Guid) → Field
  Pair : (named : Named) → Field

-- a word of at least one digit in this base, and of at most so many, that spell this number; the first ones may be 0, and
-- hexadecimal digits have either case
pub record SpellsNumber (base most number : ℕ) (word : List ℕ) : Type 0 where
  pub digits : AllDigits base word
  pub low : 1 ≤ length word
  pub high : length word ≤ most
  pub value : number ≡ digits_value base word

-- a word of two parts, with `=` between them
pub record Halves (First Second : List ℕ → Type 0) (word : List ℕ) : Type 0 where
  pub first : List ℕ
  pub second : List ℕ
  pub whole : word ≡ first ++ 61 ∷ second
  pub one : First first
  pub other : Second second

-- The words of a field: letters as they are; a decimal number of 1 to 10 digits; a hexadecimal one of 1 to 16; an even count
-- of hexadecimal digits; a GUID in any form that the crate `uuid` reads; a register's number and its value, as R=V.
abbrev pub SpellsField : Field → List ℕ → Type 0
SpellsField (Letters text) word = word ≡ text
SpellsField (Decimal number) word = SpellsNumber 10 10 number word
SpellsField (Hexadecimal number) word = SpellsNumber 16 16 number word
SpellsField (Bytes bytes) word = decode_of word ≡ Ok bytes
SpellsField (Name guid) word = guid_from_text word ≡ Some guid
SpellsField (Pair named) word = Halves (SpellsNumber 10 10 named.register) (SpellsNumber 16 16 named.value) word

-- A word has the form of a field: letters are those letters, a pair has a `=`, and any other field may be any word.
abbrev pub HasFieldForm : Field → List ℕ → Type 0
HasFieldForm (Letters text) word = word ≡ text
HasFieldForm (Decimal number) word = Unit {0}
HasFieldForm (Hexadecimal number) word = Unit {0}
HasFieldForm (Bytes bytes) word = Unit {0}
HasFieldForm (Name guid) word = Unit {0}
HasFieldForm (Pair named) word = Contains word 61

-- words whose first one is so, and whose others are so
pub record Headed (First : List ℕ → Type 0) (Others : List (List ℕ) → Type 0) (words : List (List ℕ)) : Type 0 where
  pub first : List ℕ
  pub others : List (List ℕ)
  pub whole : words ≡ first ∷ others
  pub one : First first
  pub rest : Others others

-- words that are so, one for each field, in order
abbrev pub Each : (Field → List ℕ → Type 0) → List Field → List (List ℕ) → Type 0
Each Is [] words = words ≡ []
Each Is (field ∷ fields) words = Headed (Is field) (Each Is fields) words

-- how a keyword is written
abbrev pub letters_of : Keyword → List ℕ
letters_of keyword.Lanes = codes "lanes"
letters_of keyword.Cell = codes "cell"
letters_of keyword.Handler = codes "handler"
letters_of keyword.Poke = codes "poke"
letters_of keyword.Fill = codes "fill"
letters_of keyword.Ring = codes "ring"
letters_of keyword.Step = codes "step"
letters_of keyword.Run = codes "run"

-- the keyword of a line
abbrev pub keyword_of : Line → Keyword
keyword_of (Lanes lanes words) = keyword.Lanes
keyword_of (Cell kind at value) = keyword.Cell
keyword_of (Handler guid status) = keyword.Handler
keyword_of (Poke lane word value) = keyword.Poke
keyword_of (Fill lane bytes) = keyword.Fill
keyword_of (Ring lane registers) = keyword.Ring
keyword_of (Step lane) = keyword.Step
keyword_of (Steps lane count) = keyword.Step
keyword_of (Run lane) = keyword.Run

-- how a kind of cells is written
abbrev pub letters_of_cells : CellKind → List ℕ
letters_of_cells cells.Io = codes "io"
letters_of_cells cells.Msr = codes "msr"
letters_of_cells cells.Device = codes "dev"

-- whom a stub is registered for: a GUID, or the word `root`
abbrev pub owner_field : Option Guid → Field
owner_field None = Letters (codes "root")
owner_field (Some guid) = Name guid

-- the fields behind the keyword
abbrev pub fields_behind : Line → List Field
fields_behind (Lanes lanes words) = Decimal lanes ∷ Decimal words ∷ []
fields_behind (Cell kind at value) = Letters (letters_of_cells kind) ∷ Hexadecimal at ∷ Hexadecimal value ∷ []
fields_behind (Handler guid status) = owner_field guid ∷ Hexadecimal status ∷ []
fields_behind (Poke lane word value) = Decimal lane ∷ Decimal word ∷ Hexadecimal value ∷ []
fields_behind (Fill lane bytes) = Decimal lane ∷ Bytes bytes ∷ []
fields_behind (Ring lane registers) = Decimal lane ∷ map Pair registers
fields_behind (Step lane) = Decimal lane ∷ []
fields_behind (Steps lane count) = Decimal lane ∷ Decimal count ∷ []
fields_behind (Run lane) = Decimal lane ∷ []

-- all fields of a line
abbrev pub fields_of : Line → List Field
fields_of line = Letters (letters_of (keyword_of line)) ∷ fields_behind line

-- words that spell a line, and words that have a line's form
abbrev pub Spells : Line → List (List ℕ) → Type 0
Spells line words = Each SpellsField (fields_of line) words

abbrev pub HasForm : Line → List (List ℕ) → Type 0
HasForm line words = Each HasFieldForm (fields_of line) words
