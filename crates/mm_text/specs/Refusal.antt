-- The first line of a text that is refused, and why.
use Rattle.std.specs.Prelude.{◌≡◌, ℕ, ◌+◌, ◌<◌, Bool, true, false, List, [], ◌∷◌, take, Some, slice_get}
use Rattle.mm_base.specs.declared.text.TextKind.{TextKind}
use Rattle.mm_base.specs.declared.text.TextKind.TheVariants.{Unknown, Order, Words, Number, Range, Missing}
use Rattle.mm_text.specs.Fields.{Spells, HasForm, letters_of, keyword_of}
use Rattle.mm_text.specs.ScriptText.{lines_of, words_of, is_passed, said_in, is_of_text, may_stand, is_in_range, Says}
use Rattle.mm_text.specs.declared.line.Keyword.{Keyword}
use Rattle.mm_text.specs.declared.line.Line.{Line}
use Rattle.mm_text.specs.declared.text_end.TextFault.{TextFault}

-- the first word of a line
abbrev pub first_of : List (List ℕ) → List ℕ
first_of [] = []
first_of (word ∷ words) = word

-- The word is a keyword of this text.
abbrev pub IsKeyword : Bool → Keyword → List ℕ → Type 0
IsKeyword handlers keyword word = (is_of_text handlers keyword ≡ true) × (letters_of keyword ≡ word)

-- A kind fits a line of these words behind these lines:
-- * Unknown: its first word begins no line of this text;
-- * Order: no line that begins so may stand there;
-- * Words: the words have the form of no line of this text;
-- * Number: they spell no line of this text;
-- * Range: no line that they spell is in range.
abbrev pub Fits : Bool → List Line → List (List ℕ) → TextKind → Type 0
Fits handlers before words Unknown = (keyword : Keyword) → IsKeyword handlers keyword (first_of words) → ⊥
Fits handlers before words Order = (keyword : Keyword) → IsKeyword handlers keyword (first_of words) → may_stand before keyword ≡ false
Fits handlers before words Words = (line : Line) → is_of_text handlers (keyword_of line) ≡ true → HasForm line words → ⊥
Fits handlers before words Number = (line : Line) → is_of_text handlers (keyword_of line) ≡ true → Spells line words → ⊥
Fits handlers before words Range = (line : Line) → Spells line words → is_in_range before line ≡ false
Fits handlers before words Missing = ⊥

-- the order in which the kinds are judged
abbrev pub rank : TextKind → ℕ
rank Unknown = 0
rank Order = 1
rank Words = 2
rank Number = 3
rank Range = 4
rank Missing = 5

-- A line of these words is refused for a kind: the kind fits, and none that is judged in front of it does.
pub record IsRefused (handlers : Bool) (before : List Line) (words : List (List ℕ)) (kind : TextKind) : Type 0 where
  pub fits : Fits handlers before words kind
  pub first : (other : TextKind) → rank other < rank kind → Fits handlers before words other → ⊥

-- Line `n`, counted from 0, is the first that is refused: the lines in front of it say something, it is not passed, and it is
-- refused behind what they say.
pub record IsFirstRefused (handlers : Bool) (text : List (List ℕ)) (n : ℕ) (kind : TextKind) : Type 0 where
  pub before : List Line
  pub says : Says handlers (take n text) before
  pub line : List ℕ
  pub there : slice_get text n ≡ Some line
  pub said : is_passed (words_of line) ≡ false
  pub refused : IsRefused handlers before (words_of line) kind

-- A text has no line that says anything: that is a fault of its own, at line 1.
pub record IsMissing (text : List (List ℕ)) (fault : TextFault) : Type 0 where
  pub nothing : said_in text ≡ []
  pub at : fault.line ≡ 1
  pub kind_is : fault.kind ≡ Missing

-- a line is refused, with the number of the fault, which counts from 1
pub record IsRefusedLine (handlers : Bool) (text : List (List ℕ)) (fault : TextFault) : Type 0 where
  pub n : ℕ
  pub at : fault.line ≡ n + 1
  pub first : IsFirstRefused handlers text n fault.kind

-- The fault of a text.
pub data IsFault (handlers : Bool) (text : List ℕ) (fault : TextFault) : Type 0 where
  Missed : IsMissing (lines_of text) fault → IsFault handlers text fault
  RefusedLine : IsRefusedLine handlers (lines_of text) fault → IsFault handlers text fault
