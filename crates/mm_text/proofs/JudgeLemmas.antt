-- How a line is judged: each is accepted as one line, or refused for one kind, and not both.
use Rattle.std.proofs.Common.{◌≡◌, ℕ, ◌<◌, Bool, true, false, if◌then◌else◌, ◌==◌, inl, inr, ◌⊎◌, List, Option, Some, None, refl, ap, sym, ◌∙◌, arith}
use Rattle.std.proofs.lemmas.Bool.{cases_order, false≢true}
use Rattle.std.proofs.lemmas.Option.{none-some}
use Rattle.mm_base.specs.declared.text.TextKind.{TextKind}
use Rattle.mm_base.specs.declared.text.TextKind.TheVariants.{Unknown, Order, Words, Number, Range, Missing}
use Rattle.mm_text.specs.Fields.{Spells, HasForm, letters_of, keyword_of}
use Rattle.mm_text.specs.ScriptText.{is_of_text, may_stand, is_in_range, IsAccepted}
use Rattle.mm_text.specs.Refusal.{first_of, IsKeyword, Fits, rank, IsRefused}
use Rattle.mm_text.specs.LineReaderInside.{line_in, has_form, keyword_of_word}
use Rattle.mm_text.proofs.LineLemmas.{spells_unique, spells_form, keyword_unique, spells_keyword, form_keyword, line_in-spells, spells-line_in, has_form-true, form-has_form, keyword_of_word-is, keyword_of_word-spelled}
use Rattle.mm_text.specs.declared.line.Keyword.{Keyword}
use Rattle.mm_text.specs.declared.line.Line.{Line}

-- the first word of a line is a keyword of the text, and such a line may stand there
pub record IsKnown (handlers : Bool) (before : List Line) (words : List (List ℕ)) (keyword : Keyword) : Type 0 where
  pub named : IsKeyword handlers keyword (first_of words)
  pub in_order : may_stand before keyword ≡ true

keyword_same : (handlers : Bool) (a b : Keyword) (word : List ℕ) → IsKeyword handlers a word → IsKeyword handlers b word → a ≡ b
keyword_same handlers a b word p q = keyword_unique a b (p.1 ∙ sym q.1)

-- words that are accepted as lines spell one
pub accepted-unique : (handlers : Bool) (before : List Line) (words : List (List ℕ)) (a b : Line) → IsAccepted handlers before words a
    → IsAccepted handlers before words b → a ≡ b
accepted-unique handlers before words a b p q = spells_unique a b words p.spelled q.spelled

-- no kind fits a line that is accepted
pub accepted-fits : (handlers : Bool) (before : List Line) (words : List (List ℕ)) (line : Line) → IsAccepted handlers before words line
    → (kind : TextKind) → Fits handlers before words kind → ⊥
accepted-fits handlers before words line a Unknown f = f (keyword_of line) (a.of_text, sym (spells_keyword line words a.spelled))
accepted-fits handlers before words line a Order f =
    false≢true (sym (f (keyword_of line) (a.of_text, sym (spells_keyword line words a.spelled))) ∙ a.in_order)
accepted-fits handlers before words line a Words f = f line a.of_text (spells_form line words a.spelled)
accepted-fits handlers before words line a Number f = f line a.of_text a.spelled
accepted-fits handlers before words line a Range f = false≢true (sym (f line a.spelled) ∙ a.in_range)
accepted-fits handlers before words line a Missing f = f

kind_at : ℕ → TextKind
kind_at n = if n == 0 then Unknown else if n == 1 then Order else if n == 2 then Words else if n == 3 then Number else if n == 4 then Range else Missing

kind_at-rank : (kind : TextKind) → kind_at (rank kind) ≡ kind
unfolding kind_at
kind_at-rank Unknown = refl
kind_at-rank Order = refl
kind_at-rank Words = refl
kind_at-rank Number = refl
kind_at-rank Range = refl
kind_at-rank Missing = refl

-- a line is refused for one kind
pub refused-unique : (handlers : Bool) (before : List Line) (words : List (List ℕ)) (a b : TextKind) → IsRefused handlers before words a
    → IsRefused handlers before words b → a ≡ b
refused-unique handlers before words a b p q =
    elim (cases_order (rank a) (rank b)) as (λ _. a ≡ b) [
      | inl e ↦ sym (kind_at-rank a) ∙ ap kind_at e ∙ kind_at-rank b
      | inr (inl less) ↦ absurd (q.first a less p.fits)
      | inr (inr less) ↦ absurd (p.first b less q.fits)
    ]

-- the kinds, each with what shows it
pub refused-unknown : (handlers : Bool) (before : List Line) (words : List (List ℕ)) → ((keyword : Keyword) → IsKeyword handlers keyword (first_of words) → ⊥)
    → IsRefused handlers before words Unknown
refused-unknown handlers before words f = record { fits = f; first = λ other less fits. absurd (omega arith) }

order-first : (handlers : Bool) (before : List Line) (words : List (List ℕ)) (keyword : Keyword) → IsKeyword handlers keyword (first_of words)
    → (other : TextKind) → rank other < 1 → Fits handlers before words other → ⊥
order-first handlers before words keyword k Unknown less f = f keyword k
order-first handlers before words keyword k Order less f = omega arith
order-first handlers before words keyword k Words less f = omega arith
order-first handlers before words keyword k Number less f = omega arith
order-first handlers before words keyword k Range less f = omega arith
order-first handlers before words keyword k Missing less f = omega arith

pub refused-order : (handlers : Bool) (before : List Line) (words : List (List ℕ)) (keyword : Keyword) → IsKeyword handlers keyword (first_of words)
    → may_stand before keyword ≡ false → IsRefused handlers before words Order
refused-order handlers before words keyword k e = record {
  fits = λ other is. ap (may_stand before) (keyword_same handlers other keyword (first_of words) is k) ∙ e;
  first = order-first handlers before words keyword k;
}

words-first : (handlers : Bool) (before : List Line) (words : List (List ℕ)) (keyword : Keyword) → IsKnown handlers before words keyword
    → (other : TextKind) → rank other < 2 → Fits handlers before words other → ⊥
words-first handlers before words keyword k Unknown less f = f keyword k.named
words-first handlers before words keyword k Order less f = false≢true (sym (f keyword k.named) ∙ k.in_order)
words-first handlers before words keyword k Words less f = omega arith
words-first handlers before words keyword k Number less f = omega arith
words-first handlers before words keyword k Range less f = omega arith
words-first handlers before words keyword k Missing less f = omega arith

pub refused-words : (handlers : Bool) (before : List Line) (words : List (List ℕ)) (keyword : Keyword) → IsKnown handlers before words keyword
    → ((line : Line) → HasForm line words → ⊥) → IsRefused handlers before words Words
refused-words handlers before words keyword k none = record {
  fits = λ line of_text form. none line form;
  first = words-first handlers before words keyword k;
}

-- a line of a keyword of the text is one of the text
of_text : (handlers : Bool) (keyword : Keyword) (word : List ℕ) (line : Line) → IsKeyword handlers keyword word → keyword_of line ≡ keyword
    → is_of_text handlers (keyword_of line) ≡ true
of_text handlers keyword word line k same = ap (is_of_text handlers) same ∙ k.0

number-first : (handlers : Bool) (before : List Line) (words : List (List ℕ)) (keyword : Keyword) → IsKnown handlers before words keyword
    → (line : Line) → keyword_of line ≡ keyword → HasForm line words → (other : TextKind) → rank other < 3 → Fits handlers before words other → ⊥
number-first handlers before words keyword k line same form Unknown less f = f keyword k.named
number-first handlers before words keyword k line same form Order less f = false≢true (sym (f keyword k.named) ∙ k.in_order)
number-first handlers before words keyword k line same form Words less f = f line (of_text handlers keyword (first_of words) line k.named same) form
number-first handlers before words keyword k line same form Number less f = omega arith
number-first handlers before words keyword k line same form Range less f = omega arith
number-first handlers before words keyword k line same form Missing less f = omega arith

pub refused-number : (handlers : Bool) (before : List Line) (words : List (List ℕ)) (keyword : Keyword) → IsKnown handlers before words keyword
    → (line : Line) → keyword_of line ≡ keyword → HasForm line words → ((other : Line) → Spells other words → ⊥) → IsRefused handlers before words Number
refused-number handlers before words keyword k line same form none = record {
  fits = λ other of_it spelled. none other spelled;
  first = number-first handlers before words keyword k line same form;
}

range-first : (handlers : Bool) (before : List Line) (words : List (List ℕ)) (keyword : Keyword) → IsKnown handlers before words keyword
    → (line : Line) → keyword_of line ≡ keyword → Spells line words → (other : TextKind) → rank other < 4 → Fits handlers before words other → ⊥
range-first handlers before words keyword k line same spelled Unknown less f = f keyword k.named
range-first handlers before words keyword k line same spelled Order less f = false≢true (sym (f keyword k.named) ∙ k.in_order)
range-first handlers before words keyword k line same spelled Words less f = f line (of_text handlers keyword (first_of words) line k.named same) (spells_form line words spelled)
range-first handlers before words keyword k line same spelled Number less f = f line (of_text handlers keyword (first_of words) line k.named same) spelled
range-first handlers before words keyword k line same spelled Range less f = omega arith
range-first handlers before words keyword k line same spelled Missing less f = omega arith

pub refused-range : (handlers : Bool) (before : List Line) (words : List (List ℕ)) (keyword : Keyword) → IsKnown handlers before words keyword
    → (line : Line) → keyword_of line ≡ keyword → Spells line words → is_in_range before line ≡ false → IsRefused handlers before words Range
refused-range handlers before words keyword k line same spelled out = record {
  fits = λ other also. ap (is_in_range before) (spells_unique other line words also spelled) ∙ out;
  first = range-first handlers before words keyword k line same spelled;
}

-- what shows that a line is accepted
pub accepted-line : (handlers : Bool) (before : List Line) (words : List (List ℕ)) (keyword : Keyword) → IsKnown handlers before words keyword
    → (line : Line) → keyword_of line ≡ keyword → Spells line words → is_in_range before line ≡ true → IsAccepted handlers before words line
accepted-line handlers before words keyword k line same spelled inside = record {
  spelled = spelled;
  of_text = of_text handlers keyword (first_of words) line k.named same;
  in_order = ap (may_stand before) same ∙ k.in_order;
  in_range = inside;
}

-- a line of words is accepted as one line, or refused for one kind
abbrev pub Judged : Bool → List Line → List (List ℕ) → Type 0
Judged handlers before words = ((line : Line) × IsAccepted handlers before words line) ⊎ ((kind : TextKind) × IsRefused handlers before words kind)

judged_range : (handlers : Bool) (before : List Line) (words : List (List ℕ)) (keyword : Keyword) → IsKnown handlers before words keyword
    → (line : Line) → keyword_of line ≡ keyword → Spells line words → (inside : Bool) → is_in_range before line ≡ inside → Judged handlers before words
judged_range handlers before words keyword k line same spelled true e = inl (line, accepted-line handlers before words keyword k line same spelled e)
judged_range handlers before words keyword k line same spelled false e = inr (Range, refused-range handlers before words keyword k line same spelled e)

-- the keyword of a line that words have the form of
form_named : (handlers : Bool) (before : List Line) (words : List (List ℕ)) (keyword : Keyword) → IsKnown handlers before words keyword
    → (line : Line) → HasForm line words → keyword_of line ≡ keyword
form_named handlers before words keyword k line form = keyword_unique (keyword_of line) keyword (sym (form_keyword line words form) ∙ sym k.named.1)

judged_number : (handlers : Bool) (before : List Line) (words : List (List ℕ)) (keyword : Keyword) → IsKnown handlers before words keyword
    → (form : Line) → HasForm form words → (found : Option Line) → line_in words ≡ found → Judged handlers before words
judged_number handlers before words keyword k form has None e =
    inr (
      Number,
      refused-number handlers before words keyword k form (form_named handlers before words keyword k form has) has
          (λ other spelled. none-some other (sym e ∙ spells-line_in other words spelled)),
    )
judged_number handlers before words keyword k form has (Some line) e =
    let spelled = line_in-spells words line e in
    judged_range handlers before words keyword k line (form_named handlers before words keyword k line (spells_form line words spelled)) spelled (is_in_range before line) refl

judged_words : (handlers : Bool) (before : List Line) (words : List (List ℕ)) (keyword : Keyword) → IsKnown handlers before words keyword
    → (found : Bool) → has_form words ≡ found → Judged handlers before words
judged_words handlers before words keyword k true e =
    let form = has_form-true words e in judged_number handlers before words keyword k form.0 form.1 (line_in words) refl
judged_words handlers before words keyword k false e =
    inr (Words, refused-words handlers before words keyword k (λ line form. false≢true (sym e ∙ form-has_form line words form)))

judged_order : (handlers : Bool) (before : List Line) (words : List (List ℕ)) (keyword : Keyword) → IsKeyword handlers keyword (first_of words)
    → (stands : Bool) → may_stand before keyword ≡ stands → Judged handlers before words
judged_order handlers before words keyword k true e = judged_words handlers before words keyword (record { named = k; in_order = e }) (has_form words) refl
judged_order handlers before words keyword k false e = inr (Order, refused-order handlers before words keyword k e)

judged_of_text : (handlers : Bool) (before : List Line) (words : List (List ℕ)) (keyword : Keyword) → letters_of keyword ≡ first_of words
    → (known : Bool) → is_of_text handlers keyword ≡ known → Judged handlers before words
judged_of_text handlers before words keyword k true e = judged_order handlers before words keyword (e, k) (may_stand before keyword) refl
judged_of_text handlers before words keyword k false e =
    inr (
      Unknown,
      refused-unknown handlers before words
          (λ other is. false≢true (sym e ∙ ap (is_of_text handlers) (keyword_unique keyword other (k ∙ sym is.1)) ∙ is.0)),
    )

judged_keyword : (handlers : Bool) (before : List Line) (words : List (List ℕ)) (found : Option Keyword) → keyword_of_word (first_of words) ≡ found
    → Judged handlers before words
judged_keyword handlers before words None e =
    inr (Unknown, refused-unknown handlers before words (λ other is. none-some other (sym e ∙ keyword_of_word-spelled other (first_of words) (sym is.1))))
judged_keyword handlers before words (Some keyword) e =
    judged_of_text handlers before words keyword (sym (keyword_of_word-is keyword (first_of words) e)) (is_of_text handlers keyword) refl

pub judged : (handlers : Bool) (before : List Line) (words : List (List ℕ)) → Judged handlers before words
judged handlers before words = judged_keyword handlers before words (keyword_of_word (first_of words)) refl
