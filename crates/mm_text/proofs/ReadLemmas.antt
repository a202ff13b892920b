-- What reading functions answer, in terms of what words say.
use Rattle.std.proofs.Common.{◌≡◌, ℕ, ◌-◌, ◌<◌, ◌≤◌, Bool, true, false, ◌==◌, List, [], ◌∷◌, length, get_or, drop, take, map, Option, Some, None, is_some, option_and_then, Result, Ok, Err, IfOk, refl, ap, sym, subst, ◌∙◌, arith}
use Rattle.std.proofs.lemmas.List.{length-map, take_all}
use Rattle.std.proofs.lemmas.Option.{none-some, same_Some}
use Rattle.std.proofs.lemmas.Result.{MatchResult-at_err}
use Rattle.std.specs.List.{list_all}
use Rattle.mm_text.specs.Fields.{letters_of, keyword_of, Spells, HasForm}
use Rattle.mm_text.specs.ScriptText.{is_of_text}
use Rattle.mm_text.specs.Refusal.{first_of, IsKeyword}
use Rattle.mm_text.specs.LineReaderInside.{cells_in, has_equals, keyword_of_word, lanes_in, cell_in, handler_in, poke_in, fill_in, ring_in, step_in, run_in, line_behind, line_in, is_cell_form, is_ring_form, is_step_form, form_behind, form_from, has_form, or_unreadable, judged, Gives}
use Rattle.mm_text.specs.declared.line.Keyword.{Keyword}
use Rattle.mm_text.specs.declared.line.Keyword.TheVariants as keyword
use Rattle.mm_text.specs.declared.line.Line.{Line}
use Rattle.mm_text.specs.declared.line_end.LineEnd.{LineEnd}
use Rattle.mm_text.specs.declared.line_end.LineEnd.TheVariants.{Words, Number}
use Rattle.mm_text.proofs.LineLemmas.{keyword_of_word-is, keyword_of_word-spelled, line_behind-is, line_in-spells, spells-line_in, form_behind-is, form-has_form}
use borrow.Author.Tests.{ne_eqb}

-- a word that spells a keyword of this text is one
pub keyword_found : (handlers : Bool) (which : Keyword) (word : List ℕ) → keyword_of_word word ≡ Some which → is_of_text handlers which ≡ true
    → IsKeyword handlers which word
keyword_found handlers which word e said = (said, sym (keyword_of_word-is which word e))

-- a word that spells none is none
pub keyword_none : (handlers : Bool) (word : List ℕ) → keyword_of_word word ≡ None → (which : Keyword) → IsKeyword handlers which word → ⊥
keyword_none handlers word e which is = none-some which (sym e ∙ keyword_of_word-spelled which word (sym is.1))

-- a word that spells a keyword of other texts is none
pub keyword_refused : (handlers : Bool) (which : Keyword) (word : List ℕ) → keyword_of_word word ≡ Some which → is_of_text handlers which ≡ false
    → (other : Keyword) → IsKeyword handlers other word → ⊥
keyword_refused handlers which word e refused other is =
    let same : which ≡ other = same_Some which other (sym e ∙ keyword_of_word-spelled other word (sym is.1)) in
    let no : true ≡ false = sym is.0 ∙ ap (is_of_text handlers) (sym same) ∙ refused in
    cc

-- words of a form are judged by what they say
pub judged_one : {A : Type 0} (now : A → List ℕ) (words : List A) (d : A) (form : List (List ℕ) → Bool) (said : List (List ℕ) → Option Line)
    → ((a : List ℕ) → form (a ∷ []) ≡ true) → 1 ≤ length words → length words < 2
    → or_unreadable (said (now (get_or words 0 d) ∷ [])) ≡ judged (form (map now words)) (said (map now words))
judged_one now [] d form said h low high = absurd (omega arith)
judged_one now (a ∷ []) d form said h low high = ap (λ f. judged f (said (now a ∷ []))) (sym (h (now a)))
judged_one now (a ∷ b ∷ more) d form said h low high = absurd (omega arith)

pub judged_two : {A : Type 0} (now : A → List ℕ) (words : List A) (d e : A) (form : List (List ℕ) → Bool) (said : List (List ℕ) → Option Line)
    → ((a b : List ℕ) → form (a ∷ b ∷ []) ≡ true) → 2 ≤ length words → length words < 3
    → or_unreadable (said (now (get_or words 0 d) ∷ now (get_or words 1 e) ∷ [])) ≡ judged (form (map now words)) (said (map now words))
judged_two now [] d e form said h low high = absurd (omega arith)
judged_two now (a ∷ []) d e form said h low high = absurd (omega arith)
judged_two now (a ∷ b ∷ []) d e form said h low high = ap (λ f. judged f (said (now a ∷ now b ∷ []))) (sym (h (now a) (now b)))
judged_two now (a ∷ b ∷ c ∷ more) d e form said h low high = absurd (omega arith)

pub judged_three : {A : Type 0} (now : A → List ℕ) (words : List A) (d e g : A) (form : List (List ℕ) → Bool) (said : List (List ℕ) → Option Line)
    → ((a b c : List ℕ) → form (a ∷ b ∷ c ∷ []) ≡ true) → 3 ≤ length words → length words < 4
    → or_unreadable (said (now (get_or words 0 d) ∷ now (get_or words 1 e) ∷ now (get_or words 2 g) ∷ [])) ≡ judged (form (map now words)) (said (map now words))
judged_three now [] d e g form said h low high = absurd (omega arith)
judged_three now (a ∷ []) d e g form said h low high = absurd (omega arith)
judged_three now (a ∷ b ∷ []) d e g form said h low high = absurd (omega arith)
judged_three now (a ∷ b ∷ c ∷ []) d e g form said h low high =
    ap (λ f. judged f (said (now a ∷ now b ∷ now c ∷ []))) (sym (h (now a) (now b) (now c)))
judged_three now (a ∷ b ∷ c ∷ x ∷ more) d e g form said h low high = absurd (omega arith)

-- the forms by their counts of words
pub lanes_form : (a b : List ℕ) → form_behind keyword.Lanes (a ∷ b ∷ []) ≡ true
unfolding form_behind
lanes_form a b = refl

pub handler_form : (a b : List ℕ) → form_behind keyword.Handler (a ∷ b ∷ []) ≡ true
unfolding form_behind
handler_form a b = refl

pub fill_form : (a b : List ℕ) → form_behind keyword.Fill (a ∷ b ∷ []) ≡ true
unfolding form_behind
fill_form a b = refl

pub poke_form : (a b c : List ℕ) → form_behind keyword.Poke (a ∷ b ∷ c ∷ []) ≡ true
unfolding form_behind
poke_form a b c = refl

pub step_form : (a : List ℕ) → form_behind keyword.Step (a ∷ []) ≡ true
unfolding form_behind is_step_form
step_form a = refl

pub steps_form : (a b : List ℕ) → form_behind keyword.Step (a ∷ b ∷ []) ≡ true
unfolding form_behind is_step_form
steps_form a b = refl

pub run_form : (a : List ℕ) → form_behind keyword.Run (a ∷ []) ≡ true
unfolding form_behind
run_form a = refl

-- a cell's words are judged by their kind
pub judged_cell : {A : Type 0} (now : A → List ℕ) (words : List A) (d e g : A) → 3 ≤ length words → length words < 4
    → judged (is_some (cells_in (now (get_or words 0 d)))) (cell_in (now (get_or words 0 d) ∷ now (get_or words 1 e) ∷ now (get_or words 2 g) ∷ []))
    ≡ judged (form_behind keyword.Cell (map now words)) (cell_in (map now words))
unfolding form_behind is_cell_form
judged_cell now [] d e g low high = absurd (omega arith)
judged_cell now (a ∷ []) d e g low high = absurd (omega arith)
judged_cell now (a ∷ b ∷ []) d e g low high = absurd (omega arith)
judged_cell now (a ∷ b ∷ c ∷ []) d e g low high = refl
judged_cell now (a ∷ b ∷ c ∷ x ∷ more) d e g low high = absurd (omega arith)

-- words of no form are refused
pub judged_refused : (form : Bool) (said : Option Line) → form ≡ false → Err Words ≡ judged form said
judged_refused form said e = ap (λ f. judged f said) (sym e)

other_count : {A : Type 0} (now : A → List ℕ) (words : List A) (n : ℕ) → (length words ≡ n → ⊥) → (length (map now words) == n) ≡ false
other_count now words n h = ne_eqb (length (map now words)) n (λ e. h (sym (length-map words now) ∙ e))

pub not_lanes : {A : Type 0} (now : A → List ℕ) (words : List A) → (length words ≡ 2 → ⊥) → form_behind keyword.Lanes (map now words) ≡ false
unfolding form_behind
not_lanes now words h = other_count now words 2 h

pub not_handler : {A : Type 0} (now : A → List ℕ) (words : List A) → (length words ≡ 2 → ⊥) → form_behind keyword.Handler (map now words) ≡ false
unfolding form_behind
not_handler now words h = other_count now words 2 h

pub not_fill : {A : Type 0} (now : A → List ℕ) (words : List A) → (length words ≡ 2 → ⊥) → form_behind keyword.Fill (map now words) ≡ false
unfolding form_behind
not_fill now words h = other_count now words 2 h

pub not_poke : {A : Type 0} (now : A → List ℕ) (words : List A) → (length words ≡ 3 → ⊥) → form_behind keyword.Poke (map now words) ≡ false
unfolding form_behind
not_poke now words h = other_count now words 3 h

pub not_run : {A : Type 0} (now : A → List ℕ) (words : List A) → (length words ≡ 1 → ⊥) → form_behind keyword.Run (map now words) ≡ false
unfolding form_behind
not_run now words h = other_count now words 1 h

pub not_cell : {A : Type 0} (now : A → List ℕ) (words : List A) → (length words ≡ 3 → ⊥) → form_behind keyword.Cell (map now words) ≡ false
unfolding form_behind is_cell_form
not_cell now [] h = refl
not_cell now (a ∷ []) h = refl
not_cell now (a ∷ b ∷ []) h = refl
not_cell now (a ∷ b ∷ c ∷ []) h = absurd (h refl)
not_cell now (a ∷ b ∷ c ∷ x ∷ more) h = refl

pub not_step : {A : Type 0} (now : A → List ℕ) (words : List A) → (length words ≡ 1 → ⊥) → (length words ≡ 2 → ⊥)
    → form_behind keyword.Step (map now words) ≡ false
unfolding form_behind is_step_form
not_step now [] h k = refl
not_step now (a ∷ []) h k = absurd (h refl)
not_step now (a ∷ b ∷ []) h k = absurd (k refl)
not_step now (a ∷ b ∷ c ∷ more) h k = refl

pub not_ring : {A : Type 0} (now : A → List ℕ) (words : List A) → length words < 1 → form_behind keyword.Ring (map now words) ≡ false
unfolding form_behind is_ring_form
not_ring now [] h = refl
not_ring now (a ∷ more) h = absurd (omega arith)

-- all words but the first
abbrev pub others : {A : Type 0} → List A → List A
others words = take (length words - 1) (drop 1 words)

others_are : {A : Type 0} (a : A) (more : List A) → others (a ∷ more) ≡ more
others_are a more = take_all (length (a ∷ more) - 1) more (omega arith)

-- a ring's words are judged by its pairs
pub judged_ring : {A : Type 0} (now : A → List ℕ) (words : List A) (d : A) → 1 ≤ length words
    → judged (list_all has_equals (map now (others words))) (ring_in (now (get_or words 0 d) ∷ map now (others words)))
    ≡ judged (form_behind keyword.Ring (map now words)) (ring_in (map now words))
unfolding form_behind is_ring_form
judged_ring now [] d low = absurd (omega arith)
judged_ring now (a ∷ more) d low =
    ap (λ w. judged (list_all has_equals (map now w)) (ring_in (now a ∷ map now w))) (others_are a more)

-- what is to be answered is an answer
unreadable_given : (said : Option Line) → Gives (or_unreadable said) (or_unreadable said)
unreadable_given None = refl
unreadable_given (Some line) = refl

judged_given : (form : Bool) (said : Option Line) → Gives (judged form said) (judged form said)
judged_given true said = unreadable_given said
judged_given false said = refl

gives_same : (form : Bool) (said : Option Line) (result : Result Line LineEnd) → result ≡ judged form said → Gives (judged form said) result
gives_same form said result e =
    let P : Result Line LineEnd → Type 0 = λ r. Gives (judged form said) r in
    subst P (sym e) (judged_given form said)

-- what is answered for each keyword is an answer for words behind it
pub given_lanes : (which : Keyword) (words : List (List ℕ)) (result : Result Line LineEnd) → which ≡ keyword.Lanes
    → result ≡ judged (form_behind keyword.Lanes words) (lanes_in words) → Gives (judged (form_behind which words) (line_behind which words)) result
unfolding line_behind
given_lanes which words result is e =
    let P : Keyword → Type 0 = λ k. Gives (judged (form_behind k words) (line_behind k words)) result in
    subst P (sym is) (gives_same (form_behind keyword.Lanes words) (lanes_in words) result e)

pub given_cell : (which : Keyword) (words : List (List ℕ)) (result : Result Line LineEnd) → which ≡ keyword.Cell
    → result ≡ judged (form_behind keyword.Cell words) (cell_in words) → Gives (judged (form_behind which words) (line_behind which words)) result
unfolding line_behind
given_cell which words result is e =
    let P : Keyword → Type 0 = λ k. Gives (judged (form_behind k words) (line_behind k words)) result in
    subst P (sym is) (gives_same (form_behind keyword.Cell words) (cell_in words) result e)

pub given_handler : (which : Keyword) (words : List (List ℕ)) (result : Result Line LineEnd) → which ≡ keyword.Handler
    → result ≡ judged (form_behind keyword.Handler words) (handler_in words) → Gives (judged (form_behind which words) (line_behind which words)) result
unfolding line_behind
given_handler which words result is e =
    let P : Keyword → Type 0 = λ k. Gives (judged (form_behind k words) (line_behind k words)) result in
    subst P (sym is) (gives_same (form_behind keyword.Handler words) (handler_in words) result e)

pub given_poke : (which : Keyword) (words : List (List ℕ)) (result : Result Line LineEnd) → which ≡ keyword.Poke
    → result ≡ judged (form_behind keyword.Poke words) (poke_in words) → Gives (judged (form_behind which words) (line_behind which words)) result
unfolding line_behind
given_poke which words result is e =
    let P : Keyword → Type 0 = λ k. Gives (judged (form_behind k words) (line_behind k words)) result in
    subst P (sym is) (gives_same (form_behind keyword.Poke words) (poke_in words) result e)

pub given_step : (which : Keyword) (words : List (List ℕ)) (result : Result Line LineEnd) → which ≡ keyword.Step
    → result ≡ judged (form_behind keyword.Step words) (step_in words) → Gives (judged (form_behind which words) (line_behind which words)) result
unfolding line_behind
given_step which words result is e =
    let P : Keyword → Type 0 = λ k. Gives (judged (form_behind k words) (line_behind k words)) result in
    subst P (sym is) (gives_same (form_behind keyword.Step words) (step_in words) result e)

pub given_run : (which : Keyword) (words : List (List ℕ)) (result : Result Line LineEnd) → which ≡ keyword.Run
    → result ≡ judged (form_behind keyword.Run words) (run_in words) → Gives (judged (form_behind which words) (line_behind which words)) result
unfolding line_behind
given_run which words result is e =
    let P : Keyword → Type 0 = λ k. Gives (judged (form_behind k words) (line_behind k words)) result in
    subst P (sym is) (gives_same (form_behind keyword.Run words) (run_in words) result e)

pub given_fill : (which : Keyword) (words : List (List ℕ)) (result : Result Line LineEnd) → which ≡ keyword.Fill
    → Gives (judged (form_behind keyword.Fill words) (fill_in words)) result → Gives (judged (form_behind which words) (line_behind which words)) result
unfolding line_behind
given_fill which words result is g =
    let P : Keyword → Type 0 = λ k. Gives (judged (form_behind k words) (line_behind k words)) result in subst P (sym is) g

pub given_ring : (which : Keyword) (words : List (List ℕ)) (result : Result Line LineEnd) → which ≡ keyword.Ring
    → Gives (judged (form_behind keyword.Ring words) (ring_in words)) result → Gives (judged (form_behind which words) (line_behind which words)) result
unfolding line_behind
given_ring which words result is g =
    let P : Keyword → Type 0 = λ k. Gives (judged (form_behind k words) (line_behind k words)) result in subst P (sym is) g

-- what is judged to be a line says it, and what is refused is refused for its cause
judged_ok : (form : Bool) (said : Option Line) (line : Line) → judged form said ≡ Ok line → said ≡ Some line
judged_ok false said line e = absurd (cc)
judged_ok true None line e = absurd (cc)
judged_ok true (Some other) line e = cc

judged_words : (form : Bool) (said : Option Line) → judged form said ≡ Err Words → form ≡ false
judged_words false said e = refl
judged_words true None e = absurd (cc)
judged_words true (Some other) e = absurd (cc)

judged_number : (form : Bool) (said : Option Line) → judged form said ≡ Err Number → (form ≡ true) × (said ≡ None)
judged_number false said e = absurd (cc)
judged_number true None e = (refl, refl)
judged_number true (Some other) e = absurd (cc)

-- words behind a keyword's letters
pub record IsBehind (which : Keyword) (behind words : List (List ℕ)) : Type 0 where
  pub whole : words ≡ letters_of which ∷ behind

front_split : {A : Type 0} (now : A → List ℕ) (words : List A) → 1 ≤ length words → map now words ≡ first_of (map now words) ∷ map now (others words)
front_split now [] low = absurd (omega arith)
front_split now (a ∷ more) low = ap (λ w. now a ∷ map now w) (sym (others_are a more))

pub is_behind : {A : Type 0} (now : A → List ℕ) (words : List A) (which : Keyword) → 1 ≤ length words → first_of (map now words) ≡ letters_of which
    → IsBehind which (map now (others words)) (map now words)
is_behind now words which low e = record { whole = front_split now words low ∙ ap (λ word. word ∷ map now (others words)) e }

-- there is a word where the first one is a keyword's letters
letters_some : (which : Keyword) → [] ≡ letters_of which → ⊥
letters_some keyword.Lanes e = cc
letters_some keyword.Cell e = cc
letters_some keyword.Handler e = cc
letters_some keyword.Poke e = cc
letters_some keyword.Fill e = cc
letters_some keyword.Ring e = cc
letters_some keyword.Step e = cc
letters_some keyword.Run e = cc

pub some_word : {A : Type 0} (now : A → List ℕ) (words : List A) (which : Keyword) → first_of (map now words) ≡ letters_of which → 1 ≤ length words
some_word now [] which e = absurd (letters_some which e)
some_word now (a ∷ more) which e = omega arith

line_in_front : (which : Keyword) (behind words : List (List ℕ)) → IsBehind which behind words → line_in words ≡ line_behind which behind
unfolding line_in
line_in_front which behind words h =
    ap line_in h.whole ∙ ap (option_and_then (λ k. line_behind k behind)) (keyword_of_word-spelled which (letters_of which) refl)

has_form_front : (which : Keyword) (behind words : List (List ℕ)) → IsBehind which behind words → has_form words ≡ form_behind which behind
unfolding has_form
has_form_front which behind words h =
    ap has_form h.whole ∙ ap (λ k. form_from k behind) (keyword_of_word-spelled which (letters_of which) refl)

spelled_front : (which : Keyword) (behind words : List (List ℕ)) (line : Line) → IsBehind which behind words → line_behind which behind ≡ Some line
    → (keyword_of line ≡ which) × Spells line words
spelled_front which behind words line h e =
    ((line_behind-is which behind line e).same, line_in-spells words line (line_in_front which behind words h ∙ e))

-- a line that is read is spelled
pub read_ok : (which : Keyword) (behind words : List (List ℕ)) (result : Result Line LineEnd) → IsBehind which behind words
    → Gives (judged (form_behind which behind) (line_behind which behind)) result
    → IfOk result (λ line. (keyword_of line ≡ which) × Spells line words)
read_ok which behind words (Ok line) h g =
    spelled_front which behind words line h (judged_ok (form_behind which behind) (line_behind which behind) line g)
read_ok which behind words (Err end) h g = tt

-- words that are refused for their form have no line's
pub read_words : (which : Keyword) (behind words : List (List ℕ)) (result : Result Line LineEnd) → IsBehind which behind words
    → Gives (judged (form_behind which behind) (line_behind which behind)) result → result ≡ Err Words → (line : Line) → HasForm line words → ⊥
read_words which behind words result h g e line s =
    let refused = judged_words (form_behind which behind) (line_behind which behind) (MatchResult-at_err _ _ Words e g) in
    let no : true ≡ false = sym (form-has_form line words s) ∙ has_form_front which behind words h ∙ refused in
    cc

-- words that are refused for a number have a line's form, and spell none
pub read_form : (which : Keyword) (behind words : List (List ℕ)) (result : Result Line LineEnd) → IsBehind which behind words
    → Gives (judged (form_behind which behind) (line_behind which behind)) result → result ≡ Err Number
    → (line : Line) × (keyword_of line ≡ which) × HasForm line words
read_form which behind words result h g e =
    let refused = judged_number (form_behind which behind) (line_behind which behind) (MatchResult-at_err _ _ Number e g) in
    let found = form_behind-is which behind refused.0 in
    (found.line, found.same, record { first = letters_of which; others = behind; whole = h.whole; one = ap letters_of (sym found.same); rest = found.form })

pub read_number : (which : Keyword) (behind words : List (List ℕ)) (result : Result Line LineEnd) → IsBehind which behind words
    → Gives (judged (form_behind which behind) (line_behind which behind)) result → result ≡ Err Number → (line : Line) → Spells line words → ⊥
read_number which behind words result h g e line s =
    let refused = judged_number (form_behind which behind) (line_behind which behind) (MatchResult-at_err _ _ Number e g) in
    none-some line (sym refused.1 ∙ sym (line_in_front which behind words h) ∙ spells-line_in line words s)

-- what is given for one answer is given for the same one
pub given_as : (one other : Result Line LineEnd) (result : Result Line LineEnd) → one ≡ other → Gives one result → Gives other result
given_as one other result e g = let P : Result Line LineEnd → Type 0 = λ r. Gives r result in subst P e g
