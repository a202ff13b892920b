-- How a line of a text is taken in, by what its first word says.
use Rattle.std.proofs.Common.{◌≡◌, ℕ, ◌+◌, Bool, true, false, List, [], ◌∷◌, ◌++◌, take, Some, None, Result, Ok, Err, ◌⊎◌, inl, inr, refl, ap, sym, subst, ◌∙◌}
use Rattle.std.proofs.lemmas.Bool.{false≢true}
use Rattle.std.proofs.lemmas.Option.{none-some, same_Some}
use Rattle.std.specs.List.{slice_get}
use Rattle.std.specs.Result.{IfOk, IfErr}
use Rattle.mm_base.specs.End.{EndsBy, out_of_memory}
use Rattle.mm_base.specs.declared.end.End.{End}
use Rattle.mm_base.specs.declared.end.End.TheVariants as end
use Rattle.mm_base.specs.declared.text.TextKind.TheVariants.{Unknown, Order, Words, Number, Range, Missing}
use Rattle.mm_text.specs.Fields.{Spells, HasForm, keyword_of}
use Rattle.mm_text.specs.ScriptText.{lines_of, words_of, is_comment, is_passed, has_none, may_stand, Says, IsScript}
use Rattle.mm_text.specs.Refusal.{first_of, IsKeyword, IsFault, IsRefusedLine, Missed}
use Rattle.mm_text.specs.ScriptReaderInside.{is_empty, stands_in, accepts, behind, built, fault_of, ended_at, StandsFor, GoesOn, Passed, Accepted, IsFaulty, SaysRefused, HasRead}
use Rattle.mm_text.proofs.BuilderLemmas.{stands-may_stand, accepts-in_range, stands-behind, phase-empty, built-script}
use Rattle.mm_text.proofs.JudgeLemmas.{IsKnown, refused-unknown, refused-order, refused-words, refused-number, refused-range, accepted-line}
use Rattle.mm_text.proofs.SaysLemmas.{says-passed, says-more}
use Rattle.mm_text.proofs.TextLemmas.{missing-text, script-unique, never-both, fault-unique}
use Rattle.comm_core.specs.declared.script.Script.{Script}
use Rattle.mm_text.specs.declared.line.Keyword.{Keyword}
use Rattle.mm_text.specs.declared.line.Line.{Line}
use Rattle.mm_text.specs.declared.line_end.LineEnd.{LineEnd}
use Rattle.mm_text.specs.declared.line_end.LineEnd.TheVariants as line_end
use Rattle.mm_text.specs.declared.script_builder.ScriptBuilder.{ScriptBuilder}
use Rattle.mm_text.specs.declared.script_reader.LineFault.{LineFault}
use Rattle.mm_text.specs.declared.script_reader.LineFault.TheVariants as fault
use Rattle.mm_text.specs.declared.text_end.TextFault.{TextFault}

-- words begin with this word, which is no comment's
pub record Begins (words : List (List ℕ)) (word : List ℕ) : Type 0 where
  pub said : is_passed words ≡ false
  pub first : first_of words ≡ word

pub begins : (words : List (List ℕ)) (word : List ℕ) → Some word ≡ slice_get words 0 → is_comment word ≡ false → Begins words word
begins [] word there e = absurd (none-some word (sym there))
begins (first ∷ words) word there e =
    let same : word ≡ first = same_Some word first there in
    record { said = ap is_comment (sym same) ∙ e; first = sym same }

-- words without a first one, or with a comment's, are passed
pub passed-none : (words : List (List ℕ)) → None ≡ slice_get words 0 → is_passed words ≡ true
passed-none [] e = refl
passed-none (first ∷ words) e = absurd (none-some first e)

pub passed-comment : (words : List (List ℕ)) (word : List ℕ) → Some word ≡ slice_get words 0 → is_comment word ≡ true → is_passed words ≡ true
passed-comment [] word there e = absurd (none-some word (sym there))
passed-comment (first ∷ words) word there e = ap is_comment (sym (same_Some word first there)) ∙ e

pub faulty-unknown : (handlers : Bool) (words : List (List ℕ)) (word : List ℕ) → Some word ≡ slice_get words 0 → is_comment word ≡ false
    → ((keyword : Keyword) → IsKeyword handlers keyword word → ⊥) → (before : List Line) → IsFaulty handlers before words Unknown
faulty-unknown handlers words word there e none before =
    let b = begins words word there e in
    let P : List ℕ → Type 0 = λ w. (keyword : Keyword) → IsKeyword handlers keyword w → ⊥ in
    record { said = b.said; refused = refused-unknown handlers before words (subst P (sym b.first) none) }

keyword_at : (handlers : Bool) (words : List (List ℕ)) (word : List ℕ) (keyword : Keyword) → Begins words word → IsKeyword handlers keyword word
    → IsKeyword handlers keyword (first_of words)
keyword_at handlers words word keyword b k =
    let P : List ℕ → Type 0 = λ w. IsKeyword handlers keyword w in
    subst P (sym b.first) k

pub faulty-order : (handlers : Bool) (words : List (List ℕ)) (word : List ℕ) (keyword : Keyword) (builder : ScriptBuilder) → Some word ≡ slice_get words 0
    → is_comment word ≡ false → IsKeyword handlers keyword word → stands_in builder.phase keyword ≡ false
    → (before : List Line) → StandsFor before builder → IsFaulty handlers before words Order
faulty-order handlers words word keyword builder there e k refused before s =
    let b = begins words word there e in
    record {
      said = b.said;
      refused = refused-order handlers before words keyword (keyword_at handlers words word keyword b k) (sym (stands-may_stand before builder s keyword) ∙ refused);
    }

-- a line's first word is a keyword of the text, and such a line may stand where the text has come so far
pub record IsHeaded (handlers : Bool) (words : List (List ℕ)) (keyword : Keyword) (builder : ScriptBuilder) : Type 0 where
  pub word : List ℕ
  pub there : Some word ≡ slice_get words 0
  pub said : is_comment word ≡ false
  pub named : IsKeyword handlers keyword word
  pub stands : stands_in builder.phase keyword ≡ true

headed_said : (handlers : Bool) (words : List (List ℕ)) (keyword : Keyword) (builder : ScriptBuilder) → IsHeaded handlers words keyword builder → is_passed words ≡ false
headed_said handlers words keyword builder h = (begins words h.word h.there h.said).said

headed_known : (handlers : Bool) (words : List (List ℕ)) (keyword : Keyword) (builder : ScriptBuilder) → IsHeaded handlers words keyword builder
    → (before : List Line) → StandsFor before builder → IsKnown handlers before words keyword
headed_known handlers words keyword builder h before s =
    record {
      named = keyword_at handlers words h.word keyword (begins words h.word h.there h.said) h.named;
      in_order = sym (stands-may_stand before builder s keyword) ∙ h.stands;
    }

pub faulty-words : (handlers : Bool) (words also : List (List ℕ)) (keyword : Keyword) (builder : ScriptBuilder) → IsHeaded handlers words keyword builder → also ≡ words
    → ((line : Line) → HasForm line also → ⊥) → (before : List Line) → StandsFor before builder → IsFaulty handlers before words Words
faulty-words handlers words also keyword builder h same none before s =
    let P : List (List ℕ) → Type 0 = λ x. (line : Line) → HasForm line x → ⊥ in
    record {
      said = headed_said handlers words keyword builder h;
      refused = refused-words handlers before words keyword (headed_known handlers words keyword builder h before s) (subst P same none);
    }

pub faulty-number : (handlers : Bool) (words also : List (List ℕ)) (keyword : Keyword) (builder : ScriptBuilder) → IsHeaded handlers words keyword builder → also ≡ words
    → (form : (line : Line) × (keyword_of line ≡ keyword) × HasForm line also) → ((line : Line) → Spells line also → ⊥)
    → (before : List Line) → StandsFor before builder → IsFaulty handlers before words Number
faulty-number handlers words also keyword builder h same form none before s =
    let P : List (List ℕ) → Type 0 = λ x. (line : Line) → Spells line x → ⊥ in
    let Q : List (List ℕ) → Type 0 = λ x. HasForm form.0 x in
    record {
      said = headed_said handlers words keyword builder h;
      refused = refused-number handlers before words keyword (headed_known handlers words keyword builder h before s) form.0 form.1 (subst Q same form.2) (subst P same none);
    }

pub faulty-range : (handlers : Bool) (words also : List (List ℕ)) (keyword : Keyword) (builder : ScriptBuilder) → IsHeaded handlers words keyword builder → also ≡ words
    → (line : Line) → (keyword_of line ≡ keyword) × Spells line also → accepts builder line ≡ false
    → (before : List Line) → StandsFor before builder → IsFaulty handlers before words Range
faulty-range handlers words also keyword builder h same line spelled out before s =
    let P : List (List ℕ) → Type 0 = λ x. Spells line x in
    record {
      said = headed_said handlers words keyword builder h;
      refused =
          refused-range handlers before words keyword (headed_known handlers words keyword builder h before s) line spelled.0 (subst P same spelled.1)
          (sym (accepts-in_range before builder s line) ∙ out);
    }

pub goes-accepted : (handlers : Bool) (words also : List (List ℕ)) (keyword : Keyword) (builder next : ScriptBuilder) → IsHeaded handlers words keyword builder → also ≡ words
    → (line : Line) → (keyword_of line ≡ keyword) × Spells line also → accepts builder line ≡ true → next ≡ behind builder line
    → (before : List Line) → StandsFor before builder → GoesOn handlers before words next
goes-accepted handlers words also keyword builder next h same line spelled inside kept before s =
    let P : List (List ℕ) → Type 0 = λ x. Spells line x in
    let Q : ScriptBuilder → Type 0 = λ x. StandsFor (before ++ line ∷ []) x in
    let known = headed_known handlers words keyword builder h before s in
    let may : may_stand before (keyword_of line) ≡ true = ap (may_stand before) spelled.0 ∙ known.in_order in
    Accepted (headed_said handlers words keyword builder h) line
    (accepted-line handlers before words keyword known line spelled.0 (subst P same spelled.1) (sym (accepts-in_range before builder s line) ∙ inside))
    (subst Q (sym kept) (stands-behind before builder line s may))

-- a line that was not read is refused as its end says
pub faulty-end : (handlers : Bool) (words also : List (List ℕ)) (keyword : Keyword) (builder : ScriptBuilder) → IsHeaded handlers words keyword builder → also ≡ words
    → (end : LineEnd) → (end ≡ line_end.Words → (line : Line) → HasForm line also → ⊥)
    → (end ≡ line_end.Number → (line : Line) × (keyword_of line ≡ keyword) × HasForm line also) → (end ≡ line_end.Number → (line : Line) → Spells line also → ⊥)
    → (before : List Line) → StandsFor before builder → SaysRefused handlers before words (fault_of end)
faulty-end handlers words also keyword builder h same line_end.Words none form number before s = faulty-words handlers words also keyword builder h same (none refl) before s
faulty-end handlers words also keyword builder h same line_end.Number none form number before s =
    faulty-number handlers words also keyword builder h same (form refl) (number refl) before s
faulty-end handlers words also keyword builder h same (line_end.NoMemory refused) none form number before s = tt

read_by : (handlers : Bool) (front : List (List ℕ)) (line : List ℕ) (before : List Line) (next : ScriptBuilder) → Says handlers front before
    → GoesOn handlers before (words_of line) next → HasRead handlers (front ++ line ∷ []) next
read_by handlers front line before next s (Passed e stands) = record { lines = before; says = says-passed handlers front before line s e; stands = stands }
read_by handlers front line before next s (Accepted e said a stands) =
    record { lines = before ++ said ∷ []; says = says-more handlers front before line said s e a; stands = stands }

-- one line more was read
pub read-more : (handlers : Bool) (front : List (List ℕ)) (line : List ℕ) (builder next : ScriptBuilder) → HasRead handlers front builder
    → ((before : List Line) → StandsFor before builder → GoesOn handlers before (words_of line) next) → HasRead handlers (front ++ line ∷ []) next
read-more handlers front line builder next r go = read_by handlers front line r.lines next r.says (go r.lines r.stands)

stopped_by : (handlers : Bool) (text : List (List ℕ)) (n : ℕ) (line : List ℕ) (before : List Line) (fault : LineFault) → Says handlers (take n text) before
    → slice_get text n ≡ Some line → SaysRefused handlers before (words_of line) fault
    → EndsBy (IsRefusedLine handlers text) (ended_at (n + 1) fault)
stopped_by handlers text n line before (fault.Refused kind) s there r =
    record { n = n; at = refl; first = record { before = before; says = s; line = line; there = there; said = r.said; refused = r.refused } }
stopped_by handlers text n line before (fault.NoMemory refused) s there r = tt

-- a line is refused behind those that were read
pub stopped-at : (handlers : Bool) (text front : List (List ℕ)) (n : ℕ) (line : List ℕ) (builder : ScriptBuilder) (fault : LineFault) → HasRead handlers front builder
    → front ≡ take n text → slice_get text n ≡ Some line → ((before : List Line) → StandsFor before builder → SaysRefused handlers before (words_of line) fault)
    → EndsBy (IsRefusedLine handlers text) (ended_at (n + 1) fault)
stopped-at handlers text front n line builder fault r same there refused =
    let P : List (List ℕ) → Type 0 = λ lines. Says handlers lines r.lines in
    stopped_by handlers text n line r.lines fault (subst P same r.says) there (refused r.lines r.stands)

-- what was read says a script, where any line was
pub script-read : (handlers : Bool) (text : List ℕ) (builder : ScriptBuilder) (script : Script) → HasRead handlers (lines_of text) builder → is_empty builder.phase ≡ false
    → script ≡ built builder → IsScript handlers text script
script-read handlers text builder script r some same =
    let said : has_none r.lines ≡ false = sym (phase-empty r.lines) ∙ ap is_empty (sym r.stands.phase) ∙ some in
    record {
      lines = r.lines;
      says = r.says;
      some = λ none. false≢true (sym said ∙ ap has_none none);
      means = same ∙ built-script r.lines builder r.stands;
    }

none_at : (lines : List Line) → has_none lines ≡ true → lines ≡ []
none_at [] e = refl
none_at (line ∷ lines) e = absurd (false≢true e)

-- where no line was read that says anything, the text is missing
pub missing-read : (handlers : Bool) (text : List ℕ) (builder : ScriptBuilder) → HasRead handlers (lines_of text) builder → is_empty builder.phase ≡ true
    → IsFault handlers text (record { line = 1; kind = Missing })
missing-read handlers text builder r empty =
    let none : r.lines ≡ [] = none_at r.lines (sym (phase-empty r.lines) ∙ ap is_empty (sym r.stands.phase) ∙ empty) in
    let P : List Line → Type 0 = λ lines. Says handlers (lines_of text) lines in
    Missed (missing-text handlers (lines_of text) (subst P none r.says))

-- what is answered where a text spells a script, and where it has a fault
pub found-only : (handlers : Bool) (text : List ℕ) (result : Result Script (End TextFault))
    → IfOk result (IsScript handlers text) → IfErr result (EndsBy (IsFault handlers text))
    → (script : Script) → IsScript handlers text script → (result ≡ Ok script) ⊎ (result ≡ Err (end.NoMemory out_of_memory))
found-only handlers text (Ok other) ok err script s = inl (ap Ok (script-unique handlers text other script ok s))
found-only handlers text (Err (end.Fault fault)) ok err script s = absurd (never-both handlers text script fault s err)
found-only handlers text (Err (end.NoMemory refused)) ok err script s = inr refl

pub first-only : (handlers : Bool) (text : List ℕ) (result : Result Script (End TextFault))
    → IfOk result (IsScript handlers text) → IfErr result (EndsBy (IsFault handlers text))
    → (fault : TextFault) → IsFault handlers text fault → (result ≡ Err (end.Fault fault)) ⊎ (result ≡ Err (end.NoMemory out_of_memory))
first-only handlers text (Ok script) ok err fault f = absurd (never-both handlers text script fault ok f)
first-only handlers text (Err (end.Fault other)) ok err fault f = inl (ap (λ x. Err (end.Fault x)) (fault-unique handlers text other fault err f))
first-only handlers text (Err (end.NoMemory refused)) ok err fault f = inr refl
