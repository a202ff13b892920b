-- Texts as a whole: each spells one script or has one fault, and not both.
use Rattle.std.proofs.Common.{◌≡◌, ℕ, zero, suc, ◌+◌, ◌<◌, ◌≤◌, Bool, true, false, inl, inr, ◌⊎◌, List, [], ◌∷◌, ◌++◌, length, take, drop, Some, refl, ap, sym, subst, ◌∙◌, append_assoc, arith}
use Rattle.std.proofs.lemmas.Bool.{cases_order}
use Rattle.std.proofs.lemmas.List.{append-nil, take_at, take_all, take-take, length-append, nil_from_length}
use Rattle.std.proofs.lemmas.Option.{same_Some}
use Rattle.std.specs.List.{slice_get}
use Rattle.mm_base.specs.declared.text.TextKind.{TextKind}
use Rattle.mm_base.specs.declared.text.TextKind.TheVariants.{Missing}
use Rattle.mm_text.specs.ScriptText.{lines_of, words_of, is_passed, said_in, Says, IsAccepted, IsScript, script_of}
use Rattle.mm_text.specs.Refusal.{IsRefused, IsFirstRefused, IsMissing, IsRefusedLine, IsFault, Missed, RefusedLine}
use Rattle.mm_text.proofs.SaysLemmas.{SaysWords, IsNext, says-words, says-none, says-passed, says-more, says-front, says-next, said_in-append, said_in-said, split-some, get-seam, some-at, take-some, get-take}
use Rattle.mm_text.proofs.JudgeLemmas.{Judged, judged, accepted-unique, accepted-fits, refused-unique}
use Rattle.mm_text.specs.declared.line.Line.{Line}
use Rattle.mm_text.specs.declared.text_end.TextFault.{TextFault}
use Rattle.comm_core.specs.declared.script.Script.{Script}

unique_at : (handlers : Bool) (said : List (List (List ℕ))) (a b : List Line) → SaysWords handlers said a → SaysWords handlers said b
    → (k : ℕ) → k ≤ length said → take k a ≡ take k b
unique_at handlers said a b p q zero h = refl
unique_at handlers said a b p q (suc k) h =
    let ones : length said ≡ length a = p.count in
    let others : length said ≡ length b = q.count in
    let same : take k a ≡ take k b = unique_at handlers said a b p q k (omega arith) in
    let w = some-at said k (omega arith) in
    let x = some-at a k (omega arith) in
    let y = some-at b k (omega arith) in
    let P : List Line → Type 0 = λ front. IsAccepted handlers front w.0 y.0 in
    let line : x.0 ≡ y.0 =
    accepted-unique handlers (take k a) w.0 x.0 y.0 (p.each k w.0 x.0 w.1 x.1) (subst P (sym same) (q.each k w.0 y.0 w.1 y.1)) in
    take-some a k x.0 x.1 ∙ ap (λ front. front ++ x.0 ∷ []) same ∙ ap (λ z. take k b ++ z ∷ []) line ∙ sym (take-some b k y.0 y.1)

-- words say one list of lines
words-unique : (handlers : Bool) (said : List (List (List ℕ))) (a b : List Line) → SaysWords handlers said a → SaysWords handlers said b → a ≡ b
words-unique handlers said a b p q =
    let n : ℕ = length said in
    let ones : length said ≡ length a = p.count in
    let others : length said ≡ length b = q.count in
    sym (take_all n a (omega arith)) ∙ unique_at handlers said a b p q n (omega arith) ∙ take_all n b (omega arith)

-- a text says one list of lines
pub says-unique : (handlers : Bool) (text : List (List ℕ)) (a b : List Line) → Says handlers text a → Says handlers text b → a ≡ b
says-unique handlers text a b p q = words-unique handlers (said_in text) a b (says-words handlers text a p) (says-words handlers text b q)

-- a text spells one script
pub script-unique : (handlers : Bool) (text : List ℕ) (one other : Script) → IsScript handlers text one → IsScript handlers text other → one ≡ other
script-unique handlers text one other p q =
    p.means ∙ ap script_of (says-unique handlers (lines_of text) p.lines q.lines p.says q.says) ∙ sym q.means

-- what a text says at a line that isn't passed
said-at : (text : List (List ℕ)) (n : ℕ) (line : List ℕ) → slice_get text n ≡ Some line → is_passed (words_of line) ≡ false
    → said_in text ≡ said_in (take n text) ++ words_of line ∷ said_in (drop (suc n) text)
said-at text n line there said =
    ap said_in (split-some text n line there) ∙ said_in-append (take n text) (line ∷ drop (suc n) text)
    ∙ ap (λ x. said_in (take n text) ++ x) (said_in-said line (drop (suc n) text) said)

-- a text that says lines has no line that is refused
pub says-refused : (handlers : Bool) (text : List (List ℕ)) (lines : List Line) (n : ℕ) (kind : TextKind) → Says handlers text lines
    → IsFirstRefused handlers text n kind → ⊥
says-refused handlers text lines n kind s r =
    let front : List (List (List ℕ)) = said_in (take n text) in
    let P : List (List (List ℕ)) → Type 0 = λ said. SaysWords handlers said lines in
    let whole : SaysWords handlers (front ++ words_of r.line ∷ said_in (drop (suc n) text)) lines = subst P (said-at text n r.line r.there r.said) (says-words handlers text lines s) in
    let begin : SaysWords handlers front (take (length front) lines) = says-front handlers front (words_of r.line ∷ said_in (drop (suc n) text)) lines whole in
    let same : take (length front) lines ≡ r.before = words-unique handlers front (take (length front) lines) r.before begin (says-words handlers (take n text) r.before r.says) in
    let next : IsNext handlers (take (length front) lines) (words_of r.line) = says-next handlers front (said_in (drop (suc n) text)) (words_of r.line) lines whole in
    let Q : List Line → Type 0 = λ before. IsAccepted handlers before (words_of r.line) next.line in
    accepted-fits handlers r.before (words_of r.line) next.line (subst Q same next.accepted) kind r.refused.fits

nothing_said : (handlers : Bool) (text : List (List ℕ)) (lines : List Line) → Says handlers text lines → said_in text ≡ [] → lines ≡ []
nothing_said handlers text lines s nothing =
    let count : length (said_in text) ≡ length lines = s.count in
    let none : length (said_in text) ≡ 0 = ap length nothing in
    nil_from_length lines (omega arith)

-- no text spells a script and has a fault
pub never-both : (handlers : Bool) (text : List ℕ) (script : Script) (fault : TextFault) → IsScript handlers text script → IsFault handlers text fault → ⊥
never-both handlers text script fault s (Missed m) = s.some (nothing_said handlers (lines_of text) s.lines s.says m.nothing)
never-both handlers text script fault s (RefusedLine r) = says-refused handlers (lines_of text) s.lines r.n fault.kind s.says r.first

-- a text with a refused line says something
refused_said : (handlers : Bool) (text : List (List ℕ)) (n : ℕ) (kind : TextKind) → IsFirstRefused handlers text n kind → said_in text ≡ [] → ⊥
refused_said handlers text n kind r nothing =
    let front : List (List (List ℕ)) = said_in (take n text) in
    let none : length (said_in text) ≡ 0 = ap length nothing in
    let some : length (said_in text) ≡ length (front ++ words_of r.line ∷ said_in (drop (suc n) text)) = ap length (said-at text n r.line r.there r.said) in
    omega (arith, length-append front (words_of r.line ∷ said_in (drop (suc n) text)))

-- no line behind the first that is refused is the first
refused_before : (handlers : Bool) (text : List (List ℕ)) (n m : ℕ) (kind other : TextKind) → IsFirstRefused handlers text n kind
    → IsFirstRefused handlers text m other → n < m → ⊥
refused_before handlers text n m kind other r s less =
    let same : take n text ≡ take n (take m text) = sym (take-take n m text (omega arith)) in
    let P : List (List ℕ) → Type 0 = λ front. Says handlers front r.before in
    says-refused handlers (take m text) s.before n kind s.says
    (record { before = r.before; says = subst P same r.says; line = r.line; there = get-take text m n r.line less r.there; said = r.said; refused = r.refused })

refused_same : (handlers : Bool) (text : List (List ℕ)) (n : ℕ) (kind other : TextKind) → IsFirstRefused handlers text n kind
    → IsFirstRefused handlers text n other → kind ≡ other
refused_same handlers text n kind other r s =
    let before : r.before ≡ s.before = says-unique handlers (take n text) r.before s.before r.says s.says in
    let line : r.line ≡ s.line = same_Some r.line s.line (sym r.there ∙ s.there) in
    let P : List Line → Type 0 = λ x. IsRefused handlers x (words_of r.line) kind in
    let Q : List ℕ → Type 0 = λ x. IsRefused handlers s.before (words_of x) kind in
    refused-unique handlers s.before (words_of s.line) kind other (subst Q line (subst P before r.refused)) s.refused

-- two faults of one line and kind are one
pub fault_same : (one other : TextFault) → one.line ≡ other.line → one.kind ≡ other.kind → one ≡ other
fault_same one other line kind = ap (λ n. record { line = n; kind = one.kind }) line ∙ ap (λ k. record { line = other.line; kind = k }) kind

lines_same : (handlers : Bool) (text : List (List ℕ)) (one other : TextFault) → (p : IsRefusedLine handlers text one) → (q : IsRefusedLine handlers text other)
    → p.n ≡ q.n → one ≡ other
lines_same handlers text one other p q e =
    let P : ℕ → Type 0 = λ n. IsFirstRefused handlers text n one.kind in
    fault_same one other (p.at ∙ ap (λ n. n + 1) e ∙ sym q.at) (refused_same handlers text q.n one.kind other.kind (subst P e p.first) q.first)

-- a text has one fault
pub fault-unique : (handlers : Bool) (text : List ℕ) (one other : TextFault) → IsFault handlers text one → IsFault handlers text other → one ≡ other
fault-unique handlers text one other (Missed p) (Missed q) = fault_same one other (p.at ∙ sym q.at) (p.kind_is ∙ sym q.kind_is)
fault-unique handlers text one other (Missed p) (RefusedLine q) = absurd (refused_said handlers (lines_of text) q.n other.kind q.first p.nothing)
fault-unique handlers text one other (RefusedLine p) (Missed q) = absurd (refused_said handlers (lines_of text) p.n one.kind p.first q.nothing)
fault-unique handlers text one other (RefusedLine p) (RefusedLine q) =
    elim (cases_order p.n q.n) as (λ _. one ≡ other) [
      | inl e ↦ lines_same handlers (lines_of text) one other p q e
      | inr (inl less) ↦ absurd (refused_before handlers (lines_of text) p.n q.n one.kind other.kind p.first q.first less)
      | inr (inr less) ↦ absurd (refused_before handlers (lines_of text) q.n p.n other.kind one.kind q.first p.first less)
    ]

-- the first line that is refused, behind those of a front
pub refused-behind : (handlers : Bool) (front rest : List (List ℕ)) (before : List Line) (line : List ℕ) (kind : TextKind) → Says handlers front before
    → is_passed (words_of line) ≡ false → IsRefused handlers before (words_of line) kind → IsFirstRefused handlers (front ++ line ∷ rest) (length front) kind
refused-behind handlers front rest before line kind s said r =
    let P : List (List ℕ) → Type 0 = λ lines. Says handlers lines before in
    record {
      before = before;
      says = subst P (sym (take_at front (line ∷ rest) (length front) refl)) s;
      line = line;
      there = get-seam front rest line;
      said = said;
      refused = r;
    }

-- how a text ends, by its lines
pub data Ends (handlers : Bool) (text : List (List ℕ)) : Type 0 where
  Told : (lines : List Line) → Says handlers text lines → Ends handlers text
  Stopped : (n : ℕ) (kind : TextKind) → IsFirstRefused handlers text n kind → Ends handlers text

ends_judged : (handlers : Bool) (front rest : List (List ℕ)) (before : List Line) (line : List ℕ) → Says handlers front before → is_passed (words_of line) ≡ false
    → Judged handlers before (words_of line) → ((next : List (List ℕ)) (lines : List Line) → Says handlers next lines → Ends handlers (next ++ rest))
    → Ends handlers (front ++ line ∷ rest)
ends_judged handlers front rest before line s said (inl a) go =
    let P : List (List ℕ) → Type 0 = λ text. Ends handlers text in
    subst P (append_assoc front (line ∷ []) rest) (go (front ++ line ∷ []) (before ++ a.0 ∷ []) (says-more handlers front before line a.0 s said a.1))
ends_judged handlers front rest before line s said (inr r) go = Stopped (length front) r.0 (refused-behind handlers front rest before line r.0 s said r.1)

ends_line : (handlers : Bool) (front rest : List (List ℕ)) (before : List Line) (line : List ℕ) → Says handlers front before
    → ((next : List (List ℕ)) (lines : List Line) → Says handlers next lines → Ends handlers (next ++ rest))
    → (passed : Bool) → is_passed (words_of line) ≡ passed → Ends handlers (front ++ line ∷ rest)
ends_line handlers front rest before line s go true e =
    let P : List (List ℕ) → Type 0 = λ text. Ends handlers text in
    subst P (append_assoc front (line ∷ []) rest) (go (front ++ line ∷ []) before (says-passed handlers front before line s e))
ends_line handlers front rest before line s go false e = ends_judged handlers front rest before line s e (judged handlers before (words_of line)) go

ends_from : (handlers : Bool) (rest front : List (List ℕ)) (before : List Line) → Says handlers front before → Ends handlers (front ++ rest)
ends_from handlers [] front before s =
    let P : List (List ℕ) → Type 0 = λ text. Ends handlers text in
    subst P (sym (append-nil front)) (Told before s)
ends_from handlers (line ∷ rest) front before s =
    ends_line handlers front rest before line s (λ next lines says. ends_from handlers rest next lines says) (is_passed (words_of line)) refl

-- a text that says no line is missing, and one that says some spells a script
pub missing-text : (handlers : Bool) (text : List (List ℕ)) → Says handlers text [] → IsMissing text (record { line = 1; kind = Missing })
missing-text handlers text s = record { nothing = nil_from_length (said_in text) s.count; at = refl; kind_is = refl }

abbrev Either : Bool → List ℕ → Type 0
Either handlers text = ((script : Script) × IsScript handlers text script) ⊎ ((fault : TextFault) × IsFault handlers text fault)

either_told : (handlers : Bool) (text : List ℕ) (lines : List Line) → Says handlers (lines_of text) lines → Either handlers text
either_told handlers text [] s = inr (record { line = 1; kind = Missing }, Missed (missing-text handlers (lines_of text) s))
either_told handlers text (line ∷ lines) s =
    inl (script_of (line ∷ lines), record { lines = line ∷ lines; says = s; some = λ none. cc; means = refl })

either_ends : (handlers : Bool) (text : List ℕ) → Ends handlers (lines_of text) → Either handlers text
either_ends handlers text (Told lines s) = either_told handlers text lines s
either_ends handlers text (Stopped n kind r) = inr (record { line = n + 1; kind = kind }, RefusedLine (record { n = n; at = refl; first = r }))

-- each text spells a script or has a fault
pub either-or : (handlers : Bool) (text : List ℕ) → ((script : Script) × IsScript handlers text script) ⊎ ((fault : TextFault) × IsFault handlers text fault)
either-or handlers text = either_ends handlers text (ends_from handlers (lines_of text) [] [] (says-none handlers))
