-- What texts say, line by line: a text of which more is read says more, and what a text says begins with what its front says.
use Rattle.std.proofs.Common.{◌≡◌, ℕ, zero, suc, ◌<◌, ◌≤◌, Bool, true, false, not, List, [], ◌∷◌, ◌++◌, length, take, drop, map, Some, refl, ap, sym, subst, ◌∙◌, arith}
use Rattle.std.proofs.lemmas.List.{append-nil, map-append, take_at, take-append-le, take-take, length-append, length-take-le}
use Rattle.std.proofs.lemmas.List.Elements.{filter-append}
use Rattle.std.proofs.lemmas.Option.{none-some, same_Some, slice_get_within}
use Rattle.std.specs.List.{filter, slice_get}
use Rattle.mm_text.specs.ScriptText.{words_of, is_passed, said_in, Says, IsAccepted}
use Rattle.mm_text.specs.declared.line.Line.{Line}

-- an item of a list is one of a longer list, at the same place
pub get-front : {X : Type 0} (xs ys : List X) (k : ℕ) (x : X) → slice_get xs k ≡ Some x → slice_get (xs ++ ys) k ≡ Some x
get-front [] ys k x e = absurd (none-some x e)
get-front (y ∷ xs) ys zero x e = e
get-front (y ∷ xs) ys (suc k) x e = get-front xs ys k x e

-- what stands behind a front
pub get-seam : {X : Type 0} (xs ys : List X) (y : X) → slice_get (xs ++ y ∷ ys) (length xs) ≡ Some y
get-seam [] ys y = refl
get-seam (x ∷ xs) ys y = get-seam xs ys y

-- where an item of a list with one more at its end stands
pub data PushedAt {X : Type 0} (xs : List X) (y : X) (k : ℕ) (x : X) : Type 0 where
  Before : k < length xs → slice_get xs k ≡ Some x → PushedAt xs y k x
  Last : k ≡ length xs → y ≡ x → PushedAt xs y k x

pushed_on : {X : Type 0} (xs : List X) (z y : X) (k : ℕ) (x : X) → PushedAt xs y k x → PushedAt (z ∷ xs) y (suc k) x
pushed_on xs z y k x (Before less e) = Before (omega arith) e
pushed_on xs z y k x (Last same e) = Last (ap suc same) e

pub pushed-at : {X : Type 0} (xs : List X) (y : X) (k : ℕ) (x : X) → slice_get (xs ++ y ∷ []) k ≡ Some x → PushedAt xs y k x
pushed-at [] y zero x e = Last refl (same_Some y x e)
pushed-at [] y (suc k) x e = absurd (none-some x e)
pushed-at (z ∷ xs) y zero x e = Before (omega arith) e
pushed-at (z ∷ xs) y (suc k) x e = pushed_on xs z y k x (pushed-at xs y k x e)

-- a list has an item at each place
pub some-at : {X : Type 0} (xs : List X) (k : ℕ) → k < length xs → (x : X) × (slice_get xs k ≡ Some x)
some-at [] k h = absurd (omega arith)
some-at (x ∷ xs) zero h = (x, refl)
some-at (x ∷ xs) (suc k) h = some-at xs k (omega arith)

-- one more item in front
pub take-some : {X : Type 0} (xs : List X) (k : ℕ) (x : X) → slice_get xs k ≡ Some x → take (suc k) xs ≡ take k xs ++ x ∷ []
take-some [] k x e = absurd (none-some x e)
take-some (y ∷ xs) zero x e = ap (λ z. z ∷ []) (same_Some y x e)
take-some (y ∷ xs) (suc k) x e = ap (λ zs. y ∷ zs) (take-some xs k x e)

-- a list is what stands in front of an item, that item, and what stands behind it
pub split-some : {X : Type 0} (xs : List X) (k : ℕ) (x : X) → slice_get xs k ≡ Some x → xs ≡ take k xs ++ x ∷ drop (suc k) xs
split-some [] k x e = absurd (none-some x e)
split-some (y ∷ xs) zero x e = ap (λ z. z ∷ xs) (same_Some y x e)
split-some (y ∷ xs) (suc k) x e = ap (λ zs. y ∷ zs) (split-some xs k x e)

-- an item of a front is one of the list
pub get-take : {X : Type 0} (xs : List X) (n k : ℕ) (x : X) → k < n → slice_get xs k ≡ Some x → slice_get (take n xs) k ≡ Some x
get-take [] n k x less e = absurd (none-some x e)
get-take (y ∷ xs) zero k x less e = absurd (omega arith)
get-take (y ∷ xs) (suc n) zero x less e = e
get-take (y ∷ xs) (suc n) (suc k) x less e = get-take xs n k x (omega arith) e

pub get-of_take : {X : Type 0} (xs : List X) (n k : ℕ) (x : X) → slice_get (take n xs) k ≡ Some x → slice_get xs k ≡ Some x
get-of_take xs zero k x e = absurd (none-some x e)
get-of_take [] (suc n) k x e = absurd (none-some x e)
get-of_take (y ∷ xs) (suc n) zero x e = e
get-of_take (y ∷ xs) (suc n) (suc k) x e = get-of_take xs n k x e

-- lines of a text, each by its words, say lines
pub record SaysWords (handlers : Bool) (said : List (List (List ℕ))) (lines : List Line) : Type 0 where
  pub count : length said ≡ length lines
  pub each : (k : ℕ) (words : List (List ℕ)) (line : Line) → slice_get said k ≡ Some words → slice_get lines k ≡ Some line → IsAccepted handlers (take k lines) words line

pub says-words : (handlers : Bool) (text : List (List ℕ)) (lines : List Line) → Says handlers text lines → SaysWords handlers (said_in text) lines
says-words handlers text lines s = record { count = s.count; each = s.each }

pub words-says : (handlers : Bool) (text : List (List ℕ)) (lines : List Line) → SaysWords handlers (said_in text) lines → Says handlers text lines
words-says handlers text lines s = record { count = s.count; each = s.each }

-- nothing says nothing
pub says-none : (handlers : Bool) → Says handlers [] []
says-none handlers = record { count = refl; each = λ k words line there at. absurd (none-some words there) }

accepted-at : (handlers : Bool) (before others : List Line) (words also : List (List ℕ)) (line same : Line) → before ≡ others → words ≡ also → line ≡ same
    → IsAccepted handlers before words line → IsAccepted handlers others also same
accepted-at handlers before others words also line same b w l a =
    let P : List Line → Type 0 = λ x. IsAccepted handlers x also same in
    let Q : List (List ℕ) → Type 0 = λ x. IsAccepted handlers before x same in
    let R : Line → Type 0 = λ x. IsAccepted handlers before words x in
    subst P b (subst Q w (subst R l a))

more-each : (handlers : Bool) (said : List (List (List ℕ))) (before : List Line) (words : List (List ℕ)) (line : Line) → SaysWords handlers said before
    → IsAccepted handlers before words line → (k : ℕ) (at : List (List ℕ)) (found : Line) → PushedAt said words k at → PushedAt before line k found
    → IsAccepted handlers (take k (before ++ line ∷ [])) at found
more-each handlers said before words line s a k at found (Before less there) (Before few is) =
    let front : take k before ≡ take k (before ++ line ∷ []) = sym (take-append-le k before (line ∷ []) (omega arith)) in
    accepted-at handlers (take k before) (take k (before ++ line ∷ [])) at at found found front refl refl (s.each k at found there is)
more-each handlers said before words line s a k at found (Before less there) (Last last is) =
    let count : length said ≡ length before = s.count in
    absurd (omega arith)
more-each handlers said before words line s a k at found (Last last there) (Before few is) =
    let count : length said ≡ length before = s.count in
    absurd (omega arith)
more-each handlers said before words line s a k at found (Last last there) (Last end is) =
    let front : before ≡ take k (before ++ line ∷ []) = sym (take_at before (line ∷ []) k (sym end)) in
    accepted-at handlers before (take k (before ++ line ∷ [])) words at line found front there is a

-- words behind others say one more line
says-one_more : (handlers : Bool) (said : List (List (List ℕ))) (before : List Line) (words : List (List ℕ)) (line : Line) → SaysWords handlers said before
    → IsAccepted handlers before words line → SaysWords handlers (said ++ words ∷ []) (before ++ line ∷ [])
says-one_more handlers said before words line s a =
    let count : length said ≡ length before = s.count in
    record {
      count = omega (arith, length-append said (words ∷ []), length-append before (line ∷ []));
      each = λ k at found there is. more-each handlers said before words line s a k at found (pushed-at said words k at there) (pushed-at before line k found is);
    }

-- what lines say is what their fronts say, one after the other
pub said_in-append : (front rest : List (List ℕ)) → said_in (front ++ rest) ≡ said_in front ++ said_in rest
said_in-append front rest =
    ap (filter (λ words. not (is_passed words))) (map-append words_of front rest) ∙ filter-append (λ words. not (is_passed words)) (map words_of front) (map words_of rest)

pub said_in-passed : (line : List ℕ) (rest : List (List ℕ)) → is_passed (words_of line) ≡ true → said_in (line ∷ rest) ≡ said_in rest
said_in-passed line rest e = rw e refl

pub said_in-said : (line : List ℕ) (rest : List (List ℕ)) → is_passed (words_of line) ≡ false → said_in (line ∷ rest) ≡ words_of line ∷ said_in rest
said_in-said line rest e = rw e refl

-- a line that is passed says nothing more
pub says-passed : (handlers : Bool) (front : List (List ℕ)) (before : List Line) (line : List ℕ) → Says handlers front before → is_passed (words_of line) ≡ true
    → Says handlers (front ++ line ∷ []) before
says-passed handlers front before line s e =
    let same : said_in (front ++ line ∷ []) ≡ said_in front = said_in-append front (line ∷ []) ∙ ap (λ x. said_in front ++ x) (said_in-passed line [] e) ∙ append-nil (said_in front) in
    let P : List (List (List ℕ)) → Type 0 = λ x. SaysWords handlers x before in
    words-says handlers (front ++ line ∷ []) before (subst P (sym same) (says-words handlers front before s))

-- a line that is accepted says one line more
pub says-more : (handlers : Bool) (front : List (List ℕ)) (before : List Line) (text : List ℕ) (line : Line) → Says handlers front before → is_passed (words_of text) ≡ false
    → IsAccepted handlers before (words_of text) line → Says handlers (front ++ text ∷ []) (before ++ line ∷ [])
says-more handlers front before text line s e a =
    let same : said_in (front ++ text ∷ []) ≡ said_in front ++ words_of text ∷ [] = said_in-append front (text ∷ []) ∙ ap (λ x. said_in front ++ x) (said_in-said text [] e) in
    let P : List (List (List ℕ)) → Type 0 = λ x. SaysWords handlers x (before ++ line ∷ []) in
    words-says handlers (front ++ text ∷ []) (before ++ line ∷ [])
    (subst P (sym same) (says-one_more handlers (said_in front) before (words_of text) line (says-words handlers front before s) a))

-- a front of what is said says the first lines
pub says-front : (handlers : Bool) (front rest : List (List (List ℕ))) (lines : List Line) → SaysWords handlers (front ++ rest) lines
    → SaysWords handlers front (take (length front) lines)
says-front handlers front rest lines s =
    let n : ℕ = length front in
    let count : length (front ++ rest) ≡ length lines = s.count in
    let enough : n ≤ length lines = omega (arith, length-append front rest) in
    record {
      count = sym (length-take-le n lines enough);
      each = λ k words line there is.
          let few : k < n = slice_get_within front k words there in
          let same : take k lines ≡ take k (take n lines) = sym (take-take k n lines (omega arith)) in
          accepted-at handlers (take k lines) (take k (take n lines)) words words line line same refl refl
          (s.each k words line (get-front front rest k words there) (get-of_take lines n k line is));
    }

-- a line of a text that says lines
pub record IsNext (handlers : Bool) (before : List Line) (words : List (List ℕ)) : Type 0 where
  pub line : Line
  pub accepted : IsAccepted handlers before words line

pub says-next : (handlers : Bool) (front rest : List (List (List ℕ))) (words : List (List ℕ)) (lines : List Line) → SaysWords handlers (front ++ words ∷ rest) lines
    → IsNext handlers (take (length front) lines) words
says-next handlers front rest words lines s =
    let n : ℕ = length front in
    let count : length (front ++ words ∷ rest) ≡ length lines = s.count in
    let more : n < length lines = omega (arith, length-append front (words ∷ rest)) in
    let found = some-at lines n more in
    record { line = found.0; accepted = s.each n words found.0 (get-seam front rest words) found.1 }
