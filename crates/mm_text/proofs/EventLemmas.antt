-- What a fill pokes, word by word.
use Rattle.std.proofs.Common.{◌≡◌, ℕ, suc, ◌+◌, ◌-◌, ◌*◌, ◌<◌, List, [], ◌∷◌, ◌++◌, drop, ap, sym, ◌∙◌, append_assoc, arith}
use Rattle.std.proofs.lemmas.List.{drop-drop}
use Rattle.mm_base.specs.Numbers.{word_in, first_words}
use Rattle.comm_core.specs.declared.event.Event.{Event}
use Rattle.comm_core.specs.declared.event.Event.TheVariants.{Poke}
use Rattle.mm_text.specs.ScriptText.{pokes_from}

-- the words from number j on are word j and those from the next on
first_words-turn : (n j : ℕ) (bytes : List ℕ) → j < n
    → first_words (n - j) (drop (8 * j) bytes) ≡ word_in bytes j ∷ first_words (n - (j + 1)) (drop (8 * (j + 1)) bytes)
first_words-turn n j bytes h =
    let count : n - j ≡ suc (n - (j + 1)) = omega arith in
    let place : 8 * j + 8 ≡ 8 * (j + 1) = omega arith in
    ap (λ m. first_words m (drop (8 * j) bytes)) count
    ∙ ap (λ bs. word_in bytes j ∷ first_words (n - (j + 1)) bs) (drop-drop 8 (8 * j) bytes ∙ ap (λ m. drop m bytes) place)

-- one turn of the loop that pokes word by word
pub pokes_from-turn : (lane n j : ℕ) (bytes : List ℕ) (old new all : List Event) → j < n
    → old ++ pokes_from lane (2 + j) (first_words (n - j) (drop (8 * j) bytes)) ≡ all → new ≡ old ++ Poke lane (2 + j) (word_in bytes j) ∷ []
    → new ++ pokes_from lane (2 + (j + 1)) (first_words (n - (j + 1)) (drop (8 * (j + 1)) bytes)) ≡ all
pokes_from-turn lane n j bytes old new all h left put =
    let rest = first_words (n - (j + 1)) (drop (8 * (j + 1)) bytes) in
    ap (λ events. events ++ pokes_from lane (2 + (j + 1)) rest) put
    ∙ append_assoc old (Poke lane (2 + j) (word_in bytes j) ∷ []) (pokes_from lane (2 + (j + 1)) rest)
    ∙ ap (λ word. old ++ Poke lane (2 + j) (word_in bytes j) ∷ pokes_from lane word rest) (omega arith)
    ∙ ap (λ values. old ++ pokes_from lane (2 + j) values) (sym (first_words-turn n j bytes h)) ∙ left
