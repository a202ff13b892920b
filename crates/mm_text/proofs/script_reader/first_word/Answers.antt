use Rattle.std.proofs.Common.{◌≡◌, ℕ, Bool, true, false, List, [], ◌∷◌, Option, Some, length, nat_lt, ◌==◌, cond, rules, tests, refl, ◌∙◌}
use Rattle.std.proofs.lemmas.Iterator.Search.{find_from_yields_List}
use Rattle.std.proofs.lemmas.Iterator.Splits.{YieldsList-from_slice_split}
use Rattle.std.specs.List.{find, filter, slice_get, slice_split}
use Rattle.mm_text.proofs.script_reader.first_word.Goals as goal

kept_by : (x : List ℕ) (found : Option (List ℕ)) (xs : List (List ℕ)) (t : Bool) → found ≡ slice_get xs 0
    → cond t (Some x) found ≡ slice_get (cond t (x ∷ xs) xs) 0
kept_by x found xs true e = refl
kept_by x found xs false e = e

-- what is found first is the first item that is kept
find_kept : (test : List ℕ → Bool) (xs : List (List ℕ)) → find test xs ≡ slice_get (filter test xs) 0
find_kept test [] = refl
find_kept test (x ∷ xs) = kept_by x (find test xs) (filter test xs) (test x) (find_kept test xs)

pub returns : goal.returns
returns c =
    find_from_yields_List (λ (word : List ℕ). nat_lt 0 (length word)) _ _ _ c.find.ensures.ran
    (YieldsList-from_slice_split _ (λ byte. byte == 32) c.args.line.now c.split.ensures.rest c.split.ensures.done c.split.ensures.closure (λ x r q k. search (rules, tests)))
    (λ x b q k. search (rules, tests))
    ∙ find_kept (λ word. nat_lt 0 (length word)) (slice_split (λ byte. byte == 32) c.args.line.now)
