-- How many operands stand at once.
use Rattle.std.proofs.Common.{◌≡◌, ℕ, suc, ◌+◌, ◌-◌, ◌≤◌, max, List, [], ◌∷◌, ◌++◌, refl, sym, ap, ◌∙◌, append_assoc, arith}
use Rattle.std.proofs.lemmas.List.{append-nil}
use Rattle.depex.specs.Laws.{most_at_once}
use Rattle.depex.specs.Trees.{Tree, True, False, Push, Not, And, Or, postfix, need, taken_by}
use Rattle.depex.specs.declared.item.Item.{Item}
use Rattle.depex.specs.declared.item.Item.TheVariants as items

at_least : (n : ℕ) (all : List Item) → n ≤ most_at_once n all
at_least n [] = omega arith
at_least n (item ∷ all) = omega arith

some_need : (tree : Tree) → 1 ≤ need tree
some_need True = omega arith
some_need False = omega arith
some_need (Push guid) = omega arith
some_need (Not of) = some_need of
some_need (And left right) = omega (arith, some_need left)
some_need (Or left right) = omega (arith, some_need left)

-- an operand, and an operator of one or of two
operand : (n : ℕ) (item : Item) (rest : List Item) → taken_by item ≡ 0
    → most_at_once n (item ∷ rest) ≡ max (n + 1) (most_at_once (suc n) rest)
operand n item rest none =
    let there : n - taken_by item + 1 ≡ suc n = omega arith in
    let least = at_least (suc n) rest in
    ap (λ k. max n (most_at_once k rest)) there ∙ omega arith

operator : (n : ℕ) (item : Item) (rest : List Item) → 1 ≤ taken_by item → (m : ℕ) → m ≡ n + taken_by item
    → most_at_once m (item ∷ rest) ≡ max m (most_at_once (suc n) rest)
operator n item rest some m is =
    let there : m - taken_by item + 1 ≡ suc n = omega arith in
    ap (λ k. max m (most_at_once k rest)) there

-- the items of a tree, and others after them
most-postfix : (tree : Tree) (n : ℕ) (rest : List Item)
    → most_at_once n (postfix tree ++ rest) ≡ max (n + need tree) (most_at_once (suc n) rest)
most-postfix True n rest = operand n items.True rest refl
most-postfix False n rest = operand n items.False rest refl
most-postfix (Push guid) n rest = operand n (items.Push guid) rest refl
most-postfix (Not of) n rest =
    let some = some_need of in
    ap (λ (all : List Item). most_at_once n all) (append_assoc (postfix of) (items.Not ∷ []) rest)
    ∙ most-postfix of n (items.Not ∷ rest)
    ∙ ap (λ k. max (n + need of) k) (operator n items.Not rest (omega arith) (suc n) (omega arith))
    ∙ omega arith
most-postfix (And left right) n rest =
    let some = some_need left in
    let more = some_need right in
    ap (λ (all : List Item). most_at_once n all) (append_assoc (postfix left) (postfix right ++ items.And ∷ []) rest
    ∙ ap (λ (all : List Item). postfix left ++ all) (append_assoc (postfix right) (items.And ∷ []) rest))
    ∙ most-postfix left n (postfix right ++ items.And ∷ rest)
    ∙ ap (λ k. max (n + need left) k) (most-postfix right (suc n) (items.And ∷ rest)
    ∙ ap (λ k. max (suc n + need right) k) (operator n items.And rest (omega arith) (suc (suc n)) (omega arith)))
    ∙ omega arith
most-postfix (Or left right) n rest =
    let some = some_need left in
    let more = some_need right in
    ap (λ (all : List Item). most_at_once n all) (append_assoc (postfix left) (postfix right ++ items.Or ∷ []) rest
    ∙ ap (λ (all : List Item). postfix left ++ all) (append_assoc (postfix right) (items.Or ∷ []) rest))
    ∙ most-postfix left n (postfix right ++ items.Or ∷ rest)
    ∙ ap (λ k. max (n + need left) k) (most-postfix right (suc n) (items.Or ∷ rest)
    ∙ ap (λ k. max (suc n + need right) k) (operator n items.Or rest (omega arith) (suc (suc n)) (omega arith)))
    ∙ omega arith

pub need_is_exact : (tree : Tree) (n : ℕ) → most_at_once n (postfix tree) ≡ n + need tree
need_is_exact tree n =
    let some = some_need tree in
    ap (λ (all : List Item). most_at_once n all) (sym (append-nil (postfix tree))) ∙ most-postfix tree n [] ∙ omega arith
