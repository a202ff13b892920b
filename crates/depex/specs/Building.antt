-- The tree that items build.
use Rattle.std.specs.Prelude.{◌≡◌, List, [], ◌∷◌, ◌++◌, refl}
use Rattle.std.proofs.Common.{sym, ap, ◌∙◌, append_assoc}
use Rattle.std.proofs.lemmas.List.{append-nil}
use Rattle.depex.specs.declared.item.Item.{Item}
use Rattle.depex.specs.declared.item.Item.TheVariants as items
use Rattle.depex.specs.Trees.{Tree, True, False, Push, Not, And, Or, postfix}

-- an operator in place of the operands on top
abbrev pub negated : List Tree → List Tree
negated [] = []
negated (of ∷ below) = Not of ∷ below

abbrev pub joined : (Tree → Tree → Tree) → List Tree → List Tree
joined operator [] = []
joined operator (right ∷ []) = []
joined operator (right ∷ left ∷ below) = operator left right ∷ below

-- the operands that items build on top of others, the one on top first
abbrev pub built : List Item → List Tree → List Tree
built [] operands = operands
built (items.Push guid ∷ all) operands = built all (Push guid ∷ operands)
built (items.True ∷ all) operands = built all (True ∷ operands)
built (items.False ∷ all) operands = built all (False ∷ operands)
built (items.Not ∷ all) operands = built all (negated operands)
built (items.And ∷ all) operands = built all (joined And operands)
built (items.Or ∷ all) operands = built all (joined Or operands)

-- the tree on top
abbrev pub tree_on : List Tree → Tree
tree_on [] = False
tree_on (tree ∷ below) = tree

-- the items of a tree build it
pub built-postfix : (tree : Tree) (all : List Item) (operands : List Tree)
    → built (postfix tree ++ all) operands ≡ built all (tree ∷ operands)
built-postfix True all operands = refl
built-postfix False all operands = refl
built-postfix (Push guid) all operands = refl
built-postfix (Not of) all operands =
    ap (λ (xs : List Item). built xs operands) (append_assoc (postfix of) (items.Not ∷ []) all)
    ∙ built-postfix of (items.Not ∷ all) operands
built-postfix (And left right) all operands =
    ap (λ (xs : List Item). built xs operands) (append_assoc (postfix left) (postfix right ++ items.And ∷ []) all
    ∙ ap (λ (xs : List Item). postfix left ++ xs) (append_assoc (postfix right) (items.And ∷ []) all))
    ∙ built-postfix left (postfix right ++ items.And ∷ all) operands
    ∙ built-postfix right (items.And ∷ all) (left ∷ operands)
built-postfix (Or left right) all operands =
    ap (λ (xs : List Item). built xs operands) (append_assoc (postfix left) (postfix right ++ items.Or ∷ []) all
    ∙ ap (λ (xs : List Item). postfix left ++ xs) (append_assoc (postfix right) (items.Or ∷ []) all))
    ∙ built-postfix left (postfix right ++ items.Or ∷ all) operands
    ∙ built-postfix right (items.Or ∷ all) (left ∷ operands)

pub tree_on-postfix : (tree : Tree) → tree_on (built (postfix tree) []) ≡ tree
tree_on-postfix tree =
    ap (λ (xs : List Item). tree_on (built xs [])) (sym (append-nil (postfix tree)))
    ∙ ap (λ (xs : List Tree). tree_on xs) (built-postfix tree [] [])
