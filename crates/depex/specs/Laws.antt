-- Laws of dependency expressions: bytes are one expression, or have one fault, and not both; and items are those of one tree.
use Rattle.std.specs.Prelude.{◌≡◌, ◌⊎◌, ℕ, ◌+◌, ◌-◌, max, List, [], ◌∷◌, ◌++◌, ◌≤◌, length, take}
use Rattle.mm_base.specs.declared.expression.DepexFault.{DepexFault}
use Rattle.depex.specs.declared.item.Item.{Item}
use Rattle.depex.specs.Trees.{Tree, postfix, need, taken_by}
use Rattle.depex.specs.Expressions.{Expression, spelled, IsExpression, HasFault}

-- bytes begin with an expression, or have a fault
abbrev pub ExpressionOrFault : Type 0
ExpressionOrFault =
    (bytes : List ℕ)
    → ((expression : Expression) × IsExpression bytes expression) ⊎ ((fault : DepexFault) × HasFault bytes fault)

-- and never both
abbrev pub NeverBoth : Type 0
NeverBoth =
    (bytes : List ℕ) (expression : Expression) (fault : DepexFault)
    → IsExpression bytes expression
    → HasFault bytes fault
    → ⊥

-- they begin with one expression at most, and have one fault at most
abbrev pub OneExpression : Type 0
OneExpression = (bytes : List ℕ) (one other : Expression) → IsExpression bytes one → IsExpression bytes other → one ≡ other

abbrev pub OneFault : Type 0
OneFault = (bytes : List ℕ) (one other : DepexFault) → HasFault bytes one → HasFault bytes other → one ≡ other

-- Bytes past END change nothing: with anything added behind them, they begin with the same expression;
abbrev pub SameWithMore : Type 0
SameWithMore = (bytes more : List ℕ) (expression : Expression) → IsExpression bytes expression → IsExpression (bytes ++ more) expression

-- and so they do where they are cut behind it.
abbrev pub SameWhereCut : Type 0
SameWhereCut =
    (bytes : List ℕ) (cut : ℕ) (expression : Expression)
    → IsExpression bytes expression
    → length (spelled expression) ≤ cut
    → IsExpression (take cut bytes) expression

-- A tree is known by its items, whatever stands in front of them.
abbrev pub OneTree : Type 0
OneTree = (some others : List Item) (one other : Tree) → some ++ postfix one ≡ others ++ postfix other → one ≡ other

-- the most operands that stand at once where items are worked off one after another, after so many
abbrev pub most_at_once : ℕ → List Item → ℕ
most_at_once n [] = n
most_at_once n (item ∷ items) = max n (most_at_once (n - taken_by item + 1) items)

-- The need of a tree is how many stand at once on top of those that stood there before it.
abbrev pub NeedIsExact : Type 0
NeedIsExact = (tree : Tree) (n : ℕ) → most_at_once n (postfix tree) ≡ n + need tree
