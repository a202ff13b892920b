-- What is kept of an expression: the items of a condition as they are spelled, and the expression that they stand for.
use Rattle.std.specs.Prelude.{◌≡◌, []}
use Rattle.depex.specs.declared.expression.Kept.{Kept}
use Rattle.depex.specs.declared.expression.Kept.TheVariants as kept
use Rattle.depex.specs.Trees.{postfix}
use Rattle.depex.specs.Building.{built, tree_on}
use Rattle.depex.specs.Expressions.{Expression, Condition, Before, After, IsSound}

-- the items of a condition, or the name behind BEFORE or AFTER
abbrev pub kept_of : Expression → Kept
kept_of (Condition tree) = kept.Items (postfix tree)
kept_of (Before guid) = kept.Before guid
kept_of (After guid) = kept.After guid

-- the expression that is kept so
abbrev pub expression_of : Kept → Expression
expression_of (kept.Items all) = Condition (tree_on (built all []))
expression_of (kept.Before guid) = Before guid
expression_of (kept.After guid) = After guid

-- It is kept of a sound expression.
abbrev pub IsKept : Kept → Type 0
IsKept kept = (expression : Expression) × IsSound expression × (kept ≡ kept_of expression)
