-- What expressions mean.
use Rattle.std.specs.Prelude.{Bool, false, Option, Some, None}
use Rattle.mm_base.specs.declared.guid.Guid.{Guid}
use Rattle.depex.specs.Trees.{truth}
use Rattle.depex.specs.Expressions.{Expression, Condition, Before, After}

-- whether an expression holds, where this tells which GUIDs are installed: a condition where its tree is true, and BEFORE and
-- AFTER never
abbrev pub holds_on : (Guid → Bool) → Expression → Bool
holds_on installed (Condition tree) = truth installed tree
holds_on installed (Before _) = false
holds_on installed (After _) = false

-- the driver that BEFORE names, and the one that AFTER names
abbrev pub named_before : Expression → Option Guid
named_before (Condition _) = None
named_before (Before guid) = Some guid
named_before (After _) = None

abbrev pub named_after : Expression → Option Guid
named_after (Condition _) = None
named_after (Before _) = None
named_after (After guid) = Some guid
