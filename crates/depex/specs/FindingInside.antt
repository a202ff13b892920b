-- No public clause cites this file.
-- What a reader finds at a place, and what is kept of it.
use Rattle.std.specs.Prelude.{◌≡◌, ◌<◌, ◌≤◌, ℕ, Bool, false, nat_le, List, [], ◌∷◌, ◌++◌}
use Rattle.mm_base.specs.declared.guid.Guid.{Guid}
use Rattle.depex.specs.declared.item.Item.{Item}
use Rattle.depex.specs.declared.item.Item.TheVariants as items
use Rattle.depex.specs.declared.found.Found.{Found}
use Rattle.depex.specs.declared.found.Found.TheVariants.{End, Next, Refused}
use Rattle.mm_base.specs.Guid.{IsGuid}
use Rattle.depex.specs.Trees.{Tree, postfix, after_opcode, end_opcode, taken_by, item_bytes}
use Rattle.depex.specs.declared.expression.Kept.{Kept}
use Rattle.depex.specs.Expressions.{Expression, Condition, IsExpression, StopsAt}
use Rattle.depex.specs.Keeping.{kept_of}

-- whether bytes begin with BEFORE or AFTER
abbrev pub names_driver : List ℕ → Bool
names_driver [] = false
names_driver (opcode ∷ behind) = nat_le opcode after_opcode

-- The GUID of an item is whole.
abbrev pub IsWhole : Item → Type 0
IsWhole (items.Push guid) = IsGuid guid
IsWhole items.And = Unit {0}
IsWhole items.Or = Unit {0}
IsWhole items.Not = Unit {0}
IsWhole items.True = Unit {0}
IsWhole items.False = Unit {0}

-- An item may stand behind so many operands: it finds those that it takes, and, where it takes none, room for one more.
pub record MayStand (operands : ℕ) (item : Item) : Type 0 where
  pub enough : taken_by item ≤ operands
  pub room : taken_by item ≡ 0 → operands < 256

-- The bytes begin with an item that may stand there.
pub record FindsItem (operands : ℕ) (there : List ℕ) (item : Item) : Type 0 where
  pub behind : List ℕ
  pub begins : there ≡ item_bytes item ++ behind
  pub whole : IsWhole item
  pub may : MayStand operands item

-- The bytes begin with END, and one operand stands in front of it.
abbrev pub EndsAt : ℕ → List ℕ → Type 0
EndsAt operands [] = ⊥
EndsAt operands (opcode ∷ behind) = (opcode ≡ end_opcode) × (operands ≡ 1)

-- what is found at a place, behind so many operands, where the bytes go on so
abbrev pub Finds : ℕ → ℕ → List ℕ → Found → Type 0
Finds operands at there End = EndsAt operands there
Finds operands at there (Next item) = FindsItem operands there item
Finds operands at there (Refused fault) = StopsAt operands at there fault

-- The bytes begin with a condition that has these items.
abbrev pub IsCondition : List ℕ → List Item → Type 0
IsCondition bytes items = (tree : Tree) × IsExpression bytes (Condition tree) × (items ≡ postfix tree)

-- The bytes behind a BEFORE or AFTER begin with this name and END.
pub record IsName (behind : List ℕ) (guid : Guid) : Type 0 where
  pub rest : List ℕ
  pub begins : behind ≡ guid.0 ++ end_opcode ∷ rest
  pub whole : IsGuid guid

-- The bytes behind a BEFORE or AFTER begin with a name and END.
abbrev pub BeginsName : List ℕ → Type 0
BeginsName behind = (guid : Guid) × IsName behind guid

-- This is kept of an expression that the bytes begin with.
abbrev pub IsKeptOf : List ℕ → Kept → Type 0
IsKeptOf bytes kept = (expression : Expression) × IsExpression bytes expression × (kept ≡ kept_of expression)
