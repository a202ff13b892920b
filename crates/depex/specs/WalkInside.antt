-- No public clause cites this file.
-- A walk over the items of a condition.
use Rattle.std.specs.Prelude.{◌≡◌, ◌≤◌, ℕ, ◌+◌, ◌-◌, false, List, length, drop, Option, Some, None, Result, Ok, Err}
use Rattle.mm_base.specs.declared.expression.DepexFault.{DepexFault}
use Rattle.depex.specs.declared.item.Item.{Item}
use Rattle.depex.specs.Trees.{taken_by, guid_of}
use Rattle.depex.specs.Expressions.{StopsAt}
use Rattle.depex.specs.FindingInside.{names_driver, FindsItem, EndsAt}

-- the bytes, the place that is come to, and how many operands stand in front of it
pub record WalkState : Type 0 where
  pub bytes : List ℕ
  pub at : ℕ
  pub operands : ℕ

-- Its numbers stay small, and it goes over a condition.
pub record IsNear (bytes : List ℕ) (at operands : ℕ) : Type 0 where
  pub few : length bytes ≤ 16777216
  pub first : names_driver bytes ≡ false
  pub within : at ≤ length bytes
  pub room : operands ≤ 256
  pub none : operands ≡ 0 → at ≡ 0

-- the walk from the first byte on
abbrev pub walk_of : List ℕ → WalkState
walk_of bytes = record { bytes = bytes; at = 0; operands = 0 }

-- the bytes that are left
abbrev pub bytes_left : WalkState → List ℕ
bytes_left walk = drop walk.at walk.bytes

-- the walk after an item
abbrev pub walk_after : WalkState → Item → WalkState
walk_after walk item = record walk { at = walk.at + (1 + length (guid_of item)); operands = walk.operands - taken_by item + 1 }

-- What a walk gives, and what is left of it: an item, behind which it goes on; the END of the condition; or the fault that stands there.
abbrev pub Gives : WalkState → Result (Option Item) DepexFault → WalkState → Type 0
Gives walk (Ok (Some item)) after = FindsItem walk.operands (bytes_left walk) item × (after ≡ walk_after walk item)
Gives walk (Ok None) after = EndsAt walk.operands (bytes_left walk) × (after ≡ walk)
Gives walk (Err fault) after = StopsAt walk.operands walk.at (bytes_left walk) fault × (after ≡ walk)
