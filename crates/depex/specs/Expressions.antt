-- Bytes as dependency expressions, and the first fault of those that are none.
use Rattle.std.specs.Prelude.{◌≡◌, ◌≢◌, ◌<◌, ◌≤◌, ◌⊎◌, ℕ, ◌+◌, List, [], ◌∷◌, ◌++◌, length, slice_index}
use Rattle.mm_base.specs.Guid.{IsGuid}
use Rattle.mm_base.specs.declared.guid.Guid.{Guid}
use Rattle.mm_base.specs.declared.expression.DepexFault.{DepexFault}
use Rattle.mm_base.specs.declared.expression.DepexFault.TheVariants.{Empty, NoEnd, Unknown, Underflow, Leftover, BeforeNotFirst, TooDeep}
use Rattle.depex.specs.declared.item.Item.{Item}
use Rattle.depex.specs.Trees.{Tree, postfix, need, opcode_of, before_opcode, after_opcode, end_opcode, taken_by, bytes_of, HasGuids}

-- an expression: a condition, or BEFORE or AFTER with the name of another driver
pub data Expression : Type 0 where
  Condition : (tree : Tree) → Expression
  Before : (guid : Guid) → Expression
  After : (guid : Guid) → Expression

-- its bytes, up to END
abbrev pub spelled : Expression → List ℕ
spelled (Condition tree) = bytes_of (postfix tree) ++ end_opcode ∷ []
spelled (Before guid) = before_opcode ∷ guid.0 ++ end_opcode ∷ []
spelled (After guid) = after_opcode ∷ guid.0 ++ end_opcode ∷ []

-- Its GUIDs are whole, and a condition needs at most 256 operands at once.
abbrev pub IsSound : Expression → Type 0
IsSound (Condition tree) = HasGuids tree × (need tree ≤ 256)
IsSound (Before guid) = IsGuid guid
IsSound (After guid) = IsGuid guid

-- The bytes begin with the expression; what stands behind its END is free.
pub record IsExpression (bytes : List ℕ) (expression : Expression) : Type 0 where
  pub behind : List ℕ
  pub begins : bytes ≡ spelled expression ++ behind
  pub sound : IsSound expression

-- The bytes begin with an expression.
abbrev pub BeginsExpression : List ℕ → Type 0
BeginsExpression bytes = (expression : Expression) × IsExpression bytes expression

-- the items of trees that stand one behind another, where the last one is named first
abbrev pub items_of : List Tree → List Item
items_of [] = []
items_of (tree ∷ before) = items_of before ++ postfix tree

-- Each of them has whole GUIDs, and finds room for what it needs on top of those before it.
abbrev pub AreOperands : List Tree → Type 0
AreOperands [] = Unit {0}
AreOperands (tree ∷ before) = HasGuids tree × (length before + need tree ≤ 256) × AreOperands before

-- At this place whole operands end, and there the bytes go on so.
pub record StandsBehind (bytes : List ℕ) (operands : List Tree) (at : ℕ) (there : List ℕ) : Type 0 where
  pub begins : bytes ≡ bytes_of (items_of operands) ++ there
  pub place : at ≡ length (bytes_of (items_of operands))
  pub are : AreOperands operands

-- An opcode at this place is refused for a fault, behind so many operands, with these bytes behind it.
abbrev pub IsRefused : ℕ → ℕ → ℕ → List ℕ → DepexFault → Type 0
-- END is the first byte
IsRefused operands at opcode behind Empty = (at ≡ 0) × (opcode ≡ end_opcode)
-- END has more than one operand in front of it
IsRefused operands at opcode behind (Leftover place) = (place ≡ at) × (opcode ≡ end_opcode) × (2 ≤ operands)
-- a PUSH whose operand has room lacks some of its GUID
IsRefused operands at opcode behind NoEnd = (opcode ≡ 0x02) × (operands < 256) × (length behind < 16)
-- no opcode is above END
IsRefused operands at opcode behind (Unknown place) = (place ≡ at) × (end_opcode < opcode)
-- an operator takes more operands than there are
IsRefused operands at opcode behind (Underflow place) =
    (place ≡ at) × (item : Item) × (opcode ≡ opcode_of item) × (operands < taken_by item)
-- a BEFORE or AFTER isn't first
IsRefused operands at opcode behind (BeforeNotFirst place) = (place ≡ at) × (at ≢ 0) × (opcode ≤ after_opcode)
-- an operand finds no room
IsRefused operands at opcode behind (TooDeep place) =
    (place ≡ at) × (item : Item) × (opcode ≡ opcode_of item) × (taken_by item ≡ 0) × (operands ≡ 256)

-- The bytes that stand at a place have a fault, behind so many operands: they end, or their opcode is refused.
abbrev pub StopsAt : ℕ → ℕ → List ℕ → DepexFault → Type 0
StopsAt operands at [] fault = fault ≡ NoEnd
StopsAt operands at (opcode ∷ behind) fault = IsRefused operands at opcode behind fault

-- A fault behind whole operands.
pub record HasFaultInside (bytes : List ℕ) (fault : DepexFault) : Type 0 where
  pub operands : List Tree
  pub at : ℕ
  pub there : List ℕ
  pub stands : StandsBehind bytes operands at there
  pub stops : StopsAt (length operands) at there fault

-- Behind a BEFORE or AFTER that stands first, these bytes lack some of the GUID, or END; or behind the GUID, at place 17, stands
-- no opcode, or another one than END.
abbrev pub IsRefusedName : List ℕ → DepexFault → Type 0
IsRefusedName behind NoEnd = length behind ≤ 16
IsRefusedName behind (Unknown place) = (place ≡ 17) × (16 < length behind) × (end_opcode < slice_index behind 16)
IsRefusedName behind (BeforeNotFirst place) = (place ≡ 17) × (16 < length behind) × (slice_index behind 16 < end_opcode)
IsRefusedName behind Empty = ⊥
IsRefusedName behind (Underflow place) = ⊥
IsRefusedName behind (Leftover place) = ⊥
IsRefusedName behind (TooDeep place) = ⊥

-- A fault behind a BEFORE or AFTER that stands first.
pub record HasFaultInName (bytes : List ℕ) (fault : DepexFault) : Type 0 where
  pub opcode : ℕ
  pub behind : List ℕ
  pub begins : bytes ≡ opcode ∷ behind
  pub names : opcode ≤ after_opcode
  pub refused : IsRefusedName behind fault

-- the first fault of bytes that are no expression
abbrev pub HasFault : List ℕ → DepexFault → Type 0
HasFault bytes fault = HasFaultInside bytes fault ⊎ HasFaultInName bytes fault
