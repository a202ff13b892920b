-- Dependency expressions as trees, and how trees are spelled: PI 1.8, volume 2, the dependency expression instruction set.
use Rattle.std.specs.Prelude.{ℕ, ◌+◌, max, Bool, true, false, ◌&&◌, ◌||◌, not, List, [], ◌∷◌, ◌++◌}
use Rattle.std.specs.List.{flat_map}
use Rattle.mm_base.specs.Guid.{IsGuid}
use Rattle.mm_base.specs.declared.guid.Guid.{Guid}
use Rattle.depex.specs.declared.item.Item.{Item}
use Rattle.depex.specs.declared.item.Item.TheVariants as items

-- a condition on what is installed
pub data Tree : Type 0 where
  True : Tree
  False : Tree
  Push : (guid : Guid) → Tree
  Not : (of : Tree) → Tree
  And : (left right : Tree) → Tree
  Or : (left right : Tree) → Tree

-- whether it holds, where this tells which GUIDs are installed
abbrev pub truth : (Guid → Bool) → Tree → Bool
truth has True = true
truth has False = false
truth has (Push guid) = has guid
truth has (Not of) = not (truth has of)
truth has (And left right) = truth has left && truth has right
truth has (Or left right) = truth has left || truth has right

-- its items, each operator behind its operands
abbrev pub postfix : Tree → List Item
postfix True = items.True ∷ []
postfix False = items.False ∷ []
postfix (Push guid) = items.Push guid ∷ []
postfix (Not of) = postfix of ++ items.Not ∷ []
postfix (And left right) = postfix left ++ (postfix right ++ items.And ∷ [])
postfix (Or left right) = postfix left ++ (postfix right ++ items.Or ∷ [])

-- how many operands stand at once, at most, where its items are worked off in order
abbrev pub need : Tree → ℕ
need True = 1
need False = 1
need (Push guid) = 1
need (Not of) = need of
need (And left right) = max (need left) (1 + need right)
need (Or left right) = max (need left) (1 + need right)

-- opcodes: those of items, and END; the two below 0x02 are BEFORE and AFTER
abbrev pub opcode_of : Item → ℕ
opcode_of (items.Push guid) = 0x02
opcode_of items.And = 0x03
opcode_of items.Or = 0x04
opcode_of items.Not = 0x05
opcode_of items.True = 0x06
opcode_of items.False = 0x07

abbrev pub end_opcode : ℕ
end_opcode = 0x08

abbrev pub before_opcode : ℕ
before_opcode = 0x00

abbrev pub after_opcode : ℕ
after_opcode = 0x01

-- how many operands an item takes: an operator two or one, and else none
abbrev pub taken_by : Item → ℕ
taken_by (items.Push guid) = 0
taken_by items.And = 2
taken_by items.Or = 2
taken_by items.Not = 1
taken_by items.True = 0
taken_by items.False = 0

-- the bytes of an item: its opcode, and behind a PUSH the GUID
abbrev pub guid_of : Item → List ℕ
guid_of (items.Push guid) = guid.0
guid_of items.And = []
guid_of items.Or = []
guid_of items.Not = []
guid_of items.True = []
guid_of items.False = []

abbrev pub item_bytes : Item → List ℕ
item_bytes item = opcode_of item ∷ guid_of item

abbrev pub bytes_of : List Item → List ℕ
bytes_of all = flat_map item_bytes all

-- Each GUID of a tree has its 16 bytes.
abbrev pub HasGuids : Tree → Type 0
HasGuids True = Unit {0}
HasGuids False = Unit {0}
HasGuids (Push guid) = IsGuid guid
HasGuids (Not of) = HasGuids of
HasGuids (And left right) = HasGuids left × HasGuids right
HasGuids (Or left right) = HasGuids left × HasGuids right
