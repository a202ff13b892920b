-- No public clause cites this file.
-- How items are worked off, on truth values that lie on top of one another.
use Rattle.std.specs.Prelude.{◌≡◌, ◌≤◌, Bool, true, false, not, ◌&&◌, ◌||◌, List, ◌∷◌}
use Rattle.mm_base.specs.declared.guid.Guid.{Guid}
use Rattle.depex.specs.declared.item.Item.{Item}
use Rattle.depex.specs.declared.item.Item.TheVariants as items
use Rattle.depex.specs.Trees.{Tree, postfix, need, HasGuids}

-- They are the items of a tree with whole GUIDs, which needs at most 256 operands at once.
abbrev pub AreItems : List Item → Type 0
AreItems all = (tree : Tree) × HasGuids tree × (need tree ≤ 256) × (all ≡ postfix tree)

-- An item makes these truth values of those, where this tells which GUIDs are installed; the value on top is the first.
abbrev pub Works : (Guid → Bool) → Item → List Bool → List Bool → Type 0
Works has (items.Push guid) old new = new ≡ has guid ∷ old
Works has items.True old new = new ≡ true ∷ old
Works has items.False old new = new ≡ false ∷ old
Works has items.Not old new = (of : Bool) × (below : List Bool) × (old ≡ of ∷ below) × (new ≡ not of ∷ below)
Works has items.And old new =
    (left right : Bool) × (below : List Bool) × (old ≡ right ∷ left ∷ below) × (new ≡ (left && right) ∷ below)
Works has items.Or old new =
    (left right : Bool) × (below : List Bool) × (old ≡ right ∷ left ∷ below) × (new ≡ (left || right) ∷ below)
