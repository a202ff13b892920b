-- Expressions as numbers, by which proofs tell them apart.
use Rattle.std.specs.Prelude.{◌≡◌, ℕ, zero, suc, List, [], ◌∷◌, map, refl}
use Rattle.std.specs.Coded.{Coded, code_by, coded×, coded_ℕ, coded_list}
use Rattle.std.proofs.Common.{ap, ◌∙◌}
use Rattle.mm_base.specs.declared.guid.Guid.{Guid}
use Rattle.depex.specs.declared.item.Item.{Item}
use Rattle.depex.specs.declared.item.Item.TheVariants as items
use Rattle.depex.specs.Trees.{Tree, postfix, opcode_of, guid_of}
use Rattle.depex.specs.Building.{built, tree_on, tree_on-postfix}
use Rattle.depex.specs.Expressions.{Expression, Condition, Before, After}

-- an item as its opcode and its GUID, and back
abbrev pub number_of : Item → ℕ × List ℕ
number_of item = (opcode_of item, guid_of item)

abbrev pub item_with : List ℕ → ℕ → Item
item_with guid zero = items.False
item_with guid (suc zero) = items.False
item_with guid (suc (suc zero)) = items.Push (record { 0 = guid })
item_with guid (suc (suc (suc zero))) = items.And
item_with guid (suc (suc (suc (suc zero)))) = items.Or
item_with guid (suc (suc (suc (suc (suc zero))))) = items.Not
item_with guid (suc (suc (suc (suc (suc (suc zero)))))) = items.True
item_with guid (suc (suc (suc (suc (suc (suc (suc opcode))))))) = items.False

abbrev pub item_of : ℕ × List ℕ → Item
item_of number = item_with number.1 number.0

pub item_back : (item : Item) → item_of (number_of item) ≡ item
item_back (items.Push guid) = refl
item_back items.And = refl
item_back items.Or = refl
item_back items.Not = refl
item_back items.True = refl
item_back items.False = refl

pub items_back : (all : List Item) → map item_of (map number_of all) ≡ all
items_back [] = refl
items_back (item ∷ all) = λ i. item_back item i ∷ items_back all i

-- an expression as a number of its kind and its items, and back
abbrev pub numbers_of : Expression → ℕ × List (ℕ × List ℕ)
numbers_of (Condition tree) = (0, map number_of (postfix tree))
numbers_of (Before guid) = (1, (0, guid.0) ∷ [])
numbers_of (After guid) = (2, (0, guid.0) ∷ [])

abbrev pub guid_in : List (ℕ × List ℕ) → Guid
guid_in [] = record { 0 = [] }
guid_in (number ∷ numbers) = record { 0 = number.1 }

abbrev pub expression_with : List (ℕ × List ℕ) → ℕ → Expression
expression_with numbers zero = Condition (tree_on (built (map item_of numbers) []))
expression_with numbers (suc zero) = Before (guid_in numbers)
expression_with numbers (suc (suc kind)) = After (guid_in numbers)

abbrev pub expression_in : ℕ × List (ℕ × List ℕ) → Expression
expression_in numbers = expression_with numbers.1 numbers.0

pub expression_back : (expression : Expression) → expression_in (numbers_of expression) ≡ expression
expression_back (Condition tree) =
    ap (λ (all : List Item). Condition (tree_on (built all []))) (items_back (postfix tree))
    ∙ ap (λ (t : Tree). Condition t) (tree_on-postfix tree)
expression_back (Before guid) = refl
expression_back (After guid) = refl

abbrev pub expression_code : Coded Expression
expression_code =
    code_by (ℕ × List (ℕ × List ℕ)) (coded× coded_ℕ (coded_list (coded× coded_ℕ (coded_list coded_ℕ))))
    numbers_of expression_in expression_back
