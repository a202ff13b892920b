-- Operands that stand one behind another, and one item more.
use Rattle.std.specs.Option.{is_some}
use Rattle.std.proofs.Common.{inl, inr, true, false, Option, Some, None, Result, Ok, Err, OnOk, length-drop, ◌≡◌, ℕ, suc, get_or, drop-cons, ◌+◌, ◌-◌, ◌<◌, ◌≤◌, List, [], ◌∷◌, ◌++◌, length, take, drop, refl, sym, ap, ◌∙◌, subst, append_assoc, length-append, arith}
use Rattle.std.proofs.lemmas.List.{append-nil, drop_at, take_all, take-append-drop}
use Rattle.std.proofs.lemmas.List.Concat.{flat_map-append}
use Rattle.depex.specs.declared.item.Item.{Item}
use Rattle.depex.specs.declared.item.Item.TheVariants as items
use Rattle.depex.specs.Trees.{Tree, True, False, Push, Not, And, Or, postfix, need, taken_by, guid_of, item_bytes, bytes_of, before_opcode, after_opcode, end_opcode}
use Rattle.mm_base.specs.declared.guid.Guid.{Guid}
use Rattle.mm_base.specs.declared.expression.DepexFault.{DepexFault}
use Rattle.depex.specs.WalkInside.{WalkState, IsNear, walk_of, bytes_left, walk_after, Gives}
use Rattle.std.proofs.lemmas.Bool.{cases_eq}
use Rattle.depex.specs.Expressions.{Condition, Before, After, IsExpression, BeginsExpression, items_of, AreOperands, StandsBehind, StopsAt, HasFaultInside}
use Rattle.depex.specs.FindingInside.{IsWhole, MayStand, FindsItem, EndsAt, IsCondition, IsName, BeginsName}

-- the bytes of items and one more
pub bytes_of-push : (some : List Item) (item : Item) → bytes_of (some ++ item ∷ []) ≡ bytes_of some ++ item_bytes item
bytes_of-push some item = flat_map-append item_bytes some (item ∷ []) ∙ ap (λ (bytes : List ℕ). bytes_of some ++ bytes) (append-nil (item_bytes item))

-- what the operands are behind one more item
record Regrown (operands : List Tree) (item : Item) : Type 0 where
  pub to : List Tree
  pub items : items_of to ≡ items_of operands ++ item ∷ []
  pub are : AreOperands to
  pub count : length to ≡ length operands - taken_by item + 1

regrown : (operands : List Tree) (item : Item) → AreOperands operands → IsWhole item → MayStand (length operands) item
    → Regrown operands item
regrown operands (items.Push guid) are whole may =
    record { to = Push guid ∷ operands; items = refl; are = (whole, omega (arith, may.room refl), are); count = omega arith }
regrown operands items.True are whole may =
    record { to = True ∷ operands; items = refl; are = (tt, omega (arith, may.room refl), are); count = omega arith }
regrown operands items.False are whole may =
    record { to = False ∷ operands; items = refl; are = (tt, omega (arith, may.room refl), are); count = omega arith }
regrown [] items.Not are whole may = absurd (omega (arith, may.enough))
regrown (of ∷ before) items.Not are whole may = record {
  to = Not of ∷ before;
  items = sym (append_assoc (items_of before) (postfix of) (items.Not ∷ []));
  are = are;
  count = omega arith;
}
regrown [] items.And are whole may = absurd (omega (arith, may.enough))
regrown (right ∷ []) items.And are whole may = absurd (omega (arith, may.enough))
regrown (right ∷ left ∷ before) items.And are whole may = record {
  to = And left right ∷ before;
  items = sym (append_assoc (items_of before ++ postfix left) (postfix right) (items.And ∷ []) ∙ append_assoc (items_of before) (postfix left) (postfix right ++ items.And ∷ []));
  are = ((are.2.0, are.0), omega (arith, are.1, are.2.1), are.2.2);
  count = omega arith;
}
regrown [] items.Or are whole may = absurd (omega (arith, may.enough))
regrown (right ∷ []) items.Or are whole may = absurd (omega (arith, may.enough))
regrown (right ∷ left ∷ before) items.Or are whole may = record {
  to = Or left right ∷ before;
  items = sym (append_assoc (items_of before ++ postfix left) (postfix right) (items.Or ∷ []) ∙ append_assoc (items_of before) (postfix left) (postfix right ++ items.Or ∷ []));
  are = ((are.2.0, are.0), omega (arith, are.1, are.2.1), are.2.2);
  count = omega arith;
}

-- and where they then stand
pub record Grown (bytes : List ℕ) (operands : List Tree) (at : ℕ) (item : Item) (behind : List ℕ) : Type 0 where
  pub to : List Tree
  pub stands : StandsBehind bytes to (at + (1 + length (guid_of item))) behind
  pub items : items_of to ≡ items_of operands ++ item ∷ []
  pub count : length to ≡ length operands - taken_by item + 1

pub stand_more : (bytes : List ℕ) (operands : List Tree) (at : ℕ) (there : List ℕ) (item : Item)
    → StandsBehind bytes operands at there → (found : FindsItem (length operands) there item) → Grown bytes operands at item found.behind
stand_more bytes operands at there item stands found =
    let more = regrown operands item stands.are found.whole found.may in
    let front : List ℕ = bytes_of (items_of operands) in
    let fronts : bytes_of (items_of more.to) ≡ front ++ item_bytes item = ap bytes_of more.items ∙ bytes_of-push (items_of operands) item in
    record {
      to = more.to;
      stands = record {
        begins = stands.begins ∙ ap (λ (xs : List ℕ). front ++ xs) found.begins ∙ sym (append_assoc front (item_bytes item) found.behind)
            ∙ ap (λ (xs : List ℕ). xs ++ found.behind) (sym fronts);
        place = omega (arith, stands.place, length-append front (item_bytes item), ap length fronts);
        are = more.are;
      };
      items = more.items;
      count = more.count;
    }

-- what stands at a place is the rest of the bytes
pub there_is : (bytes : List ℕ) (operands : List Tree) (at : ℕ) (there : List ℕ) → StandsBehind bytes operands at there
    → drop at bytes ≡ there
there_is bytes operands at there stands =
    ap (λ (xs : List ℕ). drop at xs) stands.begins ∙ drop_at (bytes_of (items_of operands)) there at (sym stands.place)

-- no more operands than there is room for
pub few_operands : (operands : List Tree) → AreOperands operands → length operands ≤ 256
few_operands [] are = omega arith
few_operands (tree ∷ before) are = omega (arith, are.1, some_need tree)
  where
    some_need : (tree : Tree) → 1 ≤ need tree
    some_need True = omega arith
    some_need False = omega arith
    some_need (Push guid) = omega arith
    some_need (Not of) = some_need of
    some_need (And left right) = omega (arith, some_need left)
    some_need (Or left right) = omega (arith, some_need left)

-- END behind one operand ends an expression
pub ends_condition : (bytes : List ℕ) (operands : List Tree) (at : ℕ) (there : List ℕ) → StandsBehind bytes operands at there
    → EndsAt (length operands) there → IsCondition bytes (items_of operands)
ends_condition bytes operands at [] stands ends = absurd ends
ends_condition bytes [] at (opcode ∷ behind) stands ends = absurd (omega (arith, ends.1))
ends_condition bytes (left ∷ right ∷ before) at (opcode ∷ behind) stands ends = absurd (omega (arith, ends.1))
ends_condition bytes (tree ∷ []) at (opcode ∷ behind) stands ends =
    let front : List ℕ = bytes_of (postfix tree) in (
      tree,
      record {
        behind = behind;
        begins = stands.begins ∙ ap (λ (end : ℕ). front ++ end ∷ behind) ends.0 ∙ sym (append_assoc front (end_opcode ∷ []) behind);
        sound = (stands.are.0, omega (arith, stands.are.1));
      },
      refl,
    )

-- how far a walk has come: over these items, which are those of whole operands
pub record Walked (read : List Item) (walk : WalkState) : Type 0 where
  pub trees : List Tree
  pub stands : StandsBehind walk.bytes trees walk.at (bytes_left walk)
  pub items : read ≡ items_of trees
  pub many : walk.operands ≡ length trees

pub walked_none : (bytes : List ℕ) → Walked [] (walk_of bytes)
walked_none bytes = record { trees = []; stands = record { begins = refl; place = refl; are = tt }; items = refl; many = refl }

pub walked_more : (read : List Item) (walk : WalkState) (item : Item) → Walked read walk
    → FindsItem walk.operands (bytes_left walk) item → Walked (read ++ item ∷ []) (walk_after walk item)
walked_more read walk item walked found =
    let P : ℕ → Type 0 = λ count. FindsItem count (bytes_left walk) item in
    let grown = stand_more walk.bytes walked.trees walk.at (bytes_left walk) item walked.stands (subst P walked.many found) in
    let next : ℕ = walk.at + (1 + length (guid_of item)) in
    let Q : List ℕ → Type 0 = λ there. StandsBehind walk.bytes grown.to next there in
    record {
      trees = grown.to;
      stands = subst Q (sym (there_is walk.bytes grown.to next _ grown.stands)) grown.stands;
      items = ap (λ (all : List Item). all ++ item ∷ []) walked.items ∙ sym grown.items;
      many = omega (arith, walked.many, grown.count);
    }

pub walked_ends : (read : List Item) (walk : WalkState) → Walked read walk → EndsAt walk.operands (bytes_left walk) → IsCondition walk.bytes read
walked_ends read walk walked ends =
    let P : ℕ → Type 0 = λ count. EndsAt count (bytes_left walk) in
    let Q : List Item → Type 0 = λ read. IsCondition walk.bytes read in
    subst Q (sym walked.items) (ends_condition walk.bytes walked.trees walk.at (bytes_left walk) walked.stands (subst P walked.many ends))

pub walked_stops : (read : List Item) (walk : WalkState) (fault : DepexFault) → Walked read walk
    → StopsAt walk.operands walk.at (bytes_left walk) fault → HasFaultInside walk.bytes fault
walked_stops read walk fault walked stops =
    let P : ℕ → Type 0 = λ count. StopsAt count walk.at (bytes_left walk) fault in
    record { operands = walked.trees; at = walk.at; there = bytes_left walk; stands = walked.stands; stops = subst P walked.many stops }

-- what a walk gives
module _ (bytes : List ℕ) (walk after : WalkState) (read : List Item) (item : Item) (given : Option Item) (same : walk.bytes ≡ bytes)
    (walked : Walked read walk) (gives : Gives walk (Ok given) after) where
  pub takes_more : given ≡ Some item → (after.bytes ≡ bytes) × Walked (read ++ item ∷ []) after
  takes_more is =
      let P : Option Item → Type 0 = λ given. Gives walk (Ok given) after in
      let there : Gives walk (Ok (Some item)) after = subst P is gives in (
        ap (λ (w : WalkState). w.bytes) there.1 ∙ same,
        subst (Walked (read ++ item ∷ [])) (sym there.1) (walked_more read walk item walked there.0),
      )

module _ (bytes : List ℕ) (walk after : WalkState) (read : List Item) (given : Option Item) (same : walk.bytes ≡ bytes)
    (walked : Walked read walk) (gives : Gives walk (Ok given) after) where
  pub ends_at : given ≡ None → IsCondition bytes read
  ends_at is =
      let P : Option Item → Type 0 = λ given. Gives walk (Ok given) after in
      let Q : List ℕ → Type 0 = λ bytes. IsCondition bytes read in
      let there : Gives walk (Ok None) after = subst P is gives in
      subst Q same (walked_ends read walk walked there.0)

-- a walk that has come somewhere
pub record Underway (walk : WalkState) : Type 0 where
  pub read : List Item
  pub walked : Walked read walk

pub underway_none : (bytes : List ℕ) → Underway (walk_of bytes)
underway_none bytes = record { read = []; walked = walked_none bytes }

-- whether it gives one more item tells whether it goes on
module _ (bytes : List ℕ) (walk after : WalkState) (same : walk.bytes ≡ bytes) (under : Underway walk) where
  same_bytes : (item : Item) → after ≡ walk_after walk item → after.bytes ≡ bytes
  same_bytes item is = ap (λ (w : WalkState). w.bytes) is ∙ same

  pub goes_on : (given : Option Item) → is_some given ≡ true → Gives walk (Ok given) after → (after.bytes ≡ bytes) × Underway after
  goes_on None is gives = let wrong : false ≡ true = is in cc
  goes_on (Some item) is gives = (
    same_bytes item gives.1,
    subst Underway (sym gives.1) (record { read = under.read ++ item ∷ []; walked = walked_more under.read walk item under.walked gives.0 }),
  )

  pub comes_to_end : (given : Option Item) → is_some given ≡ false → Gives walk (Ok given) after → BeginsExpression bytes
  comes_to_end None is gives =
      let condition = walked_ends under.read walk under.walked gives.0 in
      subst BeginsExpression same (Condition condition.0, condition.1)
  comes_to_end (Some item) is gives = let wrong : true ≡ false = is in cc

-- an item lies in the bytes
pub item_within : (walk : WalkState) (item : Item) → FindsItem walk.operands (bytes_left walk) item
    → walk.at + (1 + length (guid_of item)) ≤ length walk.bytes
item_within walk item found =
    omega (arith, ap length found.begins, length-drop walk.at walk.bytes, length-append (item_bytes item) found.behind)

-- the numbers of a walk stay small
pub near_more : (bytes : List ℕ) (at count : ℕ) (item : Item) (takes len : ℕ) → IsNear bytes at count → FindsItem count (drop at bytes) item
    → takes ≡ taken_by item → len ≡ 1 + length (guid_of item) → IsNear bytes (at + len) (count - takes + 1)
near_more bytes at count item takes len near found taken long = record {
  few = near.few;
  first = near.first;
  within = omega (arith, item_within (record { bytes = bytes; at = at; operands = count }) item found, long);
  room = elim (cases_eq takes 0) [
    | inl none ↦ omega (arith, found.may.room (sym taken ∙ none))
    | inr some ↦ omega (arith, found.may.enough, near.room, taken)
  ];
  none = λ e. absurd (omega arith);
}

-- where no operand stands is the first place
pub none_first : (operands : List Tree) (at : ℕ) → length operands ≡ 0 → at ≡ length (bytes_of (items_of operands)) → at ≡ 0
none_first [] at none place = place
none_first (_ ∷ before) at none place = absurd (omega (arith, none))

-- ---- names of drivers

-- bytes that have a GUID and END in front
pub name_is : (behind name : List ℕ) → name ≡ take 16 behind → 16 < length behind → get_or behind 16 0 ≡ end_opcode
    → behind ≡ name ++ end_opcode ∷ drop 17 behind
name_is behind name front long end =
    let rest : drop 16 behind ≡ end_opcode ∷ drop 17 behind = drop-cons behind 16 0 long ∙ ap (λ (opcode : ℕ). opcode ∷ drop 17 behind) end in
    sym (take-append-drop 16 behind) ∙ (λ i. sym front i ++ rest i)

-- bytes with a first opcode
pub opcode_and_rest : (bytes : List ℕ) (opcode : ℕ) → 1 ≤ length bytes → get_or bytes 0 0 ≡ opcode
    → bytes ≡ opcode ∷ take (length bytes - 1) (drop 1 bytes)
opcode_and_rest [] opcode some is = absurd (omega arith)
opcode_and_rest (first ∷ bytes) opcode some is =
    let all : take (suc (length bytes) - 1) bytes ≡ bytes = take_all (suc (length bytes) - 1) bytes (omega arith) in
    λ i. is i ∷ sym all i

-- so BEFORE and AFTER are read
pub before_is : (bytes behind : List ℕ) (guid : Guid) → bytes ≡ before_opcode ∷ behind → IsName behind guid
    → IsExpression bytes (Before guid)
before_is bytes behind guid first name = record {
  behind = name.rest;
  begins = first ∙ ap (λ (xs : List ℕ). before_opcode ∷ xs) (name.begins ∙ sym (append_assoc guid.0 (end_opcode ∷ []) name.rest));
  sound = name.whole;
}

pub after_is : (bytes behind : List ℕ) (guid : Guid) → bytes ≡ after_opcode ∷ behind → IsName behind guid
    → IsExpression bytes (After guid)
after_is bytes behind guid first name = record {
  behind = name.rest;
  begins = first ∙ ap (λ (xs : List ℕ). after_opcode ∷ xs) (name.begins ∙ sym (append_assoc guid.0 (end_opcode ∷ []) name.rest));
  sound = name.whole;
}

-- a name after BEFORE or AFTER is an expression
pub begins_before : (bytes behind : List ℕ) (result : Result (Unit {0}) DepexFault) → bytes ≡ before_opcode ∷ behind
    → OnOk result (BeginsName behind) → OnOk result (BeginsExpression bytes)
begins_before bytes behind (Ok done) first name = (Before name.0, before_is bytes behind name.0 first name.1)
begins_before bytes behind (Err fault) first name = tt

pub begins_after : (bytes behind : List ℕ) (result : Result (Unit {0}) DepexFault) → bytes ≡ after_opcode ∷ behind
    → OnOk result (BeginsName behind) → OnOk result (BeginsExpression bytes)
begins_after bytes behind (Ok done) first name = (After name.0, after_is bytes behind name.0 first name.1)
begins_after bytes behind (Err fault) first name = tt
