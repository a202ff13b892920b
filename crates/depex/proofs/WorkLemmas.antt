-- Items that are worked off one after another leave the truth of their tree.
use Rattle.std.proofs.Common.{◌≡◌, ℕ, ◌+◌, ◌-◌, Bool, true, false, not, ◌&&◌, ◌||◌, List, [], ◌∷◌, ◌++◌, length, refl, sym, ap, ◌∙◌, subst, arith}
use Rattle.mm_base.specs.declared.guid.Guid.{Guid}
use Rattle.depex.specs.declared.item.Item.{Item}
use Rattle.depex.specs.declared.item.Item.TheVariants as items
use Rattle.depex.specs.declared.expression.Kept.{Kept}
use Rattle.depex.specs.declared.expression.Kept.TheVariants as kepts
use Rattle.depex.specs.Trees.{Tree, True, False, Push, Not, And, Or, truth, postfix, taken_by}
use Rattle.depex.specs.Expressions.{Condition, Before, After}
use Rattle.depex.specs.Building.{tree_on-postfix}
use Rattle.depex.specs.Keeping.{expression_of, IsKept}
use Rattle.depex.specs.Meaning.{holds_on}
use Rattle.depex.specs.FindingInside.{MayStand}
use Rattle.depex.specs.WorkingInside.{AreItems, Works}
use Rattle.depex.proofs.CourseLemmas.{ItemsLead, tree_leads}

-- items lead from these truth values to those
abbrev pub Reaches : (Guid → Bool) → List Item → List Bool → List Bool → Type 0
Reaches has [] old new = old ≡ new
Reaches has (item ∷ all) old new = (mid : List Bool) × Works has item old mid × Reaches has all mid new

reaches-append : (has : Guid → Bool) (some others : List Item) (old mid new : List Bool) → Reaches has some old mid
    → Reaches has others mid new
    → Reaches has (some ++ others) old new
reaches-append has [] others old mid new to on =
    let P : List Bool → Type 0 = λ values. Reaches has others values new in
    subst P (sym to) on
reaches-append has (item ∷ some) others old mid new to on = (to.0, to.1, reaches-append has some others to.0 mid new to.2 on)

-- a tree puts its truth on top
tree_reaches : (has : Guid → Bool) (tree : Tree) (old : List Bool) → Reaches has (postfix tree) old (truth has tree ∷ old)
tree_reaches has True old = (true ∷ old, refl, refl)
tree_reaches has False old = (false ∷ old, refl, refl)
tree_reaches has (Push guid) old = (has guid ∷ old, refl, refl)
tree_reaches has (Not of) old =
    reaches-append has (postfix of) (items.Not ∷ []) old (truth has of ∷ old) (not (truth has of) ∷ old) (tree_reaches has of old)
    (not (truth has of) ∷ old, (truth has of, old, refl, refl), refl)
tree_reaches has (And left right) old =
    let a = truth has left in
    let b = truth has right in
    reaches-append has (postfix left) (postfix right ++ items.And ∷ []) old (a ∷ old) ((a && b) ∷ old) (tree_reaches has left old)
    (reaches-append has (postfix right) (items.And ∷ []) (a ∷ old) (b ∷ a ∷ old) ((a && b) ∷ old) (tree_reaches has right (a ∷ old))
    ((a && b) ∷ old, (a, b, old, refl, refl), refl))
tree_reaches has (Or left right) old =
    let a = truth has left in
    let b = truth has right in
    reaches-append has (postfix left) (postfix right ++ items.Or ∷ []) old (a ∷ old) ((a || b) ∷ old) (tree_reaches has left old)
    (reaches-append has (postfix right) (items.Or ∷ []) (a ∷ old) (b ∷ a ∷ old) ((a || b) ∷ old) (tree_reaches has right (a ∷ old))
    ((a || b) ∷ old, (a, b, old, refl, refl), refl))

-- what an item makes is one thing
one_work : (has : Guid → Bool) (item : Item) (old one other : List Bool) → Works has item old one
    → Works has item old other → one ≡ other
one_work has (items.Push guid) old one other a b = a ∙ sym b
one_work has items.True old one other a b = a ∙ sym b
one_work has items.False old one other a b = a ∙ sym b
one_work has items.Not old one other a b =
    let e : a.0 ∷ a.1 ≡ b.0 ∷ b.1 = sym a.2 ∙ b.2 in
    let of : a.0 ≡ b.0 = cc in
    let below : a.1 ≡ b.1 = cc in
    a.3 ∙ (λ i. not (of i) ∷ below i) ∙ sym b.3
one_work has items.And old one other a b =
    let e : a.1 ∷ a.0 ∷ a.2 ≡ b.1 ∷ b.0 ∷ b.2 = sym a.3 ∙ b.3 in
    let left : a.0 ≡ b.0 = cc in
    let right : a.1 ≡ b.1 = cc in
    let below : a.2 ≡ b.2 = cc in
    a.4 ∙ (λ i. (left i && right i) ∷ below i) ∙ sym b.4
one_work has items.Or old one other a b =
    let e : a.1 ∷ a.0 ∷ a.2 ≡ b.1 ∷ b.0 ∷ b.2 = sym a.3 ∙ b.3 in
    let left : a.0 ≡ b.0 = cc in
    let right : a.1 ≡ b.1 = cc in
    let below : a.2 ≡ b.2 = cc in
    a.4 ∙ (λ i. (left i || right i) ∷ below i) ∙ sym b.4

-- and how many values it leaves
works_many : (has : Guid → Bool) (item : Item) (old new : List Bool) → Works has item old new
    → length new ≡ length old - taken_by item + 1
works_many has (items.Push guid) old new works = omega (arith, ap length works)
works_many has items.True old new works = omega (arith, ap length works)
works_many has items.False old new works = omega (arith, ap length works)
works_many has items.Not old new works = omega (arith, ap length works.2, ap length works.3)
works_many has items.And old new works = omega (arith, ap length works.3, ap length works.4)
works_many has items.Or old new works = omega (arith, ap length works.3, ap length works.4)

-- how far the items of a condition are worked off: these are left, with these truth values so far
pub record Working (has : Guid → Bool) (all : List Item) (left : List Item) (values : List Bool) : Type 0 where
  pub leads : ItemsLead (length values) left 1
  pub reaches : (tree : Tree) → all ≡ postfix tree → Reaches has left values (truth has tree ∷ [])

pub working_none : (has : Guid → Bool) (all : List Item) → AreItems all → Working has all all []
working_none has all are =
    let P : List Item → Type 0 = λ all. ItemsLead 0 all 1 in
    record {
      leads = subst P (sym are.3) (tree_leads are.0 0 are.1 (omega (arith, are.2)));
      reaches = λ tree is.
          let Q : List Item → Type 0 = λ left. Reaches has left [] (truth has tree ∷ []) in
          subst Q (sym is) (tree_reaches has tree []);
    }

pub working_may : (has : Guid → Bool) (all : List Item) (item : Item) (left : List Item) (values : List Bool)
    → Working has all (item ∷ left) values
    → MayStand (length values) item
working_may has all item left values working = working.leads.0.may

pub working_more : (has : Guid → Bool) (all : List Item) (item : Item) (left : List Item) (values new : List Bool)
    → Working has all (item ∷ left) values
    → Works has item values new → Working has all left new
working_more has all item left values new working works =
    let P : ℕ → Type 0 = λ n. ItemsLead n left 1 in
    record {
      leads = subst P (sym (works_many has item values new works)) working.leads.1;
      reaches = λ tree is.
          let there = working.reaches tree is in
          let Q : List Bool → Type 0 = λ mid. Reaches has left mid (truth has tree ∷ []) in
          subst Q (one_work has item values there.0 new there.1 works) there.2;
    }

pub working_one : (has : Guid → Bool) (all : List Item) (values : List Bool) → Working has all [] values → length values ≡ 1
working_one has all values working = working.leads

pub working_all : (has : Guid → Bool) (all : List Item) (values : List Bool) (value : Bool) (below : List Bool)
    → Working has all [] values
    → values ≡ value ∷ below → (tree : Tree) → all ≡ postfix tree → value ≡ truth has tree
working_all has all values value below working is tree items =
    let e : value ∷ below ≡ truth has tree ∷ [] = sym is ∙ working.reaches tree items in
    cc

-- so the truth of its tree is that of the expression that is kept
pub held : (has : Guid → Bool) (kept : Kept) (all : List Item) (value : Bool) → IsKept kept → kept ≡ kepts.Items all
    → ((tree : Tree) → all ≡ postfix tree → value ≡ truth has tree) → value ≡ holds_on has (expression_of kept)
held has kept all value (Condition tree, sound, is) items truth_is =
    let e : kepts.Items all ≡ kepts.Items (postfix tree) = sym items ∙ is in
    let same : all ≡ postfix tree = cc in
    truth_is tree same ∙ ap (λ (t : Tree). truth has t) (sym (tree_on-postfix tree)) ∙ ap (λ (k : Kept). holds_on has (expression_of k)) (sym is)
held has kept all value (Before guid, sound, is) items truth_is = let e : kepts.Items all ≡ kepts.Before guid = sym items ∙ is in cc
held has kept all value (After guid, sound, is) items truth_is = let e : kepts.Items all ≡ kepts.After guid = sym items ∙ is in cc
