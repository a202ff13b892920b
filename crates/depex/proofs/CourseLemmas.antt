-- Items one after another, as a number of operands grows and shrinks over them; two courses over the same bytes are one.
use Rattle.std.proofs.Common.{◌≡◌, ℕ, suc, ◌+◌, ◌-◌, ◌≤◌, List, [], ◌∷◌, ◌++◌, length, drop, refl, sym, ap, ◌∙◌, subst, append_assoc, arith}
use Rattle.std.proofs.lemmas.List.{append-nil, drop_at}
use Rattle.courses.specs.Courses.{Leads}
use Rattle.courses.proofs.CourseLemmas.{leads-append}
use Rattle.depex.specs.declared.item.Item.{Item}
use Rattle.depex.specs.declared.item.Item.TheVariants as items
use Rattle.depex.specs.declared.found.Found.{Found}
use Rattle.depex.specs.declared.found.Found.TheVariants.{End, Next, Refused}
use Rattle.depex.specs.Trees.{Tree, True, False, Push, Not, And, Or, postfix, need, taken_by, item_bytes, bytes_of, HasGuids}
use Rattle.depex.specs.Expressions.{items_of, AreOperands}
use Rattle.depex.specs.FindingInside.{IsWhole, MayStand, FindsItem}
use Rattle.depex.specs.Building.{negated, joined, built, tree_on, built-postfix}
use Rattle.depex.proofs.SightLemmas.{sight, next_seen}

-- ---- courses, by the number of operands

-- an item may stand after so many operands, and is whole
pub record Follows (n : ℕ) (item : Item) : Type 0 where
  pub may : MayStand n item
  pub whole : IsWhole item

-- so many there are after it
abbrev pub counted : ℕ → Item → ℕ
counted n item = n - taken_by item + 1

-- items lead from so many operands to so many
abbrev pub ItemsLead : ℕ → List Item → ℕ → Type 0
ItemsLead n items m = Leads Follows counted n items m

one_after_another : (n : ℕ) (some others : List Item) (m k : ℕ) → ItemsLead n some m → ItemsLead m others k → ItemsLead n (some ++ others) k
one_after_another n some others m k to on = leads-append Follows counted n some others m k to on

-- one item, to a number that is given
one_leads : (n : ℕ) (item : Item) (m : ℕ) → Follows n item → n - taken_by item + 1 ≡ m → ItemsLead n (item ∷ []) m
one_leads n item m follows is = (follows, is)

-- a tree leads to one operand more
pub tree_leads : (tree : Tree) (n : ℕ) → HasGuids tree → n + need tree ≤ 256 → ItemsLead n (postfix tree) (suc n)
tree_leads True n whole room =
    one_leads n items.True (suc n) (record { may = record { enough = omega arith; room = λ _. omega arith }; whole = tt }) (omega arith)
tree_leads False n whole room =
    one_leads n items.False (suc n) (record { may = record { enough = omega arith; room = λ _. omega arith }; whole = tt }) (omega arith)
tree_leads (Push guid) n whole room =
    one_leads n (items.Push guid) (suc n) (record { may = record { enough = omega arith; room = λ _. omega arith }; whole = whole }) (omega arith)
tree_leads (Not of) n whole room =
    one_after_another n (postfix of) (items.Not ∷ []) (suc n) (suc n) (tree_leads of n whole room)
    (one_leads (suc n) items.Not (suc n) (record { may = record { enough = omega arith; room = λ e. absurd (omega arith) }; whole = tt }) (omega arith))
tree_leads (And left right) n whole room =
    one_after_another n (postfix left) (postfix right ++ items.And ∷ []) (suc n) (suc n) (tree_leads left n whole.0 (omega arith))
    (one_after_another (suc n) (postfix right) (items.And ∷ []) (suc (suc n)) (suc n) (tree_leads right (suc n) whole.1 (omega arith))
    (one_leads (suc (suc n)) items.And (suc n) (record { may = record { enough = omega arith; room = λ e. absurd (omega arith) }; whole = tt }) (omega arith)))
tree_leads (Or left right) n whole room =
    one_after_another n (postfix left) (postfix right ++ items.Or ∷ []) (suc n) (suc n) (tree_leads left n whole.0 (omega arith))
    (one_after_another (suc n) (postfix right) (items.Or ∷ []) (suc (suc n)) (suc n) (tree_leads right (suc n) whole.1 (omega arith))
    (one_leads (suc (suc n)) items.Or (suc n) (record { may = record { enough = omega arith; room = λ e. absurd (omega arith) }; whole = tt }) (omega arith)))

pub operands_lead : (operands : List Tree) → AreOperands operands → ItemsLead 0 (items_of operands) (length operands)
operands_lead [] are = refl
operands_lead (tree ∷ before) are =
    one_after_another 0 (items_of before) (postfix tree) (length before) (suc (length before)) (operands_lead before are.2) (tree_leads tree (length before) are.0 are.1)

-- ---- courses, by the operands and the bytes

-- a place: so many operands stand in front of it, and the bytes go on so
abbrev pub Place : Type 0
Place = ℕ × List ℕ

-- an item is found there
abbrev pub StandsIn : Place → Item → Type 0
StandsIn place item = FindsItem place.0 place.1 item

-- and the place after it
abbrev pub after_item : Place → Item → Place
after_item place item = (counted place.0 item, drop (length (item_bytes item)) place.1)

-- no item is found there
abbrev pub Stops : Place → Type 0
Stops place = (item : Item) → StandsIn place item → ⊥

-- items that lead by their number lead over their bytes
pub in_bytes : (n : ℕ) (all : List Item) (m : ℕ) (there : List ℕ) → ItemsLead n all m
    → Leads StandsIn after_item (n, bytes_of all ++ there) all (m, there)
in_bytes n [] m there leads = λ i. (leads i, there)
in_bytes n (item ∷ all) m there leads =
    let front : bytes_of (item ∷ all) ++ there ≡ item_bytes item ++ (bytes_of all ++ there) = append_assoc (item_bytes item) (bytes_of all) there in
    let rest : drop (length (item_bytes item)) (bytes_of (item ∷ all) ++ there) ≡ bytes_of all ++ there =
    ap (λ (bytes : List ℕ). drop (length (item_bytes item)) bytes) front ∙ drop_at (item_bytes item) (bytes_of all ++ there) (length (item_bytes item)) refl in
    let P : List ℕ → Type 0 = λ bytes. Leads StandsIn after_item (counted n item, bytes) all (m, there) in (
      record { behind = bytes_of all ++ there; begins = front; whole = leads.0.whole; may = leads.0.may },
      subst P (sym rest) (in_bytes (counted n item) all m there leads.1),
    )

-- one item is found at a place
pub one_item : (place : Place) (one other : Item) → StandsIn place one → StandsIn place other → one ≡ other
one_item place one other a b =
    let e : Next one ≡ Next other = sym (next_seen place.0 0 place.1 one a) ∙ next_seen place.0 0 place.1 other b in
    cc

-- An item isn't where a course ends.
abbrev pub IsStop : Found → Type 0
IsStop End = Unit {0}
IsStop (Refused fault) = Unit {0}
IsStop (Next item) = ⊥

-- where something else is seen none is found
pub no_item : (n at : ℕ) (there : List ℕ) (stop : Found) → sight n at there ≡ stop → IsStop stop → Stops (n, there)
no_item n at there stop seen stops item stands =
    let e : stop ≡ Next item = sym seen ∙ next_seen n at there item stands in
    subst IsStop e stops

-- ---- the tree that items are those of

built-append : (some others : List Item) (operands : List Tree)
    → built (some ++ others) operands ≡ built others (built some operands)
built-append [] others operands = refl
built-append (items.Push guid ∷ some) others operands = built-append some others (Push guid ∷ operands)
built-append (items.True ∷ some) others operands = built-append some others (True ∷ operands)
built-append (items.False ∷ some) others operands = built-append some others (False ∷ operands)
built-append (items.Not ∷ some) others operands = built-append some others (negated operands)
built-append (items.And ∷ some) others operands = built-append some others (joined And operands)
built-append (items.Or ∷ some) others operands = built-append some others (joined Or operands)

-- the tree whose items end a list
tree_at_end : (some : List Item) (tree : Tree) → tree_on (built (some ++ postfix tree) []) ≡ tree
tree_at_end some tree =
    let below : List Tree = built some [] in
    ap (λ (operands : List Tree). tree_on operands)
    (built-append some (postfix tree) [] ∙ ap (λ (all : List Item). built all below) (sym (append-nil (postfix tree))) ∙ built-postfix tree [] below)

pub one_tree : (some others : List Item) (one other : Tree) → some ++ postfix one ≡ others ++ postfix other → one ≡ other
one_tree some others one other same =
    sym (tree_at_end some one) ∙ ap (λ (all : List Item). tree_on (built all [])) same ∙ tree_at_end others other
