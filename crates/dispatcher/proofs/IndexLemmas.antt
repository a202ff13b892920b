-- What an index tells after a member was added.
use Rattle.std.proofs.Common.{◌≡◌, ℕ, Bool, true, false, cond, List, [], ◌∷◌, ◌++◌, Option, Some, None, Vec, BTreeMap, refl, sym, ap, ◌∙◌}
use Rattle.std.specs.Ordering.{nat_cmp}
use Rattle.std.specs.Cmp.Lexicographic.{slice_cmp}
use Rattle.std.specs.BTreeMap as tree
use Rattle.std.specs.declared.alloc.Global.{Global}
use Rattle.std.proofs.lemmas.Map.Text.{is_eq-slice_cmp}
use Rattle.mm_base.specs.Guid.{same_guid}
use Rattle.mm_base.specs.declared.guid.Guid.{Guid}
use Rattle.dispatcher.specs.IndexInside.{items_of, with_member}
use Rattle.dispatcher.specs.declared.driver.Member.{Member}
use Rattle.dispatcher.proofs.NameLemmas.{same_is}

abbrev Lists : Type 0
Lists = BTreeMap (List ℕ) (Vec Member Global)

abbrev lookup : Lists → List ℕ → Option (Vec Member Global)
lookup lists key = tree.get (slice_cmp nat_cmp) lists key

-- a list that was taken out, made longer and put back
pub added : (old mid new : Lists) (name : Guid) (member : Member) (list pushed : Vec Member Global)
    → ((key : List ℕ) → lookup mid key ≡ cond (tree.is_at (slice_cmp nat_cmp name.0) key) None (lookup old key))
    → ((key : List ℕ) → lookup new key ≡ cond (tree.is_at (slice_cmp nat_cmp name.0) key) (Some pushed) (lookup mid key))
    → list.items ≡ items_of (lookup old name.0)
    → pushed.items ≡ list.items ++ member ∷ []
    → (other : Guid)
    → items_of (lookup new other.0) ≡ with_member name member other (items_of (lookup old other.0))
added old mid new name member list pushed taken put was longer other =
    by_name (same_guid name other) refl
  where
    by_name : (b : Bool) → same_guid name other ≡ b → items_of (lookup new other.0) ≡ with_member name member other (items_of (lookup old other.0))
    by_name true same =
        ap items_of (put other.0 ∙ ap (λ b. cond b (Some pushed) (lookup mid other.0)) (is_eq-slice_cmp name.0 other.0 ∙ same))
        ∙ (longer
        ∙ (ap (λ some. some ++ member ∷ []) (was ∙ ap (λ (key : Guid). items_of (lookup old key.0)) (same_is name other same))
        ∙ sym (ap (λ b. cond b (items_of (lookup old other.0) ++ member ∷ []) (items_of (lookup old other.0))) same)))
    by_name false apart =
        ap items_of
        (put other.0
        ∙ (ap (λ b. cond b (Some pushed) (lookup mid other.0)) (is_eq-slice_cmp name.0 other.0 ∙ apart)
        ∙ (taken other.0 ∙ ap (λ b. cond b None (lookup old other.0)) (is_eq-slice_cmp name.0 other.0 ∙ apart))))
        ∙ sym (ap (λ b. cond b (items_of (lookup old other.0) ++ member ∷ []) (items_of (lookup old other.0))) apart)
