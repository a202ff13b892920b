-- What passes is within reach, unit by unit; and images that are there, one of which passes a test.
use Rattle.std.proofs.Common.{◌≡◌, ℕ, zero, suc, ◌+◌, ◌<◌, ◌≤◌, Bool, true, length, List, [], ◌∷◌, refl, ap, ◌∙◌, inl, inr, arith}
use Rattle.std.specs.Prelude.{◌||◌}
use Rattle.std.specs.List.{list_any, range_with_len}
use Rattle.std.proofs.lemmas.Bool.{and_from, cases_eq, or_cases, or_left, or_right}
use Rattle.mm_base.specs.declared.access.Kind.{Kind}
use Rattle.mm_base.specs.declared.access.Right.{Right}
use Rattle.mm_base.specs.declared.access.Right.TheVariants.{Read, Write, Execute}
use Rattle.secure_policy.specs.Laws.{passes}
use Rattle.secure_policy.specs.Verdicts.{verdict_on}
use Rattle.supervisor_calls.specs.Accesses.{decided}
use Rattle.supervisor_calls.specs.Tables.{Site}
use Rattle.supervisor_calls.proofs.LawLemmas.{passes_at_each_unit}
use Rattle.image_groups.specs.Groups.{Group, granted, is_register_granted, some_image}
use Rattle.image_groups.specs.Laws.{PassesWithinReach}
use Rattle.image_groups.specs.Reach.{reach, is_register_read}

-- no verdict looks at the trapped access
pub whatever_trapped : (site : Site) (image : ℕ) (kind : Kind) (base n : ℕ) (right : Right) (trapped other : ℕ)
    → decided site image kind base n right trapped ≡ decided site image kind base n right other
unfolding decided verdict_on
whatever_trapped site image kind base n right trapped other = refl

pub passes_within_reach : PassesWithinReach
unfolding reach
passes_within_reach site image kind base n right trapped unit is not_saved has pass =
    ap passes (whatever_trapped site image kind unit 1 right 0 trapped)
    ∙ passes_at_each_unit site image kind base n right trapped unit is has pass

-- ---- images that are there

any_between : (test : ℕ → Bool) (count first k : ℕ) → first ≤ k → k < first + count → test k ≡ true
    → list_any test (range_with_len first count) ≡ true
any_between test zero first k from to passed = absurd (omega arith)
any_between test (suc count) first k from to passed = elim (cases_eq first k) [
  | inl same ↦ or_left (test first) (list_any test (range_with_len (first + 1) count)) (ap test same ∙ passed)
  | inr other ↦
      or_right (test first) (list_any test (range_with_len (first + 1) count))
      (any_between test count (first + 1) k (omega arith) (omega arith) passed)
]

-- one that passes a test
pub some_image-from : (site : Site) (test : ℕ → Bool) (image : ℕ) → image < length site.images → test image ≡ true
    → some_image site test ≡ true
some_image-from site test image there passed = any_between test (length site.images) 0 image (omega arith) (omega arith) passed

-- a number below a count that passes a test
pub record Passing (test : ℕ → Bool) (count : ℕ) : Type 0 where
  pub number : ℕ
  pub there : number < count
  pub passed : test number ≡ true

passing_between : (test : ℕ → Bool) (count first : ℕ) → list_any test (range_with_len first count) ≡ true → Passing test (first + count)
passing_between test zero first any = absurd cc
passing_between test (suc count) first any = elim (or_cases (test first) (list_any test (range_with_len (first + 1) count)) any) [
  | inl here ↦ record { number = first; there = omega arith; passed = here }
  | inr later ↦
      let found = passing_between test count (first + 1) later in
      let within = found.there in
      record { number = found.number; there = omega arith; passed = found.passed }
]

pub image-from_some : (site : Site) (test : ℕ → Bool) → some_image site test ≡ true → Passing test (length site.images)
image-from_some site test any =
    let found = passing_between test (length site.images) 0 any in
    let within = found.there in
    record { number = found.number; there = omega arith; passed = found.passed }

any_same : (test other : ℕ → Bool) → ((k : ℕ) → test k ≡ other k) → (xs : List ℕ) → list_any test xs ≡ list_any other xs
any_same test other same [] = refl
any_same test other same (x ∷ xs) = λ i. same x i || any_same test other same xs i

-- two tests that come out the same come out the same of some image
pub some_image-same : (site : Site) (test other : ℕ → Bool) → ((image : ℕ) → test image ≡ other image)
    → some_image site test ≡ some_image site other
some_image-same site test other same = any_same test other same (range_with_len 0 (length site.images))

-- ---- what is granted

for_some_right : (test : Right → Bool) (right : Right) → test right ≡ true → (test Read || (test Write || test Execute)) ≡ true
for_some_right test Read e = or_left (test Read) (test Write || test Execute) e
for_some_right test Write e = or_right (test Read) (test Write || test Execute) (or_left (test Write) (test Execute) e)
for_some_right test Execute e = or_right (test Read) (test Write || test Execute) (or_right (test Write) (test Execute) e)

module _ (group : Group) (site : Site) (image : ℕ) (there : image < length site.images) (mine : group image ≡ true) where
  -- what an image of the group that is there may reach is granted to the group
  pub granted-from : (kind : Kind) (unit : ℕ) (right : Right) → reach site image kind unit right ≡ true → granted group site kind unit ≡ true
  unfolding granted
  granted-from kind unit right reached =
      some_image-from site _ image there
      (and_from (group image) _ mine (for_some_right (λ (r : Right). reach site image kind unit r) right reached))

  pub register-granted : (trapped register : ℕ) → is_register_read site image trapped register ≡ true
      → is_register_granted group site trapped register ≡ true
  unfolding is_register_granted
  register-granted trapped register reads = some_image-from site _ image there (and_from (group image) _ mine reads)
