-- The ends of ranges by their places, and how many there are.
use Rattle.std.proofs.Common.{◌≡◌, ◌⊎◌, ℕ, zero, suc, ◌+◌, ◌-◌, ◌*◌, ◌^◌, ◌<◌, ◌≤◌, true, false, inl, inr, Option, Some, None}
use Rattle.std.proofs.Common.{List, [], ◌∷◌, ◌++◌, length, drop, length-append, refl, sym, ap, ◌∙◌, arith}
use Rattle.std.specs.Prelude.{Bool, All, filter, slice_get, if◌then◌else◌}
use Rattle.std.specs.List.{flat_map}
use Rattle.std.proofs.lemmas.List.Elements.{All-head, All-tail}
use Rattle.std.proofs.lemmas.List.Sums.{count_by-le-length, length-filter}
use Rattle.std.proofs.lemmas.Option.{slice_get_past}
use Rattle.image_groups.specs.Ends.{ends_of, home_ends, range_ends, rule_ends, window_ends}
use Rattle.image_table.proofs.HomeLemmas.{count_of_homes, few_sections}
use Rattle.image_table.specs.HomeRanges.{Home, IsPlaced, home_ranges}
use Rattle.image_table.specs.ImageTable.{home_ranges_at}
use Rattle.image_table.specs.declared.placed_image.PlacedImage.{PlacedImage}
use Rattle.mm_base.specs.Kinds.{same_kind}
use Rattle.mm_base.specs.declared.access.Kind.{Kind}
use Rattle.mm_base.specs.declared.access.Kind.TheVariants.{Memory, Io, Msr, Saved}
use Rattle.mm_base.specs.declared.policy.Rule.{Rule}
use Rattle.mm_base.specs.declared.range.Range.{Range}
use Rattle.mm_core.specs.ReachingInside.{ends_of_homes}
use Rattle.supervisor_calls.specs.Tables.{Site}

-- places in lists

slice_get-left : (xs ys : List ℕ) (k : ℕ) → k < length xs → slice_get xs k ≡ slice_get (xs ++ ys) k
slice_get-left [] ys k within = absurd (omega arith)
slice_get-left (x ∷ xs) ys zero within = refl
slice_get-left (x ∷ xs) ys (suc k) within = slice_get-left xs ys k (omega arith)

slice_get-right : (xs ys : List ℕ) (k left : ℕ) → k ≡ length xs + left → slice_get ys left ≡ slice_get (xs ++ ys) k
slice_get-right [] ys k left is = let same : left ≡ k = omega arith in ap (slice_get ys) same
slice_get-right (x ∷ xs) ys zero left is = absurd (omega arith)
slice_get-right (x ∷ xs) ys (suc k) left is = slice_get-right xs ys k left (omega arith)

past_end : {A : Type 0} (items : List A) (place : ℕ) → slice_get items place ≡ None → length items ≤ place
past_end [] place none = omega arith
past_end (item ∷ items) zero none = cc
past_end (item ∷ items) (suc place) none = let rest = past_end items place none in omega arith

-- the ends of a list of ranges: two each

module _ {A : Type 0} (range_of : A → Range) where
  pub pair_count : (items : List A) → length (flat_map (λ item. range_ends (range_of item)) items) ≡ 2 * length items
  pair_count [] = refl
  pair_count (item ∷ items) = let rest = pair_count items in omega arith

  pub pair_at : (items : List A) (k place side : ℕ) (item : A)
      → k ≡ 2 * place + side
      → side < 2
      → slice_get items place ≡ Some item
      → slice_get (range_ends (range_of item)) side ≡ slice_get (flat_map (λ item. range_ends (range_of item)) items) k
  pair_at [] k place side item is low here = cc
  pair_at (first ∷ items) zero zero zero item is low here =
      let same : item ≡ first = cc in ap (λ x. slice_get (range_ends (range_of x)) 0) same
  pair_at (first ∷ items) zero zero (suc side) item is low here = absurd (omega arith)
  pair_at (first ∷ items) zero (suc place) side item is low here = absurd (omega arith)
  pair_at (first ∷ items) (suc zero) zero zero item is low here = absurd (omega arith)
  pair_at (first ∷ items) (suc zero) zero (suc zero) item is low here =
      let same : item ≡ first = cc in ap (λ x. slice_get (range_ends (range_of x)) 1) same
  pair_at (first ∷ items) (suc zero) zero (suc (suc side)) item is low here = absurd (omega arith)
  pair_at (first ∷ items) (suc zero) (suc place) side item is low here = absurd (omega arith)
  pair_at (first ∷ items) (suc (suc k)) zero side item is low here = absurd (omega arith)
  pair_at (first ∷ items) (suc (suc k)) (suc place) side item is low here = pair_at items k place side item (omega arith) low here

  pub pair_past : (items : List A) (k place side : ℕ)
      → k ≡ 2 * place + side
      → slice_get items place ≡ None
      → None ≡ slice_get (flat_map (λ item. range_ends (range_of item)) items) k
  pair_past items k place side is none =
      sym (slice_get_past (flat_map (λ item. range_ends (range_of item)) items) k (omega (arith, pair_count items, past_end items place none)))

-- the ends of home ranges, image by image

home_split : (images : List PlacedImage) (image : ℕ)
    → image < length images
    → home_ends (drop image images) ≡ ends_of_homes (home_ranges_at images image) ++ home_ends (drop (image + 1) images)
home_split [] image within = absurd (omega arith)
home_split (first ∷ images) zero within = refl
home_split (first ∷ images) (suc image) within =
    let next : suc (image + 1) ≡ suc image + 1 = omega arith in
    home_split images image (omega arith)
    ∙ ap (λ k. ends_of_homes (home_ranges_at images image) ++ home_ends (drop k (first ∷ images))) next

pub count_at : (images : List PlacedImage) (image : ℕ)
    → length (ends_of_homes (home_ranges_at images image)) ≡ 2 * length (home_ranges_at images image)
count_at images image = pair_count (λ (home : Home). home.0) (home_ranges_at images image)

pub home_here : (images : List PlacedImage) (image left ends : ℕ)
    → image < length images
    → ends ≡ length (home_ranges_at images image)
    → left < 2 * ends
    → slice_get (ends_of_homes (home_ranges_at images image)) left ≡ slice_get (home_ends (drop image images)) left
home_here images image left ends within is low =
    slice_get-left (ends_of_homes (home_ranges_at images image)) (home_ends (drop (image + 1) images)) left
    (omega (arith, count_at images image))
    ∙ ap (λ all. slice_get all left) (sym (home_split images image within))

pub home_later : (images : List PlacedImage) (image left ends : ℕ)
    → image < length images
    → ends ≡ length (home_ranges_at images image)
    → 2 * ends ≤ left
    → slice_get (home_ends (drop (image + 1) images)) (left - 2 * ends) ≡ slice_get (home_ends (drop image images)) left
home_later images image left ends within is past =
    slice_get-right (ends_of_homes (home_ranges_at images image)) (home_ends (drop (image + 1) images)) left (left - 2 * ends)
    (omega (arith, count_at images image))
    ∙ ap (λ all. slice_get all left) (sym (home_split images image within))

-- the ends of windows, rules and home ranges, one after another

module _ (site : Site) where
  pub rule_count : (kind : Kind)
      → length (rule_ends kind site.policy.rules) ≡ 2 * length (filter (λ rule. same_kind rule.kind kind) site.policy.rules)
  rule_count kind = pair_count (λ (rule : Rule). rule.range) (filter (λ rule. same_kind rule.kind kind) site.policy.rules)

  pub in_windows : (kind : Kind) (k : ℕ)
      → k < length (window_ends kind)
      → slice_get (window_ends kind) k ≡ slice_get (ends_of kind site) k
  in_windows kind k within =
      let rules : List ℕ = rule_ends kind site.policy.rules in
      slice_get-left (window_ends kind) rules k within
      ∙ slice_get-left (window_ends kind ++ rules) _ k (omega (arith, length-append (window_ends kind) rules))

  pub in_rules : (kind : Kind) (k past : ℕ)
      → k ≡ length (window_ends kind) + past
      → past < length (rule_ends kind site.policy.rules)
      → slice_get (rule_ends kind site.policy.rules) past ≡ slice_get (ends_of kind site) k
  in_rules kind k past is within =
      let rules : List ℕ = rule_ends kind site.policy.rules in
      slice_get-right (window_ends kind) rules k past is
      ∙ slice_get-left (window_ends kind ++ rules) _ k (omega (arith, length-append (window_ends kind) rules))

  pub in_homes : (k left : ℕ)
      → k ≡ length (window_ends Memory) + length (rule_ends Memory site.policy.rules) + left
      → slice_get (home_ends site.images) left ≡ slice_get (ends_of Memory site) k
  in_homes k left is =
      let rules : List ℕ = rule_ends Memory site.policy.rules in
      slice_get-right (window_ends Memory ++ rules) (home_ends site.images) k left
      (omega (arith, length-append (window_ends Memory) rules))

  pub past_all : (kind : Kind) (k : ℕ)
      → same_kind kind Memory ≡ false
      → length (window_ends kind) + length (rule_ends kind site.policy.rules) ≤ k
      → None ≡ slice_get (ends_of kind site) k
  past_all kind k other past =
      let rules : List ℕ = rule_ends kind site.policy.rules in
      let none : (if same_kind kind Memory then home_ends site.images else []) ≡ [] =
      ap (λ b. if b then home_ends site.images else []) other in
      let count : length (ends_of kind site) ≡ length (window_ends kind ++ rules) =
      ap (λ homes. length ((window_ends kind ++ rules) ++ homes)) none ∙ nil_after (window_ends kind ++ rules) in
      sym (slice_get_past (ends_of kind site) k (omega (arith, count, length-append (window_ends kind) rules)))
    where
      nil_after : (xs : List ℕ) → length (xs ++ []) ≡ length xs
      nil_after xs =
          let none : List ℕ = [] in omega (arith, length-append xs none)

  -- what the code tells, with its count of the rules of the kind

  same_count : (kind : Kind) (rules : List Rule)
      → rules ≡ site.policy.rules
      → 2 * length (filter (λ rule. same_kind rule.kind kind) rules) ≡ length (rule_ends kind site.policy.rules)
  same_count kind rules same =
      ap (λ all. 2 * length (filter (λ rule. same_kind rule.kind kind) all)) same ∙ sym (rule_count kind)

  pub told_rule : (kind : Kind) (k windows count : ℕ) (rules : List Rule) (result : Option ℕ)
      → rules ≡ site.policy.rules
      → windows ≡ length (window_ends kind)
      → windows ≤ k
      → count ≡ length (filter (λ rule. same_kind rule.kind kind) rules)
      → k - windows < 2 * count
      → result ≡ slice_get (rule_ends kind rules) (k - windows)
      → result ≡ slice_get (ends_of kind site) k
  told_rule kind k windows count rules result same is past counted within answer =
      answer
      ∙ (ap (λ all. slice_get (rule_ends kind all) (k - windows)) same
      ∙ in_rules kind k (k - windows) (omega arith) (omega (arith, same_count kind rules same)))

  pub told_home : (kind : Kind) (k windows count : ℕ) (rules : List Rule) (result : Option ℕ)
      → kind ≡ Memory
      → rules ≡ site.policy.rules
      → windows ≡ length (window_ends kind)
      → windows ≤ k
      → count ≡ length (filter (λ rule. same_kind rule.kind kind) rules)
      → 2 * count ≤ k - windows
      → result ≡ slice_get (home_ends site.images) (k - windows - 2 * count)
      → result ≡ slice_get (ends_of kind site) k
  told_home kind k windows count rules result memory same is past counted behind answer =
      let first : windows ≡ length (window_ends Memory) = is ∙ ap (λ one. length (window_ends one)) memory in
      let second : 2 * count ≡ length (rule_ends Memory site.policy.rules) =
      ap (λ n. 2 * n) (counted ∙ ap (λ one. length (filter (λ rule. same_kind rule.kind one) rules)) memory)
      ∙ same_count Memory rules same in
      answer
      ∙ (in_homes k (k - windows - 2 * count) (omega arith)
      ∙ ap (λ one. slice_get (ends_of one site) k) (sym memory))

  not_memory : (kind : Kind) → (kind ≡ Io) ⊎ ((kind ≡ Msr) ⊎ (kind ≡ Saved)) → same_kind kind Memory ≡ false
  not_memory kind (inl is) = ap (λ one. same_kind one Memory) is
  not_memory kind (inr (inl is)) = ap (λ one. same_kind one Memory) is
  not_memory kind (inr (inr is)) = ap (λ one. same_kind one Memory) is

  pub told_none : (kind : Kind) (k windows count : ℕ) (rules : List Rule)
      → (kind ≡ Io) ⊎ ((kind ≡ Msr) ⊎ (kind ≡ Saved))
      → rules ≡ site.policy.rules
      → windows ≡ length (window_ends kind)
      → windows ≤ k
      → count ≡ length (filter (λ rule. same_kind rule.kind kind) rules)
      → 2 * count ≤ k - windows
      → None ≡ slice_get (ends_of kind site) k
  told_none kind k windows count rules other same is past counted behind =
      past_all kind k (not_memory kind other) (omega (arith, same_count kind rules same))

  -- they can be counted

  few_windows : (kind : Kind) → length (window_ends kind) ≤ 7
  few_windows Memory = omega arith
  few_windows Io = omega arith
  few_windows Msr = omega arith
  few_windows Saved = omega arith

  pub few_passing : (kind : Kind) (rules : List Rule) → length (filter (λ rule. same_kind rule.kind kind) rules) ≤ length rules
  few_passing kind rules =
      let test : Rule → Bool = λ rule. same_kind rule.kind kind in
      omega (arith, length-filter test rules, count_by-le-length test rules)

  few_homes : (images : List PlacedImage) → All IsPlaced images → length (home_ends images) ≤ 66797580 * length images
  few_homes [] placed = omega arith
  few_homes (image ∷ images) placed =
      let here : length (home_ranges image) ≤ 33398790 =
      omega (arith, count_of_homes image, few_sections image (All-head IsPlaced image images placed)) in
      let rest = few_homes images (All-tail IsPlaced image images placed) in
      let two = pair_count (λ (home : Home). home.0) (home_ranges image) in
      omega (arith, length-append (ends_of_homes (home_ranges image)) (home_ends images), two)

  pub few_ends : (kind : Kind) (rules : List Rule)
      → rules ≡ site.policy.rules
      → length rules ≤ 1024
      → All IsPlaced site.images
      → length site.images ≤ 32
      → length (ends_of kind site) < 2 ^ 32
  few_ends kind rules same few placed images =
      let some_rules : List ℕ = rule_ends kind site.policy.rules in
      let homes : List ℕ = if same_kind kind Memory then home_ends site.images else [] in
      let some_homes : length homes ≤ 66797580 * length site.images =
      at_most (same_kind kind Memory) (home_ends site.images) (66797580 * length site.images) (few_homes site.images placed) in
      let front = length-append (window_ends kind) some_rules in
      let whole = length-append (window_ends kind ++ some_rules) homes in
      omega (arith, ap length same, few_windows kind, rule_count kind, few_passing kind site.policy.rules, front, whole)
    where
      at_most : (b : Bool) (homes : List ℕ) (most : ℕ) → length homes ≤ most → length (if b then homes else []) ≤ most
      at_most true homes most few = few
      at_most false homes most few = omega arith
