-- Home ranges by their places, and which of them can cover a range.
use Rattle.std.proofs.Common.{◌≡◌, ℕ, zero, suc, ◌+◌, ◌-◌, ◌*◌, ◌<◌, ◌≤◌, Bool, true, false, List, [], ◌∷◌, ◌++◌, length, get_or, map, take, drop}
use Rattle.std.proofs.Common.{refl, sym, ap, ◌∙◌, subst, arith, length-append, Option, Some}
use Rattle.std.specs.Prelude.{◌&&◌, ◌||◌, nat_le, slice_get, slice_range}
use Rattle.std.specs.List.{All, AllPairs, list_any}
use Rattle.std.specs.List.Sorted.{IsNonDecreasingBy, IsPartitionPoint}
use Rattle.std.specs.Option.{option_map}
use Rattle.std.proofs.Math.Bool.{or-false}
use Rattle.std.proofs.lemmas.Bool.Decides.{nat_tests}
use Rattle.std.proofs.lemmas.List.{get_or-take, take-append-drop, get_or-drop, length-take, length-drop}
use Rattle.std.proofs.lemmas.List.Folds.{drop_split, list_any-append, list_any_none}
use Rattle.std.proofs.lemmas.List.Sorted.{IsNonDecreasingBy-from_all_adjacent}
use Rattle.std.proofs.lemmas.Option.{slice_get-get_or, slice_get-map}
use Rattle.mm_base.specs.Platform.{mmram}
use Rattle.mm_base.specs.Range.{encloses}
use Rattle.mm_base.specs.Regions.{region_of}
use Rattle.mm_base.specs.Rights.{have_right}
use Rattle.mm_base.specs.declared.access.Right.{Right}
use Rattle.mm_base.specs.declared.image.Part.{Part}
use Rattle.mm_base.specs.declared.range.Range.{Range}
use Rattle.image_table.specs.HomeRanges.{Home, IsPlaced, grants, home_ranges, page_homes, section_home}
use Rattle.image_table.specs.Sections.{LieBetween}
use Rattle.image_table.specs.declared.placed_image.PlacedImage.{PlacedImage}
use Rattle.image_table.proofs.SectionLemmas.{EndsBefore, HasBytes}

-- places

slice_get-append_left : (homes others : List Home) (n : ℕ) → n < length homes → slice_get (homes ++ others) n ≡ slice_get homes n
slice_get-append_left [] others n within = absurd (omega arith)
slice_get-append_left (home ∷ homes) others zero within = refl
slice_get-append_left (home ∷ homes) others (suc n) within = slice_get-append_left homes others n (omega arith)

slice_get-append_right : (homes others : List Home) (n : ℕ)
    → length homes ≤ n
    → slice_get (homes ++ others) n ≡ slice_get others (n - length homes)
slice_get-append_right [] others n past = let same : n ≡ n - 0 = omega arith in ap (slice_get others) same
slice_get-append_right (home ∷ homes) others zero past = absurd (omega arith)
slice_get-append_right (home ∷ homes) others (suc n) past =
    let same : n - length homes ≡ suc n - suc (length homes) = omega arith in
    slice_get-append_right homes others n (omega arith) ∙ ap (slice_get others) same

length-map : (base : ℕ) (parts : List Part) → length (map (section_home base) parts) ≡ length parts
length-map base [] = refl
length-map base (part ∷ parts) = ap suc (length-map base parts)

-- the home range of a section
home_of_section : (image : PlacedImage) (k place : ℕ) (part : Part)
    → k ≡ suc place
    → place < length image.sections
    → slice_get image.sections place ≡ Some part
    → Some (section_home image.region.base part) ≡ slice_get (home_ranges image) k
home_of_section image k place part next within is =
    let homes : List Home = map (section_home image.region.base) image.sections in
    let here : slice_get homes place ≡ Some (section_home image.region.base part) =
    slice_get-map (section_home image.region.base) image.sections place ∙ ap (option_map (section_home image.region.base)) is in
    let P : ℕ → Type 0 = λ n. Some (section_home image.region.base part) ≡ slice_get (home_ranges image) n in
    subst P (sym next)
    (sym here ∙ sym (slice_get-append_left homes (page_homes image.region) place (omega (arith, length-map image.region.base image.sections))))

-- the home range of a page after the image's own
home_of_page : (image : PlacedImage) (k place : ℕ)
    → k ≡ suc place
    → length image.sections ≤ place
    → slice_get (page_homes image.region) (place - length image.sections) ≡ slice_get (home_ranges image) k
home_of_page image k place next past =
    let homes : List Home = map (section_home image.region.base) image.sections in
    let P : ℕ → Type 0 = λ n. slice_get (page_homes image.region) (place - length image.sections) ≡ slice_get (home_ranges image) n in
    let same : place - length image.sections ≡ place - length homes = omega (arith, length-map image.region.base image.sections) in
    subst P (sym next)
    (ap (slice_get (page_homes image.region)) same
    ∙ sym (slice_get-append_right homes (page_homes image.region) place (omega (arith, length-map image.region.base image.sections))))

-- the code's answer for a section, and for a page
pub range_of_section : (image : PlacedImage) (k : ℕ) (parts : List Part) (d : Part) (result : Home)
    → (k ≡ 0 → ⊥)
    → parts ≡ image.sections
    → k - 1 < length parts
    → result ≡ section_home image.region.base (get_or parts (k - 1) d)
    → Some result ≡ slice_get (home_ranges image) k
range_of_section image k parts d result first is within answer =
    let there : k - 1 < length image.sections = omega (arith, ap length is) in
    ap Some answer
    ∙ (ap (λ all. Some (section_home image.region.base (get_or all (k - 1) d))) is
    ∙ home_of_section image k (k - 1) (get_or image.sections (k - 1) d) (omega arith) there (slice_get-get_or image.sections (k - 1) d there))

pub range_of_page : (image : PlacedImage) (k : ℕ) (parts : List Part) (result : Option Home)
    → (k ≡ 0 → ⊥)
    → parts ≡ image.sections
    → length parts ≤ k - 1
    → result ≡ slice_get (page_homes image.region) (k - 1 - length image.sections)
    → result ≡ slice_get (home_ranges image) k
range_of_page image k parts result first is past answer =
    answer ∙ home_of_page image k (k - 1) (omega arith) (omega (arith, ap length is))

-- what covers

pub list_any-map : {X Y : Type 0} (p : Y → Bool) (f : X → Y) (xs : List X) → list_any p (map f xs) ≡ list_any (λ x. p (f x)) xs
list_any-map p f [] = refl
list_any-map p f (x ∷ xs) = ap (λ b. p (f x) || b) (list_any-map p f xs)

and-false : (a b : Bool) → b ≡ false → (a && b) ≡ false
and-false true b is = is
and-false false b is = refl

-- what can't cover a range

begins_after : (right : Right) (range : Range) (base : ℕ) (part : Part)
    → base ≤ range.base
    → range.base - base < part.at
    → grants right range (section_home base part) ≡ false
begins_after right range base part low after =
    and-false (have_right part.rights right) _ (grind (arith, nat_tests))

ends_before : (right : Right) (range : Range) (base : ℕ) (part : Part)
    → base + (part.at + part.length) < range.base
    → grants right range (section_home base part) ≡ false
ends_before right range base part before = and-false (have_right part.rights right) _ (grind (arith, nat_tests))

at_most : (a b : ℕ) → nat_le a b ≡ true → a ≤ b
at_most a b is = grind (arith, nat_tests)

above : (a b : ℕ) → nat_le a b ≡ false → b < a
above a b is = grind (arith, nat_tests)

rising_begins : (parts : List Part) → AllPairs EndsBefore parts → IsNonDecreasingBy (λ part. part.at) parts
rising_begins parts rising =
    IsNonDecreasingBy-from_all_adjacent (λ part. part.at) parts
    (λ k d within. let ends = rising k (k + 1) d (omega arith) within in omega arith)

-- a section before the last two that begin where the range does or before ends before the range begins
far_before : (right : Right) (range : Range) (base : ℕ) (parts : List Part) (count : ℕ)
    → AllPairs EndsBefore parts
    → All HasBytes parts
    → base ≤ range.base
    → count ≤ length parts
    → ((k : ℕ) (d : Part) → 0 ≤ k → k < count → nat_le (get_or parts k d).at (range.base - base) ≡ true)
    → (k : ℕ) (d : Part)
    → k < count - 2
    → grants right range (section_home base (get_or parts k d)) ≡ false
far_before right range base parts count rising some low all begin k d far =
    let one : (get_or parts k d).at + (get_or parts k d).length ≤ (get_or parts (suc k) d).at =
    rising k (suc k) d (omega arith) (omega arith) in
    let bytes : 0 < (get_or parts (suc k) d).length = some (suc k) d (omega arith) in
    let two : (get_or parts (suc k) d).at + (get_or parts (suc k) d).length ≤ (get_or parts (suc (suc k)) d).at =
    rising (suc k) (suc (suc k)) d (omega arith) (omega arith) in
    let last : (get_or parts (suc (suc k)) d).at ≤ range.base - base =
    at_most _ _ (begin (suc (suc k)) d (omega arith) (omega arith)) in
    ends_before right range base (get_or parts k d) (omega arith)

-- only the last two sections that begin where the range does or before can cover it
near_two : (right : Right) (range : Range) (base : ℕ) (parts : List Part) (count : ℕ)
    → AllPairs EndsBefore parts
    → All HasBytes parts
    → base ≤ range.base
    → count ≤ length parts
    → IsPartitionPoint (λ part. nat_le part.at (range.base - base) ≡ true) (λ part. nat_le part.at (range.base - base) ≡ false) parts count
    → list_any (λ part. grants right range (section_home base part)) (slice_range parts (count - 2) count)
    ≡ list_any (grants right range) (map (section_home base) parts)
near_two right range base parts count rising some low all point =
    let test : Part → Bool = λ part. grants right range (section_home base part) in
    let Fails : Part → Type 0 = λ part. test part ≡ false in
    let front : list_any test (take (count - 2) parts) ≡ false =
    list_any_none test (take (count - 2) parts)
    (λ k d within.
    let far : k < count - 2 = omega (arith, length-take (count - 2) parts) in
    subst Fails (sym (get_or-take (count - 2) parts k d far))
    (far_before right range base parts count rising some low all point.0 k d far)) in
    let back : list_any test (drop count parts) ≡ false =
    list_any_none test (drop count parts)
    (λ k d within.
    let past : count + k < length parts = omega (arith, length-drop count parts) in
    subst Fails (sym (get_or-drop count parts k d))
    (begins_after right range base (get_or parts (count + k) d) low (above _ _ (point.1 (count + k) d (omega arith) past)))) in
    let split : parts ≡ take (count - 2) parts ++ (slice_range parts (count - 2) count ++ drop count parts) =
    sym (take-append-drop (count - 2) parts)
    ∙ ap (λ rest. take (count - 2) parts ++ rest) (drop_split parts (count - 2) count (omega arith)) in
    sym
    (list_any-map (grants right range) (section_home base) parts
    ∙ (ap (list_any test) split
    ∙ (list_any-append test (take (count - 2) parts) (slice_range parts (count - 2) count ++ drop count parts)
    ∙ (ap (λ b. b || list_any test (slice_range parts (count - 2) count ++ drop count parts)) front
    ∙ (list_any-append test (slice_range parts (count - 2) count) (drop count parts)
    ∙ (ap (λ b. list_any test (slice_range parts (count - 2) count) || b) back
    ∙ or-false (list_any test (slice_range parts (count - 2) count))))))))

-- a range that begins before the region is in no section
pub before_region : (right : Right) (range : Range) (base : ℕ) (parts : List Part)
    → range.base < base
    → list_any (grants right range) (map (section_home base) parts) ≡ false
before_region right range base parts before =
    list_any-map (grants right range) (section_home base) parts
    ∙ list_any_none (λ part. grants right range (section_home base part)) parts
    (λ k d within. and-false (have_right (get_or parts k d).rights right) _ (begins_later (get_or parts k d)))
  where
    begins_later : (part : Part) → encloses (section_home base part).0 range ≡ false
    begins_later part = grind (arith, nat_tests)

-- the code's answer for the sections
pub near_sections : (right : Right) (range : Range) (base : ℕ) (sections parts : List Part) (count from offset : ℕ) (result : Bool)
    → parts ≡ sections
    → from ≡ count - 2
    → base ≤ range.base
    → offset ≡ range.base - base
    → AllPairs EndsBefore sections
    → All HasBytes sections
    → count ≤ length parts
    → IsPartitionPoint (λ part. nat_le part.at offset ≡ true) (λ part. nat_le part.at offset ≡ false) parts count
    → result ≡ list_any (λ part. grants right range (section_home base part)) (slice_range parts from count)
    → result ≡ list_any (grants right range) (map (section_home base) sections)
near_sections right range base sections parts count from offset result same at_two low at_offset rising some all point answer =
    let Points : List Part → ℕ → Type 0 =
    λ list place. IsPartitionPoint (λ part. nat_le part.at place ≡ true) (λ part. nat_le part.at place ≡ false) list count in
    let here : Points sections (range.base - base) =
    subst (Points sections) at_offset (subst (λ (list : List Part). Points list offset) same point) in
    answer
    ∙ (ap (λ list. list_any (λ part. grants right range (section_home base part)) (slice_range list from count)) same
    ∙ (ap (λ (place : ℕ). list_any (λ part. grants right range (section_home base part)) (slice_range sections place count)) at_two
    ∙ near_two right range base sections count rising some low (omega (arith, ap length same)) here))

pub begins_of : (sections parts : List Part)
    → parts ≡ sections
    → AllPairs EndsBefore sections
    → IsNonDecreasingBy (λ part. part.at) parts
begins_of sections parts same rising =
    subst (IsNonDecreasingBy (λ (part : Part). part.at)) (sym same) (rising_begins sections rising)

-- how many home ranges there are

-- parts with bytes, of which each ends before the next begins, are no more than the bytes between them
few_parts : (parts : List Part) (low high : ℕ)
    → low ≤ high
    → LieBetween low high parts
    → All HasBytes parts
    → AllPairs EndsBefore parts
    → length parts + low ≤ high
few_parts [] low high room between some rising = omega arith
few_parts (part ∷ parts) low high room between some rising =
    let first : (low ≤ part.at) × (part.at + part.length ≤ high) = between 0 part (omega arith) in
    let bytes : 0 < part.length = some 0 part (omega arith) in
    let rest : length parts + (part.at + part.length) ≤ high =
    few_parts parts (part.at + part.length) high first.1
    (λ k d within. (rising 0 (suc k) d (omega arith) (omega arith), (between (suc k) d (omega arith)).1))
    (λ k d within. some (suc k) d (omega arith))
    (λ i j d less within. rising (suc i) (suc j) d (omega arith) (omega arith)) in
    omega arith

-- so an image has at most as many sections as its region has bytes
pub few_sections : (image : PlacedImage) → IsPlaced image → length image.sections ≤ 33398784
few_sections image placed =
    let fits : 4096 * image.region.pages ≤ 33398784 = pages_fit image placed.within in
    let few : length image.sections + image.headers ≤ 4096 * image.region.pages =
    few_parts image.sections image.headers (4096 * image.region.pages) placed.header placed.between placed.bytes placed.rising in
    omega arith
  where
    pages_fit : (image : PlacedImage) → encloses mmram (region_of image.region) ≡ true → 4096 * image.region.pages ≤ 33398784
    pages_fit image within = grind (arith, nat_tests)

pub count_of_homes : (image : PlacedImage) → length (home_ranges image) ≡ length image.sections + 6
count_of_homes image =
    let homes : List Home = map (section_home image.region.base) image.sections in
    omega (arith, length-append homes (page_homes image.region), length-map image.region.base image.sections)
