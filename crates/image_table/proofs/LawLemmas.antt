-- The laws of home ranges.
use Rattle.std.proofs.Common.{◌≡◌, ℕ, suc, ◌+◌, ◌*◌, ◌<◌, ◌≤◌, Bool, true, false, List, [], ◌∷◌, ◌++◌, map, get_or, arith}
use Rattle.std.specs.Prelude.{◌&&◌}
use Rattle.std.specs.List.{All, AllPairs, list_any}
use Rattle.std.proofs.lemmas.Bool.Decides.{nat_tests}
use Rattle.std.proofs.lemmas.List.Elements.{All-append, All-cons, All-from_recursion, All-head, All-map, All-nil, All-tail}
use Rattle.std.proofs.lemmas.List.Folds.{Any-from_list_any, list_any-from_Any}
use Rattle.std.proofs.lemmas.List.Kept.{AllPairs-cons}
use Rattle.mm_base.specs.Range.{encloses, share_a_unit}
use Rattle.mm_base.specs.Regions.{region_of, stack_of, communicate_page_of, service_page_of, pool_of, reserve_of}
use Rattle.mm_base.specs.Rights.{have_right}
use Rattle.mm_base.specs.declared.image.Part.{Part}
use Rattle.mm_base.specs.declared.range.Range.{Range}
use Rattle.mm_base.specs.declared.region.Region.{Region}
use Rattle.image_table.specs.HomeRanges.{Home, grants, header_home, home_ranges, page_homes, section_home}
use Rattle.image_table.specs.Laws.{LieInTheirRegion, Rise, LieApart, OfImagesApart, HoldWhatLiesWithin, HoldEachByte}
use Rattle.image_table.specs.declared.placed_image.PlacedImage.{PlacedImage}

-- each of a list of pages

abbrev pub Pages : (Home → Type 0) → Region → Type 0
Pages P region =
    P (stack_of region, 3) × P (communicate_page_of region, 3) × P (service_page_of region, 1) × P (pool_of region, 3) × P (reserve_of region, 3)

All-pages : (P : Home → Type 0) (region : Region) → Pages P region → All P (page_homes region)
All-pages P region (stack, communicate, service, pool, reserve) =
    All-from_recursion P (page_homes region) (stack, (communicate, (service, (pool, (reserve, tt)))))

-- home ranges lie in the region

section_within : (image : PlacedImage) (part : Part)
    → image.headers ≤ part.at
    → part.at + part.length ≤ 4096 * image.region.pages
    → encloses (region_of image.region) (section_home image.region.base part).0 ≡ true
section_within image part low high = grind (arith, nat_tests)

header_within : (image : PlacedImage) → image.headers ≤ 4096 * image.region.pages → encloses (region_of image.region) (header_home image).0 ≡ true
header_within image low = grind (arith, nat_tests)

pages_within : (region : Region) → Pages (λ home. encloses (region_of region) home.0 ≡ true) region
pages_within region = (
  grind (arith, nat_tests),
  grind (arith, nat_tests),
  grind (arith, nat_tests),
  grind (arith, nat_tests),
  grind (arith, nat_tests),
)

pub lie_in_their_region : LieInTheirRegion
lie_in_their_region image is =
    let Within : Home → Type 0 = λ home. encloses (region_of image.region) home.0 ≡ true in
    All-cons Within (header_home image) (map (section_home image.region.base) image.sections ++ page_homes image.region)
    (header_within image is.header)
    (All-append Within (map (section_home image.region.base) image.sections) (page_homes image.region)
    (All-map Within (section_home image.region.base) image.sections
    (λ k d within. section_within image (get_or image.sections k d) (is.between k d within).0 (is.between k d within).1))
    (All-pages Within image.region (pages_within image.region)))

-- they rise

abbrev pub Before : Home → Home → Type 0
Before home later = home.0.base + home.0.length ≤ later.0.base

module _ {X Y : Type 0} (R : Y → Y → Type 0) where
  AllPairs-map : (f : X → Y) (xs : List X) → AllPairs (λ x later. R (f x) (f later)) xs → AllPairs R (map f xs)
  AllPairs-map f [] all = λ i j d less within. absurd (omega arith)
  AllPairs-map f (x ∷ xs) all =
      AllPairs-cons R (f x) (map f xs)
      (All-map (R (f x)) f xs (λ k d within. all 0 (suc k) d (omega arith) (omega arith)))
      (AllPairs-map f xs (λ i j d less within. all (suc i) (suc j) d (omega arith) (omega arith)))

module _ {Y : Type 0} (R : Y → Y → Type 0) where
  AllPairs-append : (xs ys : List Y) → AllPairs R xs → AllPairs R ys → All (λ x. All (R x) ys) xs → AllPairs R (xs ++ ys)
  AllPairs-append [] ys first second cross = second
  AllPairs-append (x ∷ xs) ys first second cross =
      AllPairs-cons R x (xs ++ ys)
      (All-append (R x) xs ys
      (λ k d within. first 0 (suc k) d (omega arith) (omega arith))
      (All-head (λ one. All (R one) ys) x xs cross))
      (AllPairs-append xs ys
      (λ i j d less within. first (suc i) (suc j) d (omega arith) (omega arith))
      second
      (All-tail (λ one. All (R one) ys) x xs cross))

  AllPairs-nil : AllPairs R []
  AllPairs-nil i j d less within = absurd (omega arith)

five_rise : (a b c d e : Home) → Before a b → Before b c → Before c d → Before d e → AllPairs Before (a ∷ b ∷ c ∷ d ∷ e ∷ [])
five_rise a b c d e first second third fourth =
    AllPairs-cons Before a (b ∷ c ∷ d ∷ e ∷ [])
    (All-from_recursion (Before a) (b ∷ c ∷ d ∷ e ∷ []) (first, (omega arith, (omega arith, (omega arith, tt)))))
    (AllPairs-cons Before b (c ∷ d ∷ e ∷ [])
    (All-from_recursion (Before b) (c ∷ d ∷ e ∷ []) (second, (omega arith, (omega arith, tt))))
    (AllPairs-cons Before c (d ∷ e ∷ [])
    (All-from_recursion (Before c) (d ∷ e ∷ []) (third, (omega arith, tt)))
    (AllPairs-cons Before d (e ∷ []) (All-from_recursion (Before d) (e ∷ []) (fourth, tt))
    (AllPairs-cons Before e [] (All-nil (Before e)) (AllPairs-nil Before)))))

pages_rise : (region : Region) → AllPairs Before (page_homes region)
pages_rise region =
    five_rise (stack_of region, 3) (communicate_page_of region, 3) (service_page_of region, 1) (pool_of region, 3) (reserve_of region, 3)
    (omega arith) (omega arith) (omega arith) (omega arith)

-- what ends in the image's own pages ends before the pages after them
before_pages : (image : PlacedImage) (home : Home)
    → home.0.base + home.0.length ≤ image.region.base + 4096 * image.region.pages
    → All (Before home) (page_homes image.region)
before_pages image home ends =
    All-pages (Before home) image.region (omega arith, omega arith, omega arith, omega arith, omega arith)

pub rise : Rise
rise image is =
    let base : ℕ = image.region.base in
    let homes : List Home = map (section_home base) image.sections in
    AllPairs-cons Before (header_home image) (homes ++ page_homes image.region)
    (All-append (Before (header_home image)) homes (page_homes image.region)
    (All-map (Before (header_home image)) (section_home base) image.sections
    (λ k d within. let low : image.headers ≤ (get_or image.sections k d).at = (is.between k d within).0 in omega arith))
    (before_pages image (header_home image) (omega (arith, is.header))))
    (AllPairs-append Before homes (page_homes image.region)
    (AllPairs-map Before (section_home base) image.sections
    (λ i j d less within.
    let ends : (get_or image.sections i d).at + (get_or image.sections i d).length ≤ (get_or image.sections j d).at =
    is.rising i j d less within in
    omega arith))
    (pages_rise image.region)
    (All-map (λ home. All (Before home) (page_homes image.region)) (section_home base) image.sections
    (λ k d within.
    let high : (get_or image.sections k d).at + (get_or image.sections k d).length ≤ 4096 * image.region.pages =
    (is.between k d within).1 in
    before_pages image (section_home base (get_or image.sections k d)) (omega arith))))

-- so they lie apart

apart_from_before : (home later : Home) → Before home later → share_a_unit home.0 later.0 ≡ false
apart_from_before home later before = grind (arith, nat_tests)

pub lie_apart : LieApart
lie_apart image is = λ i j d less within. apart_from_before (get_or (home_ranges image) i d) (get_or (home_ranges image) j d) (rise image is i j d less within)

apart_within : (one other a b : Range)
    → 0 < one.length
    → 0 < other.length
    → share_a_unit one other ≡ false
    → encloses one a ≡ true
    → encloses other b ≡ true
    → share_a_unit a b ≡ false
apart_within one other a b first second apart in_one in_other = grind (arith, nat_tests)

pub of_images_apart : OfImagesApart
of_images_apart one other is_one is_other apart =
    λ k d within j e there.
    apart_within (region_of one.region) (region_of other.region) _ _ (omega arith) (omega arith) apart
    (lie_in_their_region one is_one k d within)
    (lie_in_their_region other is_other j e there)

-- parts of what is home

list_any_more : (p q : Home → Bool) (homes : List Home)
    → ((home : Home) → p home ≡ true → q home ≡ true)
    → list_any p homes ≡ true
    → list_any q homes ≡ true
list_any_more p q homes more some =
    let at = Any-from_list_any p homes some in
    list_any-from_Any q homes (at.0, at.1, at.2, at.3, more at.1 at.4)

and_more : (a b c : Bool) → (b ≡ true → c ≡ true) → (a && b) ≡ true → (a && c) ≡ true
and_more true b c more both = more both
and_more false b c more both = both

encloses_more : (outer range within : Range) → encloses range within ≡ true → encloses outer range ≡ true → encloses outer within ≡ true
encloses_more outer range within inner more = grind (arith, nat_tests)

pub hold_what_lies_within : HoldWhatLiesWithin
hold_what_lies_within image range within right home inner =
    list_any_more (grants right range) (grants right within) (home_ranges image)
    (λ one. and_more (have_right one.1 right) (encloses one.0 range) (encloses one.0 within) (encloses_more one.0 range within inner))
    home

byte_within : (range : Range) (unit : ℕ) → range.base ≤ unit → unit < range.base + range.length → encloses range record { base = unit; length = 1 } ≡ true
byte_within range unit from to = grind (arith, nat_tests)

pub hold_each_byte : HoldEachByte
hold_each_byte image range right unit home has =
    hold_what_lies_within image range record { base = unit; length = 1 } right home (byte_within range unit has.from has.to)
