-- What passes, passes at each unit; and an image's own pages pass.
use Rattle.std.proofs.Common.{◌≡◌, ◌≢◌, ℕ, ◌+◌, ◌≤◌, ◌^◌, Bool, true, false, ◌||◌, if◌then◌else◌, ◌&&◌, nat_lt, List, [], ◌∷◌, ◌++◌, map, Option, Some, None, append_assoc, refl, sym, ap, ◌∙◌, arith}
use Rattle.std.specs.List.{slice_get, list_any}
use Rattle.std.specs.Option.{option_map_or}
use Rattle.std.proofs.lemmas.Bool.Decides.{nat_tests}
use Rattle.image_table.specs.HomeRanges.{Home, IsPlaced, header_home, section_home, page_homes, home_ranges, grants, is_own}
use Rattle.image_table.specs.ImageTable.{is_home_at, name_at}
use Rattle.image_table.specs.Laws.{OwnsPages}
use Rattle.image_table.specs.declared.placed_image.PlacedImage.{PlacedImage}
use Rattle.image_table.proofs.LawLemmas.{lie_in_their_region, hold_each_byte, hold_what_lies_within}
use Rattle.mm_base.specs.Platform.{mmram, lane_window, device_window}
use Rattle.mm_base.specs.Range.{Has, encloses, share_a_unit}
use Rattle.mm_base.specs.Regions.{region_of, stack_of, communicate_page_of, service_page_of, pool_of, reserve_of}
use Rattle.mm_base.specs.Rights.{have_right}
use Rattle.mm_base.specs.declared.access.Kind.TheVariants as kinds
use Rattle.mm_base.specs.declared.access.Right.{Right}
use Rattle.mm_base.specs.declared.access.Right.TheVariants.{Read, Write, Execute}
use Rattle.mm_base.specs.declared.range.Range.{Range}
use Rattle.secure_policy.specs.Laws.{AreHomes}
use Rattle.secure_policy.specs.Places.{place_of_bytes}
use Rattle.secure_policy.specs.Verdicts.{verdict_on, verdict_at, verdict_by_rules, units_from}
use Rattle.secure_policy.specs.declared.place.Place.TheVariants.{Nowhere, Mmram, LaneWindow, Cells}
use Rattle.secure_policy.proofs.UnitLemmas.{passes_at_unit}
use Rattle.supervisor_calls.specs.Accesses.{decided, basis_of}
use Rattle.supervisor_calls.specs.Laws.{IsSite, PassesAtEachUnit, OwnPagesPass, lies_in_own_pages}
use Rattle.supervisor_calls.specs.Tables.{Site}
use Rattle.supervisor_calls.proofs.WhereLemmas.{region_covers, of_image}

-- ---- homes

-- what is home to an image that is there
of_home : (P : Type 0) (range : Range) (right : Right) (found : Option PlacedImage)
    → ((image : PlacedImage) → found ≡ Some image → is_own right range image ≡ true → P)
    → option_map_or (is_own right range) found false ≡ true → P
of_home P range right None each e = absurd cc
of_home P range right (Some image) each e = each image refl e

module _ (site : Site) (is : IsSite site) (number : ℕ) where
  home_in_mmram : (range : Range) (right : Right) → is_home_at site.images number range right ≡ true → encloses mmram range ≡ true
  home_in_mmram range right home =
      of_home (encloses mmram range ≡ true) range right (slice_get site.images number)
      (λ image there own.
      let placed : IsPlaced image = of_image IsPlaced site.images is number image there in
      let covers : encloses (region_of image.region) range ≡ true =
      region_covers range right (region_of image.region) (home_ranges image) (lie_in_their_region image placed) own in
      let inside : encloses mmram (region_of image.region) ≡ true = placed.within in
      grind (arith, nat_tests, covers, inside))
      home

  home_each : (range : Range) (right : Right) (unit : ℕ) → is_home_at site.images number range right ≡ true → Has range unit
      → is_home_at site.images number (units_from unit 1) right ≡ true
  home_each range right unit home has =
      of_home (is_home_at site.images number (units_from unit 1) right ≡ true) range right (slice_get site.images number)
      (λ image there own.
      ap (λ (found : Option PlacedImage). option_map_or (is_own right (units_from unit 1)) found false) there ∙ hold_each_byte image range right unit own has)
      home

  are_homes : AreHomes (is_home_at site.images number)
  are_homes = record { within = home_in_mmram; units = home_each }

pub passes_at_each_unit : PassesAtEachUnit
unfolding decided
passes_at_each_unit site image kind base n right trapped unit is has pass =
    passes_at_unit (basis_of site) image kind base n right trapped unit (are_homes site is image) has pass

-- ---- own pages

-- what one of a list is, some of it is
any_at : {X : Type 0} (p : X → Bool) (front : List X) (x : X) (behind : List X) → p x ≡ true → list_any p (front ++ x ∷ behind) ≡ true
any_at p [] x behind e = ap (λ (b : Bool). b || list_any p behind) e
any_at p (y ∷ front) x behind e = elim (p y) as (λ b. (b || list_any p (front ++ x ∷ behind)) ≡ true) [ true ↦ refl | false ↦ any_at p front x behind e ]

module _ (image : PlacedImage) (right : Right) where
  homes : List Home
  homes = header_home image ∷ map (section_home image.region.base) image.sections

  -- a home range is home for its rights
  owns_home : (page : Range) (rights : ℕ) (front behind : List Home) → page_homes image.region ≡ front ++ (page, rights) ∷ behind
      → have_right rights right ≡ true → is_own right page image ≡ true
  unfolding homes
  owns_home page rights front behind is has =
      let self : encloses page page ≡ true = grind (arith, nat_tests) in
      let here : grants right page (page, rights) ≡ true = ap (λ (b : Bool). b && encloses page page) has ∙ self in
      ap (λ (pages : List Home). list_any (grants right page) (homes ++ pages)) is
      ∙ ap (list_any (grants right page)) (sym (append_assoc homes front ((page, rights) ∷ behind)))
      ∙ any_at (grants right page) (homes ++ front) (page, rights) behind here

hold_own_pages : (image : PlacedImage) → OwnsPages image
hold_own_pages image =
    let stack : Home = (stack_of image.region, 3) in
    let communicate : Home = (communicate_page_of image.region, 3) in
    let service : Home = (service_page_of image.region, 1) in
    let pool : Home = (pool_of image.region, 3) in
    let reserve : Home = (reserve_of image.region, 3) in
    record {
      reads_stack = owns_home image Read stack.0 3 [] _ refl refl;
      writes_stack = owns_home image Write stack.0 3 [] _ refl refl;
      reads_communicate_page = owns_home image Read communicate.0 3 (stack ∷ []) _ refl refl;
      writes_communicate_page = owns_home image Write communicate.0 3 (stack ∷ []) _ refl refl;
      reads_service_page = owns_home image Read service.0 1 (stack ∷ communicate ∷ []) _ refl refl;
      reads_pool = owns_home image Read pool.0 3 (stack ∷ communicate ∷ service ∷ []) _ refl refl;
      writes_pool = owns_home image Write pool.0 3 (stack ∷ communicate ∷ service ∷ []) _ refl refl;
      reads_reserve = owns_home image Read reserve.0 3 (stack ∷ communicate ∷ service ∷ pool ∷ []) [] refl refl;
      writes_reserve = owns_home image Write reserve.0 3 (stack ∷ communicate ∷ service ∷ pool ∷ []) [] refl refl;
    }

-- one of four holds
one_of_four : (P : Type 0) (a b c d : Bool) → (a ≡ true → P) → (b ≡ true → P) → (c ≡ true → P) → (d ≡ true → P)
    → (a || (b || (c || d))) ≡ true → P
one_of_four P true b c d first second third fourth e = first refl
one_of_four P false true c d first second third fourth e = second refl
one_of_four P false false true d first second third fourth e = third refl
one_of_four P false false false d first second third fourth e = fourth e

module _ (image : PlacedImage) (range : Range) where
  owns : OwnsPages image
  owns = hold_own_pages image

  own_pages : (right : Right) → right ≢ Execute → lies_in_own_pages image.region range ≡ true → is_own right range image ≡ true
  own_pages Read other inside =
      one_of_four (is_own Read range image ≡ true) _ _ _ _
      (λ e. hold_what_lies_within image (stack_of image.region) range Read owns.reads_stack e)
      (λ e. hold_what_lies_within image (communicate_page_of image.region) range Read owns.reads_communicate_page e)
      (λ e. hold_what_lies_within image (pool_of image.region) range Read owns.reads_pool e)
      (λ e. hold_what_lies_within image (reserve_of image.region) range Read owns.reads_reserve e) inside
  own_pages Write other inside =
      one_of_four (is_own Write range image ≡ true) _ _ _ _
      (λ e. hold_what_lies_within image (stack_of image.region) range Write owns.writes_stack e)
      (λ e. hold_what_lies_within image (communicate_page_of image.region) range Write owns.writes_communicate_page e)
      (λ e. hold_what_lies_within image (pool_of image.region) range Write owns.writes_pool e)
      (λ e. hold_what_lies_within image (reserve_of image.region) range Write owns.writes_reserve e) inside
  own_pages Execute other inside = absurd (other refl)

-- an access with a byte that lies in memory whole is one of memory
place_by : (past inside lanes device : Bool) → past ≡ false → inside ≡ true
    → (if past then Nowhere else if inside then Mmram else if lanes then LaneWindow else if device then Cells else Nowhere) ≡ Mmram
place_by true inside lanes device e f = absurd cc
place_by false true lanes device e f = refl
place_by false false lanes device e f = absurd cc

in_mmram : (at n : ℕ) → 1 ≤ n → encloses mmram (units_from at n) ≡ true → place_of_bytes (units_from at n) ≡ Mmram
in_mmram at n some e =
    place_by (nat_lt (2 ^ 64) (at + n)) (share_a_unit mmram (units_from at n)) (share_a_unit lane_window (units_from at n))
    (encloses device_window (units_from at n)) (grind (arith, nat_tests, e, some)) (grind (arith, nat_tests, e, some))

pub own_pages_pass : OwnPagesPass
unfolding decided verdict_on
own_pages_pass site number image at n right trapped is there some other inside =
    let home : is_home_at site.images number (units_from at n) right ≡ true =
    ap (λ (found : Option PlacedImage). option_map_or (is_own right (units_from at n)) found false) there ∙ own_pages image (units_from at n) right other inside in
    let place : place_of_bytes (units_from at n) ≡ Mmram = in_mmram at n some (home_in_mmram site is number (units_from at n) right home) in
    λ i. verdict_at (place i) (home i) (verdict_by_rules site.policy.rules 0 (name_at site.images number) kinds.Memory (units_from at n) right)
