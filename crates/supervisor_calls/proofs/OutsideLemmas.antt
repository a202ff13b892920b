-- Memory outside a region stays where what is written lies in the region, and so does all of it where nothing is.
use Rattle.std.proofs.Common.{◌≡◌, ◌⊎◌, inl, inr, ℕ, ◌+◌, ◌*◌, ◌-◌, ◌≤◌, Bool, true, false, List, ◌++◌, length, take, drop, Option, Some, refl, sym, ap, ◌∙◌, subst, arith}
use Rattle.std.specs.List.{slice_get}
use Rattle.std.specs.Option.{option_map_or}
use Rattle.std.proofs.lemmas.Bool.Decides.{nat_tests}
use Rattle.std.proofs.lemmas.List.{length-append, length-take-le, nil_from_length, take-append-le, take-take}
use Rattle.std.proofs.lemmas.Slice.{drop-append-drop}
use Rattle.image_table.specs.HomeRanges.{IsPlaced, home_ranges, is_own}
use Rattle.image_table.specs.ImageTable.{is_home_at, name_at}
use Rattle.image_table.specs.declared.placed_image.PlacedImage.{PlacedImage}
use Rattle.image_table.proofs.LawLemmas.{lie_in_their_region}
use Rattle.mm_base.specs.Cells.{is_device_byte}
use Rattle.mm_base.specs.Frames.{zeros}
use Rattle.mm_base.specs.Numbers.{overwritten}
use Rattle.mm_base.specs.Platform.{mmram}
use Rattle.mm_base.specs.Range.{encloses}
use Rattle.mm_base.specs.Regions.{region_of}
use Rattle.mm_base.specs.declared.access.Kind.TheVariants as kinds
use Rattle.mm_base.specs.declared.access.Right.{Right}
use Rattle.mm_base.specs.declared.access.Verdict.{Verdict}
use Rattle.mm_base.specs.declared.range.Range.{Range}
use Rattle.mm_base.specs.declared.region.Region.{Region}
use Rattle.mm_memory.proofs.PageLemmas.{length-overwritten, length-zeros, overwritten-nothing}
use Rattle.secure_policy.specs.Laws.{passes}
use Rattle.secure_policy.specs.Places.{place_of_bytes}
use Rattle.secure_policy.specs.Verdicts.{verdict_on, verdict_by_rules, units_from}
use Rattle.secure_policy.specs.declared.place.Place.TheVariants.{Mmram, Cells}
use Rattle.supervisor_calls.specs.Accesses.{decided}
use Rattle.supervisor_calls.specs.Domains.{DomainState}
use Rattle.supervisor_calls.specs.Laws.{IsSite}
use Rattle.supervisor_calls.specs.Services.{region_in}
use Rattle.supervisor_calls.specs.Within.{outside}
use Rattle.supervisor_calls.proofs.WhereLemmas.{InDevice, at_image, by_place, in_device, of_image, region_covers}

-- a piece that a later one covers leaves no trace
covered : (bytes piece more : List ℕ) (at from : ℕ) → from ≤ at → at + length piece ≤ from + length more → from + length more ≤ length bytes
    → overwritten (overwritten bytes at piece) from more ≡ overwritten bytes from more
covered bytes piece more at from low high within =
    let front : List ℕ = take at bytes ++ piece in
    let before : length (take at bytes) ≡ at = length-take-le at bytes (omega arith) in
    let long : length front ≡ at + length piece = omega (arith, length-append (take at bytes) piece) in
    let first : take from (front ++ drop (at + length piece) bytes) ≡ take from bytes =
    take-append-le from front (drop (at + length piece) bytes) (omega arith)
    ∙ take-append-le from (take at bytes) piece (omega arith) ∙ take-take from at bytes low in
    let last : drop (from + length more) (front ++ drop (at + length piece) bytes) ≡ drop (from + length more) bytes =
    drop-append-drop (at + length piece) bytes front (from + length more) high long in
    λ i. first i ++ more ++ last i

-- n bytes from an address lie in a region, which lies in memory
pub record LiesIn (region : Region) (at n : ℕ) : Type 0 where
  pub low : region.base ≤ at
  pub high : at + n ≤ region.base + 4096 * (region.pages + 38)
  pub begins : 0x80000000 ≤ region.base
  pub ends : region.base + 4096 * (region.pages + 38) ≤ 0x82000000

-- what is home to a placed image lies in its region
home_lies : (image : PlacedImage) (at n : ℕ) (right : Right) → IsPlaced image → is_own right (units_from at n) image ≡ true
    → LiesIn image.region at n
home_lies image at n right placed own =
    let region : Range = region_of image.region in
    let covers : encloses region (units_from at n) ≡ true =
    region_covers (units_from at n) right region (home_ranges image) (lie_in_their_region image placed) own in
    let inside : encloses mmram region ≡ true = placed.within in
    record {
      low = grind (arith, nat_tests, covers);
      high = grind (arith, nat_tests, covers);
      begins = grind (arith, nat_tests, inside);
      ends = grind (arith, nat_tests, inside);
    }

-- what passes lies in the image's region or in the device window
module _ (domain : DomainState) (placed : IsSite domain.tables.site) (at n trapped : ℕ) (right : Right) where
  abbrev pub Lies : Type 0
  Lies = LiesIn (region_in domain) at n ⊎ InDevice at n

  in_region : (image : PlacedImage) → slice_get domain.tables.site.images domain.image ≡ Some image
      → is_own right (units_from at n) image ≡ true → LiesIn (region_in domain) at n
  in_region image is own =
      let same : region_in domain ≡ image.region =
      ap (λ (found : Option PlacedImage). option_map_or (λ placed. placed.region) found (record { base = 0; pages = 0 })) is in
      let P : Region → Type 0 = λ region. LiesIn region at n in
      subst P (sym same) (home_lies image at n right (of_image IsPlaced domain.tables.site.images placed domain.image image is) own)

  abbrev homes : Bool
  homes = is_home_at domain.tables.site.images domain.image (units_from at n) right

  abbrev ruled : Verdict
  ruled =
      verdict_by_rules domain.tables.site.policy.rules 0 (name_at domain.tables.site.images domain.image) kinds.Memory (units_from at n) right

  pub passed_lies : passes (decided domain.tables.site domain.image kinds.Memory at n right trapped) ≡ true → Lies
  unfolding decided verdict_on
  passed_lies pass = by_case (by_place _ _ _ pass)
    where
      by_case : ((place_of_bytes (units_from at n) ≡ Mmram) × (homes ≡ true)) ⊎ ((place_of_bytes (units_from at n) ≡ Cells) × (passes ruled ≡ true))
          → Lies
      by_case (inl home) =
          inl (at_image (LiesIn (region_in domain) at n) domain.tables.site.images domain.image at n right
          (slice_get domain.tables.site.images domain.image) refl in_region home.1)
      by_case (inr cells) = inr (in_device at n cells.0)

-- the same memory outside a region, and as much of it
pub record SameOutside (region : Region) (old new : List ℕ) : Type 0 where
  pub bytes : outside region new ≡ outside region old
  pub size : length new ≡ length old

nothing_written : (region : Region) (memory piece : List ℕ) (at : ℕ) → length piece ≡ 0
    → SameOutside region memory (overwritten memory at piece)
nothing_written region memory piece at none =
    let same : overwritten memory at piece ≡ memory =
    ap (overwritten memory at) (nil_from_length piece none) ∙ overwritten-nothing memory at in
    record { bytes = ap (outside region) same; size = ap length same }

pub written_outside : (region : Region) (memory piece : List ℕ) (at n : ℕ) → length memory ≡ 33554432 → length piece ≤ n
    → is_device_byte at ≡ false → LiesIn region at n ⊎ InDevice at n → SameOutside region memory (overwritten memory (at - 0x80000000) piece)
written_outside region memory piece at n whole few other (inl inside) =
    let low : region.base ≤ at = inside.low in
    let high : at + n ≤ region.base + 4096 * (region.pages + 38) = inside.high in
    let begins : 0x80000000 ≤ region.base = inside.begins in
    let ends : region.base + 4096 * (region.pages + 38) ≤ 0x82000000 = inside.ends in
    let all : List ℕ = zeros (4096 * (region.pages + 38)) in
    let long : length all ≡ 4096 * (region.pages + 38) = length-zeros (4096 * (region.pages + 38)) in
    record {
      bytes = covered memory piece all (at - 0x80000000) (region.base - 0x80000000) (omega arith) (omega arith) (omega arith);
      size = length-overwritten memory piece (at - 0x80000000) (omega arith);
    }
written_outside region memory piece at n whole few other (inr device) =
    let from : 0xfe000000 ≤ at = device.from in
    let to : at + n ≤ 0xfe010000 = device.to in
    nothing_written region memory piece (at - 0x80000000) (grind (arith, nat_tests, other, from, to, few))
