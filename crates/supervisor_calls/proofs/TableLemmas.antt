-- What accesses ask of the tables, and leave of them.
use Rattle.std.proofs.Common.{◌≡◌, ◌⊎◌, inl, inr, ℕ, suc, ◌+◌, ◌*◌, ◌-◌, ◌≤◌, ◌<◌, ◌^◌, Bool, true, false, ◌==◌, List, ◌∷◌, ◌++◌, length, take, drop, find, Option, Some, None, option_map, All, refl, sym, ap, ◌∙◌, subst, length-append, arith}
use Rattle.std.specs.List.{slice_get, range_with_len}
use Rattle.std.specs.Option.{option_map_or}
use Rattle.std.proofs.lemmas.Bool.Decides.{nat_tests}
use Rattle.std.proofs.lemmas.List.{length-take-le, length-drop}
use Rattle.std.proofs.lemmas.List.Elements.{All-from_recursion, All-append, All-take, All-drop}
use Rattle.image_table.specs.HomeRanges.{IsPlaced}
use Rattle.image_table.specs.declared.placed_image.PlacedImage.{PlacedImage}
use Rattle.mm_base.specs.Bus.{IsAccessWidth}
use Rattle.mm_base.specs.Cells.{is_device_byte}
use Rattle.mm_base.specs.Numbers.{bytes_of_word, low_bytes, overwritten}
use Rattle.mm_base.specs.Platform.{mmram}
use Rattle.mm_base.specs.Range.{encloses}
use Rattle.mm_base.specs.Regions.{IsAddressable, region_of, service_page_of}
use Rattle.mm_base.specs.Services.{entry_of}
use Rattle.mm_base.specs.declared.access.Kind.TheVariants.{Memory}
use Rattle.mm_base.specs.declared.access.Right.{Right}
use Rattle.mm_base.specs.declared.region.Region.{Region}
use Rattle.secure_policy.specs.Laws.{passes}
use Rattle.supervisor_calls.specs.Accesses.{bytes_at, decided, service_at}
use Rattle.supervisor_calls.specs.AccessesInside.{AreOfDevice, AreStored}
use Rattle.supervisor_calls.specs.Tables.{Live, TablesState, IsTables}
use Rattle.supervisor_calls.proofs.WhereLemmas.{InMemory, InDevice, device_told, memory_told, of_image, passed_where}

-- ---- widths and sides

pub some_width : (n : ℕ) → IsAccessWidth n → (1 ≤ n) × (n ≤ 8)
some_width n (inl e) = (omega (arith, e), omega (arith, e))
some_width n (inr (inl e)) = (omega (arith, e), omega (arith, e))
some_width n (inr (inr (inl e))) = (omega (arith, e), omega (arith, e))
some_width n (inr (inr (inr e))) = (omega (arith, e), omega (arith, e))

module _ (pages : List Bool) (at n : ℕ) (some : 1 ≤ n) where
  pub device_side : InMemory pages at n ⊎ InDevice at n → is_device_byte at ≡ true → InDevice at n
  device_side (inl memory) e = let clash : false ≡ true = sym (memory_told pages at n memory some) ∙ e in cc
  device_side (inr device) e = device

  pub memory_side : InMemory pages at n ⊎ InDevice at n → is_device_byte at ≡ false → InMemory pages at n
  memory_side (inl memory) e = memory
  memory_side (inr device) e = let clash : true ≡ false = sym (device_told at n device some) ∙ e in cc

-- where the bytes lie of an access that passes
module _ (tables : TablesState) (keeps : IsTables tables) (placed : All IsPlaced tables.site.images) (image at n trapped : ℕ) (right : Right)
    (some : 1 ≤ n) (pass : passes (decided tables.site image Memory at n right trapped) ≡ true) where
  in_memory : is_device_byte at ≡ false → InMemory tables.pages at n
  in_memory e = memory_side tables.pages at n some (passed_where tables keeps placed image at n trapped right pass) e

  pub place_fits : is_device_byte at ≡ false → (0x80000000 ≤ at) × (at ≤ 0x82000000)
  place_fits e = let inside = in_memory e in (inside.from, omega (arith, inside.to))

  pub are_stored : is_device_byte at ≡ false → AreStored tables at n (at - 0x80000000)
  are_stored e =
      let inside = in_memory e in
      record { memory = e; place_is = refl; within = omega (arith, inside.from, inside.to, keeps.memory); live = inside.live }

  pub are_of_device : is_device_byte at ≡ true → AreOfDevice at n
  are_of_device e =
      let inside = device_side tables.pages at n some (passed_where tables keeps placed image at n trapped right pass) e in
      record { device = e; from = inside.from; to = inside.to }

-- ---- memory after a write

small_word : (value : ℕ) → All (λ byte. byte < 256) (bytes_of_word value)
small_word value =
    All-from_recursion (λ byte. byte < 256) (bytes_of_word value)
    (omega arith, (omega arith, (omega arith, (omega arith, (omega arith, (omega arith, (omega arith, (omega arith, tt))))))))

module _ (n value : ℕ) (few : n ≤ 8) where
  pub length-low : length (low_bytes n value) ≡ n
  length-low = length-take-le n (bytes_of_word value) few

  small_low : All (λ byte. byte < 256) (low_bytes n value)
  small_low = All-take (λ byte. byte < 256) n (bytes_of_word value) (small_word value)

  module _ (bytes : List ℕ) (at : ℕ) (within : at + n ≤ length bytes) where
    front_long : length (take at bytes) ≡ at
    front_long = length-take-le at bytes (omega (arith, within))

    pub same_length : length (overwritten bytes at (low_bytes n value)) ≡ length bytes
    same_length =
        omega (
          arith,
          within,
          front_long,
          length-low,
          length-append (take at bytes ++ low_bytes n value) (drop (at + length (low_bytes n value)) bytes),
          length-append (take at bytes) (low_bytes n value),
          length-drop (at + length (low_bytes n value)) bytes,
        )

    pub still_small : All (λ byte. byte < 256) bytes → All (λ byte. byte < 256) (overwritten bytes at (low_bytes n value))
    still_small small =
        All-append (λ byte. byte < 256) (take at bytes ++ low_bytes n value) (drop (at + length (low_bytes n value)) bytes)
        (All-append (λ byte. byte < 256) (take at bytes) (low_bytes n value) (All-take (λ byte. byte < 256) at bytes small) small_low)
        (All-drop (λ byte. byte < 256) (at + length (low_bytes n value)) bytes small)

-- tables keep what they keep where memory has other bytes
pub keeps_memory : (tables : TablesState) (bytes : List ℕ) → IsTables tables → length bytes ≡ 33554432 → All (λ byte. byte < 256) bytes
    → IsTables (record tables { live = record tables.live { memory = bytes } })
keeps_memory tables bytes keeps long small = record {
  memory = long;
  bytes = small;
  pools = keeps.pools;
  reserves = keeps.reserves;
  sixteen = keeps.sixteen;
  frozen = keeps.frozen;
  settled = keeps.settled;
  live = keeps.live;
}

-- so after a write
pub written_keeps : (tables : TablesState) (bytes : List ℕ) (pages : List Bool) → IsTables tables → (at n value : ℕ) → n ≤ 8 → at + n ≤ length tables.live.memory
    → bytes ≡ overwritten tables.live.memory at (low_bytes n value) → pages ≡ tables.pages
    → IsTables (record tables { live = record tables.live { memory = bytes }; pages = pages })
written_keeps tables bytes pages keeps at n value few within is same =
    let long : length bytes ≡ 33554432 = ap length is ∙ same_length n value few tables.live.memory at within ∙ keeps.memory in
    let P : List ℕ → Type 0 = λ b. All (λ byte. byte < 256) b in
    let small : All (λ byte. byte < 256) bytes = subst P (sym is) (still_small n value few tables.live.memory at within keeps.bytes) in
    let Q : List Bool → Type 0 = λ p. IsTables (record tables { live = record tables.live { memory = bytes }; pages = p }) in
    subst Q (sym same) (keeps_memory tables bytes keeps long small)

-- ---- services

-- an image whose base and pages are these is there
pub record Stands (images : List PlacedImage) (number : ℕ) (region : Region) : Type 0 where
  pub image : PlacedImage
  pub there : slice_get images number ≡ Some image
  pub region_is : image.region ≡ region

stands_by : (images : List PlacedImage) (number base pages : ℕ) (found : Option PlacedImage) → slice_get images number ≡ found
    → option_map (λ (placed : PlacedImage). placed.region.base) found ≡ Some base
    → option_map (λ (placed : PlacedImage). placed.region.pages) found ≡ Some pages
    → Stands images number (record { base = base; pages = pages })
stands_by images number base pages None is b p = absurd cc
stands_by images number base pages (Some image) is b p =
    let e1 : image.region.base ≡ base = cc in
    let e2 : image.region.pages ≡ pages = cc in
    record { image = image; there = is; region_is = λ i. record { base = e1 i; pages = e2 i } }

pub stands : (images : List PlacedImage) (number base pages : ℕ)
    → option_map (λ (placed : PlacedImage). placed.region.base) (slice_get images number) ≡ Some base
    → option_map (λ (placed : PlacedImage). placed.region.pages) (slice_get images number) ≡ Some pages
    → Stands images number (record { base = base; pages = pages })
stands images number base pages b p = stands_by images number base pages (slice_get images number) refl b p

pub addressable : (images : List PlacedImage) → All IsPlaced images → (number : ℕ) (region : Region) → Stands images number region → IsAddressable region
addressable images placed number region at =
    let inside : encloses mmram (region_of at.image.region) ≡ true = (of_image IsPlaced images placed number at.image at.there).within in
    let ends : at.image.region.base + 4096 * (at.image.region.pages + 38) ≤ 0x82000000 = grind (arith, nat_tests, inside) in
    subst IsAddressable at.region_is (omega (arith, ends))

-- the service page ends where addresses do, or before
pub page_fits : (region : Region) → IsAddressable region → (service_page_of region).base + 4096 ≤ 2 ^ 64
page_fits region fits = omega (arith, fits)

pub service_told : (images : List PlacedImage) (number : ℕ) (region : Region) (at : ℕ) → Stands images number region
    → service_at (service_page_of region).base at
    ≡ option_map_or (λ (placed : PlacedImage). service_at (service_page_of placed.region).base at) (slice_get images number) None
service_told images number region at there =
    ap (λ (r : Region). service_at (service_page_of r).base at) (sym there.region_is)
    ∙ ap (λ (found : Option PlacedImage). option_map_or (λ (placed : PlacedImage). service_at (service_page_of placed.region).base at) found None) (sym there.there)

-- ---- the search for a service

-- none of the first k services has its entry there
pub record Searched (page at k : ℕ) : Type 0 where
  pub rest : (left : ℕ) → left + k ≡ 20 → service_at page at ≡ find (λ number. entry_of page number == at) (range_with_len k left)

pub searched_none : (page at : ℕ) → Searched page at 0
searched_none page at =
    record { rest = λ left all. ap (λ (n : ℕ). find (λ number. entry_of page number == at) (range_with_len 0 n)) (sym all ∙ omega arith) }

module _ (page at k : ℕ) (searched : Searched page at k) (few : k < 20) where
  left : ℕ
  left = 20 - suc k

  here : service_at page at ≡ find (λ number. entry_of page number == at) (k ∷ range_with_len (k + 1) left)
  unfolding left
  here = searched.rest (suc left) (omega (arith, few))

  same_left : (other : ℕ) → other + (k + 1) ≡ 20 → left ≡ other
  unfolding left
  same_left other all = omega (arith, all)

  -- the next one has
  pub searched_here : (entry_of page k == at) ≡ true → service_at page at ≡ Some k
  searched_here e = here ∙ rw e refl

  -- or it hasn't
  pub searched_more : (entry_of page k == at) ≡ false → Searched page at (k + 1)
  searched_more e = record {
    rest = λ other all.
        here ∙ rw e (ap (λ (n : ℕ). find (λ number. entry_of page number == at) (range_with_len (k + 1) n)) (same_left other all));
  }

pub searched_all : (page at : ℕ) → Searched page at 20 → service_at page at ≡ None
searched_all page at searched = searched.rest 0 refl

-- ---- bytes at an address

module _ (live : Live) (at n : ℕ) where
  pub memory_bytes : is_device_byte at ≡ false → bytes_at live at n ≡ take n (drop (at - 0x80000000) live.memory)
  memory_bytes e = rw e refl

  pub device_bytes : is_device_byte at ≡ true → bytes_at live at n ≡ take n (drop (at - 0xfe000000) live.platform.device)
  device_bytes e = rw e refl
