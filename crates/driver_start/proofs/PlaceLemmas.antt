-- What an image that was placed is admitted with, and what the tables are then.
use Rattle.std.proofs.Common.{◌≡◌, ℕ, ◌+◌, ◌*◌, ◌-◌, ◌≤◌, ◌<◌, Bool, true, false, if◌then◌else◌, nat_lt, List, length, Option, Some, None, refl, sym, ap, ◌∙◌, subst, arith}
use Rattle.std.proofs.lemmas.Bool.Decides.{nat_tests}
use Rattle.image_table.specs.ImageTable.{placed}
use Rattle.image_table.specs.Sections.{AreApart, LieBetween}
use Rattle.image_table.specs.declared.placed_image.PlacedImage.{PlacedImage}
use Rattle.mm_base.specs.Numbers.{overwritten}
use Rattle.mm_base.specs.Regions.{pages_filled, service_page_of}
use Rattle.mm_base.specs.declared.guid.Guid.{Guid}
use Rattle.mm_base.specs.declared.image.Image.{Image}
use Rattle.mm_base.specs.declared.image.Part.{Part}
use Rattle.mm_base.specs.declared.range.Range.{Range}
use Rattle.mm_base.specs.declared.region.Region.{Region}
use Rattle.mm_memory.specs.Flat.{AreLive}
use Rattle.pe_loader.specs.Images.{IsImageOf}
use Rattle.pe_loader.specs.Loading.{IsLoaded}
use Rattle.pe_loader.specs.Sections.{parts}
use Rattle.pe_loader.proofs.EntryLemmas.{size_is_bounded}
use Rattle.pe_loader.proofs.LoadedLemmas.{loaded_is_there}
use Rattle.supervisor_calls.specs.Loading.{with_memory}
use Rattle.supervisor_calls.specs.Tables.{TablesState, number_for, with_image}
use Rattle.driver_start.specs.Hosts.{AreAllLive}
use Rattle.driver_start.specs.Starts.{DriverState, IsLoadable, Loadable, admitted, region_on, service_bytes, with_loaded}
use Rattle.driver_start.specs.StartsInside.{IsRunFor}
use Rattle.driver_start.proofs.LoadLemmas.{are_apart, count_is, lie_between, live_at}

number_there : (images : List PlacedImage) → length images < 32 → number_for images ≡ Some (length images)
number_there images few = by_test (nat_lt (length images) 32) (grind (arith, nat_tests, few))
  where
    by_test : (b : Bool) → b ≡ true → if◌then◌else◌ {A = Option ℕ} b (Some (length images)) None ≡ Some (length images)
    by_test true is = refl
    by_test false is = absurd cc

module _ (tables : TablesState) (driver : DriverState) (of : IsImageOf driver.bytes driver.image) (page : ℕ) (formed : TablesState)
    (formed_is : (form : List ℕ) → IsLoaded driver.bytes (0x80000000 + 4096 * page) form
    → formed ≡ with_memory (overwritten tables.live.memory (4096 * page) form) tables) where
  same_pages : formed.pages ≡ tables.pages
  same_pages =
      ap (λ (t : TablesState). t.pages)
      (formed_is _ (loaded_is_there driver.bytes driver.image (0x80000000 + 4096 * page) of).1)

  pub formed_live : AreAllLive tables.pages → AreAllLive formed.pages
  formed_live live = subst AreAllLive (sym same_pages) live

  module _ (image : Image) (seen : image ≡ driver.image) (region : Region)
      (region_is : region ≡ record { base = 0x80000000 + 4096 * page; pages = pages_filled image.size }) (services : Range)
      (services_are : services ≡ service_page_of region) (loaded : TablesState)
      (loaded_is : loaded ≡ with_memory (overwritten formed.live.memory (services.base - 0x80000000) (service_bytes services.base)) formed) where
    pub admit_live : AreAllLive tables.pages → IsRunFor driver.image page
        → AreLive loaded.pages (region.base - 0x80000000) (4096 * (pages_filled image.size + 38))
    admit_live live fits =
        let all : AreAllLive loaded.pages = subst AreAllLive (sym (ap (λ (t : TablesState). t.pages) loaded_is ∙ same_pages)) live in
        let base : region.base ≡ 0x80000000 + 4096 * page = ap (λ (r : Region). r.base) region_is in
        let size : image.size ≡ driver.image.size = ap (λ (i : Image). i.size) seen in
        live_at loaded.pages (region.base - 0x80000000) (4096 * (pages_filled image.size + 38)) all (omega (arith, base, size, fits))

    pub headers_fit : image.headers ≤ image.size
    headers_fit =
        let P : Image → Type 0 = λ i. i.headers ≤ i.size in
        subst P (sym seen) (size_is_bounded driver.bytes driver.image of.0 of.1).2

    module _ (sections : List Part) (sections_are : sections ≡ parts driver.bytes) where
      pub count_fits : length sections ≡ image.parts
      count_fits = ap length sections_are ∙ count_is driver.bytes driver.image of ∙ ap (λ (i : Image). i.parts) (sym seen)

      pub sections_within : LieBetween image.headers image.size sections
      sections_within =
          let P : Image → Type 0 = λ i. LieBetween i.headers i.size sections in
          let Q : List Part → Type 0 = λ s. LieBetween driver.image.headers driver.image.size s in
          subst P (sym seen) (subst Q (sym sections_are) (lie_between driver.bytes driver.image of))

      pub sections_apart : AreApart sections
      sections_apart = subst AreApart (sym sections_are) (are_apart driver.bytes driver.image of)

      pub admitted_is : length tables.site.images < 32 → (name : Guid) → name ≡ driver.name → (number : Option ℕ) → number ≡ number_for loaded.site.images
          → (after : TablesState) → after ≡ with_image number (placed name region.base image sections) loaded
          → (loadable : Loadable) → IsLoadable driver loadable → after ≡ admitted loadable page tables
      admitted_is few name name_is number number_is after after_is loadable is =
          let base : ℕ = 0x80000000 + 4096 * page in
          let at_is : 4096 * page ≡ base - 0x80000000 = omega arith in
          let form : List ℕ = loadable.form base in
          let formed_here : formed ≡ with_memory (overwritten tables.live.memory (base - 0x80000000) form) tables =
          formed_is form (is.form base) ∙ ap (λ at. with_memory (overwritten tables.live.memory at form) tables) at_is in
          let whole : image ≡ loadable.image = seen ∙ sym is.image in
          let region_here : region ≡ region_on page loadable.image =
          region_is ∙ (λ i. record { base = 0x80000000 + 4096 * page; pages = pages_filled (whole i).size }) in
          let page_here : services ≡ service_page_of (region_on page loadable.image) = services_are ∙ ap service_page_of region_here in
          let loaded_here : loaded ≡ with_memory (with_loaded (region_on page loadable.image) form tables.live.memory) tables =
          loaded_is
          ∙ (λ i.
          with_memory (overwritten (formed_here i).live.memory ((page_here i).base - 0x80000000) (service_bytes (page_here i).base))
          (formed_here i)) in
          let number_here : number ≡ Some (length tables.site.images) =
          number_is ∙ ap (λ (t : TablesState). number_for t.site.images) loaded_here ∙ number_there tables.site.images few in
          after_is
          ∙ (λ i.
          with_image (number_here i)
          (placed ((name_is ∙ sym is.name) i) (region_here i).base (whole i) ((sections_are ∙ sym is.parts) i))
          (loaded_here i))
