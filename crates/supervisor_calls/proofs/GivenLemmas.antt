-- What tables are after pages of an image became 0 and were given back.
use Rattle.std.proofs.Common.{◌≡◌, ◌↔◌, ℕ, zero, suc, ◌+◌, ◌*◌, ◌-◌, ◌%◌, ◌≤◌, ◌<◌, Bool, true, false, List, [], ◌∷◌, length, get_or, take, drop, ◌++◌, Option, Some, All, IsTrue, Decides, refl, sym, ap, ◌∙◌, subst, arith}
use Rattle.std.specs.List.{slice_get}
use Rattle.std.specs.Option.{option_map_or}
use Rattle.std.proofs.lemmas.Bool.Decides.{nat_tests, same_from_decides, Decides-and, Decides-eqb, Decides-like}
use Rattle.std.proofs.lemmas.List.{get_or_default}
use Rattle.std.proofs.lemmas.List.{length-append, length-drop, length-replicate, length-take-le}
use Rattle.std.proofs.lemmas.List.Elements.{All-append, All-drop, All-replicate, All-take}
use Rattle.image_table.specs.HomeRanges.{IsPlaced}
use Rattle.image_table.specs.declared.placed_image.PlacedImage.{PlacedImage}
use Rattle.mm_base.specs.Frames.{zeros}
use Rattle.mm_base.specs.Numbers.{overwritten}
use Rattle.mm_base.specs.Platform.{mmram}
use Rattle.mm_base.specs.Range.{encloses}
use Rattle.mm_base.specs.Regions.{region_of, reserve_of}
use Rattle.mm_base.specs.declared.region.Region.{Region}
use Rattle.page_runs.proofs.ChangeLemmas.{length-with_run}
use Rattle.page_runs.specs.Runs.{AreTaken, with_run}
use Rattle.secure_policy.specs.Verdicts.{units_from}
use Rattle.supervisor_calls.specs.Holdings.{page_at, are_taken_at}
use Rattle.supervisor_calls.specs.HoldingsInside.{region_at, cleared, reserve_at, reserve_put}
use Rattle.supervisor_calls.specs.Tables.{TablesState, IsTables, IsRegionLive}
use Rattle.supervisor_calls.proofs.TableLemmas.{keeps_memory}
use Rattle.supervisor_calls.proofs.WhereLemmas.{InMemory, of_image}
use Rattle.supervisor_calls.proofs.HoldingLemmas.{decides_le, decides_taken}
use Rattle.supervisor_calls.proofs.HoldingSteps.{reserve_keeps}

zeros_long : (n : ℕ) → length (zeros n) ≡ n
unfolding zeros
zeros_long n = length-replicate n 0

zeros_small : (n : ℕ) → All (λ byte. byte < 256) (zeros n)
unfolding zeros
zeros_small n = All-replicate (λ byte. byte < 256) n 0 (omega arith)

-- memory is as long with some bytes written over it, and its bytes are small where these are
module _ (bytes piece : List ℕ) (at n : ℕ) (long : length piece ≡ n) (within : at + n ≤ length bytes) where
  overwritten_long : length (overwritten bytes at piece) ≡ length bytes
  overwritten_long =
      omega (
        arith,
        within,
        long,
        length-take-le at bytes (omega (arith, within)),
        length-append (take at bytes ++ piece) (drop (at + length piece) bytes),
        length-append (take at bytes) piece,
        length-drop (at + length piece) bytes,
      )

overwritten_small : (bytes piece : List ℕ) (at : ℕ) → All (λ byte. byte < 256) bytes → All (λ byte. byte < 256) piece
    → All (λ byte. byte < 256) (overwritten bytes at piece)
overwritten_small bytes piece at small also =
    All-append (λ byte. byte < 256) (take at bytes ++ piece) (drop (at + length piece) bytes)
    (All-append (λ byte. byte < 256) (take at bytes) piece (All-take (λ byte. byte < 256) at bytes small) also)
    (All-drop (λ byte. byte < 256) (at + length piece) bytes small)

module _ (tables : TablesState) (at n : ℕ) (keeps : IsTables tables) (within : at - 0x80000000 + n ≤ length tables.live.memory) where
  pub cleared_keeps : IsTables (cleared at n tables)
  cleared_keeps =
      keeps_memory tables (overwritten tables.live.memory (at - 0x80000000) (zeros n)) keeps
      (overwritten_long tables.live.memory (zeros n) (at - 0x80000000) n (zeros_long n) within ∙ keeps.memory)
      (overwritten_small tables.live.memory (zeros n) (at - 0x80000000) keeps.bytes (zeros_small n))

-- what is told by pages that are taken at an address
pub record Given (base : ℕ) (reserve : List Bool) (address n : ℕ) : Type 0 where
  pub from : base ≤ address
  pub whole : (address - base) % 4096 ≡ 0
  pub taken : AreTaken reserve (page_at base address) n

pub decides_given : (base : ℕ) (reserve : List Bool) (address n : ℕ) → Decides (are_taken_at base reserve address n) (Given base reserve address n)
decides_given base reserve address n =
    Decides-like (are_taken_at base reserve address n) (λ parts. record { from = parts.0; whole = parts.1.0; taken = parts.1.1 })
    (λ is. (is.from, (is.whole, is.taken)))
    (Decides-and _ _ (decides_le base address) (Decides-and _ _ (Decides-eqb ((address - base) % 4096) 0) (decides_taken reserve (page_at base address) n)))

-- an image that is there
pub of_there : (P : Type 0) (images : List PlacedImage) (image : ℕ) → image < length images
    → ((placed : PlacedImage) → slice_get images image ≡ Some placed → P) → P
of_there P [] image there each = absurd (omega (arith, there))
of_there P (first ∷ images) zero there each = each first refl
of_there P (first ∷ images) (suc image) there each = of_there P images image (omega (arith, there)) each

-- where pages of a reserve lie
pub record LiesThere (region : Region) (pages : List Bool) (address n : ℕ) : Type 0 where
  pub own : encloses (reserve_of region) (units_from address n) ≡ true
  pub memory : InMemory pages address n

module _ (tables : TablesState) (keeps : IsTables tables) (placed : All IsPlaced tables.site.images) (image : ℕ) (there : image < length tables.site.images) where
  sixteen_pages : length (reserve_at image tables) ≡ 16
  sixteen_pages = keeps.sixteen image [] (omega (arith, keeps.reserves, there))

  lies_there : (address n : ℕ) (found : PlacedImage) → slice_get tables.site.images image ≡ Some found
      → Given (reserve_of found.region).base (reserve_at image tables) address n → LiesThere found.region tables.pages address (4096 * n)
  lies_there address n found is given =
      let inside : encloses mmram (region_of found.region) ≡ true = (of_image IsPlaced tables.site.images placed image found is).within in
      let live : IsRegionLive tables.pages found = of_image (IsRegionLive tables.pages) tables.site.images keeps.live image found is in
      let begins : 0x80000000 ≤ found.region.base = grind (arith, nat_tests, inside) in
      let ends : found.region.base + 4096 * (found.region.pages + 38) ≤ 0x82000000 = grind (arith, nat_tests, inside) in
      let low : found.region.base + 4096 * (found.region.pages + 22) ≤ address = given.from in
      let start : ℕ = page_at (found.region.base + 4096 * (found.region.pages + 22)) address in
      let at : address ≡ found.region.base + 4096 * (found.region.pages + 22) + 4096 * start = omega (arith, given.whole, low) in
      let few : start + n ≤ 16 = omega (arith, given.taken.inside, sixteen_pages) in
      let high : address + 4096 * n ≤ found.region.base + 4096 * (found.region.pages + 38) = omega (arith, at, few) in
      record {
        own = grind (arith, nat_tests, low, high);
        memory = record {
          from = omega (arith, low, begins);
          to = omega (arith, high, ends);
          live = λ page before behind. live page (omega (arith, low, high, begins, before)) (omega (arith, low, begins, behind));
        };
      }

  pub lies_in_reserve : (base address n : ℕ) → base ≡ (reserve_of (region_at image tables)).base
      → are_taken_at base (reserve_at image tables) address n ≡ true → LiesThere (region_at image tables) tables.pages address (4096 * n)
  lies_in_reserve base address n begins taken =
      of_there (LiesThere (region_at image tables) tables.pages address (4096 * n)) tables.site.images image there
      (λ found is.
      let P : Option PlacedImage → Type 0 =
      λ f. LiesThere (option_map_or (λ (p : PlacedImage). p.region) f (record { base = 0; pages = 0 })) tables.pages address (4096 * n) in
      let Q : ℕ → Type 0 = λ b. are_taken_at b (reserve_at image tables) address n ≡ true in
      let same : base ≡ (reserve_of found.region).base =
      begins ∙ ap (λ (f : Option PlacedImage). (reserve_of (option_map_or (λ (p : PlacedImage). p.region) f (record { base = 0; pages = 0 }))).base) is in
      subst P (sym is)
      (lies_there address n found is ((decides_given (reserve_of found.region).base (reserve_at image tables) address n).0 (subst Q same taken))))

-- the answer of a reserve that was asked whether pages are taken
pub given_by : (answer : Bool) (base : ℕ) (reserve : List Bool) (address n : ℕ) → base ≤ address → (address - base) % 4096 ≡ 0
    → IsTrue answer ↔ AreTaken reserve (page_at base address) n → answer ≡ are_taken_at base reserve address n
given_by answer base reserve address n from whole both =
    same_from_decides answer (are_taken_at base reserve address n)
    (Decides-like answer (λ taken. record { from = from; whole = whole; taken = taken }) (λ (given : Given base reserve address n). given.taken) both)
    (decides_given base reserve address n)

-- pages of an image's reserve that may be given back
pub record MayGive (tables : TablesState) (image base address n : ℕ) : Type 0 where
  pub keeps : IsTables tables
  pub long : length (reserve_at image tables) ≡ 16
  pub there : image < length tables.live.reserves
  pub given : Given base (reserve_at image tables) address n
  pub lies : LiesThere (region_at image tables) tables.pages address (4096 * n)

pub may_give : (tables now : TablesState) (image base address n : ℕ) (before : List Bool) (answer : Bool)
    → tables ≡ now → IsTables now → All IsPlaced now.site.images → image < length now.site.images
    → base ≡ (reserve_of (region_at image now)).base → before ≡ get_or tables.live.reserves image before
    → answer ≡ are_taken_at base before address n → answer ≡ true → MayGive tables image base address n
may_give tables now image base address n before answer same keeps placed there begins is told yes_it =
    let P : TablesState → Type 0 = λ t. before ≡ get_or t.live.reserves image before in
    let held : image < length now.live.reserves = omega (arith, there, keeps.reserves) in
    let here : before ≡ reserve_at image now = subst P same is ∙ get_or_default now.live.reserves image before [] held in
    let taken : are_taken_at base (reserve_at image now) address n ≡ true =
    ap (λ (r : List Bool). are_taken_at base r address n) (sym here) ∙ sym told ∙ yes_it in
    let Q : TablesState → Type 0 = λ t. MayGive t image base address n in
    subst Q (sym same) (record {
      keeps = keeps;
      long = sixteen_pages now keeps placed image there;
      there = held;
      given = (decides_given base (reserve_at image now) address n).0 taken;
      lies = lies_in_reserve now keeps placed image there base address n begins taken;
    })

module _ (tables : TablesState) (image base address n : ℕ) (may : MayGive tables image base address n) where
  pub may_be_given : (before : List Bool) → before ≡ get_or tables.live.reserves image before → AreTaken before (page_at base address) n
  may_be_given before is =
      let here : before ≡ reserve_at image tables = is ∙ get_or_default tables.live.reserves image before [] may.there in
      let P : List Bool → Type 0 = λ r. AreTaken r (page_at base address) n in
      subst P (sym here) may.given.taken

  pub given_long : (before after : List Bool) → before ≡ get_or tables.live.reserves image before
      → after ≡ with_run false (page_at base address) n before → length after ≡ 16
  given_long before after is given =
      let here : before ≡ reserve_at image tables = is ∙ get_or_default tables.live.reserves image before [] may.there in
      ap length given ∙ length-with_run false (page_at base address) n before (may_be_given before is).inside ∙ ap length here ∙ may.long

  pub within_memory : address - 0x80000000 + 4096 * n ≤ length tables.live.memory
  within_memory = omega (arith, may.lies.memory.from, may.lies.memory.to, may.keeps.memory)

  pub given_keeps : (bytes : List ℕ) (pages after : List Bool) → bytes ≡ overwritten tables.live.memory (address - 0x80000000) (zeros (4096 * n))
      → pages ≡ tables.pages → length after ≡ 16
      → IsTables (record (reserve_put image after (record tables { live = record tables.live { memory = bytes } })) { pages = pages })
  given_keeps bytes pages after is same long =
      let P : List ℕ → Type 0 = λ b. IsTables (reserve_put image after (record tables { live = record tables.live { memory = b } })) in
      let Q : List Bool → Type 0 =
      λ p. IsTables (record (reserve_put image after (record tables { live = record tables.live { memory = bytes } })) { pages = p }) in
      subst Q (sym same)
      (subst P (sym is) (reserve_keeps (cleared address (4096 * n) tables) image after (cleared_keeps tables address (4096 * n) may.keeps within_memory) long))
