-- What is written to a region before the image is admitted.
use Rattle.std.proofs.Common.{◌≡◌, ℕ, suc, ◌+◌, ◌*◌, ◌/◌, ◌≤◌, ◌<◌, Bool, true, false, List, [], ◌∷◌, ◌++◌, length, map, take, get_or, refl, sym, ap, ◌∙◌, subst, arith}
use Rattle.std.specs.List.{range_with_len}
use Rattle.std.proofs.Math.Seq.{take-suc, take-length}
use Rattle.std.proofs.lemmas.Bool.Decides.{nat_tests}
use Rattle.std.proofs.lemmas.List.FromFn.{length-map-range_with_len, take-map-range_with_len, get_or-map-range_with_len}
use Rattle.image_table.specs.ImageTable.{region_at}
use Rattle.image_table.specs.Sections.{AreApart, LieBetween, part_range}
use Rattle.mm_base.specs.Numbers.{bytes_of_word, bytes_of_words, overwritten}
use Rattle.mm_base.specs.Platform.{mmram}
use Rattle.mm_base.specs.Range.{encloses, share_a_unit}
use Rattle.mm_base.specs.Regions.{region_of}
use Rattle.mm_base.specs.Services.{entry_of}
use Rattle.mm_base.specs.declared.image.Image.{Image}
use Rattle.mm_base.specs.declared.image.Part.{Part}
use Rattle.mm_base.proofs.NumberLemmas.{bytes_of_words-append, length-bytes_of_words}
use Rattle.mm_base.proofs.RangeLemmas.{overlap_is_a_unit}
use Rattle.mm_memory.specs.Flat.{AreLive}
use Rattle.mm_memory.proofs.PageLemmas.{overwritten-after}
use Rattle.pe_loader.specs.Headers.{part_count}
use Rattle.pe_loader.specs.Images.{IsImageOf, image_of}
use Rattle.pe_loader.specs.Sections.{part_at, parts}
use Rattle.pe_loader.proofs.ImageLemmas.{sections_lie_apart, sections_lie_within}
use Rattle.supervisor_calls.specs.Loading.{with_memory}
use Rattle.supervisor_calls.specs.Tables.{TablesState}
use Rattle.driver_start.specs.Hosts.{AreAllLive}

pub live_at : (pages : List Bool) (at n : ℕ) → AreAllLive pages → at + n ≤ 33554432 → AreLive pages at n
live_at pages at n live within page from to = live page (omega (arith, from, within))

pub map_range-suc : {X : Type 0} (f : ℕ → X) (k : ℕ) → map f (range_with_len 0 (k + 1)) ≡ map f (range_with_len 0 k) ++ f k ∷ []
map_range-suc {X} f k =
    let all : List X = map f (range_with_len 0 (k + 1)) in
    let long : length all ≡ k + 1 = length-map-range_with_len f 0 (k + 1) in
    let last : get_or all k (f k) ≡ f k = get_or-map-range_with_len f 0 (k + 1) k k (f k) (omega arith) (omega arith) in
    let more : k + 1 ≡ suc k = omega arith in
    sym (take-length all) ∙ ap (λ n. take n all) (long ∙ more)
    ∙ take-suc all k (f k) (omega (arith, long))
    ∙ ap (λ front. front ++ get_or all k (f k) ∷ []) (take-map-range_with_len f 0 (k + 1) k (omega arith))
    ∙ ap (λ (x : X). map f (range_with_len 0 k) ++ x ∷ []) last

module _ (page : ℕ) where
  abbrev pub services_before : ℕ → List ℕ
  services_before k = bytes_of_words (map (entry_of page) (range_with_len 0 k))

  pub services-suc : (k : ℕ) → services_before (k + 1) ≡ services_before k ++ bytes_of_words (entry_of page k ∷ [])
  services-suc k =
      ap bytes_of_words (map_range-suc (entry_of page) k)
      ∙ bytes_of_words-append (map (entry_of page) (range_with_len 0 k)) (entry_of page k ∷ [])

  pub length-services : (k : ℕ) → length (services_before k) ≡ 8 * k
  length-services k =
      length-bytes_of_words (map (entry_of page) (range_with_len 0 k)) ∙ ap (λ n. 8 * n) (length-map-range_with_len (entry_of page) 0 k)

  -- one more address is written after those before it
  pub one_more : (memory : List ℕ) (at k : ℕ) → at + 8 * (k + 1) ≤ length memory
      → overwritten (overwritten memory at (services_before k)) (at + 8 * k) (bytes_of_word (entry_of page k)) ≡ overwritten memory at (services_before (k + 1))
  one_more memory at k fits =
      let word : List ℕ = bytes_of_words (entry_of page k ∷ []) in
      let eight : length word ≡ 8 = length-bytes_of_words (entry_of page k ∷ []) in
      ap (λ n. overwritten (overwritten memory at (services_before k)) (at + n) word) (sym (length-services k))
      ∙ overwritten-after memory (services_before k) word at (omega (arith, fits, eight, length-services k))
      ∙ ap (overwritten memory at) (sym (services-suc k))

  pub services_step : (tables before after : TablesState) (at k entry slot : ℕ) (bytes : List ℕ)
      → before ≡ with_memory (overwritten tables.live.memory at (services_before k)) tables
      → entry ≡ entry_of page k → slot ≡ 8 * k → bytes ≡ bytes_of_word entry → at + 8 * (k + 1) ≤ length tables.live.memory
      → after ≡ with_memory (overwritten before.live.memory (at + slot) bytes) before
      → after ≡ with_memory (overwritten tables.live.memory at (services_before (k + 1))) tables
  services_step tables before after at k entry slot bytes is entry_is slot_is bytes_are fits after_is =
      let word : bytes ≡ bytes_of_word (entry_of page k) = bytes_are ∙ ap bytes_of_word entry_is in
      after_is
      ∙ ap (λ (t : TablesState). with_memory (overwritten t.live.memory (at + slot) bytes) t) is
      ∙ (λ i. with_memory (overwritten (overwritten tables.live.memory at (services_before k)) (at + slot_is i) (word i)) tables)
      ∙ ap (λ memory. with_memory memory tables) (one_more tables.live.memory at k fits)

-- ---- what an admission asks

pub encloses_region : (page : ℕ) (image : Image) → page + ((image.size + 4095) / 4096 + 38) ≤ 8192
    → encloses mmram (region_of (region_at (0x80000000 + 4096 * page) image)) ≡ true
encloses_region page image fits = grind (arith, nat_tests, fits)

module _ (bytes : List ℕ) (image : Image) (is : IsImageOf bytes image) where
  pub parts_is : image.parts ≡ part_count bytes
  unfolding image_of
  parts_is = ap (λ (i : Image). i.parts) is.1.says

  length-parts : length (parts bytes) ≡ part_count bytes
  length-parts = length-map-range_with_len (part_at bytes) 0 (part_count bytes)

  pub count_is : length (parts bytes) ≡ image.parts
  count_is = length-parts ∙ sym parts_is

  part_is : (k : ℕ) (d : Part) → k < length (parts bytes) → get_or (parts bytes) k d ≡ part_at bytes k
  part_is k d within = get_or-map-range_with_len (part_at bytes) 0 (part_count bytes) k k d (omega (arith, within, length-parts)) (omega arith)

  pub lie_between : LieBetween image.headers image.size (parts bytes)
  lie_between k d within =
      let P : Part → Type 0 = λ part. (image.headers ≤ part.at) × (part.at + part.length ≤ image.size) in
      subst P (sym (part_is k d within)) (sections_lie_within bytes image is.0 k is.1 (omega (arith, within, count_is)))

  no_share : (b : Bool) (j k : ℕ) → share_a_unit (part_range (part_at bytes j)) (part_range (part_at bytes k)) ≡ b → j < k → k < image.parts → b ≡ false
  no_share false j k shares below within = refl
  no_share true j k shares below within =
      let unit = (overlap_is_a_unit (part_range (part_at bytes j)) (part_range (part_at bytes k))).0 shares in
      absurd (sections_lie_apart bytes image is.0 j k unit.0 is.1 below within unit.1.0 unit.1.1)

  pub are_apart : AreApart (parts bytes)
  are_apart j k d below within =
      let P : Part → Type 0 = λ part. share_a_unit (part_range part) (part_range (get_or (parts bytes) k d)) ≡ false in
      let Q : Part → Type 0 = λ part. share_a_unit (part_range (part_at bytes j)) (part_range part) ≡ false in
      subst P (sym (part_is j d (omega (arith, below, within))))
      (subst Q (sym (part_is k d within)) (no_share _ j k refl below (omega (arith, within, count_is))))
