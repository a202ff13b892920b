-- The plain form, byte by byte, and the numbers in it.
use Rattle.std.proofs.Common.{◌≡◌, ℕ, ◌+◌, ◌*◌, ◌-◌, ◌≤◌, ◌<◌, true, false, List, length, get_or, Option, Some, find, ap, ◌∙◌, arith}
use Rattle.std.specs.Option.{option_map_or}
use Rattle.std.proofs.lemmas.Bool.{cond-true, cond-false, lt-ltb, le-ltb, false_from_ne_true}
use Rattle.std.proofs.lemmas.Bool.Decides.{nat_tests}
use Rattle.std.proofs.lemmas.List.FromFn.{length-map-range_with_len, get_or-map-range_with_len}
use Rattle.mm_base.specs.Numbers.{number_in}
use Rattle.mm_base.specs.Range.{share_a_unit}
use Rattle.mm_base.specs.declared.image.Part.{Part}
use Rattle.pe_loader.specs.Sections.{part_from, part_of, parts_of, range_of}
use Rattle.pe_loader.specs.Forms.{copies_to, plain_byte, form_of}
use Rattle.pe_loader.specs.LayoutInside.{IsLaidOut}
use Rattle.pe_loader.specs.ReadingInside.{byte_of, form_in}
use Rattle.pe_loader.specs.declared.layout.Layout.{Layout}
use Rattle.pe_loader.proofs.NumberLemmas.{number_at_2, number_at_4}
use Rattle.pe_loader.proofs.RangeLemmas.{find_none, find_only}

-- a section copies no more than its length
pub copied_within : (bytes : List ℕ) (entry : ℕ) → (part_from bytes entry).copied ≤ (part_from bytes entry).length
unfolding part_from
copied_within bytes entry = omega arith

-- two sections that both copy a byte to a place overlap
copy_apart : (one other : Part) (place : ℕ) → one.copied ≤ one.length → other.copied ≤ other.length
    → share_a_unit (range_of one) (range_of other) ≡ false → copies_to place other ≡ true → copies_to place one ≡ true → ⊥
copy_apart one other place small little apart copies both = grind (arith, nat_tests)

module _ (bytes : List ℕ) (layout : Layout) where
  -- ---- what the byte at a place is

  -- the file's below the end of the headers
  pub plain_of_headers : (place : ℕ) → place < layout.headers → byte_of bytes layout place ≡ get_or bytes place 0
  unfolding plain_byte
  plain_of_headers place h = cond-true _ _ _ (lt-ltb place layout.headers h)

  -- the byte that a section copies there
  pub plain_of_part : (k place : ℕ) → IsLaidOut bytes layout → k < layout.count → copies_to place (part_of bytes layout k) ≡ true
      → byte_of bytes layout place ≡ get_or bytes ((part_of bytes layout k).raw + (place - (part_of bytes layout k).at)) 0
  unfolding plain_byte
  plain_of_part k place laid h copies =
      let part : Part = part_of bytes layout k in
      let from = (laid.each k h).from in
      let behind : layout.headers ≤ place = grind (arith, nat_tests) in
      let found : find (copies_to place) (parts_of bytes layout) ≡ Some part =
      find_only (copies_to place) (part_of bytes layout) 0 layout.count k (omega arith) (omega arith) copies
      (λ j low earlier. false_from_ne_true _ (copy_apart (part_of bytes layout j) part place (copied_within bytes _) (copied_within bytes _) (laid.apart j k earlier h) copies)) in
      cond-false _ _ _ (le-ltb place layout.headers behind)
      ∙ ap (λ (found : Option Part). option_map_or (λ (part : Part). get_or bytes (part.raw + (place - part.at)) 0) found 0) found

  -- or 0
  pub plain_of_none : (place : ℕ) → layout.headers ≤ place → ((j : ℕ) → j < layout.count → copies_to place (part_of bytes layout j) ≡ false)
      → byte_of bytes layout place ≡ 0
  unfolding plain_byte
  plain_of_none place behind none =
      cond-false _ _ _ (le-ltb place layout.headers behind)
      ∙ ap (λ (found : Option Part). option_map_or (λ (part : Part). get_or bytes (part.raw + (place - part.at)) 0) found 0)
      (find_none (copies_to place) (part_of bytes layout) 0 layout.count (λ j low high. none j (omega arith)))

  -- what a section copies lies in the image
  pub copy_in_image : (k : ℕ) → IsLaidOut bytes layout → k < layout.count
      → (part_of bytes layout k).at + (part_of bytes layout k).copied ≤ layout.size
  copy_in_image k laid h = omega (arith, (laid.each k h).to, copied_within bytes (layout.table + 40 * k))

  -- ---- numbers

  pub length-form : length (form_in bytes layout) ≡ layout.size
  unfolding form_of
  length-form = length-map-range_with_len (plain_byte bytes layout.headers (parts_of bytes layout)) 0 layout.size

  pub get_or-form : (place : ℕ) → place < layout.size → get_or (form_in bytes layout) place 0 ≡ byte_of bytes layout place
  unfolding form_of
  get_or-form place h = get_or-map-range_with_len (plain_byte bytes layout.headers (parts_of bytes layout)) 0 layout.size place place 0 h (omega arith)

  -- two bytes are a number of two
  pub plain_word : (at low high : ℕ) → at + 2 ≤ layout.size → low ≡ byte_of bytes layout at → high ≡ byte_of bytes layout (at + 1)
      → low + 256 * high ≡ number_in (form_in bytes layout) at 2
  plain_word at low high h l g =
      let long = length-form in
      let both = number_at_2 (form_in bytes layout) at (omega arith) in
      let a = get_or-form at (omega arith) in
      let b = get_or-form (at + 1) (omega arith) in
      omega arith

  -- and two of two one of four
  pub plain_double : (at low high : ℕ) → at + 4 ≤ layout.size → low ≡ number_in (form_in bytes layout) at 2
      → high ≡ number_in (form_in bytes layout) (at + 2) 2 → low + 65536 * high ≡ number_in (form_in bytes layout) at 4
  plain_double at low high h l g =
      let long = length-form in
      let both = number_at_4 (form_in bytes layout) at (omega arith) in
      omega arith
