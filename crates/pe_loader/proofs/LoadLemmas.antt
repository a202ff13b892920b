-- The plain form as it is laid out.
use Rattle.std.proofs.Common.{◌≡◌, ◌⊎◌, inl, inr, ℕ, ◌+◌, ◌-◌, ◌*◌, ◌≤◌, ◌<◌, min, Bool, true, false, cond, ltb, leb, ◌&&◌, List, ◌++◌, length, get_or, take, drop, sym, ap, ◌∙◌, subst, arith, below_more}
use Rattle.std.proofs.lemmas.Bool.{cond-true, cond-false, cases_Bool, cases_lt, cases_eq, lt-ltb, le-ltb, lt-leb, le-leb, leb-true, and_left, and_right, and_from, and_parts}
use Rattle.std.proofs.lemmas.List.{length-take-le, length-append, length-drop, get_or_append_left, get_or-append_right, get_or-take, get_or-drop}
use Rattle.std.proofs.lemmas.List.FromFn.{fill_by_all}
use Rattle.mm_base.specs.declared.image.Part.{Part}
use Rattle.pe_loader.specs.Sections.{part_of, parts_of}
use Rattle.pe_loader.specs.Forms.{copies_to, plain_byte, form_of}
use Rattle.pe_loader.specs.Loading.{put}
use Rattle.pe_loader.specs.LayoutInside.{IsLaidOut, EndBefore, AreInOrder}
use Rattle.pe_loader.specs.ReadingInside.{byte_of, form_in, Shows, IsReady}
use Rattle.pe_loader.specs.declared.layout.Layout.{Layout}
use Rattle.pe_loader.specs.declared.window.Window.{Window}
use Rattle.pe_loader.proofs.FormLemmas.{copied_within, plain_of_headers, plain_of_part, plain_of_none}

-- ---- bytes that were put somewhere

pub put_inside : (xs bs : List ℕ) (at place : ℕ) → at ≤ place → place < at + length bs → at + length bs ≤ length xs
    → get_or (put xs at bs) place 0 ≡ get_or bs (place - at) 0
put_inside xs bs at place low high room =
    let front = length-take-le at xs (omega arith) in
    let within : place < length (take at xs ++ bs) = omega (arith, length-append (take at xs) bs) in
    get_or_append_left (take at xs ++ bs) (drop (at + length bs) xs) 0 place within ∙ get_or-append_right (take at xs) bs at place 0 front low

pub put_below : (xs bs : List ℕ) (at place : ℕ) → place < at → at + length bs ≤ length xs → get_or (put xs at bs) place 0 ≡ get_or xs place 0
put_below xs bs at place below room =
    let front = length-take-le at xs (omega arith) in
    let within : place < length (take at xs ++ bs) = omega (arith, length-append (take at xs) bs) in
    let first : place < length (take at xs) = omega arith in
    get_or_append_left (take at xs ++ bs) (drop (at + length bs) xs) 0 place within
    ∙ get_or_append_left (take at xs) bs 0 place first
    ∙ get_or-take at xs place 0 below

pub put_behind : (xs bs : List ℕ) (at place : ℕ) → at + length bs ≤ place → at + length bs ≤ length xs → get_or (put xs at bs) place 0 ≡ get_or xs place 0
put_behind xs bs at place behind room =
    let front = length-take-le at xs (omega arith) in
    let both : length (take at xs ++ bs) ≡ at + length bs = omega (arith, length-append (take at xs) bs) in
    let there : at + length bs + (place - (at + length bs)) ≡ place = omega arith in
    get_or-append_right (take at xs ++ bs) (drop (at + length bs) xs) (at + length bs) place 0 both behind
    ∙ get_or-drop (at + length bs) xs (place - (at + length bs)) 0
    ∙ ap (λ k. get_or xs k 0) there

-- ---- where a section copies nothing

copies_behind : (part : Part) (place : ℕ) → place < part.at → copies_to place part ≡ false
copies_behind part place h = and_left _ _ (lt-leb part.at place h)

copies_in_front : (part : Part) (place : ℕ) → part.at + part.copied ≤ place → copies_to place part ≡ false
copies_in_front part place h = and_right _ _ (le-ltb place (part.at + part.copied) h)

copies_there : (part : Part) (place : ℕ) → part.at ≤ place → place < part.at + part.copied → copies_to place part ≡ true
copies_there part place low high = and_from _ _ (le-leb part.at place low) (lt-ltb place (part.at + part.copied) high)

-- ---- what is laid out in a room that begins at a place

-- the headers
pub headers_there : (bytes old new : List ℕ) (headers begin count place : ℕ) → ((d : ℕ) → get_or old d 0 ≡ 0) → headers ≤ length bytes
    → count ≡ min (length old) (headers - begin) → new ≡ put old 0 (take count (drop begin bytes)) → place < length old
    → get_or new place 0 ≡ cond (ltb (begin + place) headers) (get_or bytes (begin + place) 0) 0
headers_there bytes old new headers begin count place zero file is laid h =
    let bs : List ℕ = take count (drop begin bytes) in
    let there = ap (λ (xs : List ℕ). get_or xs place 0) laid in
    elim (cases_lt (begin + place) headers) [
      | inl low ↦
          let first : place - 0 ≡ place = omega arith in
          let long : length bs ≡ count = length-take-le count (drop begin bytes) (omega (arith, length-drop begin bytes)) in
          there
          ∙ put_inside old bs 0 place (omega arith) (omega arith) (omega arith)
          ∙ ap (λ d. get_or bs d 0) first
          ∙ get_or-take count (drop begin bytes) place 0 (omega arith)
          ∙ get_or-drop begin bytes place 0
          ∙ sym (cond-true _ _ _ (lt-ltb (begin + place) headers low))
      | inr behind ↦
          let long : length bs ≡ count = length-take-le count (drop begin bytes) (omega (arith, length-drop begin bytes)) in
          there
          ∙ put_behind old bs 0 place (omega arith) (omega arith)
          ∙ zero place
          ∙ sym (cond-false _ _ _ (le-ltb (begin + place) headers behind))
    ]

pub no_headers_there : (bytes room : List ℕ) (headers begin place : ℕ) → ((d : ℕ) → get_or room d 0 ≡ 0) → min (length room) (headers - begin) ≡ 0
    → place < length room → get_or room place 0 ≡ cond (ltb (begin + place) headers) (get_or bytes (begin + place) 0) 0
no_headers_there bytes room headers begin place zero none h = zero place ∙ sym (cond-false _ _ _ (le-ltb (begin + place) headers (omega arith)))

-- what of a section's bytes lies there
module _ (bytes old new : List ℕ) (part : Part) (begin raw from to place : ℕ) (starts : from ≡ min (length old) (part.at - begin))
    (stops : to ≡ min (length old) (part.at + part.copied - begin)) where
  pub part_there : (n : ℕ) → new ≡ put old from (take n (drop raw bytes)) → place < length old → n ≡ to - from → from < to
      → raw ≡ part.raw + (begin + from - part.at) → part.raw + part.copied ≤ length bytes
      → get_or new place 0 ≡ cond (copies_to (begin + place) part) (get_or bytes (part.raw + (begin + place - part.at)) 0) (get_or old place 0)
  part_there n laid h much some is file =
      let bs : List ℕ = take n (drop raw bytes) in
      let long : length bs ≡ n = length-take-le n (drop raw bytes) (omega (arith, length-drop raw bytes)) in
      let there = ap (λ (xs : List ℕ). get_or xs place 0) laid in
      elim (cases_lt place from) [
        | inl below ↦
            let elsewhere = copies_behind part (begin + place) (omega arith) in
            there ∙ put_below old bs from place below (omega arith) ∙ sym (cond-false (copies_to (begin + place) part) _ _ elsewhere)
        | inr low ↦ elim (cases_lt place to) [
          | inl high ↦
              let here = copies_there part (begin + place) (omega arith) (omega arith) in
              let same : raw + (place - from) ≡ part.raw + (begin + place - part.at) = omega arith in
              there
              ∙ put_inside old bs from place low (omega arith) (omega arith)
              ∙ get_or-take n (drop raw bytes) (place - from) 0 (omega arith)
              ∙ get_or-drop raw bytes (place - from) 0
              ∙ ap (λ d. get_or bytes d 0) same
              ∙ sym (cond-true (copies_to (begin + place) part) _ _ here)
          | inr behind ↦
              let elsewhere = copies_in_front part (begin + place) (omega arith) in
              there ∙ put_behind old bs from place (omega arith) (omega arith) ∙ sym (cond-false (copies_to (begin + place) part) _ _ elsewhere)
        ]
      ]

  pub part_not_there : to ≤ from → new ≡ old → place < length old
      → get_or new place 0 ≡ cond (copies_to (begin + place) part) (get_or bytes (part.raw + (begin + place - part.at)) 0) (get_or old place 0)
  part_not_there none same h =
      let elsewhere : copies_to (begin + place) part ≡ false =
      elim (cases_lt (begin + place) part.at) [
        | inl below ↦ copies_behind part (begin + place) below
        | inr low ↦ copies_in_front part (begin + place) (omega arith)
      ] in
      ap (λ (xs : List ℕ). get_or xs place 0) same ∙ sym (cond-false (copies_to (begin + place) part) _ _ elsewhere)

module _ (bytes : List ℕ) (layout : Layout) where
  -- a byte that is 0, at a place behind the headers to which none of the first few sections copies anything
  pub record IsLeft (count value place : ℕ) : Type 0 where
    pub zero : value ≡ 0
    pub behind : layout.headers ≤ place
    pub nothing : (j : ℕ) → j < count → copies_to place (part_of bytes layout j) ≡ false

  -- With the headers and the first few sections copied, the byte at a place is that of the plain form, or left.
  abbrev pub Laid : ℕ → ℕ → ℕ → Type 0
  Laid count value place = (value ≡ byte_of bytes layout place) ⊎ IsLeft count value place

  abbrev pub LaidIn : ℕ → ℕ → List ℕ → Type 0
  LaidIn count begin room = (place : ℕ) → place < length room → Laid count (get_or room place 0) (begin + place)

  -- the headers, where the first few sections have ended
  pub laid_headers : (count begin : ℕ) (room : List ℕ) → IsLaidOut bytes layout → count ≤ layout.count → EndBefore bytes layout count begin
      → ((place : ℕ) → place < length room → get_or room place 0 ≡ cond (ltb (begin + place) layout.headers) (get_or bytes (begin + place) 0) 0)
      → LaidIn count begin room
  laid_headers count begin room laid few ended is place h =
      elim (cases_lt (begin + place) layout.headers) [
        | inl low ↦ inl (is place h ∙ cond-true _ _ _ (lt-ltb _ _ low) ∙ sym (plain_of_headers bytes layout (begin + place) low))
        | inr behind ↦ inr (record {
          zero = is place h ∙ cond-false _ _ _ (le-ltb _ _ behind);
          behind = behind;
          nothing = λ j less.
              let before = ended j less in
              let small = copied_within bytes (layout.table + 40 * j) in
              copies_in_front (part_of bytes layout j) (begin + place) (omega arith);
        })
      ]

  pub laid_more : (count begin : ℕ) (old new : List ℕ) → IsLaidOut bytes layout → count < layout.count → length new ≡ length old → LaidIn count begin old
      → ((place : ℕ) → place < length old → get_or new place 0
      ≡ cond (copies_to (begin + place) (part_of bytes layout count))
      (get_or bytes ((part_of bytes layout count).raw + (begin + place - (part_of bytes layout count).at)) 0) (get_or old place 0))
      → LaidIn (count + 1) begin new
  laid_more count begin old new laid h long before is place less =
      let at : ℕ = begin + place in
      let here : get_or new place 0 ≡ cond (copies_to at (part_of bytes layout count))
      (get_or bytes ((part_of bytes layout count).raw + (at - (part_of bytes layout count).at)) 0) (get_or old place 0) = is place (omega arith) in
      elim (cases_Bool (copies_to at (part_of bytes layout count))) [
        | inl copied ↦ inl (here ∙ cond-true (copies_to at (part_of bytes layout count)) _ _ copied ∙ sym (plain_of_part bytes layout count at laid h copied))
        | inr elsewhere ↦
            let same : get_or new place 0 ≡ get_or old place 0 = here ∙ cond-false (copies_to at (part_of bytes layout count)) _ _ elsewhere in
            elim (before place (omega arith)) [
              | inl plain ↦ inl (same ∙ plain)
              | inr left ↦ inr (record {
                zero = same ∙ left.zero;
                behind = left.behind;
                nothing = below_more (λ j. copies_to at (part_of bytes layout j) ≡ false) count left.nothing elsewhere;
              })
            ]
      ]

  -- where the sections that are left copy nothing there, all is laid out
  shown : (count begin : ℕ) (room : List ℕ) → LaidIn count begin room
      → ((j place : ℕ) → count ≤ j → j < layout.count → place < length room → copies_to (begin + place) (part_of bytes layout j) ≡ false)
      → Shows bytes layout begin room
  shown count begin room laid none place h =
      elim (laid place h) [
        | inl plain ↦ plain
        | inr left ↦
            let all : (j : ℕ) → j < layout.count → copies_to (begin + place) (part_of bytes layout j) ≡ false =
            λ j less. elim (cases_lt j count) [ inl low ↦ left.nothing j low | inr high ↦ none j place high less h ] in
            left.zero ∙ sym (plain_of_none bytes layout (begin + place) left.behind all)
      ]

  pub shown_all : (count begin : ℕ) (room : List ℕ) → layout.count ≤ count → LaidIn count begin room → Shows bytes layout begin room
  shown_all count begin room all laid = shown count begin room laid (λ j place low high h. absurd (omega arith))

  -- in order, the next one and all later ones begin behind the room
  pub shown_in_order : (count begin : ℕ) (room : List ℕ) (ordered : Bool) → (ordered ≡ true → AreInOrder bytes layout) → count < layout.count → LaidIn count begin room
      → (ordered && leb (length room) ((part_of bytes layout count).at - begin)) ≡ true → Shows bytes layout begin room
  shown_in_order count begin room ordered order h laid is =
      let both = and_parts ordered (leb (length room) ((part_of bytes layout count).at - begin)) is in
      let far : length room ≤ (part_of bytes layout count).at - begin = leb-true _ _ both.1 in
      shown count begin room laid (λ j place low high less.
      let behind : begin + place < (part_of bytes layout j).at =
      elim (cases_eq j count) [
        | inl e ↦ let P : ℕ → Type 0 = λ k. begin + place < (part_of bytes layout k).at in subst P (sym e) (omega arith)
        | inr ne ↦ let before = order both.0 count j (omega arith) high in omega arith
      ] in
      copies_behind (part_of bytes layout j) (begin + place) behind)

  -- the whole form
  pub form_shown : (out : List ℕ) → length out ≡ layout.size → Shows bytes layout 0 out → out ≡ form_in bytes layout
  unfolding form_of
  form_shown out long shows =
      fill_by_all (plain_byte bytes layout.headers (parts_of bytes layout)) out layout.size 0 long (λ place h.
      let there : 0 + place ≡ place = omega arith in
      let P : ℕ → Type 0 = λ n. get_or out place 0 ≡ plain_byte bytes layout.headers (parts_of bytes layout) n in
      subst P there (shows place (omega arith)))

  -- ---- a window

  pub ready_later : (window : Window) (room : List ℕ) (at later : ℕ) → at ≤ later → IsReady bytes layout window room at → IsReady bytes layout window room later
  ready_later window room at later h ready =
      record { knows = ready.knows; begun = let e = ready.begun in omega arith; some = ready.some; shows = ready.shows }
