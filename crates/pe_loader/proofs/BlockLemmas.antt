-- Relocation blocks, one behind another.
use Rattle.std.proofs.Common.{◌≡◌, ◌⊎◌, ℕ, suc, ◌+◌, ◌-◌, ◌*◌, ◌/◌, ◌%◌, ◌≤◌, ◌<◌, Bool, true, false, not, ◌&&◌, eqb, leb, List, [], ◌∷◌, ◌++◌, refl, sym, ap, ◌∙◌, subst, inl, inr, arith}
use Rattle.std.specs.List.{list_all}
use Rattle.std.proofs.lemmas.Bool.{and_left, and_from, and_parts, le-leb, lt-leb, leb-true, eq-eqb, ne_eqb, cases_Bool}
use Rattle.std.proofs.lemmas.Bool.Decides.{nat_tests}
use Rattle.courses.specs.Courses.{StopsAfter}
use Rattle.courses.proofs.CourseLemmas as course
use Rattle.courses.proofs.CourseLemmas.{Same, leads-more, each_stops}
use Rattle.mm_base.specs.Numbers.{number_in}
use Rattle.mm_base.specs.declared.range.Range.{Range}
use Rattle.pe_loader.specs.Fixups.{fixup_of, fixup_passes, fixups_from, Block, block_at, directory_end, directory_fits, is_block, block_passes, IsBlockAt, BlocksLead, fixups_in, AreFixups, AreRead, AreRefused}
use Rattle.pe_loader.specs.ReadingInside.{IsHead}
use Rattle.pe_loader.specs.declared.fixup.Fixup.{Fixup}
use Rattle.pe_loader.specs.declared.head.Head.{Head}

-- the next of the entries that are left
pub fixups_from-more : (form : List ℕ) (page at n k : ℕ) → k < n
    → fixups_from form page (at + 2 * k) (n - k) ≡ fixup_of page (number_in form (at + 2 * k) 2) ∷ fixups_from form page (at + 2 * (k + 1)) (n - (k + 1))
fixups_from-more form page at n k h =
    let left : n - k ≡ suc (n - (k + 1)) = omega arith in
    let next : at + 2 * k + 2 ≡ at + 2 * (k + 1) = omega arith in
    ap (fixups_from form page (at + 2 * k)) left
    ∙ ap (λ place. fixup_of page (number_in form (at + 2 * k) 2) ∷ fixups_from form page place (n - (k + 1))) next

-- a test of those that are left
pub all_more : (test : Fixup → Bool) (form : List ℕ) (page at n k word : ℕ) → k < n → word ≡ number_in form (at + 2 * k) 2
    → list_all test (fixups_from form page (at + 2 * k) (n - k)) ≡ (test (fixup_of page word) && list_all test (fixups_from form page (at + 2 * (k + 1)) (n - (k + 1))))
all_more test form page at n k word h is =
    ap (list_all test) (fixups_from-more form page at n k h)
    ∙ ap (λ w. test (fixup_of page w) && list_all test (fixups_from form page (at + 2 * (k + 1)) (n - (k + 1)))) (sym is)

-- what a test of a size told
pub sized_by : (at size end there : ℕ) (told is : Bool) → end ≡ there → told ≡ (leb 8 size && eqb (size % 2) 0 && leb (at + size) end) → told ≡ is
    → (leb 8 size && eqb (size % 2) 0 && leb (at + size) there) ≡ is
sized_by at size end there told is e f g =
    ap (λ n. leb 8 size && eqb (size % 2) 0 && leb (at + size) n) (sym e) ∙ sym f ∙ g

module _ (form : List ℕ) (directory : Range) where
  -- ---- the block at a place

  -- there is none where too few bytes are left, or its size is 0
  pub no_room : (at : ℕ) → directory_end directory < at + 8 → is_block form directory at ≡ false
  unfolding is_block
  no_room at h = and_left _ _ (lt-leb _ _ h)

  pub no_size : (at size : ℕ) → size ≡ number_in form (at + 4) 4 → size ≡ 0 → is_block form directory at ≡ false
  unfolding is_block block_at
  no_size at size is none =
      let zero : eqb (number_in form (at + 4) 4) 0 ≡ true = eq-eqb _ _ (sym is ∙ none) in
      grind (arith, nat_tests)

  -- and there is one else, which begins with its head
  pub is_head : (at page size : ℕ) → at + 8 ≤ directory_end directory → page ≡ number_in form at 4
      → size ≡ number_in form (at + 4) 4 → (size ≡ 0 → ⊥) → IsHead form directory at (record { page = page; size = size })
  unfolding is_block block_at
  is_head at page size room p s some = record {
    there = and_from _ _ (le-leb _ _ room) (ap not (ne_eqb _ _ (λ e. some (s ∙ e))));
    page = p;
    size = s;
  }

  -- it lies in the directory
  pub block_room : (at : ℕ) → is_block form directory at ≡ true → at + 8 ≤ directory_end directory
  unfolding is_block
  block_room at is = leb-true _ _ (and_parts _ _ is).0

module _ (form : List ℕ) (size : ℕ) (directory : Range) where
  -- what makes a block pass, by its head
  pub passes_by_head : (at : ℕ) (head : Head) → IsHead form directory at head
      → block_passes form size directory at
      ≡ ((leb 8 head.size && eqb (head.size % 2) 0 && leb (at + head.size) (directory_end directory))
      && list_all (fixup_passes size directory) (fixups_from form head.page (at + 8) ((head.size - 8) / 2)))
  unfolding block_passes block_at
  passes_by_head at head is =
      let by : ℕ → ℕ → Bool = λ page n.
      (leb 8 n && eqb (n % 2) 0 && leb (at + n) (directory_end directory))
      && list_all (fixup_passes size directory) (fixups_from form page (at + 8) ((n - 8) / 2)) in
      ap (λ page. by page (number_in form (at + 4) 4)) (sym is.page) ∙ ap (by head.page) (sym is.size)

  -- a block that passes has a size, and leads past no end
  pub size_within : (at : ℕ) → block_passes form size directory at ≡ true
      → (8 ≤ (block_at form at).size) × (at + (block_at form at).size ≤ directory_end directory)
  unfolding block_passes
  size_within at passes =
      let sized = (and_parts _ _ passes).0 in
      let ends = and_parts _ _ sized in
      (leb-true _ _ (and_parts _ _ ends.0).0, leb-true _ _ ends.1)

  -- its fixups pass
  pub fixups_pass : (at : ℕ) → block_passes form size directory at ≡ true → list_all (fixup_passes size directory) (block_at form at).fixups ≡ true
  unfolding block_passes
  fixups_pass at passes = (and_parts _ _ passes).1

  -- ---- blocks one behind another

  -- the place behind a block
  abbrev pub behind_block : ℕ → Block → ℕ
  behind_block place block = place + block.size

  -- the blocks that were met on the way from the directory's begin
  pub record Walked (at : ℕ) : Type 0 where
    pub blocks : List Block
    pub leads : BlocksLead form size directory directory.base blocks at

  pub walked_none : (at : ℕ) → at ≡ directory.base → Walked at
  walked_none at is = record { blocks = []; leads = sym is }

  pub walked_more : (at : ℕ) (head : Head) → Walked at → IsHead form directory at head → block_passes form size directory at ≡ true
      → Walked (at + head.size)
  walked_more at head walked is passes =
      let more = leads-more (IsBlockAt form size directory) behind_block directory.base walked.blocks at (block_at form at) walked.leads
      (record { there = is.there; is = refl; passes = passes }) in
      let P : ℕ → Type 0 = λ n. BlocksLead form size directory directory.base (walked.blocks ++ block_at form at ∷ []) (at + n) in
      record { blocks = walked.blocks ++ block_at form at ∷ []; leads = subst P (sym is.size) more }

  -- where they end, the relocations are read
  pub walked_all : (at : ℕ) → directory_fits size directory ≡ true → Walked at → is_block form directory at ≡ false → AreRead form size directory
  walked_all at fits walked ends =
      (fixups_in walked.blocks, record { fits = fits; blocks = walked.blocks; end = at; leads = walked.leads; ends = ends; are = refl })

  -- and where one doesn't pass, they are refused
  pub walked_to_bad : (at : ℕ) → directory_fits size directory ≡ true → Walked at → is_block form directory at ≡ true
      → block_passes form size directory at ≡ false → AreRefused form size directory
  walked_to_bad at fits walked there bad = inr (fits, record { blocks = walked.blocks; at = at; leads = walked.leads; there = there; bad = bad })

  -- ---- one course of blocks

  -- Here blocks end, or one doesn't pass.
  abbrev StopsAt : ℕ → Type 0
  StopsAt at = (is_block form directory at ≡ false) ⊎ ((is_block form directory at ≡ true) × (block_passes form size directory at ≡ false))

  stops_or_stands : (at : ℕ) (block : Block) → StopsAt at → IsBlockAt form size directory at block → ⊥
  stops_or_stands at block (inl none) is = let there = is.there in let wrong : true ≡ false = sym there ∙ none in cc
  stops_or_stands at block (inr bad) is = let passes = is.passes in let no = bad.1 in let wrong : true ≡ false = sym passes ∙ no in cc

  one_course : (some others : List Block) (one other : ℕ) → BlocksLead form size directory directory.base some one → StopsAt one
      → BlocksLead form size directory directory.base others other → StopsAt other → Same some others one other
  one_course some others one other a stop b halt =
      course.one_course (IsBlockAt form size directory) behind_block StopsAt (λ at one other x y. x.is ∙ sym y.is) stops_or_stands directory.base some others one other a stop b halt

  -- relocations are read as one list of fixups, or refused
  pub one_list : (some others : List Fixup) → AreFixups form size directory some → AreFixups form size directory others → some ≡ others
  one_list some others a b =
      let same = one_course a.blocks b.blocks a.end b.end a.leads (inl a.ends) b.leads (inl b.ends) in
      a.are ∙ ap fixups_in same.items ∙ sym b.are

  pub read_or_refused : (fixups : List Fixup) → AreFixups form size directory fixups → AreRefused form size directory → ⊥
  read_or_refused fixups are (inl out) = let fits = are.fits in let wrong : true ≡ false = sym fits ∙ out in cc
  read_or_refused fixups are (inr (fits, bad)) =
      let same = one_course are.blocks bad.blocks are.end bad.at are.leads (inl are.ends) bad.leads (inr (bad.there, bad.bad)) in
      let P : ℕ → Type 0 = λ at. is_block form directory at ≡ false in
      let none = subst P same.ends are.ends in
      let there = bad.there in
      let wrong : true ≡ false = sym there ∙ none in
      cc

  -- each course of blocks stops
  stops_or_block : (at : ℕ) → StopsAt at ⊎ ((block : Block) × IsBlockAt form size directory at block)
  stops_or_block at =
      elim (cases_Bool (is_block form directory at)) [
        | inl there ↦ elim (cases_Bool (block_passes form size directory at)) [
          | inl passes ↦ inr (block_at form at, record { there = there; is = refl; passes = passes })
          | inr bad ↦ inl (inr (there, bad))
        ]
        | inr none ↦ inl (inl none)
      ]

  less_left : (at : ℕ) (block : Block) → IsBlockAt form size directory at block
      → directory_end directory - (at + block.size) < directory_end directory - at
  less_left at block is =
      let within = size_within at is.passes in
      let long : block.size ≡ (block_at form at).size = ap (λ (b : Block). b.size) is.is in
      omega (arith, within.0, within.1)

  pub read_or_not : AreRead form size directory ⊎ AreRefused form size directory
  read_or_not =
      elim (cases_Bool (directory_fits size directory)) [
        | inl fits ↦
            let course : StopsAfter (IsBlockAt form size directory) behind_block StopsAt directory.base =
            each_stops (IsBlockAt form size directory) behind_block StopsAt (λ at. directory_end directory - at) stops_or_block less_left directory.base in
            elim course.stops [
              | inl ends ↦ inl (fixups_in course.items, record { fits = fits; blocks = course.items; end = course.end; leads = course.leads; ends = ends; are = refl })
              | inr bad ↦ inr (inr (fits, record { blocks = course.items; at = course.end; leads = course.leads; there = bad.0; bad = bad.1 }))
            ]
        | inr out ↦ inr (inl out)
      ]

-- what a test of an entry told
pub told_of : (size long : ℕ) (directory there : Range) (fixup entry : Fixup) (told is : Bool) → size ≡ long → directory ≡ there
    → fixup ≡ entry → told ≡ fixup_passes size directory fixup → told ≡ is → fixup_passes long there entry ≡ is
told_of size long directory there fixup entry told is s d f e g =
    sym (λ i. fixup_passes (s i) (d i) (f i)) ∙ sym e ∙ g
