-- Sections that pass their checks.
use Rattle.std.proofs.Common.{◌≡◌, ◌↔◌, inl, inr, ℕ, zero, suc, ◌+◌, ◌≤◌, ◌<◌, Bool, true, false, not, ◌&&◌, ◌||◌, eqb, leb, max, List, None, get_or, length, refl, sym, ap, ◌∙◌, subst, arith, below_more}
use Rattle.std.proofs.lemmas.Bool.{or_from, or_left, or_right, or_parts, and_parts, and_from, and_left, and_right, not-true, eqb-true, cases_eq, cases_Bool}
use Rattle.std.proofs.lemmas.Bool.Decides.{nat_tests}
use Rattle.std.proofs.lemmas.List.FromFn.{length-map-range_with_len, get_or-map-range_with_len, take-map-range_with_len}
use Rattle.mm_base.proofs.CheckLemmas.{AllPass, all_pass, none_fails}
use Rattle.mm_base.proofs.RangeLemmas.{overlap_is_a_unit}
use Rattle.mm_base.specs.Checks.{Check, first_failing}
use Rattle.mm_base.specs.Range.{share_a_unit, Has}
use Rattle.mm_base.specs.declared.image.Part.{Part}
use Rattle.mm_base.specs.declared.image.PeFault.{PeFault}
use Rattle.mm_base.specs.declared.image.PeKind.{PeKind}
use Rattle.mm_base.specs.declared.image.PeKind.TheVariants.{Section}
use Rattle.pe_loader.specs.Headers.{FailsFirst}
use Rattle.pe_loader.specs.Sections.{entry_at, part_of, range_of, lies_in, overlaps_first, section_check, section_checks, layout_of}
use Rattle.pe_loader.specs.LayoutInside.{HasHeaders, HasTable, LiesIn, IsLaidOut, EndBefore, IsScan, ArePassed}
use Rattle.pe_loader.specs.WindowsInside.{AreApart}
use Rattle.pe_loader.specs.declared.layout.Layout.{Layout}
use Rattle.pe_loader.specs.declared.sections.Scan.{Scan}
use Rattle.pe_loader.proofs.HeaderLemmas.{passed_check, fails}
use Rattle.pe_loader.proofs.RangeLemmas.{all_pass_from, passes_each}

-- ---- sections that share bytes

-- one that begins where another has ended
begins_behind : (one other : Part) → one.at + one.length ≤ other.at → share_a_unit (range_of one) (range_of other) ≡ false
begins_behind one other h = grind (arith, nat_tests)

-- an empty one
empty_apart : (one other : Part) → other.length ≡ 0 → share_a_unit (range_of one) (range_of other) ≡ false
empty_apart one other none = grind (arith, nat_tests)

module _ (nth : ℕ → Part) (part : Part) where
  -- a section that shares a byte with one of the first few
  pub overlaps_later : (n k : ℕ) → k < n → share_a_unit (range_of (nth k)) (range_of part) ≡ true → overlaps_first nth part n ≡ true
  overlaps_later zero k h is = absurd (omega arith)
  overlaps_later (suc n) k h is =
      elim (cases_eq k n) [
        | inl e ↦ let P : ℕ → Type 0 = λ j. share_a_unit (range_of (nth j)) (range_of part) ≡ true in or_right _ _ (subst P e is)
        | inr ne ↦ or_left _ _ (overlaps_later n k (omega arith) is)
      ]

  -- and one that shares none
  pub apart_from : (n k : ℕ) → k < n → overlaps_first nth part n ≡ false → share_a_unit (range_of (nth k)) (range_of part) ≡ false
  apart_from zero k h none = absurd (omega arith)
  apart_from (suc n) k h none =
      let both = or_parts _ _ none in
      elim (cases_eq k n) [
        | inl e ↦ let P : ℕ → Type 0 = λ j. share_a_unit (range_of (nth j)) (range_of part) ≡ false in subst P (sym e) both.1
        | inr ne ↦ apart_from n k (omega arith) both.0
      ]

  pub empty_shares_none : (n : ℕ) → part.length ≡ 0 → overlaps_first nth part n ≡ false
  empty_shares_none zero none = refl
  empty_shares_none (suc n) none = or_from _ _ (empty_shares_none n none) (empty_apart (nth n) part none)

  pub behind_all : (n : ℕ) → ((j : ℕ) → j < n → (nth j).at + (nth j).length ≤ part.at) → overlaps_first nth part n ≡ false
  behind_all zero behind = refl
  behind_all (suc n) behind =
      or_from _ _ (behind_all n (λ j h. behind j (omega arith))) (begins_behind (nth n) part (behind n (omega arith)))

  -- one that overlaps some of the first few overlaps one of them
  some_overlaps : (n : ℕ) → overlaps_first nth part n ≡ true → (k : ℕ) × ((k < n) × (share_a_unit (range_of (nth k)) (range_of part) ≡ true))
  some_overlaps zero is = let wrong : false ≡ true = is in cc
  some_overlaps (suc n) is =
      elim (cases_Bool (overlaps_first nth part n)) [
        | inl there ↦
            let w = some_overlaps n there in
            (w.0, (omega (arith, w.1.0), w.1.1))
        | inr none ↦ (n, (omega arith, sym (ap (λ b. b || share_a_unit (range_of (nth n)) (range_of part)) none) ∙ is))
      ]

  pub overlap_is_a_byte : (n : ℕ)
      → (overlaps_first nth part n ≡ true) ↔ ((k : ℕ) × ((k < n) × ((place : ℕ) × (Has (range_of (nth k)) place × Has (range_of part) place))))
  overlap_is_a_byte n = (
    λ is.
        let w = some_overlaps n is in
        let unit = (overlap_is_a_unit (range_of (nth w.0)) (range_of part)).0 w.1.1 in
        (w.0, (w.1.0, (unit.0, unit.1))),
    λ w. overlaps_later n w.0 w.1.0 ((overlap_is_a_unit (range_of (nth w.0)) (range_of part)).1 (w.1.1.0, w.1.1.1)),
  )

-- ---- the checks of sections

module _ (bytes : List ℕ) (layout : Layout) where
  -- the k-th section is the first that fails
  section_fails : (fault : PeFault) (k at : ℕ) → k < layout.count
      → ((j : ℕ) → j < k → (section_check bytes layout j).passes ≡ true) → (section_check bytes layout k).passes ≡ false
      → fault ≡ record { at = at; kind = Section } → at ≡ entry_at layout k → FailsFirst (section_checks bytes layout) fault
  unfolding section_checks
  section_fails fault k at h pass fail is there =
      let n : ℕ = layout.count in
      let within : k < length (section_checks bytes layout) = omega (arith, length-map-range_with_len (section_check bytes layout) 0 n) in
      let here : get_or (section_checks bytes layout) k passed_check ≡ section_check bytes layout k =
      get_or-map-range_with_len (section_check bytes layout) 0 n k k passed_check h (omega arith) in
      let front = take-map-range_with_len (section_check bytes layout) 0 n k (omega arith) in
      let each = all_pass_from (section_check bytes layout) 0 k (λ j low high. pass j (omega arith)) in
      fails (section_checks bytes layout) fault k at within (subst AllPass (sym front) each) (ap (λ (check : Check PeKind). check.passes) here ∙ fail)
      (is ∙ ap (λ (check : Check PeKind). record { at = at; kind = check.kind }) (sym here))
      (there ∙ ap (λ (check : Check PeKind). check.at) (sym here))

  -- where each passes, no check fails
  sections_pass : ((j : ℕ) → j < layout.count → (section_check bytes layout j).passes ≡ true) → first_failing (section_checks bytes layout) ≡ None
  unfolding section_checks
  sections_pass pass =
      none_fails (section_checks bytes layout) (all_pass_from (section_check bytes layout) 0 layout.count (λ j low high. pass j (omega arith)))

  -- and where no check fails, each passes
  section_passes : (k : ℕ) → k < layout.count → first_failing (section_checks bytes layout) ≡ None → (section_check bytes layout k).passes ≡ true
  unfolding section_checks
  section_passes k h none =
      passes_each (section_check bytes layout) 0 layout.count k (omega arith) (omega arith) (all_pass (section_checks bytes layout) none)

  -- what the count of those that pass comes to
  pub passed_all : (count : ℕ) → ArePassed bytes layout count → eqb count layout.count ≡ true → first_failing (section_checks bytes layout) ≡ None
  passed_all count passed all =
      let same = eqb-true _ _ all in
      sections_pass (λ j h. passed.pass j (omega arith))

  pub passed_some : (count at : ℕ) (fault : PeFault) → ArePassed bytes layout count → eqb count layout.count ≡ false
      → fault ≡ record { at = at; kind = Section } → at ≡ entry_at layout count → FailsFirst (section_checks bytes layout) fault
  passed_some count at fault passed some is there =
      let few = passed.few in
      let less : count < layout.count = grind (arith, nat_tests) in
      section_fails fault count at less passed.pass (passed.fails less) is there

  -- where the sections lie that pass
  pub lies_where : (part : Part) → lies_in bytes layout.headers layout.size part ≡ true → LiesIn bytes layout part
  lies_where part is = record { from = grind (arith, nat_tests); to = grind (arith, nat_tests); raw = grind (arith, nat_tests) }

  pub laid_out : HasTable bytes layout → first_failing (section_checks bytes layout) ≡ None → IsLaidOut bytes layout
  laid_out table none = record {
    table = table;
    each = λ k h. lies_where (part_of bytes layout k) (and_parts _ _ (section_passes k h none)).0;
    apart = λ j k earlier h.
        apart_from (part_of bytes layout) (part_of bytes layout k) k j earlier (not-true _ (and_parts _ _ (section_passes k h none)).1);
  }

  -- ---- a first look

  -- the first few sections lie where they may, end at a place or before it, and share nothing where they are in order
  pub record Scanned (count highest : ℕ) (ordered : Bool) : Type 0 where
    pub ended : EndBefore bytes layout count highest
    pub lies : (j : ℕ) → j < count → lies_in bytes layout.headers layout.size (part_of bytes layout j) ≡ true
    pub order : ordered ≡ true → (j : ℕ) → j < count → overlaps_first (part_of bytes layout) (part_of bytes layout j) j ≡ false

  pub scanned_none : Scanned 0 0 true
  scanned_none = record { ended = λ j h. absurd (omega arith); lies = λ j h. absurd (omega arith); order = λ e j h. absurd (omega arith) }

  -- one that is empty, or begins where all in front of it have ended
  stays_apart : (count highest : ℕ) → EndBefore bytes layout count highest
      → (eqb (part_of bytes layout count).length 0 || leb highest (part_of bytes layout count).at) ≡ true
      → overlaps_first (part_of bytes layout) (part_of bytes layout count) count ≡ false
  stays_apart count highest ended is =
      elim (cases_Bool (eqb (part_of bytes layout count).length 0)) [
        | inl none ↦ empty_shares_none (part_of bytes layout) (part_of bytes layout count) count (eqb-true _ _ none)
        | inr some ↦
            let behind : highest ≤ (part_of bytes layout count).at = grind (arith, nat_tests) in
            behind_all (part_of bytes layout) (part_of bytes layout count) count (λ j h. omega (arith, ended j h))
      ]

  pub scanned_more : (count highest later : ℕ) (ordered still : Bool) (part : Part) → Scanned count highest ordered → part ≡ part_of bytes layout count
      → lies_in bytes layout.headers layout.size part ≡ true → still ≡ (ordered && (eqb part.length 0 || leb highest part.at))
      → later ≡ max highest (part.at + part.length) → Scanned (count + 1) later still
  scanned_more count highest later ordered still part scanned is lies so more =
      let at : part.at ≡ (part_of bytes layout count).at = ap (λ (p : Part). p.at) is in
      let long : part.length ≡ (part_of bytes layout count).length = ap (λ (p : Part). p.length) is in
      let here : lies_in bytes layout.headers layout.size (part_of bytes layout count) ≡ true =
      ap (lies_in bytes layout.headers layout.size) (sym is) ∙ lies in
      let told : still ≡ (ordered && (eqb (part_of bytes layout count).length 0 || leb highest (part_of bytes layout count).at)) =
      so ∙ (λ i. ordered && (eqb (long i) 0 || leb highest (at i))) in
      record {
        ended = below_more (λ j. (part_of bytes layout j).at + (part_of bytes layout j).length ≤ later) count
            (λ j h. omega (arith, scanned.ended j h)) (omega arith);
        lies = below_more (λ j. lies_in bytes layout.headers layout.size (part_of bytes layout j) ≡ true) count scanned.lies here;
        order = λ e.
            let both = and_parts _ _ (sym told ∙ e) in
            below_more (λ j. overlaps_first (part_of bytes layout) (part_of bytes layout j) j ≡ false) count (scanned.order both.0)
            (stays_apart count highest scanned.ended both.1);
      }

  pub scanned_bad : (count highest : ℕ) (ordered : Bool) (part : Part) → count < layout.count → Scanned count highest ordered
      → part ≡ part_of bytes layout count → lies_in bytes layout.headers layout.size part ≡ false
      → IsScan bytes layout (record { count = count; ordered = ordered })
  scanned_bad count highest ordered part h scanned is bad = record {
    few = omega arith;
    lies = scanned.lies;
    stops = λ less. ap (lies_in bytes layout.headers layout.size) (sym is) ∙ bad;
    order = scanned.order;
  }

  pub scanned_all : (count highest : ℕ) (ordered : Bool) → count ≡ layout.count → Scanned count highest ordered
      → IsScan bytes layout (record { count = layout.count; ordered = ordered })
  scanned_all count highest ordered all scanned = record {
    few = omega arith;
    lies = λ j h. scanned.lies j (omega arith);
    stops = λ less. absurd (omega arith);
    order = λ e j h. scanned.order e j (omega arith);
  }

  -- ---- how many pass

  passes_where : (j : ℕ) → lies_in bytes layout.headers layout.size (part_of bytes layout j) ≡ true
      → overlaps_first (part_of bytes layout) (part_of bytes layout j) j ≡ false → (section_check bytes layout j).passes ≡ true
  passes_where j lies apart = and_from _ _ lies (ap not apart)

  fails_out : (j : ℕ) → lies_in bytes layout.headers layout.size (part_of bytes layout j) ≡ false → (section_check bytes layout j).passes ≡ false
  fails_out j out = and_left _ _ out

  fails_shared : (j : ℕ) → overlaps_first (part_of bytes layout) (part_of bytes layout j) j ≡ true → (section_check bytes layout j).passes ≡ false
  fails_shared j shared = and_right _ _ (ap not shared)

  pub passed_in_order : (scan : Scan) → IsScan bytes layout scan → scan.ordered ≡ true → ArePassed bytes layout scan.count
  passed_in_order scan is ordered = record {
    few = is.few;
    pass = λ j h. passes_where j (is.lies j h) (is.order ordered j h);
    fails = λ less. fails_out scan.count (is.stops less);
  }

  pub passed_apart : (scan : Scan) (first : ℕ) → IsScan bytes layout scan → AreApart (part_of bytes layout) scan.count first → ArePassed bytes layout first
  passed_apart scan first is apart = record {
    few = omega (arith, is.few, apart.few);
    pass = λ j h. passes_where j (is.lies j (omega (arith, apart.few))) (apart.apart j h);
    fails = λ less.
        elim (cases_eq first scan.count) [
          | inl e ↦
              let P : ℕ → Type 0 = λ n. lies_in bytes layout.headers layout.size (part_of bytes layout n) ≡ false in
              fails_out first (subst P (sym e) (is.stops (omega arith)))
          | inr ne ↦ fails_shared first (apart.shares (omega (arith, apart.few)))
        ];
  }

  -- those that lie where they may end in the image
  pub scanned_ended : (scan : Scan) → IsScan bytes layout scan → EndBefore bytes layout scan.count layout.size
  scanned_ended scan is j h = (lies_where (part_of bytes layout j) (is.lies j h)).to

-- the table of an image in the PE32+ format
pub has_table : (bytes : List ℕ) → HasHeaders bytes → HasTable bytes (layout_of bytes)
has_table bytes headers = record {
  table = omega (arith, headers.table, headers.in_file);
  in_file = headers.in_file;
  in_image = headers.in_image;
  most = headers.most;
}
