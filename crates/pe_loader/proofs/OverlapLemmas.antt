-- Sections that share bytes, found through windows.
use Rattle.std.proofs.Common.{◌≡◌, inl, inr, ℕ, ◌+◌, ◌-◌, ◌≤◌, ◌<◌, min, Bool, true, false, cond, ◌&&◌, leb, ltb, List, length, get_or, sym, ap, ◌∙◌, subst, arith}
use Rattle.std.proofs.lemmas.Bool.{cond-true, cond-false, cases_Bool, cases_eq, cases_lt, and_parts, and_from, le-leb, lt-ltb, leb-true, ltb-true, false_from_ne_true}
use Rattle.mm_base.specs.Range.{Has}
use Rattle.mm_base.specs.declared.image.Part.{Part}
use Rattle.pe_loader.specs.Sections.{range_of, overlaps_first}
use Rattle.pe_loader.specs.WindowsInside.{span_of, HasMark, HasNoMark, IsInOne, HaveNone, IsLook, AreApart}
use Rattle.pe_loader.specs.declared.span.Span.{Span}
use Rattle.pe_loader.proofs.SectionLemmas.{overlap_is_a_byte}

-- ---- the places of a section in a window

module _ (part : Part) (from places : ℕ) where
  abbrev pub here : Span
  here = span_of part.at part.length from places

  has_inside : (d : ℕ) → d < places → Has (range_of part) (from + d) → (here.begin ≤ d) × (d < here.end)
  has_inside d h has =
      let low = has.from in
      let high = has.to in
      (omega arith, omega arith)

  inside_has : (d : ℕ) → here.begin ≤ d → d < here.end → Has (range_of part) (from + d)
  inside_has d low high = record { from = omega arith; to = omega arith }

module _ (nth : ℕ → Part) where
  -- ---- marks

  -- Marks are those of the first few sections in a window, which share no place of it, and have no bytes behind it up to a place.
  pub record Marked (marks : List Bool) (from end count next limit : ℕ) : Type 0 where
    pub marked : (d : ℕ) → get_or marks d false ≡ true → (j : ℕ) × ((j < count) × Has (range_of (nth j)) (from + d))
    pub all : (d j : ℕ) → d < length marks → j < count → Has (range_of (nth j)) (from + d) → get_or marks d false ≡ true
    pub apart : (d : ℕ) → d < length marks → IsInOne nth count (from + d)
    pub none : HaveNone nth count end next
    pub low : min end limit ≤ next
    pub high : next ≤ limit

  pub marked_none : (marks : List Bool) (from end limit : ℕ) → ((place : ℕ) → get_or marks place false ≡ false) → Marked marks from end 0 limit limit
  marked_none marks from end limit clear = record {
    marked = λ d is. let e : true ≡ false = sym is ∙ clear d in cc;
    all = λ d j h less. absurd (omega arith);
    apart = λ d h i j earlier less. absurd (omega arith);
    none = λ place low high j less. absurd (omega arith);
    low = omega arith;
    high = omega arith;
  }

  module _ (old new : List Bool) (from end count next later limit : ℕ) (before : Marked old from end count next limit)
      (long : length new ≡ length old) (clear : HasNoMark old (here (nth count) from (length old)).begin (here (nth count) from (length old)).end)
      (each : (place : ℕ) → get_or new place false
      ≡ cond (leb (here (nth count) from (length old)).begin place && ltb place (here (nth count) from (length old)).end) true (get_or old place false)) where
    abbrev places : ℕ
    places = length old

    abbrev inside : ℕ → Bool
    inside d = leb (here (nth count) from places).begin d && ltb d (here (nth count) from places).end

    is_inside : (d : ℕ) → d < places → Has (range_of (nth count)) (from + d) → inside d ≡ true
    is_inside d h has =
        let both = has_inside (nth count) from places d h has in
        and_from _ _ (le-leb _ _ both.0) (lt-ltb _ _ both.1)

    was_marked : (d : ℕ) → get_or new d false ≡ true → inside d ≡ false → get_or old d false ≡ true
    was_marked d is out = sym (each d ∙ cond-false (inside d) true (get_or old d false) out) ∙ is

    marked_there : (d : ℕ) → get_or new d false ≡ true → (j : ℕ) × ((j < count + 1) × Has (range_of (nth j)) (from + d))
    marked_there d is =
        elim (cases_Bool (inside d)) [
          | inl there ↦
              let both = and_parts _ _ there in
              (count, (omega arith, inside_has (nth count) from places d (leb-true _ _ both.0) (ltb-true _ _ both.1)))
          | inr out ↦
              let w = before.marked d (was_marked d is out) in
              (w.0, (omega (arith, w.1.0), w.1.1))
        ]

    stays_marked : (d : ℕ) → get_or old d false ≡ true → get_or new d false ≡ true
    stays_marked d was =
        elim (cases_Bool (inside d)) [
          | inl there ↦ each d ∙ cond-true (inside d) true (get_or old d false) there
          | inr out ↦ each d ∙ cond-false (inside d) true (get_or old d false) out ∙ was
        ]

    all_marked : (d j : ℕ) → d < length new → j < count + 1 → Has (range_of (nth j)) (from + d) → get_or new d false ≡ true
    all_marked d j h less has =
        elim (cases_eq j count) [
          | inl e ↦
              let P : ℕ → Type 0 = λ k. Has (range_of (nth k)) (from + d) in
              let there = is_inside d (omega arith) (subst P e has) in
              each d ∙ cond-true (inside d) true (get_or old d false) there
          | inr ne ↦ stays_marked d (before.all d j (omega arith) (omega arith) has)
        ]

    still_apart : (d : ℕ) → d < length new → IsInOne nth (count + 1) (from + d)
    still_apart d h i j earlier less one other =
        elim (cases_eq j count) [
          | inl e ↦
              let P : ℕ → Type 0 = λ k. Has (range_of (nth k)) (from + d) in
              let both = has_inside (nth count) from places d (omega arith) (subst P e other) in
              let was = before.all d i (omega arith) (omega arith) one in
              let not_marked = clear d both.0 both.1 in
              let wrong : true ≡ false = sym was ∙ not_marked in
              cc
          | inr ne ↦ before.apart d (omega arith) i j earlier (omega arith) one other
        ]

    pub marked_more : (begin : ℕ) → ((place : ℕ) → end ≤ place → place < begin → Has (range_of (nth count)) place → ⊥) → min end limit ≤ begin
        → later ≡ min next begin → Marked new from end (count + 1) later limit
    marked_more begin behind low is = record {
      marked = marked_there;
      all = all_marked;
      apart = still_apart;
      none = λ place from_end high j less has.
          elim (cases_eq j count) [
            | inl e ↦
                let P : ℕ → Type 0 = λ k. Has (range_of (nth k)) place in
                behind place from_end (omega arith) (subst P e has)
            | inr ne ↦ before.none place from_end (omega arith) j (omega arith) has
          ];
      low = let l = before.low in omega arith;
      high = let l = before.high in omega arith;
    }

  -- a section that meets a mark shares a byte with an earlier one
  shared_of : (marks : List Bool) (from end count next limit : ℕ) → Marked marks from end count next limit
      → HasMark marks (here (nth count) from (length marks)).begin (here (nth count) from (length marks)).end
      → overlaps_first nth (nth count) count ≡ true
  shared_of marks from end count next limit marked met =
      let w = marked.marked met.place met.is in
      let there = inside_has (nth count) from (length marks) met.place met.low met.high in
      (overlap_is_a_byte nth (nth count) count).1 (w.0, (w.1.0, (from + met.place, (w.1.1, there))))

  -- what the places of a window are, counted from its begin
  apart_in : (marks : List Bool) (from end count next limit : ℕ) → Marked marks from end count next limit → end ≡ from + length marks
      → (place : ℕ) → from ≤ place → place < end → IsInOne nth count place
  apart_in marks from end count next limit marked is place low high =
      let there : from + (place - from) ≡ place = omega arith in
      subst (IsInOne nth count) there (marked.apart (place - from) (omega arith))

  further_of : (from end next limit places : ℕ) → end ≡ from + places → 0 < places → from < limit → min end limit ≤ next → from < next
  further_of from end next limit places is some near low = omega arith

  pub pass_all : (marks : List Bool) (from end count next limit all : ℕ) → all ≡ count → Marked marks from end count next limit
      → end ≡ from + length marks → 0 < length marks → from < limit → IsLook nth from end all all next
  pass_all marks from end count next limit all same marked is some near = record {
    few = omega arith;
    shares = λ less. absurd (omega arith);
    apart = λ place low high i j earlier less. apart_in marks from end count next limit marked is place low high i j earlier (omega arith);
    none = λ place low high j less. marked.none place low high j (omega arith);
    further = further_of from end next limit (length marks) is some near marked.low;
  }

  pub pass_shared : (marks : List Bool) (from end count next limit all : ℕ) → Marked marks from end count next limit → end ≡ from + length marks
      → 0 < length marks → from < limit → count < all
      → HasMark marks (here (nth count) from (length marks)).begin (here (nth count) from (length marks)).end
      → IsLook nth from end all count next
  pass_shared marks from end count next limit all marked is some near h met = record {
    few = omega arith;
    shares = λ less. shared_of marks from end count next limit marked met;
    apart = apart_in marks from end count next limit marked is;
    none = marked.none;
    further = further_of from end next limit (length marks) is some near marked.low;
  }

  -- the same, by what the code calls a section and its places
  module _ (old : List Bool) (from end count next limit : ℕ) (part : Part) (span : Span) (is : part ≡ nth count)
      (there : span ≡ span_of part.at part.length from (length old)) where
    span_is : span ≡ here (nth count) from (length old)
    span_is = there ∙ ap (λ (p : Part). span_of p.at p.length from (length old)) is

    pub look_more : (new : List Bool) (begin later : ℕ) → Marked old from end count next limit → length new ≡ length old → HasNoMark old span.begin span.end
        → ((place : ℕ) → get_or new place false ≡ cond (leb span.begin place && ltb place span.end) true (get_or old place false))
        → ((place : ℕ) → end ≤ place → place < begin → Has (range_of part) place → ⊥) → min end limit ≤ begin → later ≡ min next begin
        → Marked new from end (count + 1) later limit
    look_more new begin later before long clear each behind low more =
        let P : Span → Type 0 = λ s. HasNoMark old s.begin s.end in
        let Q : Span → Type 0 = λ s. (place : ℕ) → get_or new place false ≡ cond (leb s.begin place && ltb place s.end) true (get_or old place false) in
        let S : Part → Type 0 = λ p. (place : ℕ) → end ≤ place → place < begin → Has (range_of p) place → ⊥ in
        marked_more old new from end count next later limit before long (subst P span_is clear) (subst Q span_is each) begin (subst S is behind) low more

    pub look_shared : (all : ℕ) → Marked old from end count next limit → end ≡ from + length old → 0 < length old → from < limit → count < all
        → HasMark old span.begin span.end → IsLook nth from end all count next
    look_shared all before ends some near h met =
        let P : Span → Type 0 = λ s. HasMark old s.begin s.end in
        pass_shared old from end count next limit all before ends some near h (subst P span_is met)

  -- ---- one window after another

  -- So many of some sections share no place in front of one, and the next of them shares a byte with one of these.
  pub record ApartTo (count first from : ℕ) : Type 0 where
    pub few : first ≤ count
    pub shares : first < count → overlaps_first nth (nth first) first ≡ true
    pub apart : (place : ℕ) → place < from → IsInOne nth first place

  pub apart_to_none : (count : ℕ) → ApartTo count count 0
  apart_to_none count = record { few = omega arith; shares = λ less. absurd (omega arith); apart = λ place h. absurd (omega arith) }

  pub apart_to_more : (count first from end later next : ℕ) → ApartTo count first from → IsLook nth from end first later next → ApartTo count later next
  apart_to_more count first from end later next apart seen = record {
    few = omega (arith, apart.few, seen.few);
    shares = λ less.
        elim (cases_eq later first) [
          | inl e ↦
              let P : ℕ → Type 0 = λ k. overlaps_first nth (nth k) k ≡ true in
              subst P (sym e) (apart.shares (omega arith))
          | inr ne ↦ seen.shares (omega (arith, seen.few))
        ];
    apart = λ place h i j earlier less one other.
        elim (cases_lt place from) [
          | inl before ↦ apart.apart place before i j earlier (omega (arith, seen.few)) one other
          | inr from_there ↦ elim (cases_lt place end) [
            | inl within ↦ seen.apart place from_there within i j earlier less one other
            | inr behind ↦ absurd (seen.none place behind h j less other)
          ]
        ];
  }

  pub apart_to_all : (count first from size : ℕ) → ApartTo count first from → size ≤ from
      → ((j : ℕ) → j < count → (nth j).at + (nth j).length ≤ size) → AreApart nth count first
  apart_to_all count first from size apart far ended = record {
    few = apart.few;
    shares = apart.shares;
    apart = λ j h.
        false_from_ne_true _ (λ is.
        let w = (overlap_is_a_byte nth (nth j) j).0 is in
        let there = ended j (omega (arith, apart.few)) in
        let other = w.1.1.1.1 in
        let high = other.to in
        apart.apart w.1.1.0 (omega arith) w.0 j w.1.0 h w.1.1.1.0 other);
  }
