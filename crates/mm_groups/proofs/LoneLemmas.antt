-- Groups of one image.
use Rattle.std.proofs.Common.{◌≡◌, ℕ, zero, suc, ◌+◌, ◌<◌, ◌≤◌, Bool, true, false, Some}
use Rattle.std.proofs.Common.{List, [], ◌++◌, length, get_or, take, drop, replicate}
use Rattle.std.proofs.Common.{inl, inr, refl, sym, ap, ◌∙◌, subst, arith}
use Rattle.std.specs.Prelude.{◌==◌, ◌&&◌, ◌||◌, not}
use Rattle.std.specs.List.{list_any, range_with_len}
use Rattle.std.proofs.Math.Bool.{or-false}
use Rattle.std.proofs.lemmas.Bool.{cases_eq, eq-eqb, ne_eqb}
use Rattle.std.proofs.lemmas.List.{append-nil, drop_all, get_or-replicate, length-replicate, take_all}
use Rattle.std.proofs.lemmas.List.FromFn.{get_or-map-range_with_len, length-map-range_with_len}
use Rattle.std.proofs.lemmas.Option.{get_or_from_slice_get, slice_get-get_or}
use Rattle.image_groups.specs.ClosedInside.{are_alike, is_apart, is_apart_at, is_closed_by, is_written_outside}
use Rattle.image_groups.specs.Groups.{alone, granted}
use Rattle.image_groups.specs.Reach.{is_touched, reach}
use Rattle.mm_base.specs.declared.access.Kind.{Kind}
use Rattle.mm_base.specs.declared.access.Kind.TheVariants.{Memory, Io, Msr}
use Rattle.mm_base.specs.declared.access.Right.TheVariants.{Write}
use Rattle.mm_base.specs.declared.handler.Handler.{Handler}
use Rattle.mm_core.specs.CoreState.{Site as CoreSite}
use Rattle.mm_groups.specs.Closed.{AreAloneClosed}
use Rattle.mm_groups.specs.FlagsInside.{Lowered, writers_of}
use Rattle.image_groups.proofs.ClosedLemmas.{closed_exactly}
use Rattle.mm_groups.proofs.FlagLemmas.{lowered_then}
use Rattle.mm_groups.proofs.WalkLemmas.{any_same}
use Rattle.supervisor_calls.specs.Tables.{Site}

-- among some numbers one alone can pass

none_passes : (test : ℕ → Bool) (image from count : ℕ)
    → image < from
    → list_any (λ other. (image == other) && test other) (range_with_len from count) ≡ false
none_passes test image from zero below = refl
none_passes test image from (suc count) below =
    let ne : image ≡ from → ⊥ = λ e. omega arith in
    let rest = none_passes test image (from + 1) count (omega arith) in
    ap (λ b. (b && test from) || list_any (λ other. (image == other) && test other) (range_with_len (from + 1) count)) (ne_eqb image from ne)
    ∙ rest

one_passes : (test : ℕ → Bool) (image from count : ℕ)
    → from ≤ image
    → image < from + count
    → list_any (λ other. (image == other) && test other) (range_with_len from count) ≡ test image
one_passes test image from zero low high = absurd (omega arith)
one_passes test image from (suc count) low high =
    let rest : ℕ → Bool = λ n. list_any (λ other. (image == other) && test other) (range_with_len n count) in
    let later : (image ≡ from → ⊥) → rest (from + 1) ≡ test image =
    λ ne. one_passes test image (from + 1) count (omega (arith, ne)) (omega arith) in
    elim (cases_eq image from) [
      | inl e ↦
          ap (λ b. (b && test from) || rest (from + 1)) (eq-eqb image from e)
          ∙ (ap (λ b. test from || b) (none_passes test image (from + 1) count (omega arith))
          ∙ (or-false (test from) ∙ ap test (sym e)))
      | inr ne ↦ ap (λ b. (b && test from) || rest (from + 1)) (ne_eqb image from ne) ∙ later ne
    ]

module _ (site : Site) (kind : Kind) (unit : ℕ) where
  -- what is granted to an image alone is what it may touch
  granted_alone : (image : ℕ) → image < length site.images → granted (alone image) site kind unit ≡ is_touched site image kind unit
  unfolding granted
  granted_alone image there = one_passes (λ other. is_touched site other kind unit) image 0 (length site.images) (omega arith) (omega arith)

  module _ (writers : List Bool) (are : writers ≡ writers_of site kind unit) where
    pub count_of_writers : length writers ≡ length site.images
    count_of_writers = ap length are ∙ length-map-range_with_len (λ image. reach site image kind unit Write) 0 (length site.images)

    pub writer_at : (image : ℕ) → image < length site.images → get_or writers image false ≡ reach site image kind unit Write
    writer_at image there =
        ap (λ all. get_or all image false) are
        ∙ get_or-map-range_with_len (λ one. reach site one kind unit Write) 0 (length site.images) image image false there (omega arith)

    -- another image may write the unit
    written_beside : (image : ℕ)
        → list_any (λ other. not (image == other) && get_or writers other false) (range_with_len 0 (length writers))
        ≡ is_written_outside (alone image) site kind unit
    written_beside image =
        ap (λ n. list_any (λ other. not (image == other) && get_or writers other false) (range_with_len 0 n)) count_of_writers
        ∙ any_same (λ other. not (image == other) && get_or writers other false)
        (λ other. not (image == other) && reach site other kind unit Write) 0 (length site.images)
        (λ other low high. ap (λ b. not (image == other) && b) (writer_at other (omega arith)))

    pub apart_alone : (image : ℕ) (written touched : Bool)
        → image < length site.images
        → written ≡ list_any (λ other. not (image == other) && get_or writers other false) (range_with_len 0 (length writers))
        → touched ≡ is_touched site image kind unit
        → not (written && touched) ≡ is_apart_at (alone image) site kind unit
    apart_alone image written touched there is_written is =
        λ i. not ((is_written ∙ written_beside image) i && (is ∙ sym (granted_alone image there)) i)

-- by handlers, and then by the units of each kind

pub lowered_closed : (site : Site) (handlers : List Handler) (first second third fourth last : List Bool)
    → Lowered (λ image. are_alike (alone image) handlers) first second
    → Lowered (λ image. is_apart (alone image) site Memory) second third
    → Lowered (λ image. is_apart (alone image) site Io) third fourth
    → Lowered (λ image. is_apart (alone image) site Msr) fourth last
    → Lowered (λ image. is_closed_by (alone image) site handlers) first last
lowered_closed site handlers first second third fourth last by_handlers by_memory by_ports by_registers =
    let alike : ℕ → Bool = λ image. are_alike (alone image) handlers in
    let memory : ℕ → Bool = λ image. is_apart (alone image) site Memory in
    let ports : ℕ → Bool = λ image. is_apart (alone image) site Io in
    let registers : ℕ → Bool = λ image. is_apart (alone image) site Msr in
    lowered_then alike (λ image. memory image && (ports image && registers image)) first second last by_handlers
    (lowered_then memory (λ image. ports image && registers image) second third last by_memory
    (lowered_then ports registers third fourth last by_ports by_registers))

-- what the flags say in the end

module _ (site : CoreSite) (before after : List Bool) where
  pub alone_closed : (count : length before ≡ length site.supervised.images)
      → ((image : ℕ) → image < length before → get_or before image false ≡ true)
      → Lowered (λ image. is_closed_by (alone image) site.supervised site.handlers) before after
      → AreAloneClosed site after
  alone_closed count raised lowered = record {
    count = lowered.count ∙ count;
    each = λ image there.
        let is : get_or after image false ≡ is_closed_by (alone image) site.supervised site.handlers =
        lowered.each image (omega (arith, count))
        ∙ ap (λ b. b && is_closed_by (alone image) site.supervised site.handlers) (raised image (omega (arith, count))) in
        let exactly = closed_exactly (alone image) site.supervised site.handlers in (
          λ some. exactly.0 (sym is ∙ get_or_from_slice_get after image true false some),
          λ closed.
              slice_get-get_or after image false (omega (arith, lowered.count, count))
              ∙ ap (λ (b : Bool). Some b) (is ∙ exactly.1 closed),
        );
  }

-- what a vector of flags holds after they were lowered in place
pub told_flags : (site : CoreSite) (items before now result : List Bool) (count len : ℕ)
    → count ≡ length site.supervised.images
    → items ≡ replicate count true
    → before ≡ items
    → len ≡ length items
    → Lowered (λ image. is_closed_by (alone image) site.supervised site.handlers) before now
    → result ≡ take len (now ++ drop (length now) items)
    → AreAloneClosed site result
told_flags site items before now result count len images raised same whole lowered is =
    let long : length before ≡ count = ap length (same ∙ raised) ∙ length-replicate count true in
    let none : drop (length now) items ≡ [] = drop_all (length now) items (omega (arith, lowered.count, ap length same)) in
    let all : take len now ≡ now = take_all len now (omega (arith, lowered.count, ap length same)) in
    let kept : result ≡ now =
    is ∙ (ap (λ rest. take len (now ++ rest)) none ∙ (ap (take len) (append-nil now) ∙ all)) in
    subst (AreAloneClosed site) (sym kept)
    (alone_closed site before now (long ∙ images)
    (λ image within.
    ap (λ flags. get_or flags image false) (same ∙ raised) ∙ get_or-replicate count image true false (omega (arith, long)))
    lowered)
