-- Bytes are one image, or have one fault.
use Rattle.std.proofs.Common.{◌≡◌, ◌⊎◌, inl, inr, ℕ, ◌+◌, ◌≤◌, ◌<◌, Bool, true, false, not, List, [], ◌∷◌, ◌++◌, find, Option, Some, None, Result, Ok, Err, IfOk, IfErr, refl, sym, ap, ◌∙◌, subst, arith}
use Rattle.std.proofs.lemmas.Bool.{cond-true, cond-false, cases_Bool}
use Rattle.courses.proofs.CheckLemmas.{one_first, never_first, none_or_first}
use Rattle.courses.proofs.VerdictLemmas.{found, first}
use Rattle.mm_base.specs.Checks.{Check, first_failing}
use Rattle.mm_base.specs.declared.image.Image.{Image}
use Rattle.mm_base.specs.declared.image.PeFault.{PeFault}
use Rattle.mm_base.specs.declared.image.PeKind.{PeKind}
use Rattle.mm_base.specs.declared.image.PeKind.TheVariants.{Reloc}
use Rattle.pe_loader.specs.Headers.{header_checks, optional_at, part_count, headers_size, image_size, table_at, relocs_of, FailsFirst}
use Rattle.mm_base.specs.Range.{share_a_unit, Has}
use Rattle.mm_base.proofs.RangeLemmas.{overlap_is_a_unit}
use Rattle.pe_loader.specs.Sections.{part_at, range_of, section_checks, entry_check, layout_of, checks}
use Rattle.pe_loader.specs.Forms.{plain_form}
use Rattle.pe_loader.specs.Fixups.{AreRead, AreRefused}
use Rattle.pe_loader.specs.Images.{image_of, IsImage, IsImageOf, HasBadRelocations, HasFault}
use Rattle.pe_loader.specs.LayoutInside.{HasHeaders, IsLaidOut}
use Rattle.pe_loader.specs.ReadingInside.{form_in}
use Rattle.pe_loader.specs.declared.layout.Layout.{Layout}
use Rattle.mm_base.specs.declared.range.Range.{Range}
use Rattle.pe_loader.specs.declared.fixup.Fixup.{Fixup}
use Rattle.pe_loader.proofs.HeaderLemmas.{has_headers}
use Rattle.pe_loader.proofs.SectionLemmas.{laid_out, has_table}
use Rattle.pe_loader.proofs.BlockLemmas.{one_list, read_or_refused, read_or_not}

-- ---- checks behind others

find_front : {X : Type 0} (p : X → Bool) (xs ys : List X) (x : X) → find p xs ≡ Some x → find p (xs ++ ys) ≡ Some x
find_front p [] ys x e = let wrong : None ≡ Some x = e in cc
find_front p (z ∷ zs) ys x e =
    elim (cases_Bool (p z)) [
      | inl is ↦ cond-true (p z) (Some z) (find p (zs ++ ys)) is ∙ sym (cond-true (p z) (Some z) (find p zs) is) ∙ e
      | inr isnt ↦ cond-false (p z) (Some z) (find p (zs ++ ys)) isnt ∙ find_front p zs ys x (sym (cond-false (p z) (Some z) (find p zs) isnt) ∙ e)
    ]

find_behind : {X : Type 0} (p : X → Bool) (xs ys : List X) → find p xs ≡ None → find p (xs ++ ys) ≡ find p ys
find_behind p [] ys e = refl
find_behind p (z ∷ zs) ys e =
    elim (cases_Bool (p z)) [
      | inl is ↦ let wrong : Some z ≡ None = sym (cond-true (p z) (Some z) (find p zs) is) ∙ e in cc
      | inr isnt ↦ cond-false (p z) (Some z) (find p (zs ++ ys)) isnt ∙ find_behind p zs ys (sym (cond-false (p z) (Some z) (find p zs) isnt) ∙ e)
    ]

none_in_front : {X : Type 0} (p : X → Bool) (xs ys : List X) (found : Option X) → find p xs ≡ found → find p (xs ++ ys) ≡ None → find p xs ≡ None
none_in_front p xs ys None is none = is
none_in_front p xs ys (Some x) is none = let wrong : Some x ≡ None = sym (find_front p xs ys x is) ∙ none in cc

pub fails_in_front : (xs ys : List (Check PeKind)) (fault : PeFault) → FailsFirst xs fault → FailsFirst (xs ++ ys) fault
fails_in_front xs ys fault fails = record {
  check = fails.check;
  first = find_front (λ (check : Check PeKind). not check.passes) xs ys fails.check fails.first;
  kind_is = fails.kind_is;
  place_is = fails.place_is;
}

pub fails_behind : (xs ys : List (Check PeKind)) (fault : PeFault) → first_failing xs ≡ None → FailsFirst ys fault → FailsFirst (xs ++ ys) fault
fails_behind xs ys fault none fails = record {
  check = fails.check;
  first = find_behind (λ (check : Check PeKind). not check.passes) xs ys none ∙ fails.first;
  kind_is = fails.kind_is;
  place_is = fails.place_is;
}

-- all checks, part by part
pub checks_by_headers : (bytes : List ℕ) (fault : PeFault) → FailsFirst (header_checks bytes) fault → FailsFirst (checks bytes) fault
unfolding checks
checks_by_headers bytes fault fails =
    fails_in_front (header_checks bytes ++ section_checks bytes (layout_of bytes)) (entry_check bytes ∷ []) fault (fails_in_front (header_checks bytes) (section_checks bytes (layout_of bytes)) fault fails)

pub checks_by_sections : (bytes : List ℕ) (fault : PeFault) → first_failing (header_checks bytes) ≡ None → FailsFirst (section_checks bytes (layout_of bytes)) fault
    → FailsFirst (checks bytes) fault
unfolding checks
checks_by_sections bytes fault headers fails =
    fails_in_front (header_checks bytes ++ section_checks bytes (layout_of bytes)) (entry_check bytes ∷ []) fault (fails_behind (header_checks bytes) (section_checks bytes (layout_of bytes)) fault headers fails)

both_none : (bytes : List ℕ) → first_failing (header_checks bytes) ≡ None → first_failing (section_checks bytes (layout_of bytes)) ≡ None
    → first_failing (header_checks bytes ++ section_checks bytes (layout_of bytes)) ≡ None
both_none bytes headers sections = find_behind (λ (check : Check PeKind). not check.passes) (header_checks bytes) (section_checks bytes (layout_of bytes)) headers ∙ sections

pub checks_by_entry : (bytes : List ℕ) (fault : PeFault) → first_failing (header_checks bytes) ≡ None → first_failing (section_checks bytes (layout_of bytes)) ≡ None
    → FailsFirst (entry_check bytes ∷ []) fault → FailsFirst (checks bytes) fault
unfolding checks
checks_by_entry bytes fault headers sections fails =
    fails_behind (header_checks bytes ++ section_checks bytes (layout_of bytes)) (entry_check bytes ∷ []) fault (both_none bytes headers sections) fails

pub checks_pass : (bytes : List ℕ) → first_failing (header_checks bytes) ≡ None → first_failing (section_checks bytes (layout_of bytes)) ≡ None
    → first_failing (entry_check bytes ∷ []) ≡ None → first_failing (checks bytes) ≡ None
unfolding checks
checks_pass bytes headers sections entry =
    find_behind (λ (check : Check PeKind). not check.passes) (header_checks bytes ++ section_checks bytes (layout_of bytes)) (entry_check bytes ∷ []) (both_none bytes headers sections) ∙ entry

-- where all pass, the headers and the sections do
module _ (bytes : List ℕ) (none : first_failing (checks bytes) ≡ None) where
  abbrev test : Check PeKind → Bool
  test check = not check.passes

  front_passes : first_failing (header_checks bytes ++ section_checks bytes (layout_of bytes)) ≡ None
  unfolding checks
  front_passes = none_in_front test (header_checks bytes ++ section_checks bytes (layout_of bytes)) (entry_check bytes ∷ []) _ refl none

  headers_pass : first_failing (header_checks bytes) ≡ None
  headers_pass = none_in_front test (header_checks bytes) (section_checks bytes (layout_of bytes)) _ refl front_passes

  pub headers_there : HasHeaders bytes
  headers_there = has_headers bytes headers_pass

  pub laid_out_of : IsLaidOut bytes (layout_of bytes)
  laid_out_of =
      let sections : first_failing (section_checks bytes (layout_of bytes)) ≡ None =
      sym (find_behind test (header_checks bytes) (section_checks bytes (layout_of bytes)) headers_pass) ∙ front_passes in
      laid_out bytes (layout_of bytes) (has_table bytes headers_there) sections

-- ---- bytes are one image, or have one fault

pub one_image : (bytes : List ℕ) (one other : Image) (some others : List Fixup) → IsImage bytes one some → IsImage bytes other others
    → (one ≡ other) × (some ≡ others)
one_image bytes one other some others a b =
    (a.says ∙ sym b.says, one_list (plain_form bytes) (image_size bytes) (relocs_of bytes) some others a.relocations b.relocations)

pub never_both : (bytes : List ℕ) (image : Image) (fixups : List Fixup) (fault : PeFault) → IsImage bytes image fixups → HasFault bytes fault → ⊥
never_both bytes image fixups fault is (inl bad) = never_first (checks bytes) fault.kind fault.at bad is.passes
never_both bytes image fixups fault is (inr bad) = read_or_refused (plain_form bytes) (image_size bytes) (relocs_of bytes) fixups is.relocations bad.refused

pub one_fault : (bytes : List ℕ) (one other : PeFault) → HasFault bytes one → HasFault bytes other → one ≡ other
one_fault bytes one other (inl a) (inl b) =
    let same = one_first (checks bytes) one.kind other.kind one.at other.at a b in
    λ i. record { at = same.places i; kind = same.kinds i }
one_fault bytes one other (inl a) (inr b) = absurd (never_first (checks bytes) one.kind one.at a b.passes)
one_fault bytes one other (inr a) (inl b) = absurd (never_first (checks bytes) other.kind other.at b a.passes)
one_fault bytes one other (inr a) (inr b) =
    let places : one.at ≡ other.at = a.at ∙ sym b.at in
    let kinds : one.kind ≡ other.kind = a.kind ∙ sym b.kind in
    λ i. record { at = places i; kind = kinds i }

-- what a reader answers is the image, or the fault, that the bytes are
pub told_found : (bytes : List ℕ) (result : Result Image PeFault) → IfOk result (IsImageOf bytes) → IfErr result (HasFault bytes)
    → (image : Image) (fixups : List Fixup) → IsImage bytes image fixups → result ≡ Ok image
told_found bytes result ok err image fixups is =
    found (IsImageOf bytes) (HasFault bytes) (λ image fault is has. never_both bytes image is.0 fault is.1 has)
    (λ one other a b. (one_image bytes one other a.0 b.0 a.1 b.1).0) result ok err image (fixups, is)

pub told_first : (bytes : List ℕ) (result : Result Image PeFault) → IfOk result (IsImageOf bytes) → IfErr result (HasFault bytes)
    → (fault : PeFault) → HasFault bytes fault → result ≡ Err fault
told_first bytes result ok err fault has =
    first (IsImageOf bytes) (HasFault bytes) (λ image fault is has. never_both bytes image is.0 fault is.1 has) (one_fault bytes) result ok err fault has

-- ---- there is one

pub either : (bytes : List ℕ) → ((image : Image) × IsImageOf bytes image) ⊎ ((fault : PeFault) × HasFault bytes fault)
either bytes =
    elim (none_or_first (checks bytes)) [
      | inl none ↦ elim (read_or_not (plain_form bytes) (image_size bytes) (relocs_of bytes)) [
        | inl read ↦ inl (image_of bytes, (read.0, record { passes = none; says = refl; relocations = read.1 }))
        | inr refused ↦
            inr (record { at = optional_at bytes + 152; kind = Reloc }, inr (record { passes = none; refused = refused; at = refl; kind = refl }))
      ]
      | inr (check, fails) ↦ inr (record { at = check.at; kind = check.kind }, inl fails)
    ]

-- what an image says is what the headers say
pub parts_of : (bytes : List ℕ) (image : Image) → image ≡ image_of bytes → image.parts ≡ part_count bytes
unfolding image_of
parts_of bytes image is = ap (λ (i : Image). i.parts) is

pub size_of : (bytes : List ℕ) (image : Image) → image ≡ image_of bytes → image.size ≡ image_size bytes
unfolding image_of
size_of bytes image is = ap (λ (i : Image). i.size) is

pub table_of : (bytes : List ℕ) (image : Image) → image ≡ image_of bytes → image.table ≡ table_at bytes
unfolding image_of
table_of bytes image is = ap (λ (i : Image). i.table) is

pub headers_of : (bytes : List ℕ) (image : Image) → image ≡ image_of bytes → image.headers ≡ headers_size bytes
unfolding image_of
headers_of bytes image is = ap (λ (i : Image). i.headers) is

-- ---- the sections of an image

pub sections_lie_within : (bytes : List ℕ) (image : Image) (fixups : List Fixup) (k : ℕ) → IsImage bytes image fixups → k < image.parts
    → (image.headers ≤ (part_at bytes k).at) × ((part_at bytes k).at + (part_at bytes k).length ≤ image.size)
sections_lie_within bytes image fixups k is h =
    let laid = laid_out_of bytes is.passes in
    let parts = parts_of bytes image is.says in
    let lies = laid.each k (omega arith) in
    (omega (arith, headers_of bytes image is.says, lies.from), omega (arith, size_of bytes image is.says, lies.to))

pub sections_lie_apart : (bytes : List ℕ) (image : Image) (fixups : List Fixup) (j k place : ℕ) → IsImage bytes image fixups → j < k → k < image.parts
    → Has (range_of (part_at bytes j)) place → Has (range_of (part_at bytes k)) place → ⊥
sections_lie_apart bytes image fixups j k place is earlier h one other =
    let laid = laid_out_of bytes is.passes in
    let parts = parts_of bytes image is.says in
    let apart = laid.apart j k earlier (omega arith) in
    let both : share_a_unit (range_of (part_at bytes j)) (range_of (part_at bytes k)) ≡ true =
    (overlap_is_a_unit (range_of (part_at bytes j)) (range_of (part_at bytes k))).1 (place, (one, other)) in
    let wrong : true ≡ false = sym both ∙ apart in
    cc

-- ---- an image in the PE32+ format, by its layout

-- what the relocations of its layout come to
pub read_here : (bytes : List ℕ) (layout : Layout) (directory : Range) → layout ≡ layout_of bytes → directory ≡ relocs_of bytes
    → AreRead (form_in bytes layout) layout.size directory → AreRead (plain_form bytes) (image_size bytes) (relocs_of bytes)
read_here bytes layout directory is there read =
    let P : Layout → Type 0 = λ l. AreRead (form_in bytes l) l.size directory in
    let Q : Range → Type 0 = λ d. AreRead (plain_form bytes) (image_size bytes) d in
    subst Q there (subst P is read)

pub refused_here : (bytes : List ℕ) (layout : Layout) (directory : Range) → layout ≡ layout_of bytes → directory ≡ relocs_of bytes
    → AreRefused (form_in bytes layout) layout.size directory → AreRefused (plain_form bytes) (image_size bytes) (relocs_of bytes)
refused_here bytes layout directory is there refused =
    let P : Layout → Type 0 = λ l. AreRefused (form_in bytes l) l.size directory in
    let Q : Range → Type 0 = λ d. AreRefused (plain_form bytes) (image_size bytes) d in
    subst Q there (subst P is refused)

-- the fault that refused relocations are
pub has_bad : (bytes : List ℕ) (layout : Layout) (directory : Range) (fault : PeFault) (at : ℕ) → layout ≡ layout_of bytes → directory ≡ relocs_of bytes
    → first_failing (checks bytes) ≡ None → AreRefused (form_in bytes layout) layout.size directory
    → fault ≡ record { at = at + 152; kind = Reloc } → at ≡ optional_at bytes → HasBadRelocations bytes fault
has_bad bytes layout directory fault at is there passes refused told place = record {
  passes = passes;
  refused = refused_here bytes layout directory is there refused;
  at = ap (λ (f : PeFault). f.at) told ∙ ap (λ n. n + 152) place;
  kind = ap (λ (f : PeFault). f.kind) told;
}
