-- Fixups for no difference change nothing.
use Rattle.std.proofs.Common.{◌≡◌, inl, inr, ℕ, ◌+◌, ◌-◌, ◌%◌, ◌^◌, ◌≤◌, ◌<◌, Bool, true, false, if◌then◌else◌, nat_lt, List, [], ◌∷◌, ◌++◌, find, length, take, drop, get_or, fold, Option, Some, None, refl, sym, ap, ◌∙◌, subst, arith, append_assoc, length-drop}
use Rattle.std.specs.Int.{w16, w32, w64, to_le_bytes}
use Rattle.std.specs.List.{All, list_all, range_with_len}
use Rattle.std.specs.Option.{option_map_or}
use Rattle.std.proofs.lemmas.Bool.{and_parts, cases_lt}
use Rattle.std.proofs.lemmas.List.{length-take-le, take-append-drop, drop-drop, get_or_past}
use Rattle.std.proofs.lemmas.List.Elements.{All-take, All-drop, All-get_or, All-map}
use Rattle.std.proofs.lemmas.Nat.{le_bytes_2, le_bytes_4, le_bytes_8}
use Rattle.mm_base.specs.Numbers.{number_of}
use Rattle.mm_base.specs.declared.image.Image.{Image}
use Rattle.mm_base.specs.declared.image.Part.{Part}
use Rattle.pe_loader.specs.Headers.{image_size, headers_size, relocs_of}
use Rattle.pe_loader.specs.Sections.{parts}
use Rattle.pe_loader.specs.Forms.{copies_to, plain_byte, form_of, plain_form}
use Rattle.pe_loader.specs.Fixups.{StaysWithin}
use Rattle.pe_loader.specs.Images.{IsImage}
use Rattle.pe_loader.specs.Loading.{difference, put, fixed, loaded}
use Rattle.pe_loader.specs.declared.fixup.Fixup.{Fixup}
use Rattle.pe_loader.specs.declared.fixup_kind.FixupKind.{FixupKind}
use Rattle.pe_loader.specs.declared.fixup_kind.FixupKind.TheVariants.{Absolute, High, Low, HighLow, Dir64, Unknown}
use Rattle.pe_loader.proofs.ApplyLemmas.{stays_within}
use Rattle.pe_loader.proofs.LoadedLemmas.{length-plain_form, all_pass_there, passes_here}

-- ---- small bytes

abbrev pub AreBytes : List ℕ → Type 0
AreBytes bytes = All (λ byte. byte < 256) bytes

small_at : (bytes : List ℕ) (i : ℕ) → AreBytes bytes → get_or bytes i 0 < 256
small_at bytes i small =
    elim (cases_lt i (length bytes)) [
      | inl within ↦ All-get_or (λ (byte : ℕ). byte < 256) bytes i 0 within small
      | inr past ↦ omega (arith, get_or_past bytes i 0 past)
    ]

small_choice : (test : Bool) (one : ℕ) (f : Part → ℕ) (found : Option Part) → one < 256 → ((part : Part) → f part < 256)
    → (if test then one else option_map_or f found 0) < 256
small_choice true one f found small each = small
small_choice false one f None small each = omega arith
small_choice false one f (Some part) small each = each part

plain_small : (bytes : List ℕ) (headers : ℕ) (sections : List Part) (place : ℕ) → AreBytes bytes → plain_byte bytes headers sections place < 256
unfolding plain_byte
plain_small bytes headers sections place small =
    small_choice (nat_lt place headers) (get_or bytes place 0) (λ (part : Part). get_or bytes (part.raw + (place - part.at)) 0)
    (find (copies_to place) sections) (small_at bytes place small) (λ part. small_at bytes (part.raw + (place - part.at)) small)

form_small : (bytes : List ℕ) → AreBytes bytes → AreBytes (plain_form bytes)
unfolding form_of
form_small bytes small =
    All-map (λ (byte : ℕ). byte < 256) (plain_byte bytes (headers_size bytes) (parts bytes)) (range_with_len 0 (image_size bytes))
    (λ k d within. plain_small bytes (headers_size bytes) (parts bytes) (get_or (range_with_len 0 (image_size bytes)) k d) small)

-- ---- a number that is put back

same_2 : (bytes : List ℕ) → length bytes ≡ 2 → ((i : ℕ) → get_or bytes i 0 < 256) → to_le_bytes w16 ((number_of bytes + 0) % 2 ^ 16) ≡ bytes
same_2 [] long small = absurd (omega arith)
same_2 (a ∷ []) long small = absurd (omega arith)
same_2 (a ∷ b ∷ []) long small =
    let x = small 0 in
    let y = small 1 in
    le_bytes_2 (a ∷ b ∷ []) _ long small (omega arith)
same_2 (a ∷ b ∷ c ∷ rest) long small = absurd (omega arith)

same_4 : (bytes : List ℕ) → length bytes ≡ 4 → ((i : ℕ) → get_or bytes i 0 < 256) → to_le_bytes w32 ((number_of bytes + 0) % 2 ^ 32) ≡ bytes
same_4 [] long small = absurd (omega arith)
same_4 (a ∷ []) long small = absurd (omega arith)
same_4 (a ∷ b ∷ []) long small = absurd (omega arith)
same_4 (a ∷ b ∷ c ∷ []) long small = absurd (omega arith)
same_4 (a ∷ b ∷ c ∷ d ∷ []) long small =
    let x = small 0 in
    let y = small 1 in
    let z = small 2 in
    let w = small 3 in
    le_bytes_4 (a ∷ b ∷ c ∷ d ∷ []) _ long small (omega arith)
same_4 (a ∷ b ∷ c ∷ d ∷ e ∷ rest) long small = absurd (omega arith)

same_8 : (bytes : List ℕ) → length bytes ≡ 8 → ((i : ℕ) → get_or bytes i 0 < 256) → to_le_bytes w64 ((number_of bytes + 0) % 2 ^ 64) ≡ bytes
same_8 [] long small = absurd (omega arith)
same_8 (a ∷ []) long small = absurd (omega arith)
same_8 (a ∷ b ∷ []) long small = absurd (omega arith)
same_8 (a ∷ b ∷ c ∷ []) long small = absurd (omega arith)
same_8 (a ∷ b ∷ c ∷ d ∷ []) long small = absurd (omega arith)
same_8 (a ∷ b ∷ c ∷ d ∷ e ∷ []) long small = absurd (omega arith)
same_8 (a ∷ b ∷ c ∷ d ∷ e ∷ f ∷ []) long small = absurd (omega arith)
same_8 (a ∷ b ∷ c ∷ d ∷ e ∷ f ∷ g ∷ []) long small = absurd (omega arith)
same_8 (a ∷ b ∷ c ∷ d ∷ e ∷ f ∷ g ∷ h ∷ []) long small =
    let s = small 0 in
    let t = small 1 in
    let u = small 2 in
    let v = small 3 in
    let w = small 4 in
    let x = small 5 in
    let y = small 6 in
    let z = small 7 in
    le_bytes_8 (a ∷ b ∷ c ∷ d ∷ e ∷ f ∷ g ∷ h ∷ []) _ long small (omega arith)
same_8 (a ∷ b ∷ c ∷ d ∷ e ∷ f ∷ g ∷ h ∷ i ∷ rest) long small = absurd (omega arith)

module _ (form : List ℕ) (small : AreBytes form) (at : ℕ) where
  abbrev part_of : ℕ → List ℕ
  part_of n = take n (drop at form)

  length-part_of : (n : ℕ) → at + n ≤ length form → length (part_of n) ≡ n
  length-part_of n within = length-take-le n (drop at form) (omega (arith, length-drop at form))

  part_small : (n i : ℕ) → get_or (part_of n) i 0 < 256
  part_small n i =
      small_at (part_of n) i (All-take (λ (byte : ℕ). byte < 256) n (drop at form) (All-drop (λ (byte : ℕ). byte < 256) at form small))

  -- what stands there, put there
  put_same : (n : ℕ) (bs : List ℕ) → bs ≡ part_of n → at + n ≤ length form → put form at bs ≡ form
  put_same n bs is within =
      let long : length bs ≡ n = ap length is ∙ length-part_of n within in
      let behind : drop (at + length bs) form ≡ drop n (drop at form) = ap (λ k. drop (at + k) form) long ∙ sym (drop-drop n at form) in
      (λ i. take at form ++ is i ++ behind i)
      ∙ append_assoc (take at form) (part_of n) (drop n (drop at form))
      ∙ ap (λ (xs : List ℕ). take at form ++ xs) (take-append-drop n (drop at form))
      ∙ take-append-drop at form

fixed_same : (form : List ℕ) (small : AreBytes form) (kind : FixupKind) (at : ℕ) → StaysWithin (length form) (record { kind = kind; at = at })
    → fixed 0 form (record { kind = kind; at = at }) ≡ form
unfolding fixed
fixed_same form small Absolute at stays = refl
fixed_same form small Unknown at stays = refl
fixed_same form small High at stays =
    put_same form small at 2 _ (same_2 (take 2 (drop at form)) (length-part_of form small at 2 stays) (part_small form small at 2)) stays
fixed_same form small Low at stays =
    put_same form small at 2 _ (same_2 (take 2 (drop at form)) (length-part_of form small at 2 stays) (part_small form small at 2)) stays
fixed_same form small HighLow at stays =
    put_same form small at 4 _ (same_4 (take 4 (drop at form)) (length-part_of form small at 4 stays) (part_small form small at 4)) stays
fixed_same form small Dir64 at stays =
    put_same form small at 8 _ (same_8 (take 8 (drop at form)) (length-part_of form small at 8 stays) (part_small form small at 8)) stays

fold_same : (passes : Fixup → Bool) (fixups : List Fixup) (form : List ℕ) → AreBytes form
    → ((fixup : Fixup) → passes fixup ≡ true → StaysWithin (length form) fixup) → list_all passes fixups ≡ true
    → fold (fixed 0) form fixups ≡ form
fold_same passes [] form small stay pass = refl
fold_same passes (fixup ∷ fixups) form small stay pass =
    let both = and_parts _ _ pass in
    ap (λ (f : List ℕ). fold (fixed 0) f fixups) (fixed_same form small fixup.kind fixup.at (stay fixup both.0))
    ∙ fold_same passes fixups form small stay both.1

pub plain_at_home : (bytes : List ℕ) (image : Image) (fixups : List Fixup) → AreBytes bytes → image.base < 2 ^ 64 → IsImage bytes image fixups
    → loaded bytes image fixups image.base ≡ plain_form bytes
plain_at_home bytes image fixups small fits is =
    let none : difference image.base image.base ≡ 0 = omega arith in
    let long = length-plain_form bytes in
    ap (λ by. fold (fixed by) (plain_form bytes) fixups) none
    ∙ fold_same (passes_here bytes) fixups (plain_form bytes) (form_small bytes small)
    (λ fixup pass. subst (λ n. StaysWithin n fixup) (sym long) (stays_within (image_size bytes) (relocs_of bytes) fixup pass))
    (all_pass_there bytes fixups is.relocations)
