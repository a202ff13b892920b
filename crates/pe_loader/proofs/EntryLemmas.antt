-- What an image says of its size, its entry and its sections.
use Rattle.std.proofs.Common.{◌≡◌, ◌≢◌, inl, inr, ℕ, zero, suc, ◌+◌, ◌-◌, ◌%◌, ◌≤◌, ◌<◌, Bool, true, false, ◌==◌, ◌||◌, ◌&&◌, nat_lt, List, [], ◌∷◌, ◌++◌, map, get_or, None, sym, ap, ◌∙◌, arith}
use Rattle.std.specs.List.{range_with_len, list_any}
use Rattle.std.proofs.lemmas.Bool.{cases_Bool, cond-true, cond-false, and_parts, ne_eqb}
use Rattle.std.proofs.lemmas.Bool.Decides.{nat_tests}
use Rattle.mm_base.proofs.CheckLemmas.{AllPass, all_pass}
use Rattle.mm_base.specs.Checks.{first_failing}
use Rattle.mm_base.specs.declared.image.Image.{Image}
use Rattle.pe_loader.specs.Headers.{machine_of, entry_of, image_size, part_count, header_checks}
use Rattle.pe_loader.specs.Sections.{part_at, parts, holds_code, layout_of, entry_passes, entry_check, section_checks, checks}
use Rattle.pe_loader.specs.Forms.{copies_to, plain_form}
use Rattle.pe_loader.specs.Images.{image_of, IsImage}
use Rattle.pe_loader.specs.declared.fixup.Fixup.{Fixup}
use Rattle.pe_loader.proofs.FormLemmas.{plain_of_part, get_or-form, copy_in_image}
use Rattle.pe_loader.proofs.ImageLemmas.{headers_there, laid_out_of, parts_of, size_of, headers_of}

-- what the headers say
machine_is : (bytes : List ℕ) (image : Image) → image ≡ image_of bytes → image.machine ≡ machine_of bytes
unfolding image_of
machine_is bytes image is = ap (λ (i : Image). i.machine) is

entry_is : (bytes : List ℕ) (image : Image) → image ≡ image_of bytes → image.entry ≡ entry_of bytes
unfolding image_of
entry_is bytes image is = ap (λ (i : Image). i.entry) is

-- where one is found, one passes
any_there : {X : Type 0} (p : X → Bool) (f : ℕ → X) (a n : ℕ) → list_any p (map f (range_with_len a n)) ≡ true
    → (k : ℕ) × ((a ≤ k) × ((k < a + n) × (p (f k) ≡ true)))
any_there p f a zero any = let wrong : false ≡ true = any in cc
any_there p f a (suc n) any =
    elim (cases_Bool (p (f a))) [
      | inl is ↦ (a, (omega arith, (omega arith, is)))
      | inr isnt ↦
          let rest : list_any p (map f (range_with_len (a + 1) n)) ≡ true = sym (ap (λ b. b || list_any p (map f (range_with_len (a + 1) n))) isnt) ∙ any in
          let there = any_there p f (a + 1) n rest in
          (there.0, (omega (arith, there.1.0), (omega (arith, there.1.1.0), there.1.1.1)))
    ]

-- the last of some checks passes where all do
last_passes : (bytes : List ℕ) → first_failing (checks bytes) ≡ None → entry_passes bytes ≡ true
unfolding checks
last_passes bytes none = in_last (header_checks bytes ++ section_checks bytes (layout_of bytes)) (all_pass (checks bytes) none)
  where
    in_last : (front : List _) → AllPass (front ++ entry_check bytes ∷ []) → entry_passes bytes ≡ true
    in_last [] pass = pass.0
    in_last (check ∷ front) pass = in_last front pass.1

module _ (bytes : List ℕ) (image : Image) (fixups : List Fixup) (is : IsImage bytes image fixups) where
  pub size_is_bounded : (0 < image.size) × (image.size ≤ 16777216) × (image.headers ≤ image.size)
  size_is_bounded =
      let headers = headers_there bytes is.passes in
      let size = size_of bytes image is.says in
      let heads = headers_of bytes image is.says in
      (omega (arith, headers.some), omega (arith, headers.most), omega (arith, headers.in_image))

  pub entry_is_code : image.machine ≡ 0x0ebc
      → (image.entry % 2 ≡ 0) × ((k : ℕ) × ((k < image.parts) × (holds_code image.entry (part_at bytes k) ≡ true)))
  entry_is_code byte_code =
      let machine : (machine_of bytes == 0x0ebc) ≡ true = grind (arith, nat_tests, machine_is bytes image is.says) in
      let found : Bool = list_any (holds_code (entry_of bytes)) (parts bytes) in
      let chosen : entry_passes bytes ≡ ((entry_of bytes % 2 == 0) && found) = cond-true (machine_of bytes == 0x0ebc) _ _ machine in
      let passes = and_parts (entry_of bytes % 2 == 0) found (sym chosen ∙ last_passes bytes is.passes) in
      let there = any_there (holds_code (entry_of bytes)) (part_at bytes) 0 (part_count bytes) passes.1 in
      let entry = entry_is bytes image is.says in
      let even : entry_of bytes % 2 ≡ 0 = grind (arith, nat_tests, passes.0) in (
        ap (λ n. n % 2) entry ∙ even,
        (
          there.0,
          (
            omega (arith, there.1.1.0, parts_of bytes image is.says),
            ap (λ n. holds_code n (part_at bytes there.0)) entry ∙ there.1.1.1,
          ),
        ),
      )

  pub entry_is_within : image.machine ≢ 0x0ebc → image.entry < image.size
  entry_is_within native =
      let machine : (machine_of bytes == 0x0ebc) ≡ false = ne_eqb _ _ (λ e. native (machine_is bytes image is.says ∙ e)) in
      let chosen : entry_passes bytes ≡ nat_lt (entry_of bytes) (image_size bytes) = cond-false (machine_of bytes == 0x0ebc) _ _ machine in
      let passes = sym chosen ∙ last_passes bytes is.passes in
      let within : entry_of bytes < image_size bytes = grind (arith, nat_tests, passes) in
      omega (arith, entry_is bytes image is.says, size_of bytes image is.says)

  -- what a section copies
  pub copies_are_the_file : (k place : ℕ) → k < image.parts → copies_to place (part_at bytes k) ≡ true
      → get_or (plain_form bytes) place 0 ≡ get_or bytes ((part_at bytes k).raw + (place - (part_at bytes k).at)) 0
  copies_are_the_file k place h copies =
      let laid = laid_out_of bytes is.passes in
      let there : k < part_count bytes = omega (arith, parts_of bytes image is.says) in
      let high : place < (part_at bytes k).at + (part_at bytes k).copied = grind (arith, nat_tests) in
      let within : place < image_size bytes = omega (arith, copy_in_image bytes (layout_of bytes) k laid there) in
      get_or-form bytes (layout_of bytes) place within ∙ plain_of_part bytes (layout_of bytes) k place laid there copies
