-- Texts of GUIDs.
use Rattle.std.proofs.Common.{◌≡◌, ℕ, ◌<◌, List, length, Option, Some, None, option_map, All, inl, refl, sym, ap, ◌∙◌}
use Rattle.std.proofs.lemmas.List.Elements.{All-from_recursion}
use Rattle.uuid.specs.Text.{hyphenated_text, lower}
use Rattle.uuid.specs.Parts.{swap_fields}
use Rattle.uuid.proofs.TextLemmas.{by_index_length}
use Rattle.uuid.proofs.RoundTrips.{parses_hyphenated, swap_twice}
use Rattle.mm_base.specs.declared.guid.Guid.{Guid}
use Rattle.mm_base.specs.Guid.{guid_from_text, guid_text}
use Rattle.mm_base.proofs.NumberLemmas.{small_at}

-- what is nothing in particular is none
pub none_of : {X : Type 0} (o : Option X) → (((x : X) × (o ≡ Some x)) → ⊥) → o ≡ None
none_of None h = refl
none_of (Some x) h = absurd (h (x, refl))

-- a text has 36 bytes
pub length-hyphenated_text : (xs : List ℕ) → length (hyphenated_text lower xs) ≡ 36
length-hyphenated_text xs = by_index_length 36 _

-- the bytes as they are written are small if those that are stored are
All-swap_fields : (xs : List ℕ) → All (λ byte. byte < 256) xs → All (λ byte. byte < 256) (swap_fields xs)
All-swap_fields xs small =
    let at = small_at xs small in
    All-from_recursion (λ byte. byte < 256) (swap_fields xs)
    (at 3, (at 2, (at 1, (at 0, (at 5, (at 4, (at 7, (at 6, (at 8, (at 9, (at 10, (at 11, (at 12, (at 13, (at 14, (at 15, tt))))))))))))))))

-- a GUID is read back from its text
pub guid_from_text-guid_text : (guid : Guid) → length guid.0 ≡ 16 → All (λ byte. byte < 256) guid.0
    → guid_from_text (guid_text guid) ≡ Some guid
guid_from_text-guid_text guid long small =
    let written : List ℕ = swap_fields guid.0 in
    let read = parses_hyphenated lower written (inl refl) refl (All-swap_fields guid.0 small) in
    let whole : List ℕ → Guid = λ bytes. record { 0 = bytes } in
    ap (option_map (λ (bytes : List ℕ). whole (swap_fields bytes))) (sym read)
    ∙ ap (λ (bytes : List ℕ). Some (whole bytes)) (swap_twice guid.0 long)
