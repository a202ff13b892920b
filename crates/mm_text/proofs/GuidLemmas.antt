-- A word that spells a GUID is ASCII.
use Rattle.std.proofs.Common.{◌≡◌, ℕ, suc, nat_lt, codes, ◌+◌, ◌-◌, ◌<◌, ◌≤◌, Bool, true, false, ◌&&◌, ◌==◌, if◌then◌else◌, inl, inr, List, [], ◌∷◌, length, get_or, take, drop, map, Option, Some, None, option_map, refl, ap, sym, subst, ◌∙◌, arith}
use Rattle.std.proofs.lemmas.Bool.{cases_lt}
use Rattle.std.proofs.lemmas.Bool.Decides.{nat_tests, Decides-eqb}
use Rattle.std.proofs.lemmas.List.{get_or-take, get_or-drop}
use Rattle.std.proofs.lemmas.Option.{none-some, cond_some}
use Rattle.std.proofs.lemmas.Slice.Eq.{bytes_eq-Decides}
use Rattle.std.proofs.lemmas.Str.{IsUtf8-from_ascii}
use Rattle.std.proofs.lemmas.Str.Ascii.{IsAscii-nil, IsAscii-cons, IsAscii-from_reads}
use Rattle.std.specs.List.{list_all}
use Rattle.std.specs.Str.{IsAscii, IsUtf8, bytes_eq}
use Rattle.std.specs.Char.{to_ascii_lowercase}
use Rattle.uuid.specs.Text.{is_hex_digit, hyphen_place, digits_of, has_hyphens, has_urn_prefix, urn_prefix, parsed_simple, parsed_hyphenated, parsed_braced, parsed_urn, parsed}
use Rattle.uuid.proofs.TextLemmas.{by_index_at}
use Rattle.mm_base.specs.Guid.{guid_from_text}
use Rattle.mm_base.specs.declared.guid.Guid.{Guid}
use Rattle.mm_text.specs.LineReaderInside.{owner_in}
use Rattle.mm_text.proofs.NumberLemmas.{and_true}
use Rattle.uuid.specs.Parts.{swap_fields}
use borrow.Author.Tests.{ltb-true}

digit_small : (byte : ℕ) → is_hex_digit byte ≡ true → byte < 128
digit_small byte e = grind (arith, nat_tests)

digits_ascii : (text : List ℕ) → list_all is_hex_digit text ≡ true → IsAscii text
digits_ascii [] e = IsAscii-nil
digits_ascii (byte ∷ text) e =
    let both = and_true (is_hex_digit byte) (list_all is_hex_digit text) e in
    IsAscii-cons byte text (digit_small byte both.0) (digits_ascii text both.1)

simple_ascii : (text bytes : List ℕ) → parsed_simple text ≡ Some bytes → IsAscii text
simple_ascii text bytes e =
    digits_ascii text ((and_true (length text == 32) (list_all is_hex_digit text) (cond_some _ _ bytes e).0).1)

-- the places of digits in the hyphenated form
place_one : (i : ℕ) → i < 8 → hyphen_place i ≡ i
place_one i h = grind (arith, nat_tests)

place_two : (i : ℕ) → 8 ≤ i → i < 12 → hyphen_place i ≡ i + 1
place_two i low high = grind (arith, nat_tests)

place_three : (i : ℕ) → 12 ≤ i → i < 16 → hyphen_place i ≡ i + 2
place_three i low high = grind (arith, nat_tests)

place_four : (i : ℕ) → 16 ≤ i → i < 20 → hyphen_place i ≡ i + 3
place_four i low high = grind (arith, nat_tests)

place_five : (i : ℕ) → 20 ≤ i → hyphen_place i ≡ i + 4
place_five i low = grind (arith, nat_tests)

digit_at : (s : List ℕ) → IsAscii (digits_of s) → (i k : ℕ) → i < 32 → hyphen_place i ≡ k → get_or s k 0 < 128
digit_at s h i k few e =
    let P : ℕ → Type 0 = λ n. n < 128 in
    subst P (by_index_at 32 (λ j. get_or s (hyphen_place j) 0) i 0 few ∙ ap (λ n. get_or s n 0) e) (h i)

hyphen_at : (s : List ℕ) (k : ℕ) → (get_or s k 0 == 45) ≡ true → (n : ℕ) → n ≡ k → get_or s n 0 < 128
hyphen_at s k e n same =
    let is : get_or s k 0 ≡ 45 = (Decides-eqb _ 45).0 e in
    let there : get_or s n 0 ≡ 45 = ap (λ m. get_or s m 0) same ∙ is in
    omega arith

-- the four hyphens of a text
record Hyphens (s : List ℕ) : Type 0 where
  pub one : (get_or s 8 0 == 45) ≡ true
  pub two : (get_or s 13 0 == 45) ≡ true
  pub three : (get_or s 18 0 == 45) ≡ true
  pub four : (get_or s 23 0 == 45) ≡ true

hyphens_by : (a b c d : Bool) → (a && b && c && d) ≡ true → (a ≡ true) × (b ≡ true) × (c ≡ true) × (d ≡ true)
hyphens_by true true true true e = (refl, refl, refl, refl)
hyphens_by true true true false e = absurd (let no = e in cc)
hyphens_by true true false d e = absurd (let no = e in cc)
hyphens_by true false c d e = absurd (let no = e in cc)
hyphens_by false b c d e = absurd (let no = e in cc)

hyphens : (s : List ℕ) → has_hyphens s ≡ true → Hyphens s
hyphens s e =
    let h = hyphens_by (get_or s 8 0 == 45) (get_or s 13 0 == 45) (get_or s 18 0 == 45) (get_or s 23 0 == 45) e in
    record { one = h.0; two = h.1; three = h.2; four = h.3 }

hyphenated_at : (s : List ℕ) → IsAscii (digits_of s) → Hyphens s → (k : ℕ) → k < 36 → get_or s k 0 < 128
hyphenated_at s d h k few =
    elim (cases_lt k 8) [
      | inl a ↦ digit_at s d k k (omega arith) (place_one k a)
      | inr a ↦ elim (cases_lt k 9) [
        | inl b ↦ hyphen_at s 8 h.one k (omega arith)
        | inr b ↦ elim (cases_lt k 13) [
          | inl x ↦ digit_at s d (k - 1) k (omega arith) (place_two (k - 1) (omega arith) (omega arith) ∙ omega arith)
          | inr x ↦ elim (cases_lt k 14) [
            | inl y ↦ hyphen_at s 13 h.two k (omega arith)
            | inr y ↦ elim (cases_lt k 18) [
              | inl z ↦ digit_at s d (k - 2) k (omega arith) (place_three (k - 2) (omega arith) (omega arith) ∙ omega arith)
              | inr z ↦ elim (cases_lt k 19) [
                | inl u ↦ hyphen_at s 18 h.three k (omega arith)
                | inr u ↦ elim (cases_lt k 23) [
                  | inl v ↦ digit_at s d (k - 3) k (omega arith) (place_four (k - 3) (omega arith) (omega arith) ∙ omega arith)
                  | inr v ↦ elim (cases_lt k 24) [
                    | inl w ↦ hyphen_at s 23 h.four k (omega arith)
                    | inr w ↦ digit_at s d (k - 4) k (omega arith) (place_five (k - 4) (omega arith) ∙ omega arith)
                  ]
                ]
              ]
            ]
          ]
        ]
      ]
    ]

-- a condition of a reading, and what it reads
chosen : {A : Type 0} (b : Bool) (said : Option A) (value : A) → (if b then said else None) ≡ Some value → (b ≡ true) × (said ≡ Some value)
chosen true said value e = (refl, e)
chosen false said value e = absurd (none-some _ e)

hyphenated_ascii : (s bytes : List ℕ) → parsed_hyphenated s ≡ Some bytes → IsAscii s
hyphenated_ascii s bytes e =
    let read = chosen ((length s == 36) && has_hyphens s) (parsed_simple (digits_of s)) bytes e in
    let both = and_true (length s == 36) (has_hyphens s) read.0 in
    let long : length s ≡ 36 = (Decides-eqb _ 36).0 both.0 in
    IsAscii-from_reads s 36 (omega arith) (hyphenated_at s (simple_ascii (digits_of s) bytes read.1) (hyphens s both.1))

-- the braces of a text, and its length
record Braces (s : List ℕ) : Type 0 where
  pub long : length s ≡ 38
  pub open_brace : get_or s 0 0 ≡ 123
  pub close_brace : get_or s 37 0 ≡ 125

braces_by : (a b c : Bool) → (a && b && c) ≡ true → (a ≡ true) × (b ≡ true) × (c ≡ true)
braces_by true true true e = (refl, refl, refl)
braces_by true true false e = absurd (let no = e in cc)
braces_by true false c e = absurd (let no = e in cc)
braces_by false b c e = absurd (let no = e in cc)

braces : (s : List ℕ) → ((length s == 38) && (get_or s 0 0 == 123) && (get_or s 37 0 == 125)) ≡ true → Braces s
braces s e =
    let h = braces_by (length s == 38) (get_or s 0 0 == 123) (get_or s 37 0 == 125) e in
    record { long = (Decides-eqb _ 38).0 h.0; open_brace = (Decides-eqb _ 123).0 h.1; close_brace = (Decides-eqb _ 125).0 h.2 }

braced_at : (s : List ℕ) → Braces s → IsAscii (take 36 (drop 1 s)) → (k : ℕ) → k < 38 → get_or s k 0 < 128
braced_at s b h k few =
    elim (cases_lt k 1) [
      | inl x ↦ let there : get_or s k 0 ≡ get_or s 0 0 = ap (λ n. get_or s n 0) (omega arith) in omega (arith, b.open_brace)
      | inr x ↦ elim (cases_lt k 37) [
        | inl y ↦
            let inner : get_or (take 36 (drop 1 s)) (k - 1) 0 ≡ get_or s (1 + (k - 1)) 0 =
            get_or-take 36 (drop 1 s) (k - 1) 0 (omega arith) ∙ get_or-drop 1 s (k - 1) 0 in
            let there : get_or s (1 + (k - 1)) 0 ≡ get_or s k 0 = ap (λ n. get_or s n 0) (omega arith) in
            omega (arith, h (k - 1))
        | inr y ↦ let there : get_or s k 0 ≡ get_or s 37 0 = ap (λ n. get_or s n 0) (omega arith) in omega (arith, b.close_brace)
      ]
    ]

braced_ascii : (s bytes : List ℕ) → parsed_braced s ≡ Some bytes → IsAscii s
braced_ascii s bytes e =
    let read = chosen ((length s == 38) && (get_or s 0 0 == 123) && (get_or s 37 0 == 125)) (parsed_hyphenated (take 36 (drop 1 s))) bytes e in
    let b = braces s read.0 in
    IsAscii-from_reads s 38 (omega (arith, b.long)) (braced_at s b (hyphenated_ascii (take 36 (drop 1 s)) bytes read.1))

-- bytes that pass a test are ASCII
small_ascii : (text : List ℕ) → list_all (λ byte. nat_lt byte 128) text ≡ true → IsAscii text
small_ascii [] e = IsAscii-nil
small_ascii (byte ∷ text) e =
    let both = and_true (nat_lt byte 128) (list_all (λ b. nat_lt b 128) text) e in
    IsAscii-cons byte text (ltb-true byte 128 both.0) (small_ascii text both.1)

lower_small : (byte : ℕ) → to_ascii_lowercase byte < 128 → byte < 128
lower_small byte h = grind (arith, nat_tests)

lower_ascii : (text : List ℕ) → IsAscii (map to_ascii_lowercase text) → IsAscii text
lower_ascii [] h = IsAscii-nil
lower_ascii (byte ∷ text) h = IsAscii-cons byte text (lower_small byte (h 0)) (lower_ascii text (λ i. h (suc i)))

prefix_ascii : (s : List ℕ) → has_urn_prefix s ≡ true → IsAscii (take 9 s)
prefix_ascii s e =
    let P : List ℕ → Type 0 = λ t. IsAscii t in
    let same = (bytes_eq-Decides (map to_ascii_lowercase (take 9 s)) (map to_ascii_lowercase urn_prefix)).0 e in
    lower_ascii (take 9 s) (subst P (sym same) (small_ascii (map to_ascii_lowercase urn_prefix) refl))

urn_at : (s : List ℕ) → IsAscii (take 9 s) → IsAscii (drop 9 s) → (k : ℕ) → get_or s k 0 < 128
urn_at s p h k =
    elim (cases_lt k 9) [
      | inl x ↦ let front = get_or-take 9 s k 0 x in omega (arith, p k)
      | inr x ↦
          let inner = get_or-drop 9 s (k - 9) 0 in
          let there : get_or s (9 + (k - 9)) 0 ≡ get_or s k 0 = ap (λ n. get_or s n 0) (omega arith) in
          omega (arith, h (k - 9))
    ]

urn_ascii : (s bytes : List ℕ) → parsed_urn s ≡ Some bytes → IsAscii s
urn_ascii s bytes e =
    let read = chosen ((length s == 45) && has_urn_prefix s) (parsed_hyphenated (drop 9 s)) bytes e in
    let both = and_true (length s == 45) (has_urn_prefix s) read.0 in
    urn_at s (prefix_ascii s both.1) (hyphenated_ascii (drop 9 s) bytes read.1)

-- one reading or another
one_of : {P : Type 0} (b : Bool) (one other : Option (List ℕ)) (bytes : List ℕ) → (one ≡ Some bytes → P) → (other ≡ Some bytes → P)
    → (if b then one else other) ≡ Some bytes → P
one_of true one other bytes f g e = f e
one_of false one other bytes f g e = g e

parsed_ascii : (s bytes : List ℕ) → parsed s ≡ Some bytes → IsAscii s
parsed_ascii s bytes =
    one_of (length s == 32) (parsed_simple s) _ bytes (simple_ascii s bytes)
    (one_of (length s == 36) (parsed_hyphenated s) _ bytes (hyphenated_ascii s bytes)
    (one_of (length s == 38) (parsed_braced s) _ bytes (braced_ascii s bytes)
    (one_of (length s == 45) (parsed_urn s) None bytes (urn_ascii s bytes) (λ e. absurd (none-some _ e)))))

none_by : (word : List ℕ) (read : Option (List ℕ)) → parsed word ≡ read → ¬ (IsUtf8 word) → parsed word ≡ None
none_by word None is refused = is
none_by word (Some bytes) is refused = absurd (refused (IsUtf8-from_ascii word (parsed_ascii word bytes is)))

owner_none : (word : List ℕ) (same : Bool) → bytes_eq word (codes "root") ≡ same → ¬ (IsUtf8 word)
    → (let root : Option (Option Guid) = Some None in if same then root else option_map Some (guid_from_text word)) ≡ None
owner_none word true is refused =
    let P : List ℕ → Type 0 = λ w. IsAscii w in
    absurd (refused (IsUtf8-from_ascii word (subst P (sym ((bytes_eq-Decides word (codes "root")).0 is)) (small_ascii (codes "root") refl))))
owner_none word false is refused =
    ap (λ read. option_map Some (option_map (λ bytes. record { 0 = swap_fields bytes }) read)) (none_by word (parsed word) refl refused)

-- a word that is no text of characters says no owner
pub owner-bytes : (word : List ℕ) → ¬ (IsUtf8 word) → owner_in word ≡ None
unfolding owner_in
owner-bytes word refused = owner_none word (bytes_eq word (codes "root")) refl refused
