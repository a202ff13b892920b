-- Words split at a byte, and words of digits.
use Rattle.std.proofs.Common.{◌≡◌, ℕ, ◌^◌, ◌<◌, ◌≤◌, slice_index, Bool, true, false, ◌&&◌, ◌||◌, ◌==◌, nat_le, nat_eq, List, [], ◌∷◌, ◌++◌, length, Option, Some, None, Result, Ok, Err, option_map, if◌then◌else◌, refl, ap, sym, subst, ◌∙◌, arith}
use Rattle.std.proofs.Math.Nat.{pow-le-pow_right}
use Rattle.std.proofs.lemmas.Bool.Decides.{nat_tests, Decides-eqb}
use Rattle.std.proofs.lemmas.Int.Digits.{digits_value-lt}
use Rattle.std.proofs.lemmas.Option.{none-some, some_pair_parts, cond_some}
use Rattle.std.proofs.lemmas.Str.{IsUtf8-from_ascii}
use Rattle.std.proofs.lemmas.Str.Ascii.{IsAscii-nil, IsAscii-cons}
use Rattle.std.proofs.lemmas.Str.Parse.{without_leading_plus_none}
use borrow.Author.Tests.{eq-eqb, ne_eqb, ltb-true, lt-ltb, leb-true, le-leb}
use Rattle.std.specs.Char.{digit_value, is_digit}
use Rattle.std.specs.List.{list_all, list_any, starts_with}
use Rattle.std.specs.Result.{OkIff, result_ok}
use Rattle.std.specs.Str.{IsAscii, IsUtf8}
use Rattle.std.specs.Str.Parse.{AllDigits, IsNumeral, ParsesUnsigned, digits_value}
use Rattle.mm_text.specs.Fields.{SpellsNumber}
use Rattle.mm_text.specs.LineReaderInside.{split_at, is_number, digits_in}

-- whether a text has this byte
abbrev pub has : ℕ → List ℕ → Bool
has stop text = list_any (λ byte. byte == stop) text

or_false : (a b : Bool) → (a || b) ≡ false → (a ≡ false) × (b ≡ false)
or_false true b e = absurd (cc)
or_false false b e = (refl, e)

pub and_true : (a b : Bool) → (a && b) ≡ true → (a ≡ true) × (b ≡ true)
and_true true b e = (refl, e)
and_true false b e = absurd (cc)

-- what stands in front of a byte, which it hasn't, and what stands behind it
pub record IsSplit (stop : ℕ) (text line rest : List ℕ) : Type 0 where
  pub whole : text ≡ line ++ stop ∷ rest
  pub clean : has stop line ≡ false

split_by : (stop byte : ℕ) (text line rest : List ℕ) (found : Bool) → (byte == stop) ≡ found → (tail : Option (List ℕ × List ℕ))
    → ((l r : List ℕ) → tail ≡ Some (l, r) → IsSplit stop text l r)
    → (let here : Option (List ℕ × List ℕ) = Some ([], text) in if found then here else option_map (λ p. (byte ∷ p.0, p.1)) tail) ≡ Some (line, rest)
    → IsSplit stop (byte ∷ text) line rest
split_by stop byte text line rest true is tail ih e =
    let parts = some_pair_parts [] line text rest e in
    let first : byte ≡ stop = (Decides-eqb byte stop).0 is in
    record {
      whole = ap (λ b. b ∷ text) first ∙ ap (λ t. stop ∷ t) parts.1 ∙ ap (λ l. l ++ stop ∷ rest) parts.0;
      clean = ap (has stop) (sym parts.0);
    }
split_by stop byte text line rest false is None ih e = absurd (none-some _ e)
split_by stop byte text line rest false is (Some p) ih e =
    let parts = some_pair_parts (byte ∷ p.0) line p.1 rest e in
    let inner = ih p.0 p.1 refl in
    record {
      whole = ap (λ t. byte ∷ t) inner.whole ∙ ap (λ l. l ++ stop ∷ p.1) parts.0 ∙ ap (λ r. line ++ stop ∷ r) parts.1;
      clean = ap (has stop) (sym parts.0) ∙ (rw is inner.clean);
    }

-- where a text is split, it is
pub split_at-is : (stop : ℕ) (text line rest : List ℕ) → split_at stop text ≡ Some (line, rest) → IsSplit stop text line rest
split_at-is stop [] line rest e = absurd (none-some _ e)
split_at-is stop (byte ∷ text) line rest e =
    split_by stop byte text line rest (byte == stop) refl (split_at stop text) (split_at-is stop text) e

-- a text is split at the first of a byte
pub split_at-first : (stop : ℕ) (line rest : List ℕ) → has stop line ≡ false → split_at stop (line ++ stop ∷ rest) ≡ Some (line, rest)
split_at-first stop [] rest clean = rw (eq-eqb stop stop refl) refl
split_at-first stop (byte ∷ line) rest clean =
    let both = or_false (byte == stop) (has stop line) clean in
    rw both.0 (ap (option_map (λ p. (byte ∷ p.0, p.1))) (split_at-first stop line rest both.1))

none_by : (stop byte : ℕ) (text : List ℕ) (found : Bool) (tail : Option (List ℕ × List ℕ)) → (tail ≡ None → has stop text ≡ false)
    → (let here : Option (List ℕ × List ℕ) = Some ([], text) in if found then here else option_map (λ p. (byte ∷ p.0, p.1)) tail) ≡ None
    → (found || has stop text) ≡ false
none_by stop byte text true tail ih e = absurd (none-some _ (sym e))
none_by stop byte text false None ih e = ih refl
none_by stop byte text false (Some p) ih e = absurd (none-some _ (sym e))

-- a text that isn't split has none of the byte
pub split_at-none : (stop : ℕ) (text : List ℕ) → split_at stop text ≡ None → has stop text ≡ false
split_at-none stop [] e = refl
split_at-none stop (byte ∷ text) e = none_by stop byte text (byte == stop) (split_at stop text) (split_at-none stop text) e

-- digits in a base have no byte that is none of them
pub digits-clean : (base stop : ℕ) → base ≤ digit_value stop → (text : List ℕ) → AllDigits base text → has stop text ≡ false
digits-clean base stop none [] h = refl
digits-clean base stop none (byte ∷ text) h =
    let other : (byte == stop) ≡ false = ne_eqb byte stop (λ same. let value = ap digit_value same in omega (arith, h.0)) in
    rw other (digits-clean base stop none text h.1)

-- a text whose bytes pass the test of digits is one of digits, and the other way round
digits-tested : (base : ℕ) (text : List ℕ) → AllDigits base text → list_all (λ byte. is_digit byte base) text ≡ true
digits-tested base [] h = refl
digits-tested base (byte ∷ text) h = rw (lt-ltb (digit_value byte) base h.0) (digits-tested base text h.1)

digits-is : (base : ℕ) (text : List ℕ) → list_all (λ byte. is_digit byte base) text ≡ true → AllDigits base text
digits-is base [] e = tt
digits-is base (byte ∷ text) e =
    let both = and_true (is_digit byte base) (list_all (λ c. is_digit c base) text) e in
    (ltb-true (digit_value byte) base both.0, digits-is base text both.1)

-- a number's word passes the test of numbers, and the other way round
is_number-spelled : (base most number : ℕ) (text : List ℕ) → SpellsNumber base most number text → is_number base most text ≡ true
is_number-spelled base most number text s =
    rw (le-leb 1 (length text) s.low, le-leb (length text) most s.high, digits-tested base text s.digits) refl

is_number-is : (base most : ℕ) (text : List ℕ) → is_number base most text ≡ true → SpellsNumber base most (digits_value base text) text
is_number-is base most text e =
    let outer = and_true (nat_le 1 (length text) && nat_le (length text) most) (list_all (λ byte. is_digit byte base) text) e in
    let inner = and_true (nat_le 1 (length text)) (nat_le (length text) most) outer.0 in
    record {
      digits = digits-is base text outer.1;
      low = leb-true 1 (length text) inner.0;
      high = leb-true (length text) most inner.1;
      value = refl;
    }

-- a number's word says it
pub digits_in-spelled : (base most number : ℕ) (text : List ℕ) → SpellsNumber base most number text → digits_in base most text ≡ Some number
unfolding digits_in
digits_in-spelled base most number text s = rw (is_number-spelled base most number text s) (ap Some (sym s.value))

pub digits_in-is : (base most number : ℕ) (text : List ℕ) → digits_in base most text ≡ Some number → SpellsNumber base most number text
unfolding digits_in
digits_in-is base most number text e =
    let parts = cond_some (is_number base most text) (digits_value base text) number e in
    let P : ℕ → Type 0 = λ n. SpellsNumber base most n text in
    subst P parts.1 (is_number-is base most text parts.0)

none_of : (tested : Bool) (number : ℕ) → (tested ≡ true → ⊥) → (if tested then Some number else None) ≡ None
none_of true number refused = absurd (refused refl)
none_of false number refused = refl

-- a text that spells no number says none
number_none : (base most : ℕ) (text : List ℕ) → (SpellsNumber base most (digits_value base text) text → ⊥) → digits_in base most text ≡ None
unfolding digits_in
number_none base most text refused = none_of (is_number base most text) (digits_value base text) (λ e. refused (is_number-is base most text e))

-- a text that is longer than a number may be says none
pub number-long : (base most : ℕ) (text : List ℕ) → most < length text → digits_in base most text ≡ None
number-long base most text long = number_none base most text (λ s. omega (arith, s.high))

-- a plus is no digit
pub number-plus : (base most : ℕ) (text : List ℕ) → base ≤ 36 → starts_with nat_eq text (43 ∷ []) ≡ true → digits_in base most text ≡ None
number-plus base most [] small e = number_none base most [] (λ s. omega (arith, s.low))
number-plus base most (byte ∷ text) small e =
    let same : 43 ≡ byte = (Decides-eqb 43 byte).0 ((and_true (43 == byte) _ e).0) in
    number_none base most (byte ∷ text) (λ s. let value = ap digit_value same in omega (arith, s.digits.0))

-- a text that doesn't start with a plus has none in front
pub no_plus : (text : List ℕ) → starts_with nat_eq text (43 ∷ []) ≡ false → slice_index text 0 ≡ 43 → ⊥
no_plus [] e same = omega arith
no_plus (byte ∷ rest) e same =
    let yes : starts_with nat_eq (byte ∷ rest) (43 ∷ []) ≡ true = rw (eq-eqb 43 byte (sym same)) refl in
    let no : true ≡ false = sym yes ∙ e in
    cc

digit_small : (byte : ℕ) → digit_value byte < 36 → byte < 128
digit_small byte h = grind (arith, nat_tests)

digits_ascii : (base : ℕ) → base ≤ 36 → (text : List ℕ) → AllDigits base text → IsAscii text
digits_ascii base small [] h = IsAscii-nil
digits_ascii base small (byte ∷ text) h =
    let less : digit_value byte < 36 = omega (arith, h.0) in
    IsAscii-cons byte text (digit_small byte less) (digits_ascii base small text h.1)

-- a text that is no text of characters says no number
pub number-bytes : (base most : ℕ) (text : List ℕ) → base ≤ 36 → ¬ (IsUtf8 text) → digits_in base most text ≡ None
number-bytes base most text small refused =
    number_none base most text (λ s. refused (IsUtf8-from_ascii text (digits_ascii base small text s.digits)))

number_small : (base most : ℕ) (text : List ℕ) → 2 ≤ base → base ^ most ≤ 2 ^ 64 → SpellsNumber base most (digits_value base text) text
    → digits_value base text < 2 ^ 64
number_small base most text two small s =
    let some : 1 ≤ base = omega arith in
    omega (arith, digits_value-lt base text s.digits, pow-le-pow_right some s.high)

parsed_by : {E : Type 0} (base most : ℕ) (text : List ℕ) (read : Result ℕ E) → 2 ≤ base → base ^ most ≤ 2 ^ 64 → length text ≤ most
    → OkIff read (IsNumeral base text × (digits_value base text < 2 ^ 64)) (digits_value base text) → result_ok read ≡ digits_in base most text
parsed_by base most text (Ok number) two small few h =
    sym (digits_in-spelled base most number text (record { digits = h.0.0.1; low = h.0.0.0; high = few; value = h.1 }))
parsed_by base most text (Err e) two small few h =
    sym (number_none base most text (λ s. h ((s.low, s.digits), number_small base most text two small s)))

-- what is read of a text with no plus in front is its number
pub number-parsed : {E : Type 0} (base most : ℕ) (text : List ℕ) (read : Result ℕ E) → 2 ≤ base → base ^ most ≤ 2 ^ 64 → length text ≤ most
    → (slice_index text 0 ≡ 43 → ⊥) → ParsesUnsigned 64 base text read → result_ok read ≡ digits_in base most text
number-parsed base most text read two small few plain h =
    let P : List ℕ → Type 0 = λ ds. OkIff read (IsNumeral base ds × (digits_value base ds < 2 ^ 64)) (digits_value base ds) in
    parsed_by base most text read two small few (subst P (without_leading_plus_none text plain) h)
