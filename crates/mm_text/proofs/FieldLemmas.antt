-- What one word says, as a function and as a relation.
use Rattle.std.proofs.Common.{◌≡◌, ℕ, Bool, true, false, ◌==◌, List, ◌∷◌, Option, Some, None, is_some, Result, Ok, Err, option_map, option_and_then, if◌then◌else◌, refl, ap, sym, subst, ◌∙◌, codes, Contains, arith}
use Rattle.std.proofs.lemmas.Bool.Decides.{Decides-eqb}
use Rattle.std.proofs.lemmas.List.Elements.{Contains-append_right}
use Rattle.std.proofs.lemmas.List.Folds.{list_any_at}
use Rattle.std.proofs.lemmas.Option.{none-some, same_Some}
use Rattle.std.proofs.lemmas.Slice.Eq.{bytes_eq-Decides}
use Rattle.std.specs.List.{list_any}
use Rattle.std.specs.Result.{result_ok}
use Rattle.std.specs.Str.{bytes_eq}
use Rattle.hex.specs.Hex.{decode_of}
use Rattle.mm_base.specs.Guid.{guid_from_text}
use Rattle.mm_base.specs.declared.guid.Guid.{Guid}
use Rattle.mm_text.specs.Fields.{Field, Letters, Decimal, Hexadecimal, Bytes, Name, Pair, SpellsField, HasFieldForm, letters_of_cells, owner_field}
use Rattle.mm_text.specs.LineReaderInside.{split_at, decimal_in, hexadecimal_in, bytes_in, owner_in, cells_in, pair_by, pair_in, has_equals}
use Rattle.mm_text.specs.declared.line.CellKind.{CellKind}
use Rattle.mm_text.specs.declared.line.CellKind.TheVariants as cells
use Rattle.mm_text.specs.declared.line.Named.{Named}
use Rattle.mm_text.proofs.NumberLemmas.{split_at-is, split_at-first, split_at-none, digits-clean, digits_in-spelled, digits_in-is}

-- the first of two steps that gave something, and the second
pub record Stepped {A B : Type 0} (first : Option A) (more : A → Option B) (answer : B) : Type 0 where
  pub value : A
  pub one : first ≡ Some value
  pub other : more value ≡ Some answer

pub stepped : {A B : Type 0} (first : Option A) (more : A → Option B) (answer : B) → option_and_then more first ≡ Some answer → Stepped first more answer
stepped None more answer e = absurd (none-some _ e)
stepped (Some value) more answer e = record { value = value; one = refl; other = e }

pub record Mapped {A B : Type 0} (first : Option A) (make : A → B) (answer : B) : Type 0 where
  pub value : A
  pub one : first ≡ Some value
  pub other : make value ≡ answer

pub mapped : {A B : Type 0} (first : Option A) (make : A → B) (answer : B) → option_map make first ≡ Some answer → Mapped first make answer
mapped None make answer e = absurd (none-some _ e)
mapped (Some value) make answer e = record { value = value; one = refl; other = same_Some (make value) answer e }

-- a test of a word against some letters, or else another reading
pub worded : {A : Type 0} (word this : List ℕ) (said answer : A) (other : Option A) (P : Type 0) (same : Bool) → bytes_eq word this ≡ same
    → (word ≡ this → said ≡ answer → P) → (other ≡ Some answer → P) → (if same then Some said else other) ≡ Some answer → P
worded word this said answer other P true is found more e = found ((bytes_eq-Decides word this).0 is) (same_Some said answer e)
worded word this said answer other P false is found more e = more e

-- a word spells bytes as it is decoded
result_ok-is : {A E : Type 0} (read : Result A E) (value : A) → result_ok read ≡ Some value → read ≡ Ok value
result_ok-is (Ok x) value e = ap Ok (same_Some x value e)
result_ok-is (Err x) value e = absurd (none-some _ e)

pub bytes_in-is : (bytes word : List ℕ) → bytes_in word ≡ Some bytes → SpellsField (Bytes bytes) word
unfolding bytes_in
bytes_in-is bytes word e = result_ok-is (decode_of word) bytes e

pub bytes_in-spelled : (bytes word : List ℕ) → SpellsField (Bytes bytes) word → bytes_in word ≡ Some bytes
unfolding bytes_in
bytes_in-spelled bytes word s = ap result_ok s

-- a word of cells says their kind
pub cells_in-is : (kind : CellKind) (word : List ℕ) → cells_in word ≡ Some kind → word ≡ letters_of_cells kind
unfolding cells_in
cells_in-is kind word =
    worded word (codes "io") cells.Io kind _ (word ≡ letters_of_cells kind) (bytes_eq word (codes "io")) refl (λ whole same. whole ∙ ap letters_of_cells same)
    (worded word (codes "msr") cells.Msr kind _ (word ≡ letters_of_cells kind) (bytes_eq word (codes "msr")) refl (λ whole same. whole ∙ ap letters_of_cells same)
    (worded word (codes "dev") cells.Device kind None (word ≡ letters_of_cells kind) (bytes_eq word (codes "dev")) refl (λ whole same. whole ∙ ap letters_of_cells same)
    (λ e. absurd (none-some _ e))))

cells_of_letters : (kind : CellKind) → cells_in (letters_of_cells kind) ≡ Some kind
unfolding cells_in
cells_of_letters cells.Io = refl
cells_of_letters cells.Msr = refl
cells_of_letters cells.Device = refl

pub cells_in-spelled : (kind : CellKind) (word : List ℕ) → word ≡ letters_of_cells kind → cells_in word ≡ Some kind
cells_in-spelled kind word e = ap cells_in e ∙ cells_of_letters kind

-- `root` is no GUID
root_is_none : guid_from_text (codes "root") ≡ None
root_is_none = refl

owner_by : (word : List ℕ) (owner : Option Guid) (read : Option Guid) → guid_from_text word ≡ read → option_map Some read ≡ Some owner
    → SpellsField (owner_field owner) word
owner_by word owner None is e = absurd (none-some _ e)
owner_by word owner (Some guid) is e =
    let P : Option Guid → Type 0 = λ o. SpellsField (owner_field o) word in subst P (same_Some (Some guid) owner e) is

pub owner_in-is : (owner : Option Guid) (word : List ℕ) → owner_in word ≡ Some owner → SpellsField (owner_field owner) word
unfolding owner_in
owner_in-is owner word =
    let P : Option Guid → Type 0 = λ o. SpellsField (owner_field o) word in
    worded word (codes "root") None owner _ (P owner) (bytes_eq word (codes "root")) refl (λ whole same. subst P same whole)
    (λ e. owner_by word owner (guid_from_text word) refl e)

owner_guid : (word : List ℕ) (guid : Guid) (same : Bool) → bytes_eq word (codes "root") ≡ same → guid_from_text word ≡ Some guid
    → (let root : Option (Option Guid) = Some None in if same then root else option_map Some (guid_from_text word)) ≡ Some (Some guid)
owner_guid word guid true is e =
    absurd (none-some guid (sym root_is_none ∙ ap guid_from_text (sym ((bytes_eq-Decides word (codes "root")).0 is)) ∙ e))
owner_guid word guid false is e = ap (option_map Some) e

pub owner_in-spelled : (owner : Option Guid) (word : List ℕ) → SpellsField (owner_field owner) word → owner_in word ≡ Some owner
unfolding owner_in
owner_in-spelled None word s = rw ((bytes_eq-Decides word (codes "root")).1 s) refl
owner_in-spelled (Some guid) word s = owner_guid word guid (bytes_eq word (codes "root")) refl s

-- a pair's word says it
pub pair_in-is : (named : Named) (word : List ℕ) → pair_in word ≡ Some named → SpellsField (Pair named) word
unfolding pair_in
pair_in-is named word e =
    let halves = stepped (split_at 61 word) pair_by named e in
    let register = stepped (decimal_in halves.value.0) _ named halves.other in
    let value = stepped (hexadecimal_in halves.value.1) _ named register.other in
    let P : Named → Type 0 = λ n. SpellsField (Pair n) word in
    subst P (same_Some (record { register = register.value; value = value.value }) named value.other) (record {
      first = halves.value.0;
      second = halves.value.1;
      whole = (split_at-is 61 word halves.value.0 halves.value.1 halves.one).whole;
      one = digits_in-is 10 10 register.value halves.value.0 register.one;
      other = digits_in-is 16 16 value.value halves.value.1 value.one;
    })

pub pair_in-spelled : (named : Named) (word : List ℕ) → SpellsField (Pair named) word → pair_in word ≡ Some named
unfolding pair_in
pair_in-spelled named word s =
    ap (λ w. option_and_then pair_by (split_at 61 w)) s.whole
    ∙ ap (option_and_then pair_by) (split_at-first 61 s.first s.second (digits-clean 10 61 (omega arith) s.first s.one.digits))
    ∙ ap (λ r. option_and_then (λ register. option_and_then (λ value. Some (record { register = register; value = value })) (hexadecimal_in s.second)) r)
    (digits_in-spelled 10 10 named.register s.first s.one)
    ∙ ap (λ v. option_and_then (λ value. Some (record { register = named.register; value = value })) v) (digits_in-spelled 16 16 named.value s.second s.other)

-- a word with a `=` has one
equals_by : (word : List ℕ) (split : Option (List ℕ × List ℕ)) → split_at 61 word ≡ split → is_some split ≡ true → Contains word 61
equals_by word None is e = absurd (let no = e in cc)
equals_by word (Some p) is e =
    let P : List ℕ → Type 0 = λ w. Contains w 61 in
    subst P (sym (split_at-is 61 word p.0 p.1 is).whole) (Contains-append_right p.0 (61 ∷ p.1) 61 (0, omega arith, refl))

pub has_equals-is : (word : List ℕ) → has_equals word ≡ true → Contains word 61
unfolding has_equals
has_equals-is word e = equals_by word (split_at 61 word) refl e

equals_found : (word : List ℕ) (split : Option (List ℕ × List ℕ)) → split_at 61 word ≡ split → Contains word 61 → is_some split ≡ true
equals_found word None is s =
    let found : list_any (λ byte. byte == 61) word ≡ true = list_any_at (λ byte. byte == 61) word s.0 61 s.1 ((Decides-eqb _ 61).1 s.2) in
    let none : list_any (λ byte. byte == 61) word ≡ false = split_at-none 61 word is in
    absurd (let no : true ≡ false = sym found ∙ none in cc)
equals_found word (Some p) is s = refl

pub has_equals-spelled : (word : List ℕ) → Contains word 61 → has_equals word ≡ true
unfolding has_equals
has_equals-spelled word s = equals_found word (split_at 61 word) refl s

-- what spells a field has its form
pub spells_field_form : (field : Field) (word : List ℕ) → SpellsField field word → HasFieldForm field word
spells_field_form (Letters text) word s = s
spells_field_form (Decimal number) word s = tt
spells_field_form (Hexadecimal number) word s = tt
spells_field_form (Bytes bytes) word s = tt
spells_field_form (Name guid) word s = tt
spells_field_form (Pair named) word s =
    let P : List ℕ → Type 0 = λ w. Contains w 61 in
    subst P (sym s.whole) (Contains-append_right s.first (61 ∷ s.second) 61 (0, omega arith, refl))
