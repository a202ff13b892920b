-- What the words of a line say, as a function and as a relation.
use Rattle.std.proofs.Common.{◌≡◌, ℕ, true, ◌==◌, List, [], ◌∷◌, length, map, Option, Some, None, is_some, option_map, option_and_then, refl, ap, sym, subst, ◌∙◌, codes, arith}
use Rattle.std.proofs.lemmas.Bool.Decides.{Decides-eqb}
use Rattle.std.proofs.lemmas.Option.{none-some, same_Some}
use Rattle.std.specs.List.{list_all}
use Rattle.std.specs.Str.{bytes_eq}
use Rattle.mm_base.specs.declared.guid.Guid.{Guid}
use Rattle.mm_text.specs.Fields.{Field, Letters, Decimal, Hexadecimal, Bytes, Name, Pair, SpellsField, HasFieldForm, Each, letters_of, letters_of_cells, keyword_of, owner_field, fields_behind, fields_of, Spells, HasForm}
use Rattle.mm_text.specs.Refusal.{first_of}
use Rattle.mm_text.specs.LineReaderInside.{decimal_in, hexadecimal_in, bytes_in, owner_in, cells_in, pair_in, pairs_in, has_equals, keyword_of_word, lanes_in, cell_in, handler_in, poke_in, fill_in, ring_in, step_in, run_in, line_behind, line_in, is_cell_form, is_ring_form, is_step_form, form_behind, form_from, has_form}
use Rattle.mm_text.specs.declared.line.CellKind.{CellKind}
use Rattle.mm_text.specs.declared.line.Keyword.{Keyword}
use Rattle.mm_text.specs.declared.line.Keyword.TheVariants as keyword
use Rattle.mm_text.specs.declared.line.Line.{Line}
use Rattle.mm_text.specs.declared.line.Line.TheVariants.{Lanes, Cell, Handler, Poke, Fill, Ring, Step, Steps, Run}
use Rattle.mm_text.specs.declared.line.Named.{Named}
use Rattle.mm_text.proofs.NumberLemmas.{and_true, digits_in-spelled, digits_in-is}
use Rattle.mm_text.proofs.FieldLemmas.{worded, stepped, mapped, bytes_in-is, bytes_in-spelled, cells_in-is, cells_in-spelled, owner_in-is, owner_in-spelled, pair_in-is, pair_in-spelled, has_equals-is, has_equals-spelled, spells_field_form}

-- a keyword's word says it
pub keyword_of_word-is : (keyword : Keyword) (word : List ℕ) → keyword_of_word word ≡ Some keyword → word ≡ letters_of keyword
unfolding keyword_of_word
keyword_of_word-is found word =
    let P : Type 0 = word ≡ letters_of found in
    worded word (codes "lanes") keyword.Lanes found _ P (bytes_eq word (codes "lanes")) refl (λ whole same. whole ∙ ap letters_of same)
    (worded word (codes "cell") keyword.Cell found _ P (bytes_eq word (codes "cell")) refl (λ whole same. whole ∙ ap letters_of same)
    (worded word (codes "handler") keyword.Handler found _ P (bytes_eq word (codes "handler")) refl (λ whole same. whole ∙ ap letters_of same)
    (worded word (codes "poke") keyword.Poke found _ P (bytes_eq word (codes "poke")) refl (λ whole same. whole ∙ ap letters_of same)
    (worded word (codes "fill") keyword.Fill found _ P (bytes_eq word (codes "fill")) refl (λ whole same. whole ∙ ap letters_of same)
    (worded word (codes "ring") keyword.Ring found _ P (bytes_eq word (codes "ring")) refl (λ whole same. whole ∙ ap letters_of same)
    (worded word (codes "step") keyword.Step found _ P (bytes_eq word (codes "step")) refl (λ whole same. whole ∙ ap letters_of same)
    (worded word (codes "run") keyword.Run found None P (bytes_eq word (codes "run")) refl (λ whole same. whole ∙ ap letters_of same)
    (λ e. absurd (none-some _ e)))))))))

keyword_of_letters : (keyword : Keyword) → keyword_of_word (letters_of keyword) ≡ Some keyword
unfolding keyword_of_word
keyword_of_letters keyword.Lanes = refl
keyword_of_letters keyword.Cell = refl
keyword_of_letters keyword.Handler = refl
keyword_of_letters keyword.Poke = refl
keyword_of_letters keyword.Fill = refl
keyword_of_letters keyword.Ring = refl
keyword_of_letters keyword.Step = refl
keyword_of_letters keyword.Run = refl

pub keyword_of_word-spelled : (keyword : Keyword) (word : List ℕ) → word ≡ letters_of keyword → keyword_of_word word ≡ Some keyword
keyword_of_word-spelled keyword word e = ap keyword_of_word e ∙ keyword_of_letters keyword

-- keywords are told apart by their letters
pub keyword_unique : (a b : Keyword) → letters_of a ≡ letters_of b → a ≡ b
keyword_unique a b e = same_Some a b (sym (keyword_of_letters a) ∙ keyword_of_word-spelled b (letters_of a) e)

-- two steps that gave something, and what was made of it
pub record Two {A B : Type 0} (first : Option A) (second : Option B) (make : A → B → Line) (line : Line) : Type 0 where
  pub a : A
  pub b : B
  pub one : first ≡ Some a
  pub other : second ≡ Some b
  pub made : make a b ≡ line

two-is : {A B : Type 0} (first : Option A) (second : Option B) (make : A → B → Line) (line : Line)
    → option_and_then (λ a. option_and_then (λ b. Some (make a b)) second) first ≡ Some line → Two first second make line
two-is None second make line e = absurd (none-some _ e)
two-is (Some a) None make line e = absurd (none-some _ e)
two-is (Some a) (Some b) make line e = record { a = a; b = b; one = refl; other = refl; made = same_Some (make a b) line e }

two-said : {A B : Type 0} (first : Option A) (second : Option B) (make : A → B → Line) (a : A) (b : B) → first ≡ Some a → second ≡ Some b
    → option_and_then (λ x. option_and_then (λ y. Some (make x y)) second) first ≡ Some (make a b)
two-said first second make a b e f =
    ap (option_and_then (λ x. option_and_then (λ y. Some (make x y)) second)) e ∙ ap (option_and_then (λ y. Some (make a y))) f

-- three steps that gave something, and what was made of it
pub record Three {A B C : Type 0} (first : Option A) (second : Option B) (third : Option C) (make : A → B → C → Line) (line : Line) : Type 0 where
  pub a : A
  pub b : B
  pub c : C
  pub one : first ≡ Some a
  pub other : second ≡ Some b
  pub last : third ≡ Some c
  pub made : make a b c ≡ line

three-is : {A B C : Type 0} (first : Option A) (second : Option B) (third : Option C) (make : A → B → C → Line) (line : Line)
    → option_and_then (λ a. option_and_then (λ b. option_and_then (λ c. Some (make a b c)) third) second) first ≡ Some line
    → Three first second third make line
three-is None second third make line e = absurd (none-some _ e)
three-is (Some a) None third make line e = absurd (none-some _ e)
three-is (Some a) (Some b) None make line e = absurd (none-some _ e)
three-is (Some a) (Some b) (Some c) make line e =
    record { a = a; b = b; c = c; one = refl; other = refl; last = refl; made = same_Some (make a b c) line e }

three-said : {A B C : Type 0} (first : Option A) (second : Option B) (third : Option C) (make : A → B → C → Line) (a : A) (b : B) (c : C)
    → first ≡ Some a → second ≡ Some b → third ≡ Some c
    → option_and_then (λ x. option_and_then (λ y. option_and_then (λ z. Some (make x y z)) third) second) first ≡ Some (make a b c)
three-said first second third make a b c e f g =
    ap (option_and_then (λ x. option_and_then (λ y. option_and_then (λ z. Some (make x y z)) third) second)) e
    ∙ ap (option_and_then (λ y. option_and_then (λ z. Some (make a y z)) third)) f ∙ ap (option_and_then (λ z. Some (make a b z))) g

-- words by their fields
one_field : (Is : Field → List ℕ → Type 0) (f : Field) (a : List ℕ) → Is f a → Each Is (f ∷ []) (a ∷ [])
one_field Is f a s = record { first = a; others = []; whole = refl; one = s; rest = refl }

two_fields : (Is : Field → List ℕ → Type 0) (f g : Field) (a b : List ℕ) → Is f a → Is g b → Each Is (f ∷ g ∷ []) (a ∷ b ∷ [])
two_fields Is f g a b s t = record { first = a; others = b ∷ []; whole = refl; one = s; rest = one_field Is g b t }

three_fields : (Is : Field → List ℕ → Type 0) (f g h : Field) (a b c : List ℕ) → Is f a → Is g b → Is h c
    → Each Is (f ∷ g ∷ h ∷ []) (a ∷ b ∷ c ∷ [])
three_fields Is f g h a b c s t u = record { first = a; others = b ∷ c ∷ []; whole = refl; one = s; rest = two_fields Is g h b c t u }

one_word : (Is : Field → List ℕ → Type 0) (f : Field) (words : List (List ℕ)) (s : Each Is (f ∷ []) words) → words ≡ s.first ∷ []
one_word Is f words s = s.whole ∙ ap (λ o. s.first ∷ o) s.rest

two_words : (Is : Field → List ℕ → Type 0) (f g : Field) (words : List (List ℕ)) (s : Each Is (f ∷ g ∷ []) words)
    → words ≡ s.first ∷ s.rest.first ∷ []
two_words Is f g words s = s.whole ∙ ap (λ o. s.first ∷ o) (one_word Is g s.others s.rest)

three_words : (Is : Field → List ℕ → Type 0) (f g h : Field) (words : List (List ℕ)) (s : Each Is (f ∷ g ∷ h ∷ []) words)
    → words ≡ s.first ∷ s.rest.first ∷ s.rest.rest.first ∷ []
three_words Is f g h words s = s.whole ∙ ap (λ o. s.first ∷ o) (two_words Is g h s.others s.rest)

-- words behind a keyword that spell a line of it
pub record Reads (which : Keyword) (words : List (List ℕ)) (line : Line) : Type 0 where
  pub same : keyword_of line ≡ which
  pub spelled : Each SpellsField (fields_behind line) words

lanes_in-is : (words : List (List ℕ)) (line : Line) → lanes_in words ≡ Some line → Reads keyword.Lanes words line
unfolding lanes_in
lanes_in-is [] line e = absurd (none-some _ e)
lanes_in-is (a ∷ []) line e = absurd (none-some _ e)
lanes_in-is (a ∷ b ∷ []) line e =
    let said = two-is (decimal_in a) (decimal_in b) Lanes line e in
    let P : Line → Type 0 = λ l. Reads keyword.Lanes (a ∷ b ∷ []) l in
    subst P said.made (record {
      same = refl;
      spelled = two_fields SpellsField (Decimal said.a) (Decimal said.b) a b (digits_in-is 10 10 said.a a said.one) (digits_in-is 10 10 said.b b said.other);
    })
lanes_in-is (a ∷ b ∷ c ∷ more) line e = absurd (none-some _ e)

lanes_in-spelled : (lanes words : ℕ) (behind : List (List ℕ)) → Each SpellsField (Decimal lanes ∷ Decimal words ∷ []) behind
    → lanes_in behind ≡ Some (Lanes lanes words)
unfolding lanes_in
lanes_in-spelled lanes words behind s =
    ap lanes_in (two_words SpellsField (Decimal lanes) (Decimal words) behind s)
    ∙ two-said (decimal_in s.first) (decimal_in s.rest.first) Lanes lanes words (digits_in-spelled 10 10 lanes s.first s.one)
    (digits_in-spelled 10 10 words s.rest.first s.rest.one)

cell_in-is : (words : List (List ℕ)) (line : Line) → cell_in words ≡ Some line → Reads keyword.Cell words line
unfolding cell_in
cell_in-is [] line e = absurd (none-some _ e)
cell_in-is (a ∷ []) line e = absurd (none-some _ e)
cell_in-is (a ∷ b ∷ []) line e = absurd (none-some _ e)
cell_in-is (a ∷ b ∷ c ∷ []) line e =
    let said = three-is (cells_in a) (hexadecimal_in b) (hexadecimal_in c) Cell line e in
    let P : Line → Type 0 = λ l. Reads keyword.Cell (a ∷ b ∷ c ∷ []) l in
    subst P said.made (record {
      same = refl;
      spelled = three_fields SpellsField (Letters (letters_of_cells said.a)) (Hexadecimal said.b) (Hexadecimal said.c) a b c
          (cells_in-is said.a a said.one) (digits_in-is 16 16 said.b b said.other) (digits_in-is 16 16 said.c c said.last);
    })
cell_in-is (a ∷ b ∷ c ∷ d ∷ more) line e = absurd (none-some _ e)

cell_in-spelled : (kind : CellKind) (at value : ℕ) (behind : List (List ℕ))
    → Each SpellsField (Letters (letters_of_cells kind) ∷ Hexadecimal at ∷ Hexadecimal value ∷ []) behind → cell_in behind ≡ Some (Cell kind at value)
unfolding cell_in
cell_in-spelled kind at value behind s =
    ap cell_in (three_words SpellsField (Letters (letters_of_cells kind)) (Hexadecimal at) (Hexadecimal value) behind s)
    ∙ three-said (cells_in s.first) (hexadecimal_in s.rest.first) (hexadecimal_in s.rest.rest.first) Cell kind at value
    (cells_in-spelled kind s.first s.one) (digits_in-spelled 16 16 at s.rest.first s.rest.one)
    (digits_in-spelled 16 16 value s.rest.rest.first s.rest.rest.one)

handler_in-is : (words : List (List ℕ)) (line : Line) → handler_in words ≡ Some line → Reads keyword.Handler words line
unfolding handler_in
handler_in-is [] line e = absurd (none-some _ e)
handler_in-is (a ∷ []) line e = absurd (none-some _ e)
handler_in-is (a ∷ b ∷ []) line e =
    let said = two-is (owner_in a) (hexadecimal_in b) Handler line e in
    let P : Line → Type 0 = λ l. Reads keyword.Handler (a ∷ b ∷ []) l in
    subst P said.made (record {
      same = refl;
      spelled = two_fields SpellsField (owner_field said.a) (Hexadecimal said.b) a b (owner_in-is said.a a said.one) (digits_in-is 16 16 said.b b said.other);
    })
handler_in-is (a ∷ b ∷ c ∷ more) line e = absurd (none-some _ e)

handler_in-spelled : (guid : Option Guid) (status : ℕ) (behind : List (List ℕ)) → Each SpellsField (owner_field guid ∷ Hexadecimal status ∷ []) behind
    → handler_in behind ≡ Some (Handler guid status)
unfolding handler_in
handler_in-spelled guid status behind s =
    ap handler_in (two_words SpellsField (owner_field guid) (Hexadecimal status) behind s)
    ∙ two-said (owner_in s.first) (hexadecimal_in s.rest.first) Handler guid status (owner_in-spelled guid s.first s.one)
    (digits_in-spelled 16 16 status s.rest.first s.rest.one)

poke_in-is : (words : List (List ℕ)) (line : Line) → poke_in words ≡ Some line → Reads keyword.Poke words line
unfolding poke_in
poke_in-is [] line e = absurd (none-some _ e)
poke_in-is (a ∷ []) line e = absurd (none-some _ e)
poke_in-is (a ∷ b ∷ []) line e = absurd (none-some _ e)
poke_in-is (a ∷ b ∷ c ∷ []) line e =
    let said = three-is (decimal_in a) (decimal_in b) (hexadecimal_in c) Poke line e in
    let P : Line → Type 0 = λ l. Reads keyword.Poke (a ∷ b ∷ c ∷ []) l in
    subst P said.made (record {
      same = refl;
      spelled = three_fields SpellsField (Decimal said.a) (Decimal said.b) (Hexadecimal said.c) a b c
          (digits_in-is 10 10 said.a a said.one) (digits_in-is 10 10 said.b b said.other) (digits_in-is 16 16 said.c c said.last);
    })
poke_in-is (a ∷ b ∷ c ∷ d ∷ more) line e = absurd (none-some _ e)

poke_in-spelled : (lane word value : ℕ) (behind : List (List ℕ)) → Each SpellsField (Decimal lane ∷ Decimal word ∷ Hexadecimal value ∷ []) behind
    → poke_in behind ≡ Some (Poke lane word value)
unfolding poke_in
poke_in-spelled lane word value behind s =
    ap poke_in (three_words SpellsField (Decimal lane) (Decimal word) (Hexadecimal value) behind s)
    ∙ three-said (decimal_in s.first) (decimal_in s.rest.first) (hexadecimal_in s.rest.rest.first) Poke lane word value
    (digits_in-spelled 10 10 lane s.first s.one) (digits_in-spelled 10 10 word s.rest.first s.rest.one)
    (digits_in-spelled 16 16 value s.rest.rest.first s.rest.rest.one)

fill_in-is : (words : List (List ℕ)) (line : Line) → fill_in words ≡ Some line → Reads keyword.Fill words line
unfolding fill_in
fill_in-is [] line e = absurd (none-some _ e)
fill_in-is (a ∷ []) line e = absurd (none-some _ e)
fill_in-is (a ∷ b ∷ []) line e =
    let said = two-is (decimal_in a) (bytes_in b) Fill line e in
    let P : Line → Type 0 = λ l. Reads keyword.Fill (a ∷ b ∷ []) l in
    subst P said.made (record {
      same = refl;
      spelled = two_fields SpellsField (Decimal said.a) (Bytes said.b) a b (digits_in-is 10 10 said.a a said.one) (bytes_in-is said.b b said.other);
    })
fill_in-is (a ∷ b ∷ c ∷ more) line e = absurd (none-some _ e)

fill_in-spelled : (lane : ℕ) (bytes : List ℕ) (behind : List (List ℕ)) → Each SpellsField (Decimal lane ∷ Bytes bytes ∷ []) behind
    → fill_in behind ≡ Some (Fill lane bytes)
unfolding fill_in
fill_in-spelled lane bytes behind s =
    ap fill_in (two_words SpellsField (Decimal lane) (Bytes bytes) behind s)
    ∙ two-said (decimal_in s.first) (bytes_in s.rest.first) Fill lane bytes (digits_in-spelled 10 10 lane s.first s.one)
    (bytes_in-spelled bytes s.rest.first s.rest.one)

pairs_by : (word : List ℕ) (words : List (List ℕ)) (registers : List Named) (first : Option Named) (others : Option (List Named))
    → pair_in word ≡ first → ((more : List Named) → others ≡ Some more → Each SpellsField (map Pair more) words)
    → option_and_then (λ named. option_and_then (λ more. Some (named ∷ more)) others) first ≡ Some registers
    → Each SpellsField (map Pair registers) (word ∷ words)
pairs_by word words registers None others is ih e = absurd (none-some _ e)
pairs_by word words registers (Some named) None is ih e = absurd (none-some _ e)
pairs_by word words registers (Some named) (Some more) is ih e =
    let P : List Named → Type 0 = λ r. Each SpellsField (map Pair r) (word ∷ words) in
    subst P (same_Some (named ∷ more) registers e)
    (record { first = word; others = words; whole = refl; one = pair_in-is named word is; rest = ih more refl })

pairs_in-is : (words : List (List ℕ)) (registers : List Named) → pairs_in words ≡ Some registers → Each SpellsField (map Pair registers) words
pairs_in-is [] registers e =
    let P : List Named → Type 0 = λ r. Each SpellsField (map Pair r) [] in subst P (same_Some [] registers e) refl
pairs_in-is (word ∷ words) registers e =
    pairs_by word words registers (pair_in word) (pairs_in words) refl (λ more h. pairs_in-is words more h) e

pairs_in-spelled : (registers : List Named) (words : List (List ℕ)) → Each SpellsField (map Pair registers) words → pairs_in words ≡ Some registers
pairs_in-spelled [] words s = ap pairs_in s
pairs_in-spelled (named ∷ registers) words s =
    ap pairs_in s.whole
    ∙ ap (option_and_then (λ first. option_and_then (λ others. Some (first ∷ others)) (pairs_in s.others))) (pair_in-spelled named s.first s.one)
    ∙ ap (option_and_then (λ others. Some (named ∷ others))) (pairs_in-spelled registers s.others s.rest)

ring_in-is : (words : List (List ℕ)) (line : Line) → ring_in words ≡ Some line → Reads keyword.Ring words line
unfolding ring_in
ring_in-is [] line e = absurd (none-some _ e)
ring_in-is (a ∷ pairs) line e =
    let said = two-is (decimal_in a) (pairs_in pairs) Ring line e in
    let P : Line → Type 0 = λ l. Reads keyword.Ring (a ∷ pairs) l in
    subst P said.made (record {
      same = refl;
      spelled = record { first = a; others = pairs; whole = refl; one = digits_in-is 10 10 said.a a said.one; rest = pairs_in-is pairs said.b said.other };
    })

ring_in-spelled : (lane : ℕ) (registers : List Named) (behind : List (List ℕ)) → Each SpellsField (Decimal lane ∷ map Pair registers) behind
    → ring_in behind ≡ Some (Ring lane registers)
unfolding ring_in
ring_in-spelled lane registers behind s =
    ap ring_in s.whole
    ∙ two-said (decimal_in s.first) (pairs_in s.others) Ring lane registers (digits_in-spelled 10 10 lane s.first s.one)
    (pairs_in-spelled registers s.others s.rest)

step_in-is : (words : List (List ℕ)) (line : Line) → step_in words ≡ Some line → Reads keyword.Step words line
unfolding step_in
step_in-is [] line e = absurd (none-some _ e)
step_in-is (a ∷ []) line e =
    let said = mapped (decimal_in a) Step line e in
    let P : Line → Type 0 = λ l. Reads keyword.Step (a ∷ []) l in
    subst P said.other (record { same = refl; spelled = one_field SpellsField (Decimal said.value) a (digits_in-is 10 10 said.value a said.one) })
step_in-is (a ∷ b ∷ []) line e =
    let said = two-is (decimal_in a) (decimal_in b) Steps line e in
    let P : Line → Type 0 = λ l. Reads keyword.Step (a ∷ b ∷ []) l in
    subst P said.made (record {
      same = refl;
      spelled = two_fields SpellsField (Decimal said.a) (Decimal said.b) a b (digits_in-is 10 10 said.a a said.one) (digits_in-is 10 10 said.b b said.other);
    })
step_in-is (a ∷ b ∷ c ∷ more) line e = absurd (none-some _ e)

step_in-one : (lane : ℕ) (behind : List (List ℕ)) → Each SpellsField (Decimal lane ∷ []) behind → step_in behind ≡ Some (Step lane)
unfolding step_in
step_in-one lane behind s =
    ap step_in (one_word SpellsField (Decimal lane) behind s) ∙ ap (option_map Step) (digits_in-spelled 10 10 lane s.first s.one)

step_in-two : (lane count : ℕ) (behind : List (List ℕ)) → Each SpellsField (Decimal lane ∷ Decimal count ∷ []) behind
    → step_in behind ≡ Some (Steps lane count)
unfolding step_in
step_in-two lane count behind s =
    ap step_in (two_words SpellsField (Decimal lane) (Decimal count) behind s)
    ∙ two-said (decimal_in s.first) (decimal_in s.rest.first) Steps lane count (digits_in-spelled 10 10 lane s.first s.one)
    (digits_in-spelled 10 10 count s.rest.first s.rest.one)

run_in-is : (words : List (List ℕ)) (line : Line) → run_in words ≡ Some line → Reads keyword.Run words line
unfolding run_in
run_in-is [] line e = absurd (none-some _ e)
run_in-is (a ∷ []) line e =
    let said = mapped (decimal_in a) Run line e in
    let P : Line → Type 0 = λ l. Reads keyword.Run (a ∷ []) l in
    subst P said.other (record { same = refl; spelled = one_field SpellsField (Decimal said.value) a (digits_in-is 10 10 said.value a said.one) })
run_in-is (a ∷ b ∷ more) line e = absurd (none-some _ e)

run_in-spelled : (lane : ℕ) (behind : List (List ℕ)) → Each SpellsField (Decimal lane ∷ []) behind → run_in behind ≡ Some (Run lane)
unfolding run_in
run_in-spelled lane behind s =
    ap run_in (one_word SpellsField (Decimal lane) behind s) ∙ ap (option_map Run) (digits_in-spelled 10 10 lane s.first s.one)

-- what the words behind a keyword say, they spell, and the other way round
pub line_behind-is : (which : Keyword) (words : List (List ℕ)) (line : Line) → line_behind which words ≡ Some line → Reads which words line
unfolding line_behind
line_behind-is keyword.Lanes words line e = lanes_in-is words line e
line_behind-is keyword.Cell words line e = cell_in-is words line e
line_behind-is keyword.Handler words line e = handler_in-is words line e
line_behind-is keyword.Poke words line e = poke_in-is words line e
line_behind-is keyword.Fill words line e = fill_in-is words line e
line_behind-is keyword.Ring words line e = ring_in-is words line e
line_behind-is keyword.Step words line e = step_in-is words line e
line_behind-is keyword.Run words line e = run_in-is words line e

pub line_behind-spelled : (line : Line) (words : List (List ℕ)) → Each SpellsField (fields_behind line) words
    → line_behind (keyword_of line) words ≡ Some line
unfolding line_behind
line_behind-spelled (Lanes lanes data_words) words s = lanes_in-spelled lanes data_words words s
line_behind-spelled (Cell kind at value) words s = cell_in-spelled kind at value words s
line_behind-spelled (Handler guid status) words s = handler_in-spelled guid status words s
line_behind-spelled (Poke lane word value) words s = poke_in-spelled lane word value words s
line_behind-spelled (Fill lane bytes) words s = fill_in-spelled lane bytes words s
line_behind-spelled (Ring lane registers) words s = ring_in-spelled lane registers words s
line_behind-spelled (Step lane) words s = step_in-one lane words s
line_behind-spelled (Steps lane count) words s = step_in-two lane count words s
line_behind-spelled (Run lane) words s = run_in-spelled lane words s

-- what the words of a line say, they spell, and the other way round
pub line_in-spells : (words : List (List ℕ)) (line : Line) → line_in words ≡ Some line → Spells line words
unfolding line_in
line_in-spells [] line e = absurd (none-some _ e)
line_in-spells (word ∷ words) line e =
    let said = stepped (keyword_of_word word) (λ which. line_behind which words) line e in
    let reads = line_behind-is said.value words line said.other in
    record {
      first = word;
      others = words;
      whole = refl;
      one = keyword_of_word-is said.value word said.one ∙ ap letters_of (sym reads.same);
      rest = reads.spelled;
    }

pub spells-line_in : (line : Line) (words : List (List ℕ)) → Spells line words → line_in words ≡ Some line
unfolding line_in
spells-line_in line words s =
    ap line_in s.whole ∙ ap (option_and_then (λ which. line_behind which s.others)) (keyword_of_word-spelled (keyword_of line) s.first s.one)
    ∙ line_behind-spelled line s.others s.rest

-- words spell one line at most
pub spells_unique : (a b : Line) (words : List (List ℕ)) → Spells a words → Spells b words → a ≡ b
spells_unique a b words s t = same_Some a b (sym (spells-line_in a words s) ∙ spells-line_in b words t)

-- a line's words begin with its keyword
pub spells_keyword : (line : Line) (words : List (List ℕ)) → Spells line words → first_of words ≡ letters_of (keyword_of line)
spells_keyword line words s = ap first_of s.whole ∙ s.one

pub form_keyword : (line : Line) (words : List (List ℕ)) → HasForm line words → first_of words ≡ letters_of (keyword_of line)
form_keyword line words s = ap first_of s.whole ∙ s.one

-- words that spell fields have their form
each_form : (fields : List Field) (words : List (List ℕ)) → Each SpellsField fields words → Each HasFieldForm fields words
each_form [] words s = s
each_form (field ∷ fields) words s = record {
  first = s.first;
  others = s.others;
  whole = s.whole;
  one = spells_field_form field s.first s.one;
  rest = each_form fields s.others s.rest;
}

pub spells_form : (line : Line) (words : List (List ℕ)) → Spells line words → HasForm line words
spells_form line words s = each_form (fields_of line) words s

-- words behind a keyword that have the form of a line of it
pub record HasLineForm (which : Keyword) (words : List (List ℕ)) : Type 0 where
  pub line : Line
  pub same : keyword_of line ≡ which
  pub form : Each HasFieldForm (fields_behind line) words

one_of_length : (words : List (List ℕ)) → (length words == 1) ≡ true → (a : List ℕ) × (words ≡ a ∷ [])
one_of_length [] e = absurd (omega (arith, (Decides-eqb 0 1).0 e))
one_of_length (a ∷ []) e = (a, refl)
one_of_length (a ∷ b ∷ more) e = absurd (omega (arith, (Decides-eqb (length (a ∷ b ∷ more)) 1).0 e))

two_of_length : (words : List (List ℕ)) → (length words == 2) ≡ true → (a : List ℕ) × (b : List ℕ) × (words ≡ a ∷ b ∷ [])
two_of_length [] e = absurd (omega (arith, (Decides-eqb 0 2).0 e))
two_of_length (a ∷ []) e = absurd (omega (arith, (Decides-eqb 1 2).0 e))
two_of_length (a ∷ b ∷ []) e = (a, b, refl)
two_of_length (a ∷ b ∷ c ∷ more) e = absurd (omega (arith, (Decides-eqb (length (a ∷ b ∷ c ∷ more)) 2).0 e))

three_of_length : (words : List (List ℕ)) → (length words == 3) ≡ true → (a : List ℕ) × (b : List ℕ) × (c : List ℕ) × (words ≡ a ∷ b ∷ c ∷ [])
three_of_length [] e = absurd (omega (arith, (Decides-eqb 0 3).0 e))
three_of_length (a ∷ []) e = absurd (omega (arith, (Decides-eqb 1 3).0 e))
three_of_length (a ∷ b ∷ []) e = absurd (omega (arith, (Decides-eqb 2 3).0 e))
three_of_length (a ∷ b ∷ c ∷ []) e = (a, b, c, refl)
three_of_length (a ∷ b ∷ c ∷ d ∷ more) e = absurd (omega (arith, (Decides-eqb (length (a ∷ b ∷ c ∷ d ∷ more)) 3).0 e))

one_form : (line : Line) (which : Keyword) (f : Field) → keyword_of line ≡ which → fields_behind line ≡ f ∷ []
    → ((a : List ℕ) → HasFieldForm f a) → (words : List (List ℕ)) → (length words == 1) ≡ true → HasLineForm which words
one_form line which f same fields any words e =
    let p = one_of_length words e in
    let P : List Field → Type 0 = λ l. Each HasFieldForm l words in
    let Q : List (List ℕ) → Type 0 = λ w. Each HasFieldForm (f ∷ []) w in
    record { line = line; same = same; form = subst P (sym fields) (subst Q (sym p.1) (one_field HasFieldForm f p.0 (any p.0))) }

two_form : (line : Line) (which : Keyword) (f g : Field) → keyword_of line ≡ which → fields_behind line ≡ f ∷ g ∷ []
    → ((a : List ℕ) → HasFieldForm f a) → ((a : List ℕ) → HasFieldForm g a)
    → (words : List (List ℕ)) → (length words == 2) ≡ true → HasLineForm which words
two_form line which f g same fields any more words e =
    let p = two_of_length words e in
    let P : List Field → Type 0 = λ l. Each HasFieldForm l words in
    let Q : List (List ℕ) → Type 0 = λ w. Each HasFieldForm (f ∷ g ∷ []) w in
    record { line = line; same = same; form = subst P (sym fields) (subst Q (sym p.2) (two_fields HasFieldForm f g p.0 p.1 (any p.0) (more p.1))) }

poke_form : (words : List (List ℕ)) → (length words == 3) ≡ true → HasLineForm keyword.Poke words
poke_form words e =
    let p = three_of_length words e in
    let Q : List (List ℕ) → Type 0 = λ w. Each HasFieldForm (Decimal 0 ∷ Decimal 0 ∷ Hexadecimal 0 ∷ []) w in
    record {
      line = Poke 0 0 0;
      same = refl;
      form = subst Q (sym p.3) (three_fields HasFieldForm (Decimal 0) (Decimal 0) (Hexadecimal 0) p.0 p.1 p.2 tt tt tt);
    }

cell_by : (a b c : List ℕ) (kind : Option CellKind) → cells_in a ≡ kind → is_some kind ≡ true → HasLineForm keyword.Cell (a ∷ b ∷ c ∷ [])
cell_by a b c None is e = absurd (let no = e in cc)
cell_by a b c (Some kind) is e = record {
  line = Cell kind 0 0;
  same = refl;
  form = three_fields HasFieldForm (Letters (letters_of_cells kind)) (Hexadecimal 0) (Hexadecimal 0) a b c (cells_in-is kind a is) tt tt;
}

cell_form : (words : List (List ℕ)) → is_cell_form words ≡ true → HasLineForm keyword.Cell words
unfolding is_cell_form
cell_form [] e = absurd (let no = e in cc)
cell_form (a ∷ []) e = absurd (let no = e in cc)
cell_form (a ∷ b ∷ []) e = absurd (let no = e in cc)
cell_form (a ∷ b ∷ c ∷ []) e = cell_by a b c (cells_in a) refl e
cell_form (a ∷ b ∷ c ∷ d ∷ more) e = absurd (let no = e in cc)

-- a pair, which any word with a `=` has the form of
abbrev blank : List ℕ → Named
blank word = record { register = 0; value = 0 }

pairs_form : (words : List (List ℕ)) → list_all has_equals words ≡ true → Each HasFieldForm (map Pair (map blank words)) words
pairs_form [] e = refl
pairs_form (word ∷ words) e =
    let both = and_true (has_equals word) (list_all has_equals words) e in
    record { first = word; others = words; whole = refl; one = has_equals-is word both.0; rest = pairs_form words both.1 }

ring_form : (words : List (List ℕ)) → is_ring_form words ≡ true → HasLineForm keyword.Ring words
unfolding is_ring_form
ring_form [] e = absurd (let no = e in cc)
ring_form (a ∷ pairs) e = record {
  line = Ring 0 (map blank pairs);
  same = refl;
  form = record { first = a; others = pairs; whole = refl; one = tt; rest = pairs_form pairs e };
}

step_form : (words : List (List ℕ)) → is_step_form words ≡ true → HasLineForm keyword.Step words
unfolding is_step_form
step_form [] e = absurd (let no = e in cc)
step_form (a ∷ []) e = record { line = Step 0; same = refl; form = one_field HasFieldForm (Decimal 0) a tt }
step_form (a ∷ b ∷ []) e = record { line = Steps 0 0; same = refl; form = two_fields HasFieldForm (Decimal 0) (Decimal 0) a b tt tt }
step_form (a ∷ b ∷ c ∷ more) e = absurd (let no = e in cc)

abbrev no_guid : Guid
no_guid = record { 0 = [] }

-- words behind a keyword that have its form have a line's, and the other way round
pub form_behind-is : (which : Keyword) (words : List (List ℕ)) → form_behind which words ≡ true → HasLineForm which words
unfolding form_behind
form_behind-is keyword.Lanes words e = two_form (Lanes 0 0) keyword.Lanes (Decimal 0) (Decimal 0) refl refl (λ a. tt) (λ a. tt) words e
form_behind-is keyword.Cell words e = cell_form words e
form_behind-is keyword.Handler words e =
    two_form (Handler (Some no_guid) 0) keyword.Handler (Name no_guid) (Hexadecimal 0) refl refl (λ a. tt) (λ a. tt) words e
form_behind-is keyword.Poke words e = poke_form words e
form_behind-is keyword.Fill words e = two_form (Fill 0 []) keyword.Fill (Decimal 0) (Bytes []) refl refl (λ a. tt) (λ a. tt) words e
form_behind-is keyword.Ring words e = ring_form words e
form_behind-is keyword.Step words e = step_form words e
form_behind-is keyword.Run words e = one_form (Run 0) keyword.Run (Decimal 0) refl refl (λ a. tt) words e

cells_found : (kind : CellKind) (word : List ℕ) → word ≡ letters_of_cells kind → is_some (cells_in word) ≡ true
cells_found kind word e = ap is_some (cells_in-spelled kind word e)

pairs_found : (registers : List Named) (words : List (List ℕ)) → Each HasFieldForm (map Pair registers) words → list_all has_equals words ≡ true
pairs_found [] words s = ap (list_all has_equals) s
pairs_found (named ∷ registers) words s =
    ap (list_all has_equals) s.whole
    ∙ (rw (has_equals-spelled s.first s.one) (pairs_found registers s.others s.rest))

pub form_behind-spelled : (line : Line) (words : List (List ℕ)) → Each HasFieldForm (fields_behind line) words → form_behind (keyword_of line) words ≡ true
unfolding form_behind is_cell_form is_ring_form is_step_form
form_behind-spelled (Lanes lanes data_words) words s = ap (λ w. length w == 2) (two_words HasFieldForm (Decimal lanes) (Decimal data_words) words s)
form_behind-spelled (Cell kind at value) words s =
    ap is_cell_form (three_words HasFieldForm (Letters (letters_of_cells kind)) (Hexadecimal at) (Hexadecimal value) words s)
    ∙ cells_found kind s.first s.one
form_behind-spelled (Handler guid status) words s = ap (λ w. length w == 2) (two_words HasFieldForm (owner_field guid) (Hexadecimal status) words s)
form_behind-spelled (Poke lane word value) words s =
    ap (λ w. length w == 3) (three_words HasFieldForm (Decimal lane) (Decimal word) (Hexadecimal value) words s)
form_behind-spelled (Fill lane bytes) words s = ap (λ w. length w == 2) (two_words HasFieldForm (Decimal lane) (Bytes bytes) words s)
form_behind-spelled (Ring lane registers) words s = ap is_ring_form s.whole ∙ pairs_found registers s.others s.rest
form_behind-spelled (Step lane) words s = ap is_step_form (one_word HasFieldForm (Decimal lane) words s)
form_behind-spelled (Steps lane count) words s = ap is_step_form (two_words HasFieldForm (Decimal lane) (Decimal count) words s)
form_behind-spelled (Run lane) words s = ap (λ w. length w == 1) (one_word HasFieldForm (Decimal lane) words s)

form_by : (word : List ℕ) (words : List (List ℕ)) (which : Option Keyword) → keyword_of_word word ≡ which → form_from which words ≡ true
    → (line : Line) × HasForm line (word ∷ words)
form_by word words None is e = absurd (let no = e in cc)
form_by word words (Some which) is e =
    let h = form_behind-is which words e in
    (h.line, record { first = word; others = words; whole = refl; one = keyword_of_word-is which word is ∙ ap letters_of (sym h.same); rest = h.form })

-- words that have a line's form have one's, and the other way round
pub has_form-true : (words : List (List ℕ)) → has_form words ≡ true → (line : Line) × HasForm line words
unfolding has_form
has_form-true [] e = absurd (let no = e in cc)
has_form-true (word ∷ words) e = form_by word words (keyword_of_word word) refl e

pub form-has_form : (line : Line) (words : List (List ℕ)) → HasForm line words → has_form words ≡ true
unfolding has_form
form-has_form line words s =
    ap has_form s.whole ∙ ap (λ which. form_from which s.others) (keyword_of_word-spelled (keyword_of line) s.first s.one)
    ∙ form_behind-spelled line s.others s.rest
