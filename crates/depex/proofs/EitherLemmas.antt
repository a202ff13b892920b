-- Whatever the bytes are, they begin with an expression or have a fault.
use Rattle.std.proofs.Common.{◌≡◌, ◌⊎◌, inl, inr, ℕ, zero, suc, ◌+◌, ◌<◌, ◌≤◌, Bool, true, false, if◌then◌else◌, ◌==◌, nat_lt, nat_le, List, [], ◌∷◌, ◌++◌, length, take, drop, get_or, Result, Ok, Err, refl, sym, ap, ◌∙◌, ◌-◌, subst, append_assoc, length-append, arith}
use Rattle.std.proofs.Math.Seq.{take-append-add}
use Rattle.std.proofs.lemmas.List.{take-append-drop, length-take-le, nil_from_length}
use Rattle.std.proofs.lemmas.Bool.Decides.{nat_tests}
use Rattle.mm_base.specs.declared.expression.DepexFault.{DepexFault}
use Rattle.mm_base.specs.declared.expression.DepexFault.TheVariants.{NoEnd, Unknown, Underflow, BeforeNotFirst, TooDeep}
use Rattle.depex.specs.declared.item.Item.{Item}
use Rattle.depex.specs.declared.item.Item.TheVariants as items
use Rattle.depex.specs.declared.found.Found.{Found}
use Rattle.depex.specs.declared.found.Found.TheVariants.{End, Next, Refused}
use Rattle.depex.specs.Trees.{Tree, after_opcode, taken_by, guid_of, item_bytes, bytes_of}
use Rattle.depex.specs.Expressions.{Expression, Condition, Before, After, spelled, IsExpression, items_of, StandsBehind, HasFault}
use Rattle.depex.specs.FindingInside.{IsWhole, Finds, IsName}
use Rattle.depex.proofs.WalkLemmas.{stand_more, few_operands, none_first, ends_condition, name_is, before_is, after_is}
use Rattle.depex.proofs.SightLemmas.{ended, judged, sight}
use Rattle.courses.proofs.MeasureLemmas.{by_measure}
use Rattle.courses.proofs.VerdictLemmas.{told}
use Rattle.depex.proofs.LawLemmas.{IsVerdictOf, NamesNone}

-- ---- what is seen at a place is found there

operand_found : (n at : ℕ) (behind : List ℕ) (item : Item) (full : Bool) → (n == 256) ≡ full → n ≤ 256
    → taken_by item ≡ 0 → IsWhole item
    → Finds n at (item_bytes item ++ behind) (if full then Refused (TooDeep at) else Next item)
operand_found n at behind item true full room none whole = (refl, item, refl, none, grind (arith, nat_tests))
operand_found n at behind item false full room none whole = record {
  behind = behind;
  begins = refl;
  whole = whole;
  may = record { enough = omega arith; room = λ _. grind (arith, nat_tests) };
}

operator_found : (n at : ℕ) (behind : List ℕ) (item : Item) (few : Bool) → nat_lt n (taken_by item) ≡ few
    → 1 ≤ taken_by item → IsWhole item
    → Finds n at (item_bytes item ++ behind) (if few then Refused (Underflow at) else Next item)
operator_found n at behind item true few some whole = (refl, item, refl, grind (arith, nat_tests))
operator_found n at behind item false few some whole = record {
  behind = behind;
  begins = refl;
  whole = whole;
  may = record { enough = grind (arith, nat_tests); room = λ none. absurd (omega arith) };
}

pushed_found : (n at : ℕ) (behind : List ℕ) (full short : Bool) → (n == 256) ≡ full → nat_lt (length behind) 16 ≡ short
    → n ≤ 256
    → Finds n at (2 ∷ behind)
    (if full then Refused (TooDeep at) else (if short then Refused NoEnd else Next (items.Push (record { 0 = take 16 behind }))))
pushed_found n at behind true short full lacks room = (refl, items.Push (record { 0 = [] }), refl, refl, grind (arith, nat_tests))
pushed_found n at behind false true full lacks room = (refl, grind (arith, nat_tests), grind (arith, nat_tests))
pushed_found n at behind false false full lacks room =
    let long : 16 ≤ length behind = grind (arith, nat_tests) in
    record {
      behind = drop 16 behind;
      begins = ap (λ (xs : List ℕ). 2 ∷ xs) (sym (take-append-drop 16 behind));
      whole = length-take-le 16 behind long;
      may = record { enough = omega arith; room = λ _. grind (arith, nat_tests) };
    }

ended_found : (n at : ℕ) (behind : List ℕ) → (n ≡ 0 → at ≡ 0) → Finds n at (8 ∷ behind) (ended n at)
ended_found zero at behind none = (none refl, refl)
ended_found (suc zero) at behind none = (refl, refl)
ended_found (suc (suc n)) at behind none = (refl, refl, omega arith)

judged_found : (n at : ℕ) (behind : List ℕ) (opcode : ℕ) → n ≤ 256 → (n ≡ 0 → at ≡ 0) → (at ≡ 0 → NamesNone (opcode ∷ behind))
    → Finds n at (opcode ∷ behind) (judged n at behind opcode)
judged_found n at behind zero room none first = (refl, λ e. first e zero behind refl (omega arith), omega arith)
judged_found n at behind (suc zero) room none first = (refl, λ e. first e 1 behind refl (omega arith), omega arith)
judged_found n at behind (suc (suc zero)) room none first = pushed_found n at behind (n == 256) (nat_lt (length behind) 16) refl refl room
judged_found n at behind (suc (suc (suc zero))) room none first = operator_found n at behind items.And (nat_lt n 2) refl (omega arith) tt
judged_found n at behind (suc (suc (suc (suc zero)))) room none first = operator_found n at behind items.Or (nat_lt n 2) refl (omega arith) tt
judged_found n at behind (suc (suc (suc (suc (suc zero))))) room none first = operator_found n at behind items.Not (nat_lt n 1) refl (omega arith) tt
judged_found n at behind (suc (suc (suc (suc (suc (suc zero)))))) room none first = operand_found n at behind items.True (n == 256) refl room refl tt
judged_found n at behind (suc (suc (suc (suc (suc (suc (suc zero))))))) room none first = operand_found n at behind items.False (n == 256) refl room refl tt
judged_found n at behind (suc (suc (suc (suc (suc (suc (suc (suc zero)))))))) room none first = ended_found n at behind none
judged_found n at behind (suc (suc (suc (suc (suc (suc (suc (suc (suc opcode))))))))) room none first = (refl, omega arith)

found_there : (n at : ℕ) (there : List ℕ) → n ≤ 256 → (n ≡ 0 → at ≡ 0) → (at ≡ 0 → NamesNone there)
    → Finds n at there (sight n at there)
found_there n at [] room none first = refl
found_there n at (opcode ∷ behind) room none first = judged_found n at behind opcode room none first

-- ---- the course over the bytes

abbrev Verdict : List ℕ → Type 0
Verdict bytes = (verdict : Result Expression DepexFault) × IsVerdictOf bytes verdict

names_there : (bytes : List ℕ) (operands : List Tree) (at : ℕ) (there : List ℕ) → StandsBehind bytes operands at there
    → NamesNone bytes → at ≡ 0 → NamesNone there
names_there bytes operands at there stands names first =
    let none : bytes_of (items_of operands) ≡ [] = nil_from_length (bytes_of (items_of operands)) (sym stands.place ∙ first) in
    let same : bytes ≡ there = stands.begins ∙ ap (λ (xs : List ℕ). xs ++ there) none in
    let P : List ℕ → Type 0 = λ bytes. NamesNone bytes in
    subst P same names

-- what comes of what is found, where what comes behind an item is known
by_found : (bytes : List ℕ) (operands : List Tree) (at : ℕ) (there : List ℕ) (found : Found)
    → StandsBehind bytes operands at there
    → Finds (length operands) at there found
    → ((more : List Tree) (next : ℕ) (behind : List ℕ) → StandsBehind bytes more next behind → length behind < length there → Verdict bytes)
    → Verdict bytes
by_found bytes operands at there End stands finds on =
    let is = ends_condition bytes operands at there stands finds in
    (Ok (Condition is.0), is.1)
by_found bytes operands at there (Refused fault) stands finds on =
    (Err fault, inl (record { operands = operands; at = at; there = there; stands = stands; stops = finds }))
by_found bytes operands at there (Next item) stands finds on =
    let grown = stand_more bytes operands at there item stands finds in
    on grown.to (at + (1 + length (guid_of item))) finds.behind grown.stands
    (omega (arith, ap length finds.begins, length-append (item_bytes item) finds.behind))

-- where operands end, and how the bytes go on there
record StandsSomewhere (bytes : List ℕ) : Type 0 where
  pub operands : List Tree
  pub at : ℕ
  pub there : List ℕ
  pub stands : StandsBehind bytes operands at there

course : (bytes : List ℕ) → NamesNone bytes → StandsSomewhere bytes → Verdict bytes
course bytes names = by_measure (λ place. Verdict bytes) (λ (place : StandsSomewhere bytes). length place.there) step
  where
    step : (place : StandsSomewhere bytes) → ((other : StandsSomewhere bytes) → length other.there < length place.there → Verdict bytes) → Verdict bytes
    step place rest =
        let n = length place.operands in
        let finds = found_there n place.at place.there (few_operands place.operands place.stands.are)
        (λ none. none_first place.operands place.at none place.stands.place) (names_there bytes place.operands place.at place.there place.stands names) in
        by_found bytes place.operands place.at place.there (sight n place.at place.there) place.stands finds
        (λ more next behind stands fewer. rest (record { operands = more; at = next; there = behind; stands = stands }) fewer)

-- ---- a name

named : (opcode : ℕ) (behind : List ℕ) → opcode ≤ after_opcode → IsName behind (record { 0 = take 16 behind })
    → Verdict (opcode ∷ behind)
named zero behind low name = (Ok (Before (record { 0 = take 16 behind })), before_is (zero ∷ behind) behind _ refl name)
named (suc zero) behind low name = (Ok (After (record { 0 = take 16 behind })), after_is (1 ∷ behind) behind _ refl name)
named (suc (suc opcode)) behind low name = absurd (omega arith)

by_name : (opcode : ℕ) (behind : List ℕ) (short end above : Bool) → opcode ≤ after_opcode
    → nat_le (length behind) 16 ≡ short → (get_or behind 16 0 == 8) ≡ end
    → nat_lt 8 (get_or behind 16 0) ≡ above → Verdict (opcode ∷ behind)
by_name opcode behind true end above low lacks ends is =
    (Err NoEnd, inr (record { opcode = opcode; behind = behind; begins = refl; names = low; refused = grind (arith, nat_tests) }))
by_name opcode behind false true above low lacks ends is =
    let long : 16 < length behind = grind (arith, nat_tests) in
    let end : get_or behind 16 0 ≡ 8 = grind (arith, nat_tests) in
    named opcode behind low (record {
      rest = drop 17 behind;
      begins = name_is behind (take 16 behind) refl long end;
      whole = length-take-le 16 behind (omega arith);
    })
by_name opcode behind false false true low lacks ends is = (
  Err (Unknown 17),
  inr (record { opcode = opcode; behind = behind; begins = refl; names = low; refused = (refl, grind (arith, nat_tests), grind (arith, nat_tests)) }),
)
by_name opcode behind false false false low lacks ends is = (
  Err (BeforeNotFirst 17),
  inr (record { opcode = opcode; behind = behind; begins = refl; names = low; refused = (refl, grind (arith, nat_tests), grind (arith, nat_tests)) }),
)

-- ---- all bytes

verdict_from : (bytes : List ℕ) → NamesNone bytes → Verdict bytes
verdict_from bytes names =
    course bytes names (record { operands = []; at = 0; there = bytes; stands = record { begins = refl; place = refl; are = tt } })

by_first : (opcode : ℕ) (behind : List ℕ) (low : Bool) → nat_le opcode after_opcode ≡ low → Verdict (opcode ∷ behind)
by_first opcode behind true is =
    by_name opcode behind (nat_le (length behind) 16) (get_or behind 16 0 == 8) (nat_lt 8 (get_or behind 16 0)) (grind (arith, nat_tests)) refl refl refl
by_first opcode behind false is =
    verdict_from (opcode ∷ behind) (λ other rest e low.
    let same : opcode ≡ other = cc in
    let high : after_opcode < opcode = grind (arith, nat_tests) in
    absurd (omega arith))

verdict : (bytes : List ℕ) → Verdict bytes
verdict [] = verdict_from [] (λ opcode behind e low. let f : [] ≡ opcode ∷ behind = e in cc)
verdict (opcode ∷ behind) = by_first opcode behind (nat_le opcode after_opcode) refl

pub either : (bytes : List ℕ)
    → ((expression : Expression) × IsExpression bytes expression) ⊎ ((fault : DepexFault) × HasFault bytes fault)
either bytes = told (IsExpression bytes) (HasFault bytes) (verdict bytes).0 (verdict bytes).1

pub same_with_more : (bytes more : List ℕ) (expression : Expression) → IsExpression bytes expression → IsExpression (bytes ++ more) expression
same_with_more bytes more expression is = record {
  behind = is.behind ++ more;
  begins = ap (λ (all : List ℕ). all ++ more) is.begins ∙ append_assoc (spelled expression) is.behind more;
  sound = is.sound;
}

pub same_where_cut : (bytes : List ℕ) (cut : ℕ) (expression : Expression) → IsExpression bytes expression → length (spelled expression) ≤ cut
    → IsExpression (take cut bytes) expression
same_where_cut bytes cut expression is h =
    let far : cut ≡ length (spelled expression) + (cut - length (spelled expression)) = omega arith in
    record {
      behind = take (cut - length (spelled expression)) is.behind;
      begins =
          ap (λ (all : List ℕ). take cut all) is.begins
          ∙ ap (λ (n : ℕ). take n (spelled expression ++ is.behind)) far
          ∙ take-append-add (spelled expression) is.behind (cut - length (spelled expression));
      sound = is.sound;
    }
