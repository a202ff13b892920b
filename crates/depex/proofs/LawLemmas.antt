-- Bytes begin with one expression, or have one fault.
use Rattle.std.proofs.Common.{◌≡◌, ◌⊎◌, inl, inr, ℕ, ◌+◌, ◌≤◌, if◌then◌else◌, ◌==◌, nat_lt, nat_le, List, [], ◌∷◌, ◌++◌, length, take, get_or, Option, Some, None, Result, Ok, Err, OnOk, IfOk, IfErr, refl, sym, ap, ◌∙◌, subst, append_assoc, length-append, arith}
use Rattle.std.proofs.lemmas.List.{take_at, get_or_at}
use Rattle.std.proofs.lemmas.Bool.Decides.{nat_tests}
use Rattle.mm_base.specs.declared.guid.Guid.{Guid}
use Rattle.mm_base.specs.declared.expression.DepexFault.{DepexFault}
use Rattle.mm_base.specs.declared.expression.DepexFault.TheVariants.{Empty, NoEnd, Unknown, Underflow, Leftover, BeforeNotFirst, TooDeep}
use Rattle.depex.specs.declared.item.Item.{Item}
use Rattle.depex.specs.declared.item.Item.TheVariants as items
use Rattle.depex.specs.declared.found.Found.{Found}
use Rattle.depex.specs.declared.found.Found.TheVariants.{End, Refused}
use Rattle.depex.specs.declared.expression.Kept.{Kept}
use Rattle.mm_base.specs.End.{EndsBy, out_of_memory}
use Rattle.mm_base.specs.declared.end.End.{End as EndOf}
use Rattle.mm_base.specs.declared.end.End.TheVariants as ends
use Rattle.depex.specs.Trees.{Tree, True, False, Push, Not, And, Or, postfix, opcode_of, before_opcode, after_opcode, end_opcode, item_bytes, bytes_of}
use Rattle.depex.specs.Expressions.{Expression, Condition, Before, After, IsExpression, BeginsExpression, items_of, IsRefused, StopsAt, HasFaultInside, IsRefusedName, HasFault}
use Rattle.depex.specs.Building.{tree_on-postfix}
use Rattle.depex.specs.Keeping.{kept_of, expression_of}
use Rattle.depex.specs.FindingInside.{IsName, IsKeptOf}
use Rattle.depex.proofs.SightLemmas.{sight, stops_seen}
use Rattle.courses.specs.Courses.{Leads}
use Rattle.courses.specs.Verdicts.{IsVerdict}
use Rattle.courses.proofs.CourseLemmas.{one_course}
use Rattle.courses.proofs.VerdictLemmas as verdicts
use Rattle.depex.proofs.CourseLemmas.{ItemsLead, StandsIn, after_item, Stops, IsStop, tree_leads, operands_lead, in_bytes, one_item, no_item, one_tree}

-- ---- what bytes come to: an expression or a fault

abbrev pub IsVerdictOf : List ℕ → Result Expression DepexFault → Type 0
IsVerdictOf bytes verdict = IsVerdict (IsExpression bytes) (HasFault bytes) verdict

-- ---- conditions, and faults inside of them

-- what is told where a course of these items stops so
abbrev Tells : List Item → Found → Result Expression DepexFault → Type 0
Tells all stop (Ok (Condition tree)) = (stop ≡ End) × (all ≡ postfix tree)
Tells all stop (Ok (Before guid)) = ⊥
Tells all stop (Ok (After guid)) = ⊥
Tells all stop (Err fault) = stop ≡ Refused fault

-- Bytes don't begin with BEFORE or AFTER.
abbrev pub NamesNone : List ℕ → Type 0
NamesNone bytes = (opcode : ℕ) (behind : List ℕ) → bytes ≡ opcode ∷ behind → opcode ≤ after_opcode → ⊥

-- a course over the bytes that stops, and what is told there
record Inside (bytes : List ℕ) (verdict : Result Expression DepexFault) : Type 0 where
  pub all : List Item
  pub many : ℕ
  pub there : List ℕ
  pub stop : Found
  pub leads : ItemsLead 0 all many
  pub begins : bytes ≡ bytes_of all ++ there
  pub seen : sight many (length (bytes_of all)) there ≡ stop
  pub stops : IsStop stop
  pub tells : Tells all stop verdict
  pub names : NamesNone bytes

-- the bytes behind a first BEFORE or AFTER come to this
abbrev Names : ℕ → List ℕ → Result Expression DepexFault → Type 0
Names opcode behind (Ok (Condition _)) = ⊥
Names opcode behind (Ok (Before guid)) = (opcode ≡ before_opcode) × IsName behind guid
Names opcode behind (Ok (After guid)) = (opcode ≡ after_opcode) × IsName behind guid
Names opcode behind (Err fault) = IsRefusedName behind fault

record Naming (bytes : List ℕ) (verdict : Result Expression DepexFault) : Type 0 where
  pub opcode : ℕ
  pub behind : List ℕ
  pub begins : bytes ≡ opcode ∷ behind
  pub low : opcode ≤ after_opcode
  pub names : Names opcode behind verdict

-- ---- no item has the opcode of BEFORE or AFTER

high : (item : Item) → 2 ≤ opcode_of item
high (items.Push guid) = omega arith
high items.And = omega arith
high items.Or = omega arith
high items.Not = omega arith
high items.True = omega arith
high items.False = omega arith

item_first : (item : Item) (rest : List ℕ) (opcode : ℕ) (behind : List ℕ) → item_bytes item ++ rest ≡ opcode ∷ behind
    → opcode ≤ after_opcode → ⊥
item_first item rest opcode behind e low =
    let same : opcode_of item ≡ opcode = cc in
    absurd (omega (arith, high item))

some_items : (tree : Tree) → 1 ≤ length (postfix tree)
some_items True = omega arith
some_items False = omega arith
some_items (Push guid) = omega arith
some_items (Not of) = omega (arith, length-append (postfix of) (items.Not ∷ []))
some_items (And left right) = omega (arith, some_items left, length-append (postfix left) (postfix right ++ items.And ∷ []))
some_items (Or left right) = omega (arith, some_items left, length-append (postfix left) (postfix right ++ items.Or ∷ []))

-- operands with no item are none
none_without : (operands : List Tree) → length (items_of operands) ≡ 0 → length operands ≡ 0
none_without [] none = refl
none_without (tree ∷ before) none = absurd (omega (arith, some_items tree, length-append (items_of before) (postfix tree)))

items_without : (all : List Item) → length (bytes_of all) ≡ 0 → length all ≡ 0
items_without [] none = refl
items_without (item ∷ all) none = absurd (omega (arith, length-append (item_bytes item) (bytes_of all)))

-- END is no BEFORE or AFTER, nor is an item, nor what is refused in the first place
condition_names : (all : List Item) (behind : List ℕ) → 1 ≤ length all → NamesNone (bytes_of all ++ behind)
condition_names [] behind some opcode rest e low = absurd (omega arith)
condition_names (item ∷ all) behind some opcode rest e low =
    item_first item (bytes_of all ++ behind) opcode rest (sym (append_assoc (item_bytes item) (bytes_of all) behind) ∙ e) low

refused_names : (n opcode : ℕ) (behind : List ℕ) (fault : DepexFault) → IsRefused n 0 opcode behind fault
    → opcode ≤ after_opcode → ⊥
refused_names n opcode behind Empty refused low = absurd (omega (arith, refused.1))
refused_names n opcode behind (Leftover place) refused low = absurd (omega (arith, refused.1))
refused_names n opcode behind NoEnd refused low = absurd (omega (arith, refused.0))
refused_names n opcode behind (Unknown place) refused low = absurd (omega (arith, refused.1))
refused_names n opcode behind (Underflow place) refused low = absurd (omega (arith, refused.2, high refused.1))
refused_names n opcode behind (BeforeNotFirst place) refused low = refused.1 refl
refused_names n opcode behind (TooDeep place) refused low = absurd (omega (arith, refused.2, high refused.1))

stops_names : (n at : ℕ) (there : List ℕ) (fault : DepexFault) → at ≡ 0 → StopsAt n at there fault → NamesNone there
stops_names n at [] fault first stops opcode behind e low = let f : [] ≡ opcode ∷ behind = e in cc
stops_names n at (there ∷ rest) fault first stops opcode behind e low =
    let same : there ≡ opcode = cc in
    let P : ℕ → Type 0 = λ at. IsRefused n at there rest fault in
    refused_names n there rest fault (subst P first stops) (omega (arith, same))

fault_names : (all : List Item) (n at : ℕ) (there : List ℕ) (fault : DepexFault) → at ≡ length (bytes_of all)
    → StopsAt n at there fault
    → NamesNone (bytes_of all ++ there)
fault_names [] n at there fault place stops = stops_names n at there fault place stops
fault_names (item ∷ all) n at there fault place stops = condition_names (item ∷ all) there (omega arith)

-- ---- each verdict is of one of the two kinds

inside_condition : (bytes : List ℕ) (tree : Tree) → IsExpression bytes (Condition tree) → Inside bytes (Ok (Condition tree))
inside_condition bytes tree is =
    let front : List ℕ = bytes_of (postfix tree) in
    let begins = is.begins ∙ append_assoc front (end_opcode ∷ []) is.behind in
    let P : List ℕ → Type 0 = λ bytes. NamesNone bytes in
    record {
      all = postfix tree;
      many = 1;
      there = end_opcode ∷ is.behind;
      stop = End;
      leads = tree_leads tree 0 is.sound.0 (omega (arith, is.sound.1));
      begins = begins;
      seen = refl;
      stops = tt;
      tells = (refl, refl);
      names = subst P (sym begins) (condition_names (postfix tree) (end_opcode ∷ is.behind) (some_items tree));
    }

inside_fault : (bytes : List ℕ) (fault : DepexFault) → HasFaultInside bytes fault → Inside bytes (Err fault)
inside_fault bytes fault has =
    let all = items_of has.operands in
    let n = length has.operands in
    let P : List ℕ → Type 0 = λ bytes. NamesNone bytes in
    let Q : ℕ → Type 0 = λ at. sight n at has.there ≡ Refused fault in
    let first : has.at ≡ 0 → n ≡ 0 = λ zero. none_without has.operands (items_without all (sym has.stands.place ∙ zero)) in
    record {
      all = all;
      many = n;
      there = has.there;
      stop = Refused fault;
      leads = operands_lead has.operands has.stands.are;
      begins = has.stands.begins;
      seen = subst Q has.stands.place (stops_seen n has.at has.there fault first has.stops);
      stops = tt;
      tells = refl;
      names = subst P (sym has.stands.begins) (fault_names all n has.at has.there fault has.stands.place has.stops);
    }

of_a_kind : (bytes : List ℕ) (verdict : Result Expression DepexFault) → IsVerdictOf bytes verdict
    → Inside bytes verdict ⊎ Naming bytes verdict
of_a_kind bytes (Ok (Condition tree)) is = inl (inside_condition bytes tree is)
of_a_kind bytes (Ok (Before guid)) is = inr (record {
  opcode = before_opcode;
  behind = guid.0 ++ end_opcode ∷ is.behind;
  begins = is.begins ∙ ap (λ (xs : List ℕ). before_opcode ∷ xs) (append_assoc guid.0 (end_opcode ∷ []) is.behind);
  low = omega arith;
  names = (refl, record { rest = is.behind; begins = refl; whole = is.sound });
})
of_a_kind bytes (Ok (After guid)) is = inr (record {
  opcode = after_opcode;
  behind = guid.0 ++ end_opcode ∷ is.behind;
  begins = is.begins ∙ ap (λ (xs : List ℕ). after_opcode ∷ xs) (append_assoc guid.0 (end_opcode ∷ []) is.behind);
  low = omega arith;
  names = (refl, record { rest = is.behind; begins = refl; whole = is.sound });
})
of_a_kind bytes (Err fault) (inl has) = inl (inside_fault bytes fault has)
of_a_kind bytes (Err fault) (inr has) =
    inr (record { opcode = has.opcode; behind = has.behind; begins = has.begins; low = has.names; names = has.refused })

-- ---- one verdict of each kind

told_once : (all : List Item) (stop : Found) (one other : Result Expression DepexFault) → Tells all stop one
    → Tells all stop other → one ≡ other
told_once all stop (Ok (Condition a)) (Ok (Condition b)) p q = ap (λ (tree : Tree). Ok (Condition tree)) (one_tree [] [] a b (sym p.1 ∙ q.1))
told_once all stop (Ok (Condition a)) (Err g) p q = let e : End ≡ Refused g = sym p.0 ∙ q in cc
told_once all stop (Err f) (Ok (Condition b)) p q = let e : Refused f ≡ End = sym p ∙ q.0 in cc
told_once all stop (Err f) (Err g) p q = let e : Refused f ≡ Refused g = sym p ∙ q in let same : f ≡ g = cc in ap Err same
told_once all stop (Ok (Before a)) other p q = absurd p
told_once all stop (Ok (After a)) other p q = absurd p
told_once all stop (Ok (Condition a)) (Ok (Before b)) p q = absurd q
told_once all stop (Ok (Condition a)) (Ok (After b)) p q = absurd q
told_once all stop (Err f) (Ok (Before b)) p q = absurd q
told_once all stop (Err f) (Ok (After b)) p q = absurd q

-- what the bytes behind a BEFORE or AFTER have in the place of END
name_fault : List ℕ → Option DepexFault
name_fault behind =
    if nat_le (length behind) 16 then Some NoEnd
    else (if get_or behind 16 0 == 8 then None
    else (if nat_lt 8 (get_or behind 16 0) then Some (Unknown 17) else Some (BeforeNotFirst 17)))

refused_name : (behind : List ℕ) (fault : DepexFault) → IsRefusedName behind fault → name_fault behind ≡ Some fault
unfolding name_fault
refused_name behind NoEnd refused = grind (arith, nat_tests)
refused_name behind (Unknown place) refused =
    let e : name_fault behind ≡ Some (Unknown 17) = grind (arith, nat_tests, refused.1, refused.2) in
    e ∙ ap (λ p. Some (Unknown p)) (sym refused.0)
refused_name behind (BeforeNotFirst place) refused =
    let e : name_fault behind ≡ Some (BeforeNotFirst 17) = grind (arith, nat_tests, refused.1, refused.2) in
    e ∙ ap (λ p. Some (BeforeNotFirst p)) (sym refused.0)
refused_name behind Empty refused = absurd refused
refused_name behind (Underflow place) refused = absurd refused
refused_name behind (Leftover place) refused = absurd refused
refused_name behind (TooDeep place) refused = absurd refused

is_name : (behind : List ℕ) (guid : Guid) → IsName behind guid → name_fault behind ≡ None
unfolding name_fault
is_name behind guid name =
    let long : length behind ≡ 17 + length name.rest = omega (arith, ap length name.begins, name.whole, length-append guid.0 (end_opcode ∷ name.rest)) in
    let end : get_or behind 16 0 ≡ 8 = ap (λ (xs : List ℕ). get_or xs 16 0) name.begins ∙ get_or_at guid.0 end_opcode name.rest 0 16 name.whole in
    grind (arith, nat_tests)

one_name : (behind : List ℕ) (one other : Guid) → IsName behind one → IsName behind other → one ≡ other
one_name behind one other a b =
    let fst : take 16 behind ≡ one.0 = ap (λ (xs : List ℕ). take 16 xs) a.begins ∙ take_at one.0 (end_opcode ∷ a.rest) 16 a.whole in
    let snd : take 16 behind ≡ other.0 = ap (λ (xs : List ℕ). take 16 xs) b.begins ∙ take_at other.0 (end_opcode ∷ b.rest) 16 b.whole in
    let same : one.0 ≡ other.0 = sym fst ∙ snd in
    λ i. record { 0 = same i }

named_once : (opcode : ℕ) (behind : List ℕ) (one other : Result Expression DepexFault) → Names opcode behind one
    → Names opcode behind other → one ≡ other
named_once opcode behind (Ok (Condition a)) other p q = absurd p
named_once opcode behind (Ok (Before a)) (Ok (Condition b)) p q = absurd q
named_once opcode behind (Ok (Before a)) (Ok (Before b)) p q = ap (λ (guid : Guid). Ok (Before guid)) (one_name behind a b p.1 q.1)
named_once opcode behind (Ok (Before a)) (Ok (After b)) p q = absurd (omega (arith, p.0, q.0))
named_once opcode behind (Ok (Before a)) (Err g) p q = let e : Some g ≡ None = sym (refused_name behind g q) ∙ is_name behind a p.1 in cc
named_once opcode behind (Ok (After a)) (Ok (Condition b)) p q = absurd q
named_once opcode behind (Ok (After a)) (Ok (Before b)) p q = absurd (omega (arith, p.0, q.0))
named_once opcode behind (Ok (After a)) (Ok (After b)) p q = ap (λ (guid : Guid). Ok (After guid)) (one_name behind a b p.1 q.1)
named_once opcode behind (Ok (After a)) (Err g) p q = let e : Some g ≡ None = sym (refused_name behind g q) ∙ is_name behind a p.1 in cc
named_once opcode behind (Err f) (Ok (Condition b)) p q = absurd q
named_once opcode behind (Err f) (Ok (Before b)) p q = let e : Some f ≡ None = sym (refused_name behind f p) ∙ is_name behind b q.1 in cc
named_once opcode behind (Err f) (Ok (After b)) p q = let e : Some f ≡ None = sym (refused_name behind f p) ∙ is_name behind b q.1 in cc
named_once opcode behind (Err f) (Err g) p q =
    let e : Some f ≡ Some g = sym (refused_name behind f p) ∙ refused_name behind g q in
    let same : f ≡ g = cc in
    ap Err same

-- its course over the bytes
inside_course : (bytes : List ℕ) (verdict : Result Expression DepexFault) (inside : Inside bytes verdict)
    → Leads StandsIn after_item (0, bytes) inside.all (inside.many, inside.there)
inside_course bytes verdict inside =
    let P : List ℕ → Type 0 = λ bytes. Leads StandsIn after_item (0, bytes) inside.all (inside.many, inside.there) in
    subst P (sym inside.begins) (in_bytes 0 inside.all inside.many inside.there inside.leads)

one_of_a_kind : (bytes : List ℕ) (one other : Result Expression DepexFault) → Inside bytes one ⊎ Naming bytes one
    → Inside bytes other ⊎ Naming bytes other
    → one ≡ other
one_of_a_kind bytes one other (inl a) (inl b) =
    let same = one_course StandsIn after_item Stops one_item (λ place item stops stands. stops item stands) (0, bytes) a.all b.all (a.many, a.there) (b.many, b.there)
    (inside_course bytes one a) (no_item a.many (length (bytes_of a.all)) a.there a.stop a.seen a.stops)
    (inside_course bytes other b) (no_item b.many (length (bytes_of b.all)) b.there b.stop b.seen b.stops) in
    let stop : a.stop ≡ b.stop =
    sym a.seen ∙ (λ i. sight (same.ends i).0 (length (bytes_of (same.items i))) (same.ends i).1) ∙ b.seen in
    let P : List Item → Type 0 = λ all. Tells all b.stop one in
    let Q : Found → Type 0 = λ stop. Tells a.all stop one in
    told_once b.all b.stop one other (subst P same.items (subst Q stop a.tells)) b.tells
one_of_a_kind bytes one other (inl a) (inr b) = absurd (a.names b.opcode b.behind b.begins b.low)
one_of_a_kind bytes one other (inr a) (inl b) = absurd (b.names a.opcode a.behind a.begins a.low)
one_of_a_kind bytes one other (inr a) (inr b) =
    let e : a.opcode ∷ a.behind ≡ b.opcode ∷ b.behind = sym a.begins ∙ b.begins in
    let opcodes : a.opcode ≡ b.opcode = cc in
    let rests : a.behind ≡ b.behind = cc in
    let P : ℕ → Type 0 = λ opcode. Names opcode b.behind one in
    let Q : List ℕ → Type 0 = λ behind. Names a.opcode behind one in
    named_once b.opcode b.behind one other (subst P opcodes (subst Q rests a.names)) b.names

pub one_verdict : (bytes : List ℕ) (one other : Result Expression DepexFault) → IsVerdictOf bytes one
    → IsVerdictOf bytes other → one ≡ other
one_verdict bytes one other a b = one_of_a_kind bytes one other (of_a_kind bytes one a) (of_a_kind bytes other b)

-- ---- the laws

module _ (bytes : List ℕ) where
  pub never_both : (expression : Expression) (fault : DepexFault) → IsExpression bytes expression → HasFault bytes fault → ⊥
  never_both = verdicts.never_both (IsExpression bytes) (HasFault bytes) (one_verdict bytes)

  pub one_expression : (one other : Expression) → IsExpression bytes one → IsExpression bytes other → one ≡ other
  one_expression = verdicts.one_value (IsExpression bytes) (HasFault bytes) (one_verdict bytes)

  pub one_fault : (one other : DepexFault) → HasFault bytes one → HasFault bytes other → one ≡ other
  one_fault = verdicts.one_fault (IsExpression bytes) (HasFault bytes) (one_verdict bytes)

  -- what a reader answers is the expression, or the fault, that the bytes come to
  module _ (result : Result Expression (EndOf DepexFault)) (ok : IfOk result (IsExpression bytes))
      (err : IfErr result (EndsBy (HasFault bytes))) where
    pub told_found : (expression : Expression) → IsExpression bytes expression
        → (result ≡ Ok expression) ⊎ (result ≡ Err (ends.NoMemory out_of_memory))
    told_found = verdicts.found_or_end (IsExpression bytes) (HasFault bytes) never_both one_expression result ok err

    pub told_first : (fault : DepexFault) → HasFault bytes fault
        → (result ≡ Err (ends.Fault fault)) ⊎ (result ≡ Err (ends.NoMemory out_of_memory))
    told_first = verdicts.first_or_end (IsExpression bytes) (HasFault bytes) never_both one_fault result ok err

-- so it is where a reader answers no more than that there is one
module _ (bytes : List ℕ) (result : Result (Unit {0}) DepexFault) (ok : OnOk result (BeginsExpression bytes))
    (err : IfErr result (HasFault bytes)) where
  pub judged_found : BeginsExpression bytes → result ≡ Ok tt
  judged_found is =
      verdicts.found (λ _. BeginsExpression bytes) (HasFault bytes) (λ done fault is has. never_both bytes is.0 fault is.1 has)
      (λ one other a b. refl) result (if_ok result ok) err tt is
    where
      if_ok : (result : Result (Unit {0}) DepexFault) → OnOk result (BeginsExpression bytes) → IfOk result (λ _. BeginsExpression bytes)
      if_ok (Ok done) ok = ok
      if_ok (Err fault) ok = tt

  pub judged_first : (fault : DepexFault) → HasFault bytes fault → result ≡ Err fault
  judged_first fault has = by_result result ok err
    where
      by_result : (result : Result (Unit {0}) DepexFault) → OnOk result (BeginsExpression bytes) → IfErr result (HasFault bytes) → result ≡ Err fault
      by_result (Ok done) ok err = absurd (never_both bytes ok.0 fault ok.1 has)
      by_result (Err other) ok err = ap Err (one_fault bytes other fault err has)

-- what is kept of an expression stands for it
pub expression_of-kept_of : (expression : Expression) → expression_of (kept_of expression) ≡ expression
expression_of-kept_of (Condition tree) = ap (λ (t : Tree). Condition t) (tree_on-postfix tree)
expression_of-kept_of (Before guid) = refl
expression_of-kept_of (After guid) = refl

pub kept_is : (bytes : List ℕ) (kept : Kept) → IsKeptOf bytes kept → IsExpression bytes (expression_of kept)
kept_is bytes kept of =
    let P : Expression → Type 0 = λ expression. IsExpression bytes expression in
    subst P (sym (ap expression_of of.2 ∙ expression_of-kept_of of.0)) of.1
