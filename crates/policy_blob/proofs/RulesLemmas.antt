-- Rules one after another.
use Rattle.std.proofs.Common.{◌≡◌, ℕ, zero, suc, ◌+◌, ◌-◌, ◌*◌, ◌≤◌, ◌<◌, ◌==◌, ◌&&◌, nat_le, Bool, true, false, if◌then◌else◌, List, [], ◌∷◌, ◌++◌, length, take, drop, All, None, refl, sym, ap, ◌∙◌, length-append, subst, arith}
use Rattle.std.proofs.lemmas.Bool.Decides.{nat_tests}
use Rattle.std.proofs.lemmas.List.{take_at, drop_at, take-append-drop, length-take-le, length-drop, nil_from_length, append-nil, drop-drop}
use Rattle.std.proofs.Math.Seq.{take-add}
use Rattle.std.proofs.lemmas.List.Elements.{All-head, All-tail, All-take, All-drop, All-nil, All-cons, All-push}
use Rattle.std.proofs.lemmas.Grind.{flat_map-append}
use Rattle.std.specs.Int.{to_le_bytes, w64}
use Rattle.mm_base.specs.Checks.{first_failing}
use Rattle.mm_base.specs.Policies.{IsRule}
use Rattle.mm_base.specs.declared.access.Kind.{Kind}
use Rattle.mm_base.specs.declared.access.Kind.TheVariants.{Memory, Io, Msr, Saved}
use Rattle.mm_base.specs.declared.policy.PolicyFault.{PolicyFault}
use Rattle.mm_base.specs.declared.policy.Rule.{Rule}
use Rattle.mm_base.proofs.CheckLemmas.{AllPass, all_pass}
use Rattle.policy_blob.specs.Faults.{kind_said, action_said, rights_said, base_said, length_said, rule_checks, checks_of_rules}
use Rattle.policy_blob.specs.ReadingInside.{IsFirstOf, Says, AreRules}
use Rattle.policy_blob.specs.Spelling.{kind_number, action_number, rule_bytes, bytes_of_rules}
use Rattle.policy_blob.proofs.AppendLemmas.{passed_over, both_pass, fails_in_front}
use Rattle.policy_blob.proofs.FieldLemmas.{AreSmall}
use Rattle.policy_blob.proofs.RuleLemmas.{in_fields, spelled_says, rule_passes, says_spelled, says_lawful}

-- a lawful rule has 40 bytes
pub length-rule_bytes : (rule : Rule) → IsRule rule → length (rule_bytes rule) ≡ 40
length-rule_bytes rule lawful =
    ap length (in_fields rule)
    ∙ omega (arith, lawful.owner, length-append rule.owner.0 (to_le_bytes w64 rule.range.base ++ to_le_bytes w64 rule.range.length))

pub length-bytes_of_rules : (rules : List Rule) → All IsRule rules → length (bytes_of_rules rules) ≡ 40 * length rules
length-bytes_of_rules [] lawful = refl
length-bytes_of_rules (rule ∷ rules) lawful =
    omega (arith, length-append (rule_bytes rule) (bytes_of_rules rules), length-rule_bytes rule (All-head IsRule rule rules lawful), length-bytes_of_rules rules (All-tail IsRule rule rules lawful))

-- ---- bytes of rules pass the checks

module _ (rule : Rule) (rules : List Rule) (lawful : IsRule rule) (bytes : List ℕ) (is : bytes ≡ rule_bytes rule ++ bytes_of_rules rules) where
  pub first_40 : take 40 bytes ≡ rule_bytes rule
  first_40 = ap (take 40) is ∙ take_at (rule_bytes rule) (bytes_of_rules rules) 40 (length-rule_bytes rule lawful)

  pub behind_40 : drop 40 bytes ≡ bytes_of_rules rules
  behind_40 = ap (drop 40) is ∙ drop_at (rule_bytes rule) (bytes_of_rules rules) 40 (length-rule_bytes rule lawful)

pub rules_pass : (rules : List Rule) → All IsRule rules → (at : ℕ) (bytes : List ℕ) → bytes ≡ bytes_of_rules rules
    → first_failing (checks_of_rules at (length rules) bytes) ≡ None
rules_pass [] lawful at bytes is = refl
rules_pass (rule ∷ rules) lawful at bytes is =
    let head : IsRule rule = All-head IsRule rule rules lawful in
    let says : Says (take 40 bytes) rule = spelled_says rule head (take 40 bytes) (first_40 rule rules head bytes is) in
    passed_over (rule_checks at (take 40 bytes)) (checks_of_rules (at + 40) (length rules) (drop 40 bytes)) (rule_passes rule head at (take 40 bytes) says)
    ∙ rules_pass rules (All-tail IsRule rule rules lawful) (at + 40) (drop 40 bytes) (behind_40 rule rules head bytes is)

-- ---- bytes that pass the checks are those of rules

abbrev kind_of_number : ℕ → Kind
kind_of_number n = if n == 1 then Memory else if n == 2 then Io else if n == 3 then Msr else Saved

kind_back : (kind : Kind) → kind_of_number (kind_number kind) ≡ kind
kind_back Memory = refl
kind_back Io = refl
kind_back Msr = refl
kind_back Saved = refl

kind_there : (n : ℕ) → (nat_le 1 n && nat_le n 4) ≡ true → kind_number (kind_of_number n) ≡ n
kind_there zero pass = absurd cc
kind_there (suc zero) pass = refl
kind_there (suc (suc zero)) pass = refl
kind_there (suc (suc (suc zero))) pass = refl
kind_there (suc (suc (suc (suc zero)))) pass = refl
kind_there (suc (suc (suc (suc (suc n))))) pass = absurd (grind (arith, nat_tests, pass))

action_back : (allow : Bool) → (action_number allow == 1) ≡ allow
action_back true = refl
action_back false = refl

action_there : (n : ℕ) → nat_le n 1 ≡ true → action_number (n == 1) ≡ n
action_there zero pass = refl
action_there (suc zero) pass = refl
action_there (suc (suc n)) pass = absurd (grind (arith, nat_tests, pass))

abbrev rule_in : List ℕ → Rule
rule_in bytes = record {
  kind = kind_of_number (kind_said bytes);
  allow = action_said bytes == 1;
  rights = rights_said bytes;
  owner = record { 0 = take 16 (drop 8 bytes) };
  range = record { base = base_said bytes; length = length_said bytes };
}

rule_said : (at : ℕ) (bytes : List ℕ) → first_failing (rule_checks at bytes) ≡ None → Says bytes (rule_in bytes)
rule_said at bytes none =
    let pass : AllPass (rule_checks at bytes) = all_pass (rule_checks at bytes) none in
    record {
      kind = kind_there (kind_said bytes) pass.0;
      action = action_there (action_said bytes) pass.1.0;
      rights = refl;
      owner = refl;
      base = refl;
      length = refl;
    }

-- bytes say one rule
pub one_rule : (bytes : List ℕ) (rule other : Rule) → Says bytes rule → Says bytes other → rule ≡ other
one_rule bytes rule other a b =
    let kinds : rule.kind ≡ other.kind =
    sym (kind_back rule.kind) ∙ ap kind_of_number (a.kind ∙ sym b.kind) ∙ kind_back other.kind in
    let actions : rule.allow ≡ other.allow =
    sym (action_back rule.allow) ∙ ap (λ (n : ℕ). n == 1) (a.action ∙ sym b.action) ∙ action_back other.allow in
    let rights : rule.rights ≡ other.rights = a.rights ∙ sym b.rights in
    let owners : rule.owner.0 ≡ other.owner.0 = a.owner ∙ sym b.owner in
    let bases : rule.range.base ≡ other.range.base = a.base ∙ sym b.base in
    let lengths : rule.range.length ≡ other.range.length = a.length ∙ sym b.length in
    λ i. record {
      kind = kinds i;
      allow = actions i;
      rights = rights i;
      owner = record { 0 = owners i };
      range = record { base = bases i; length = lengths i };
    }

-- rules of which one more is read
pub rules_more : (front bytes : List ℕ) (rules : List Rule) (rule : Rule) → AreRules front rules → bytes ≡ rule_bytes rule → IsRule rule
    → AreRules (front ++ bytes) (rules ++ rule ∷ [])
rules_more front bytes rules rule are is lawful = record {
  spells =
      ap (λ (b : List ℕ). b ++ bytes) are.spells ∙ ap (λ (b : List ℕ). bytes_of_rules rules ++ b) (is ∙ sym (append-nil (rule_bytes rule)))
      ∙ sym (flat_map-append rule_bytes rules (rule ∷ []));
  lawful = All-push IsRule rules rule are.lawful lawful;
}

-- so many rules stand in bytes that pass the checks
pub rules_there : (n at : ℕ) (bytes : List ℕ) → AreSmall bytes → length bytes ≡ 40 * n → first_failing (checks_of_rules at n bytes) ≡ None
    → (rules : List Rule) × (AreRules bytes rules × (length rules ≡ n))
rules_there zero at bytes small long none =
    ([], (record { spells = nil_from_length bytes long; lawful = All-nil IsRule }, refl))
rules_there (suc n) at bytes small long none =
    let front : List ℕ = take 40 bytes in
    let behind : List ℕ = drop 40 bytes in
    let parts = both_pass (rule_checks at front) (checks_of_rules (at + 40) n behind) none in
    let many : 40 ≤ length bytes = omega (arith, long) in
    let front_long : length front ≡ 40 = length-take-le 40 bytes many in
    let front_small : AreSmall front = All-take (λ byte. byte < 256) 40 bytes small in
    let said : Says front (rule_in front) = rule_said at front parts.0 in
    let rest = rules_there n (at + 40) behind (All-drop (λ byte. byte < 256) 40 bytes small) (omega (arith, long, length-drop 40 bytes)) parts.1 in
    let spelled : front ≡ rule_bytes (rule_in front) = says_spelled front front_small front_long (rule_in front) said in (
      rule_in front ∷ rest.0,
      (
        record {
          spells = sym (take-append-drop 40 bytes) ∙ ap (λ (b : List ℕ). b ++ behind) spelled ∙ ap (λ (b : List ℕ). rule_bytes (rule_in front) ++ b) rest.1.0.spells;
          lawful = All-cons IsRule (rule_in front) rest.0 (says_lawful front front_small front_long (rule_in front) said at parts.0) rest.1.0.lawful;
        },
        ap suc rest.1.1,
      ),
    )

-- two lists of as many rules with the same bytes are one
pub one_list : (one other : List Rule) → All IsRule one → All IsRule other → length one ≡ length other
    → bytes_of_rules one ≡ bytes_of_rules other → one ≡ other
one_list [] [] a b long same = refl
one_list [] (rule ∷ other) a b long same = absurd (omega arith)
one_list (rule ∷ one) [] a b long same = absurd (omega arith)
one_list (rule ∷ one) (rule' ∷ other) a b long same =
    let here : IsRule rule = All-head IsRule rule one a in
    let there : IsRule rule' = All-head IsRule rule' other b in
    let bytes : List ℕ = bytes_of_rules (rule ∷ one) in
    let said : Says (take 40 bytes) rule = spelled_says rule here (take 40 bytes) (first_40 rule one here bytes refl) in
    let said' : Says (take 40 bytes) rule' = spelled_says rule' there (take 40 bytes) (first_40 rule' other there bytes same) in
    let rest : bytes_of_rules one ≡ bytes_of_rules other = sym (behind_40 rule one here bytes refl) ∙ behind_40 rule' other there bytes same in
    let heads : rule ≡ rule' = one_rule (take 40 bytes) rule rule' said said' in
    let tails : one ≡ other = one_list one other (All-tail IsRule rule one a) (All-tail IsRule rule' other b) (omega (arith, long)) rest in
    ap (λ (r : Rule). r ∷ one) heads ∙ ap (λ (rs : List Rule). rule' ∷ rs) tails

-- ---- so many rules were read

-- k of the rules are read, and the checks of the rest decide
pub record Halfway (bytes : List ℕ) (count k : ℕ) (rules : List Rule) (rest : List ℕ) : Type 0 where
  pub rest_is : rest ≡ drop (40 * k) bytes
  pub are : AreRules (take (40 * k) bytes) rules
  pub many : length rules ≡ k
  pub passed : (left : ℕ) → left + k ≡ count
      → first_failing (checks_of_rules 16 count bytes) ≡ first_failing (checks_of_rules (16 + 40 * k) left rest)

pub halfway_none : (bytes : List ℕ) (count : ℕ) → Halfway bytes count 0 [] bytes
halfway_none bytes count = record {
  rest_is = refl;
  are = record { spells = refl; lawful = All-nil IsRule };
  many = refl;
  passed = λ left all. ap (λ (n : ℕ). first_failing (checks_of_rules 16 n bytes)) (sym all ∙ omega arith);
}

module _ (bytes : List ℕ) (small : AreSmall bytes) (count k : ℕ) (rules : List Rule) (rest front behind : List ℕ) (half : Halfway bytes count k rules rest)
    (more : k < count) (there : 40 * count ≤ length bytes) (front_is : front ≡ take 40 rest) where
  left : ℕ
  left = count - suc k

  left_is : suc left + k ≡ count
  unfolding left
  left_is = omega (arith, more)

  same_left : (other next : ℕ) → other + next ≡ count → next ≡ suc k → left ≡ other
  unfolding left
  same_left other next all is = omega (arith, all, is)

  front_there : front ≡ take 40 (drop (40 * k) bytes)
  front_there = front_is ∙ ap (take 40) half.rest_is

  pub front_long : length front ≡ 40
  front_long = ap length front_there ∙ length-take-le 40 (drop (40 * k) bytes) (omega (arith, more, there, length-drop (40 * k) bytes))

  front_small : AreSmall front
  front_small =
      subst AreSmall (sym front_there) (All-take (λ byte. byte < 256) 40 (drop (40 * k) bytes) (All-drop (λ byte. byte < 256) (40 * k) bytes small))

  decides : first_failing (checks_of_rules 16 count bytes)
      ≡ first_failing (rule_checks (16 + 40 * k) front ++ checks_of_rules (16 + 40 * k + 40) left (drop 40 rest))
  decides =
      half.passed (suc left) left_is
      ∙ ap (λ (f : List ℕ). first_failing (rule_checks (16 + 40 * k) f ++ checks_of_rules (16 + 40 * k + 40) left (drop 40 rest))) (sym front_is)

  -- one of them is refused, so they are
  pub halfway_fault : (fault : PolicyFault) → IsFirstOf (rule_checks (16 + 40 * k) front) fault → IsFirstOf (checks_of_rules 16 count bytes) fault
  halfway_fault fault first =
      let fails =
      fails_in_front (rule_checks (16 + 40 * k) front) (checks_of_rules (16 + 40 * k + 40) left (drop 40 rest)) fault.kind fault.at first in
      record { check = fails.check; first = decides ∙ fails.first; kind_is = fails.kind_is; place_is = fails.place_is }

  -- one more is read
  pub halfway_more : (rule : Rule) (next : ℕ) → next ≡ suc k → behind ≡ drop 40 rest → Says front rule
      → first_failing (rule_checks (16 + 40 * k) front) ≡ None → Halfway bytes count next (rules ++ rule ∷ []) behind
  halfway_more rule next is behind_is says none =
      let spelled : front ≡ rule_bytes rule = says_spelled front front_small front_long rule says in
      let lawful : IsRule rule = says_lawful front front_small front_long rule says (16 + 40 * k) none in
      let grown : take (40 * next) bytes ≡ take (40 * k) bytes ++ front =
      ap (λ (n : ℕ). take n bytes) (omega (arith, is)) ∙ take-add (40 * k) 40 bytes ∙ ap (λ (f : List ℕ). take (40 * k) bytes ++ f) (sym front_there) in
      let P : List ℕ → Type 0 = λ b. AreRules b (rules ++ rule ∷ []) in
      record {
        rest_is = behind_is ∙ ap (drop 40) half.rest_is ∙ drop-drop 40 (40 * k) bytes ∙ ap (λ (n : ℕ). drop n bytes) (omega (arith, is));
        are = subst P (sym grown) (rules_more (take (40 * k) bytes) front rules rule half.are spelled lawful);
        many = length-append rules (rule ∷ []) ∙ omega (arith, half.many, is);
        passed = λ left' all.
            decides ∙ passed_over (rule_checks (16 + 40 * k) front) (checks_of_rules (16 + 40 * k + 40) left (drop 40 rest)) none
            ∙ ap (λ (at : ℕ). first_failing (checks_of_rules at left (drop 40 rest))) (omega (arith, is))
            ∙ ap (λ (n : ℕ). first_failing (checks_of_rules (16 + 40 * next) n (drop 40 rest))) (same_left left' next all is)
            ∙ ap (λ (b : List ℕ). first_failing (checks_of_rules (16 + 40 * next) left' b)) (sym behind_is);
      }

-- all are read
pub halfway_end : (bytes : List ℕ) (count : ℕ) (rules : List Rule) (rest : List ℕ) → Halfway bytes count count rules rest
    → first_failing (checks_of_rules 16 count bytes) ≡ None
halfway_end bytes count rules rest half = half.passed 0 (omega arith)
