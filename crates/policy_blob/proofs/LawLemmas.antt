-- Bytes are one policy, or have one fault.
use Rattle.std.proofs.Common.{◌≡◌, ◌⊎◌, inl, inr, ℕ, ◌*◌, ◌==◌, ◌<◌, true, false, List, [], ◌∷◌, ◌++◌, length, take, drop, Result, Ok, Err, IfOk, IfErr, None, refl, sym, ◌∙◌, subst, lit<, arith}
use Rattle.std.proofs.lemmas.Bool.Decides.{nat_tests}
use Rattle.std.proofs.lemmas.List.{length-drop, take_all}
use Rattle.std.proofs.lemmas.List.Elements.{All-drop}
use Rattle.courses.specs.FirstCheck.{FailsFirst}
use Rattle.courses.proofs.CheckLemmas.{one_first, never_first, none_or_first}
use Rattle.courses.proofs.VerdictLemmas.{found_or_end, first_or_end}
use Rattle.mm_base.specs.Checks.{Check, first_failing}
use Rattle.mm_base.specs.End.{EndsBy, out_of_memory}
use Rattle.mm_base.specs.declared.end.End.{End}
use Rattle.mm_base.specs.declared.end.End.TheVariants.{Fault, NoMemory}
use Rattle.mm_base.specs.declared.policy.Policy.{Policy}
use Rattle.mm_base.specs.declared.policy.PolicyFault.{PolicyFault}
use Rattle.mm_base.specs.declared.policy.PolicyKind.{PolicyKind}
use Rattle.mm_base.specs.declared.policy.PolicyKind.TheVariants.{Trailing}
use Rattle.mm_base.proofs.CheckLemmas.{all_pass}
use Rattle.policy_blob.specs.Faults.{rule_count, fuel_said, rules_end, header_checks, checks_of_rules, last_check, checks, HasFault}
use Rattle.policy_blob.specs.Laws.{PolicyOrFault, NeverBoth, OnePolicy, OneFault, HasBytes, OneSpelling}
use Rattle.policy_blob.specs.ReadingInside.{IsFirstOf, AreRules}
use Rattle.policy_blob.specs.Spelling.{IsPolicy}
use Rattle.policy_blob.proofs.AppendLemmas.{both_pass, fails_in_front, fails_behind}
use Rattle.policy_blob.proofs.FieldLemmas.{AreSmall}
use Rattle.policy_blob.proofs.HeaderLemmas.{names_first, IsHeader, is_header, is_policy, policy_passes, count_is, fuel_is, rules_are}
use Rattle.policy_blob.proofs.RulesLemmas.{rules_there, one_list}

pub never_both : NeverBoth
never_both bytes policy fault is has = never_first (checks bytes) fault.kind fault.at has (policy_passes policy is.lawful bytes is.spells)

pub one_policy : OnePolicy
one_policy bytes one other a b =
    let counts : length one.rules ≡ length other.rules = sym (count_is one a.lawful bytes a.spells) ∙ count_is other b.lawful bytes b.spells in
    let fuels : one.fuel ≡ other.fuel = sym (fuel_is one a.lawful bytes a.spells) ∙ fuel_is other b.lawful bytes b.spells in
    let rules : one.rules ≡ other.rules =
    one_list one.rules other.rules a.lawful.rules b.lawful.rules counts
    (sym (rules_are one a.lawful bytes a.spells) ∙ rules_are other b.lawful bytes b.spells) in
    λ i. record { rules = rules i; fuel = fuels i }

pub one_fault : OneFault
one_fault bytes one other a b =
    let same = one_first (checks bytes) one.kind other.kind one.at other.at a b in
    λ i. record { at = same.places i; kind = same.kinds i }

-- bytes that pass all checks are a policy
passing : (bytes : List ℕ) → AreSmall bytes → first_failing (checks bytes) ≡ None → (policy : Policy) × IsPolicy bytes policy
unfolding checks
passing bytes small none =
    let parts = both_pass (header_checks bytes) (checks_of_rules 16 (rule_count bytes) (drop 16 bytes) ++ last_check bytes ∷ []) none in
    let behind = both_pass (checks_of_rules 16 (rule_count bytes) (drop 16 bytes)) (last_check bytes ∷ []) parts.1 in
    let header : IsHeader bytes = is_header bytes parts.0 in
    let last = all_pass (last_check bytes ∷ []) behind.1 in
    let ends : length bytes ≡ rules_end bytes = grind (arith, nat_tests, last.0) in
    let long : length (drop 16 bytes) ≡ 40 * rule_count bytes = omega (arith, ends, length-drop 16 bytes) in
    let there = rules_there (rule_count bytes) 16 (drop 16 bytes) (All-drop (λ byte. byte < 256) 16 bytes small) long behind.0 in
    let policy : Policy = record { rules = there.0; fuel = fuel_said bytes } in
    (policy, is_policy bytes small header policy there.1.1 refl there.1.0)

pub policy_or_fault : PolicyOrFault
policy_or_fault bytes small = by_first (none_or_first (checks bytes))
  where
    by_first : ((first_failing (checks bytes) ≡ None) ⊎ ((check : Check PolicyKind) × FailsFirst (checks bytes) check.kind check.at))
        → ((policy : Policy) × IsPolicy bytes policy) ⊎ ((fault : PolicyFault) × HasFault bytes fault)
    by_first (inl none) = inl (passing bytes small none)
    by_first (inr fails) = inr (record { at = fails.0.at; kind = fails.0.kind }, fails.1)

-- ---- where reading ends

-- an end by one fault is one by another
pub ends_weaker : (P Q : PolicyFault → Type 0) → ((fault : PolicyFault) → P fault → Q fault) → (end : End PolicyFault) → EndsBy P end → EndsBy Q end
ends_weaker P Q weaker (Fault fault) has = weaker fault has
ends_weaker P Q weaker (NoMemory refused) has = tt

module _ (bytes : List ℕ) where
  -- at the header,
  pub header_fault : (fault : PolicyFault) → IsFirstOf (header_checks bytes) fault → HasFault bytes fault
  unfolding checks
  header_fault fault first =
      fails_in_front (header_checks bytes) (checks_of_rules 16 (rule_count bytes) (drop 16 bytes) ++ last_check bytes ∷ []) fault.kind fault.at first

  module _ (header : first_failing (header_checks bytes) ≡ None) where
    -- at a rule,
    pub rules_fault : (fault : PolicyFault) → IsFirstOf (checks_of_rules 16 (rule_count bytes) (drop 16 bytes)) fault → HasFault bytes fault
    unfolding checks
    rules_fault fault first =
        fails_behind (header_checks bytes) (checks_of_rules 16 (rule_count bytes) (drop 16 bytes) ++ last_check bytes ∷ []) fault.kind fault.at header
        (fails_in_front (checks_of_rules 16 (rule_count bytes) (drop 16 bytes)) (last_check bytes ∷ []) fault.kind fault.at first)

    -- behind the rules,
    pub last_fault : (fault : PolicyFault) → first_failing (checks_of_rules 16 (rule_count bytes) (drop 16 bytes)) ≡ None
        → (length bytes == rules_end bytes) ≡ false → fault ≡ record { at = rules_end bytes; kind = Trailing } → HasFault bytes fault
    unfolding checks
    last_fault fault rules fails is =
        fails_behind (header_checks bytes) (checks_of_rules 16 (rule_count bytes) (drop 16 bytes) ++ last_check bytes ∷ []) fault.kind fault.at header
        (fails_behind (checks_of_rules 16 (rule_count bytes) (drop 16 bytes)) (last_check bytes ∷ []) fault.kind fault.at rules
        (names_first (last_check bytes ∷ []) fault 0 (lit< tt) tt fails is))

    -- or nowhere
    pub whole_policy : AreSmall bytes → (policy : Policy) → length policy.rules ≡ rule_count bytes → policy.fuel ≡ fuel_said bytes
        → AreRules (take (40 * rule_count bytes) (drop 16 bytes)) policy.rules → (length bytes == rules_end bytes) ≡ true
        → IsPolicy bytes policy
    whole_policy small policy count fuel rules last =
        let ends : length bytes ≡ rules_end bytes = grind (arith, nat_tests, last) in
        let all : take (40 * rule_count bytes) (drop 16 bytes) ≡ drop 16 bytes =
        take_all (40 * rule_count bytes) (drop 16 bytes) (omega (arith, ends, length-drop 16 bytes)) in
        let P : List ℕ → Type 0 = λ b. AreRules b policy.rules in
        is_policy bytes small (is_header bytes header) policy count fuel (subst P all rules)

pub has_bytes : HasBytes
has_bytes policy lawful = record { spells = refl; lawful = lawful }

pub one_spelling : OneSpelling
one_spelling one other policy a b = a.spells ∙ sym b.spells

-- ---- what is answered

module _ (bytes : List ℕ) (result : Result Policy (End PolicyFault)) (ok : IfOk result (IsPolicy bytes)) (err : IfErr result (EndsBy (HasFault bytes))) where
  pub told_found : (policy : Policy) → IsPolicy bytes policy → (result ≡ Ok policy) ⊎ (result ≡ Err (NoMemory out_of_memory))
  told_found policy is = found_or_end (IsPolicy bytes) (HasFault bytes) (never_both bytes) (one_policy bytes) result ok err policy is

  pub told_first : (fault : PolicyFault) → HasFault bytes fault → (result ≡ Err (Fault fault)) ⊎ (result ≡ Err (NoMemory out_of_memory))
  told_first fault has = first_or_end (IsPolicy bytes) (HasFault bytes) (never_both bytes) (one_fault bytes) result ok err fault has
