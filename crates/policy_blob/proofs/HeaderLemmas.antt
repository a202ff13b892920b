-- The header of a policy, and the whole of it.
use Rattle.std.proofs.Common.{◌≡◌, ℕ, ◌+◌, ◌*◌, ◌≤◌, ◌<◌, true, ◌&&◌, ◌==◌, nat_le, false, List, [], ◌∷◌, ◌++◌, length, take, drop, get_or, None, sym, ap, ◌∙◌, eq-eqb, arith}
use Rattle.std.proofs.lemmas.Bool.Decides.{nat_tests}
use Rattle.std.proofs.lemmas.List.{take-append-drop}
use Rattle.std.proofs.lemmas.Slice.Eq.{bytes_eq-Decides}
use Rattle.std.specs.Int.{to_le_bytes, w16, w32}
use Rattle.std.specs.Str.{bytes_eq}
use Rattle.mm_base.specs.Checks.{Check, first_failing}
use Rattle.mm_base.specs.Numbers.{number_in}
use Rattle.mm_base.specs.Policies.{IsLawfulPolicy}
use Rattle.mm_base.specs.declared.policy.Policy.{Policy}
use Rattle.mm_base.specs.declared.policy.PolicyFault.{PolicyFault}
use Rattle.mm_base.specs.declared.policy.PolicyKind.{PolicyKind}
use Rattle.mm_base.specs.declared.policy.PolicyKind.TheVariants.{Short}
use Rattle.mm_base.proofs.CheckLemmas.{AllPass, first_at, all_pass, none_fails}
use Rattle.policy_blob.specs.Faults.{rule_count, fuel_said, rules_end, header_checks, checks_of_rules, last_check, checks}
use Rattle.policy_blob.specs.ReadingInside.{IsFirstOf, AreRules}
use Rattle.policy_blob.specs.Spelling.{signature, header_bytes, bytes_of_rules, spelled, IsPolicy}
use Rattle.policy_blob.proofs.AppendLemmas.{passed_over}
use Rattle.policy_blob.proofs.FieldLemmas.{AreSmall, number_4, field_2, field_4, joined}
use Rattle.policy_blob.proofs.RulesLemmas.{length-bytes_of_rules, rules_pass}

abbrev spare : Check PolicyKind
spare = record { kind = Short; at = 0; passes = true }

-- the k-th of some checks fails first, and this fault is its own
pub names_first : (all : List (Check PolicyKind)) (fault : PolicyFault) (k : ℕ) → k < length all → AllPass (take k all)
    → (get_or all k spare).passes ≡ false → fault ≡ record { at = (get_or all k spare).at; kind = (get_or all k spare).kind }
    → IsFirstOf all fault
names_first all fault k within pass fail is = record {
  check = get_or all k spare;
  first = first_at all k spare within pass fail;
  kind_is = ap (λ (f : PolicyFault). f.kind) is;
  place_is = ap (λ (f : PolicyFault). f.at) is;
}

-- ---- the bytes of a policy

module _ (policy : Policy) (lawful : IsLawfulPolicy policy) (bytes : List ℕ) (is : bytes ≡ spelled policy) where
  pub count_is : rule_count bytes ≡ length policy.rules
  count_is = ap rule_count is ∙ number_4 (length policy.rules) (omega (arith, lawful.few))

  pub fuel_is : fuel_said bytes ≡ policy.fuel
  fuel_is = ap fuel_said is ∙ number_4 policy.fuel (omega (arith, lawful.most_fuel))

  pub rules_are : drop 16 bytes ≡ bytes_of_rules policy.rules
  rules_are = ap (drop 16) is

  pub long_is : length bytes ≡ 16 + 40 * length policy.rules
  long_is = ap length is ∙ omega (arith, length-bytes_of_rules policy.rules lawful.rules)

  end_is : rules_end bytes ≡ length bytes
  end_is = omega (arith, count_is, long_is)

  header_passes : first_failing (header_checks bytes) ≡ None
  header_passes =
      none_fails (header_checks bytes) (
        grind (arith, nat_tests, long_is),
        (
          (bytes_eq-Decides (take 4 bytes) signature).1 (ap (take 4) is),
          (
            ap (λ (b : List ℕ). number_in b 4 2 == 1) is,
            (
              ap (λ (b : List ℕ). number_in b 6 2 == 0) is,
              (
                ap (λ (n : ℕ). nat_le n 1024) count_is ∙ grind (arith, nat_tests, lawful.few),
                (
                  ap (λ (n : ℕ). nat_le 1 n && nat_le n 1000000) fuel_is ∙ grind (arith, nat_tests, lawful.some_fuel, lawful.most_fuel),
                  (ap (λ (n : ℕ). nat_le n (length bytes)) end_is ∙ grind (arith, nat_tests), tt),
                ),
              ),
            ),
          ),
        ),
      )

  rules_checked : first_failing (checks_of_rules 16 (rule_count bytes) (drop 16 bytes)) ≡ None
  rules_checked =
      ap (λ (n : ℕ). first_failing (checks_of_rules 16 n (drop 16 bytes))) count_is
      ∙ rules_pass policy.rules lawful.rules 16 (drop 16 bytes) rules_are

  -- they pass all checks
  pub policy_passes : first_failing (checks bytes) ≡ None
  unfolding checks
  policy_passes =
      passed_over (header_checks bytes) (checks_of_rules 16 (rule_count bytes) (drop 16 bytes) ++ last_check bytes ∷ []) header_passes
      ∙ passed_over (checks_of_rules 16 (rule_count bytes) (drop 16 bytes)) (last_check bytes ∷ []) rules_checked
      ∙ none_fails (last_check bytes ∷ []) (eq-eqb (length bytes) (rules_end bytes) (sym end_is), tt)

-- ---- bytes that pass the checks

-- what the checks of a header tell
pub record IsHeader (bytes : List ℕ) : Type 0 where
  pub long : 16 ≤ length bytes
  pub few : rule_count bytes ≤ 1024
  pub some_fuel : 1 ≤ fuel_said bytes
  pub most_fuel : fuel_said bytes ≤ 1000000
  pub whole : rules_end bytes ≤ length bytes
  pub signed : bytes_eq (take 4 bytes) signature ≡ true
  pub version : number_in bytes 4 2 ≡ 1
  pub reserved : number_in bytes 6 2 ≡ 0

pub is_header : (bytes : List ℕ) → first_failing (header_checks bytes) ≡ None → IsHeader bytes
is_header bytes none =
    let pass : AllPass (header_checks bytes) = all_pass (header_checks bytes) none in
    record {
      long = grind (arith, nat_tests, pass.0);
      few = grind (arith, nat_tests, pass.1.1.1.1.0);
      some_fuel = grind (arith, nat_tests, pass.1.1.1.1.1.0);
      most_fuel = grind (arith, nat_tests, pass.1.1.1.1.1.0);
      whole = grind (arith, nat_tests, pass.1.1.1.1.1.1.0);
      signed = pass.1.0;
      version = grind (arith, nat_tests, pass.1.1.0);
      reserved = grind (arith, nat_tests, pass.1.1.1.0);
    }

module _ (bytes : List ℕ) (small : AreSmall bytes) (header : IsHeader bytes) (policy : Policy) (count : length policy.rules ≡ rule_count bytes)
    (fuel : policy.fuel ≡ fuel_said bytes) where
  within : (at n : ℕ) → at + n ≤ 16 → at + n ≤ length bytes
  within at n h = omega (arith, h, header.long)

  -- the header's bytes are those of the policy
  header_spelled : take 16 bytes ≡ header_bytes policy
  header_spelled =
      joined bytes signature _ 0 4 12 ((bytes_eq-Decides (take 4 bytes) signature).0 header.signed)
      (joined bytes (to_le_bytes w16 1) _ 4 2 10 (sym (field_2 bytes small 4 (within 4 2 (omega arith))) ∙ ap (to_le_bytes w16) header.version)
      (joined bytes (to_le_bytes w16 0) _ 6 2 8 (sym (field_2 bytes small 6 (within 6 2 (omega arith))) ∙ ap (to_le_bytes w16) header.reserved)
      (joined bytes (to_le_bytes w32 (length policy.rules)) _ 8 4 4 (sym (field_4 bytes small 8 (within 8 4 (omega arith))) ∙ ap (to_le_bytes w32) (sym count))
      (sym (field_4 bytes small 12 (within 12 4 (omega arith))) ∙ ap (to_le_bytes w32) (sym fuel)))))

  -- and with the rules behind it the bytes are the policy
  pub is_policy : AreRules (drop 16 bytes) policy.rules → IsPolicy bytes policy
  is_policy rules = record {
    spells = sym (take-append-drop 16 bytes) ∙ ap (λ (b : List ℕ). b ++ drop 16 bytes) header_spelled ∙ ap (λ (b : List ℕ). header_bytes policy ++ b) rules.spells;
    lawful = record {
      few = omega (arith, count, header.few);
      some_fuel = omega (arith, fuel, header.some_fuel);
      most_fuel = omega (arith, fuel, header.most_fuel);
      rules = rules.lawful;
    };
  }
