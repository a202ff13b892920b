use Rattle.std.proofs.Common.{◌≡◌, ℕ, ◌*◌, ◌==◌, ◌∙◌, true, List, drop, length, take, None, subst, arith, rules}
use Rattle.mm_base.specs.Checks.{first_failing}
use Rattle.mm_base.specs.End.{EndsBy}
use Rattle.policy_blob.specs.Faults.{HasFault, header_checks, checks_of_rules, rule_count, rules_end}
use Rattle.policy_blob.specs.ReadingInside.{IsFirstOf, AreRules}
use Rattle.policy_blob.proofs.FieldLemmas.{AreSmall, small_bytes}
use Rattle.policy_blob.proofs.LawLemmas.{ends_weaker, header_fault, rules_fault, last_fault, whole_policy}
use Rattle.policy_blob.proofs.reading.read_whole.Goals as goal

pub returns-in_err-map_err-clause-fault : goal.returns-in_err-map_err-clause-fault
returns-in_err-map_err-clause-fault c =
    let weaker = header_fault c.args.bytes.now in
    search rules

pub returns-in_err-rules-clause-fault : goal.returns-in_err-rules-clause-fault
returns-in_err-rules-clause-fault c =
    let bytes = c.args.bytes.now in
    let header : first_failing (header_checks bytes) ≡ None = search rules in
    let end = c.in_err-rules.field-0.0 in
    let P : ℕ → Type 0 = λ n. EndsBy (IsFirstOf (checks_of_rules 16 n c.split_at.result.1.now)) end in
    let Q : List ℕ → Type 0 = λ b. EndsBy (IsFirstOf (checks_of_rules 16 (rule_count bytes) b)) end in
    let known : EndsBy (HasFault bytes) end =
    ends_weaker (IsFirstOf (checks_of_rules 16 (rule_count bytes) (drop 16 bytes))) (HasFault bytes) (rules_fault bytes header) end
    (subst Q c.split_at.ensures.back (subst P c.rules_said-count.ensures c.in_err-rules.ensures.fault)) in
    search rules

pub returns-in_err-map_err-2-clause-fault : goal.returns-in_err-map_err-2-clause-fault
returns-in_err-map_err-2-clause-fault c =
    let bytes = c.args.bytes.now in
    let header : first_failing (header_checks bytes) ≡ None = search rules in
    let P : ℕ → Type 0 = λ n. first_failing (checks_of_rules 16 n c.split_at.result.1.now) ≡ None in
    let Q : List ℕ → Type 0 = λ b. first_failing (checks_of_rules 16 (rule_count bytes) b) ≡ None in
    let passed : first_failing (checks_of_rules 16 (rule_count bytes) (drop 16 bytes)) ≡ None =
    subst Q c.split_at.ensures.back (subst P c.rules_said-count.ensures c.in_ok-rules.ensures.ok) in
    let weaker = last_fault bytes header c.fault.result passed in
    search rules

pub returns-clause-policy : goal.returns-clause-policy
returns-clause-policy c =
    let bytes = c.args.bytes.now in
    let small : AreSmall bytes = small_bytes bytes (λ i. omega (arith, c.type_inv.bytes i)) in
    let header : first_failing (header_checks bytes) ≡ None = search rules in
    let last : (length bytes == rules_end bytes) ≡ true = search rules in
    let P : ℕ → Type 0 = λ n. AreRules (take (40 * n) c.split_at.result.1.now) c.in_ok-rules.rules in
    let Q : List ℕ → Type 0 = λ b. AreRules (take (40 * rule_count bytes) b) c.in_ok-rules.rules in
    whole_policy bytes header small (record { rules = c.in_ok-rules.rules; fuel = c.fuel_said.result })
    (c.in_ok-rules.ensures.count ∙ c.rules_said-count.ensures) c.fuel_said.ensures
    (subst Q c.split_at.ensures.back (subst P c.rules_said-count.ensures c.in_ok-rules.ensures.rules)) last
