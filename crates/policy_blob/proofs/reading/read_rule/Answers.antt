use Rattle.std.proofs.Common.{◌∙◌, lit<, rules}
use Rattle.policy_blob.specs.Faults.{rule_checks}
use Rattle.policy_blob.specs.ReadingInside.{IsFirstOf}
use Rattle.policy_blob.proofs.HeaderLemmas.{names_first}
use Rattle.policy_blob.proofs.RuleLemmas.{rights_by}
use Rattle.policy_blob.proofs.reading.read_rule.Goals as goal

pub returns-in_err-kind-clause-fault : goal.returns-in_err-kind-clause-fault
returns-in_err-kind-clause-fault c =
    let e = c.in_err-kind.ensures.fault in
    let known : IsFirstOf (rule_checks c.args.at c.args.bytes.now) c.in_err-kind.field-0.0 = names_first _ _ 0 (lit< tt) tt e.0 e.1 in
    search rules

pub returns-in_err-allow-clause-fault : goal.returns-in_err-allow-clause-fault
returns-in_err-allow-clause-fault c =
    let e = c.in_err-allow.ensures.fault in
    let known : IsFirstOf (rule_checks c.args.at c.args.bytes.now) c.in_err-allow.field-0.0 =
    names_first _ _ 1 (lit< tt) (c.in_ok-kind.ensures.passes, tt) e.0 e.1 in
    search rules

pub returns-in_err-rights-clause-fault : goal.returns-in_err-rights-clause-fault
returns-in_err-rights-clause-fault c =
    let e = c.in_err-rights.ensures.fault in
    let by = rights_by c.args.bytes.now c.in_ok-allow.allow c.in_ok-allow.ensures.ok in
    let known : IsFirstOf (rule_checks c.args.at c.args.bytes.now) c.in_err-rights.field-0.0 =
    names_first _ _ 2 (lit< tt) (c.in_ok-kind.ensures.passes, (c.in_ok-allow.ensures.passes, tt)) (by ∙ e.0) e.1 in
    search rules

pub returns-in_err-range-clause-fault : goal.returns-in_err-range-clause-fault
returns-in_err-range-clause-fault c =
    let e = c.in_err-range.ensures.fault in
    let by = rights_by c.args.bytes.now c.in_ok-allow.allow c.in_ok-allow.ensures.ok in
    let known : IsFirstOf (rule_checks c.args.at c.args.bytes.now) c.in_err-range.field-0.0 =
    names_first _ _ 3 (lit< tt) (c.in_ok-kind.ensures.passes, (c.in_ok-allow.ensures.passes, (by ∙ c.in_ok-rights.ensures.passes, tt))) e.0 e.1 in
    search rules
