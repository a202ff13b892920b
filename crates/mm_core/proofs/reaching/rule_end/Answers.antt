use Rattle.std.proofs.Common.{◌≡◌, ◌/◌, ◌%◌, None, sym, ◌∙◌, arith, rules}
use Rattle.std.specs.Prelude.{filter}
use Rattle.mm_base.specs.Kinds.{same_kind}
use Rattle.mm_base.specs.declared.policy.Rule.{Rule}
use Rattle.mm_core.proofs.EndLemmas.{pair_at, pair_past}
use Rattle.mm_core.proofs.reaching.rule_end.Goals as goal

pub returns-in_err-rule : goal.returns-in_err-rule
returns-in_err-rule c =
    let none : c.from_residual.result ≡ None = search rules in
    none
    ∙ pair_past (λ (rule : Rule). rule.range) (filter (λ rule. same_kind rule.kind c.args.kind) c.args.rules.now) c.args.k (c.args.k / 2)
    (c.args.k % 2) (omega arith) (sym c.in_err-rule.ensures)

pub returns : goal.returns
returns c =
    sym c.range_end.ensures
    ∙ pair_at (λ (rule : Rule). rule.range) (filter (λ rule. same_kind rule.kind c.args.kind) c.args.rules.now) c.args.k (c.args.k / 2)
    (c.args.k % 2) _ (omega arith) (omega arith) (sym c.in_ok-rule.ensures)
