use Rattle.std.proofs.Common.{length, ap, ◌∙◌, arith}
use Rattle.mm_base.specs.declared.policy.Policy.{Policy}
use Rattle.mm_core.proofs.EndLemmas.{few_ends, few_passing, told_home, told_none, told_rule}
use Rattle.mm_core.proofs.reaching.end_of.Goals as goal

pub returns-then-k-windows-clause-few : goal.returns-then-k-windows-clause-few
returns-then-k-windows-clause-few c =
    few_ends c.args.tables.now.site c.args.kind c.policy.result.now.rules (ap (λ (p : Policy). p.rules) c.policy.ensures.value)
    c.policy.ensures.lawful.few c.keeps.ensures.placed c.keeps.ensures.few

pub overflow_mul-ends : goal.overflow_mul-ends
overflow_mul-ends c =
    let few = few_passing c.args.tables.now.site c.args.kind c.as_slice-rules.result.now in
    omega (arith, few, ap length c.as_slice-rules.ensures, c.policy.ensures.lawful.few)

pub returns-then-past_windows-ends-clause-value : goal.returns-then-past_windows-ends-clause-value
returns-then-past_windows-ends-clause-value c =
    told_rule c.args.tables.now.site c.args.kind c.args.k _ _ c.as_slice-rules.result.now _
    (c.as_slice-rules.ensures ∙ ap (λ (p : Policy). p.rules) c.policy.ensures.value)
    c.count_window_ends-windows.ensures c.if-k-windows.false c.count_rules-ends.ensures c.if-past_windows-ends.true c.rule_end.ensures

pub returns-then-past_windows-ends-clause-few : goal.returns-then-past_windows-ends-clause-few
returns-then-past_windows-ends-clause-few c =
    few_ends c.args.tables.now.site c.args.kind c.policy.result.now.rules (ap (λ (p : Policy). p.rules) c.policy.ensures.value)
    c.policy.ensures.lawful.few c.keeps.ensures.placed c.keeps.ensures.few

pub returns-in-Memory-clause-value : goal.returns-in-Memory-clause-value
returns-in-Memory-clause-value c =
    told_home c.args.tables.now.site c.args.kind c.args.k _ _ c.as_slice-rules.result.now _ c.in-Memory.is
    (c.as_slice-rules.ensures ∙ ap (λ (p : Policy). p.rules) c.policy.ensures.value)
    c.count_window_ends-windows.ensures c.if-k-windows.false c.count_rules-ends.ensures c.if-past_windows-ends.false c.home_end.ensures

pub returns-in-Memory-clause-few : goal.returns-in-Memory-clause-few
returns-in-Memory-clause-few c =
    few_ends c.args.tables.now.site c.args.kind c.policy.result.now.rules (ap (λ (p : Policy). p.rules) c.policy.ensures.value)
    c.policy.ensures.lawful.few c.keeps.ensures.placed c.keeps.ensures.few

pub returns-in-Io : goal.returns-in-Io
returns-in-Io c = record {
  value =
      told_none c.args.tables.now.site c.args.kind c.args.k _ _ c.as_slice-rules.result.now c.in-Io.is
      (c.as_slice-rules.ensures ∙ ap (λ (p : Policy). p.rules) c.policy.ensures.value)
      c.count_window_ends-windows.ensures c.if-k-windows.false c.count_rules-ends.ensures c.if-past_windows-ends.false;
  few =
      few_ends c.args.tables.now.site c.args.kind c.policy.result.now.rules (ap (λ (p : Policy). p.rules) c.policy.ensures.value)
      c.policy.ensures.lawful.few c.keeps.ensures.placed c.keeps.ensures.few;
}
