use Rattle.std.proofs.Common.{ℕ, ◌+◌, ◌*◌, ◌≡◌, List, None, sym, arith, rules, subst}
use Rattle.mm_base.specs.Checks.{first_failing}
use Rattle.mm_base.specs.declared.policy.Rule.{Rule}
use Rattle.policy_blob.specs.Faults.{rule_checks}
use Rattle.policy_blob.specs.ReadingInside.{Says}
use Rattle.policy_blob.proofs.FieldLemmas.{AreSmall, small_bytes}
use Rattle.policy_blob.proofs.RulesLemmas.{Halfway, halfway_fault, halfway_more, halfway_end}
use Rattle.policy_blob.proofs.reading.read_rules.Goals as goal

pub returns-in_err-map_err-clause-fault : goal.returns-in_err-map_err-clause-fault
returns-in_err-map_err-clause-fault c =
    let bytes = c.args.bytes.now in
    let small : AreSmall bytes = small_bytes bytes (λ i. omega (arith, c.type_inv.bytes i)) in
    let known = halfway_fault bytes small c.args.count c.loop-k.k c.loop-k.rules c.loop-k.rest.now c.split_at.result.0.now c.split_at.result.1.now c.loop-k.invariant c.loop-k-test.true c.requires.there c.split_at.ensures.front in
    search rules

pub loop-k-preserved : goal.loop-k-preserved
loop-k-preserved c =
    let bytes = c.args.bytes.now in
    let small : AreSmall bytes = small_bytes bytes (λ i. omega (arith, c.type_inv.bytes i)) in
    let front = c.split_at.result.0.now in
    let says : Says front c.in_ok-map_err.field-0 = search rules in
    let passes : first_failing (rule_checks (16 + 40 * c.loop-k.k) front) ≡ None = search rules in
    let P : List Rule → Type 0 = λ rules. Halfway bytes c.args.count (c.loop-k.k + 1) rules c.split_at.result.1.now in
    subst P (sym c.in_ok-push.ensures.ok)
    (halfway_more bytes small c.args.count c.loop-k.k c.loop-k.rules c.loop-k.rest.now c.split_at.result.0.now c.split_at.result.1.now c.loop-k.invariant c.loop-k-test.true c.requires.there c.split_at.ensures.front
    c.in_ok-map_err.field-0 (c.loop-k.k + 1) (omega arith) c.split_at.ensures.back says passes)

pub returns-clause-ok : goal.returns-clause-ok
returns-clause-ok c =
    let P : ℕ → Type 0 = λ k. Halfway c.args.bytes.now c.args.count k c.loop-k.rules c.loop-k.rest.now in
    halfway_end c.args.bytes.now c.args.count c.loop-k.rules c.loop-k.rest.now (subst P (omega (arith, c.loop-k-test.false, c.loop-k.auto)) c.loop-k.invariant)
