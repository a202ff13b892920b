use Rattle.std.proofs.Common.{◌<◌, List, length, subst}
use Rattle.mm_base.specs.declared.policy.Rule.{Rule}
use Rattle.policy_blob.proofs.WriteLemmas.{room_left}
use Rattle.policy_blob.proofs.writing.policy_bytes.Goals as goal

pub put_rule-requires-clause-room : goal.put_rule-requires-clause-room
put_rule-requires-clause-room c =
    let P : List Rule → Type 0 = λ rules. c.loop-rule.rule-index < length rules in
    room_left c.args.policy.now c.loop-rule.rule-index c.loop-rule.out c.loop-rule.invariant c.requires.rules
    (subst P c.as_slice-rules.ensures c.loop-rule-test.true)
