use Rattle.policy_blob.proofs.WriteLemmas.{Written}
use Rattle.policy_blob.proofs.writing.policy_bytes.Given as goal

abbrev pub invariant-loop-rule : goal.invariant-loop-rule
invariant-loop-rule l = Written l.policy l.rule-index l.out
