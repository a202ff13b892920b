use Rattle.policy_blob.proofs.RulesLemmas.{Halfway}
use Rattle.policy_blob.proofs.reading.read_rules.Given as goal

abbrev pub invariant-loop-k : goal.invariant-loop-k
invariant-loop-k l = Halfway l.bytes l.count l.k l.rules l.rest
