use Rattle.volume_policy.proofs.PolicyLemmas.{policy_or_fault, never_both, one_policy, one_fault}
use Rattle.volume_policy.proofs.laws.policy_or_fault.Goals as goal

pub returns-clause-either : goal.returns-clause-either
returns-clause-either c = policy_or_fault

pub returns-clause-never_both : goal.returns-clause-never_both
returns-clause-never_both c = never_both

pub returns-clause-one_policy : goal.returns-clause-one_policy
returns-clause-one_policy c = one_policy

pub returns-clause-one_fault : goal.returns-clause-one_fault
returns-clause-one_fault c = one_fault
