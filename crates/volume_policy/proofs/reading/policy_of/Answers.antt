use Rattle.volume_policy.proofs.PolicyLemmas.{told_found, told_first}
use Rattle.volume_policy.proofs.reading.policy_of.Goals as goal

pub returns-clause-found : goal.returns-clause-found
returns-clause-found c =
    told_found c.args.bytes.now c.args.volume.now.files c.read_policy_of.result c.read_policy_of.ensures.policy c.read_policy_of.ensures.fault

pub returns-clause-first : goal.returns-clause-first
returns-clause-first c =
    told_first c.args.bytes.now c.args.volume.now.files c.read_policy_of.result c.read_policy_of.ensures.policy c.read_policy_of.ensures.fault
