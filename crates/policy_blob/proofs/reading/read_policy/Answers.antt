use Rattle.policy_blob.proofs.LawLemmas.{told_found, told_first}
use Rattle.policy_blob.proofs.reading.read_policy.Goals as goal

pub returns-clause-found : goal.returns-clause-found
returns-clause-found c = told_found c.args.bytes.now c.read_whole.result c.read_whole.ensures.policy c.read_whole.ensures.fault

pub returns-clause-first : goal.returns-clause-first
returns-clause-first c = told_first c.args.bytes.now c.read_whole.result c.read_whole.ensures.policy c.read_whole.ensures.fault
