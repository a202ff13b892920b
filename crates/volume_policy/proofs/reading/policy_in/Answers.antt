use Rattle.std.proofs.Common.{inl}
use Rattle.volume_policy.proofs.reading.policy_in.Goals as goal

pub returns-in-Err-clause-fault : goal.returns-in-Err-clause-fault
returns-in-Err-clause-fault c = inl c.in-Err.ensures.fault
