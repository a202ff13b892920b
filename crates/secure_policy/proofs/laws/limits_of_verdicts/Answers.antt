use Rattle.secure_policy.proofs.LawLemmas.{never_quota, executes_home_alone}
use Rattle.secure_policy.proofs.laws.limits_of_verdicts.Goals as goal

pub returns-clause-execute : goal.returns-clause-execute
returns-clause-execute c = executes_home_alone

pub returns-clause-quota : goal.returns-clause-quota
returns-clause-quota c = λ basis image kind base n right trapped. never_quota basis image kind base n trapped right
