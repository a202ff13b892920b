use Rattle.secure_policy.proofs.LawLemmas.{allowed_or_denied, none_decides, verdict_exchanged}
use Rattle.secure_policy.proofs.laws.first_rule_decides.Goals as goal

pub returns-clause-decides : goal.returns-clause-decides
returns-clause-decides c = λ before after rule name kind access right. allowed_or_denied name kind access right before after rule

pub returns-clause-no_rule : goal.returns-clause-no_rule
returns-clause-no_rule c = λ rules name kind access right. none_decides name kind access right rules 0

pub returns-clause-exchange : goal.returns-clause-exchange
returns-clause-exchange c = verdict_exchanged
