use Rattle.supervisor_calls.proofs.ServiceLaws.{stay_after_lock}
use Rattle.supervisor_calls.proofs.laws.lists_stay_after_lock.Goals as goal

pub returns : goal.returns
returns c = stay_after_lock
