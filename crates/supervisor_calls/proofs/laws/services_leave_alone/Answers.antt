use Rattle.supervisor_calls.proofs.ServiceLaws.{leave_alone}
use Rattle.supervisor_calls.proofs.laws.services_leave_alone.Goals as goal

pub returns : goal.returns
returns c = leave_alone
