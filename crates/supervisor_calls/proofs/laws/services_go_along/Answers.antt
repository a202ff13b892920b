use Rattle.supervisor_calls.proofs.ServiceLaws.{go_along}
use Rattle.supervisor_calls.proofs.laws.services_go_along.Goals as goal

pub returns : goal.returns
returns c = go_along
