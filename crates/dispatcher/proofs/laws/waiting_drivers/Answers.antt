use Rattle.dispatcher.proofs.LawLemmas.{wait_rightly}
use Rattle.dispatcher.proofs.laws.waiting_drivers.Goals as goal

pub returns : goal.returns
returns g c = wait_rightly g.S.Starter.installed_in g.S.Starter.started
