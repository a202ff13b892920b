use Rattle.dispatcher.proofs.CountLemmas.{none_twice}
use Rattle.dispatcher.proofs.laws.none_twice.Goals as goal

pub returns : goal.returns
returns g c = none_twice g.S.Starter.installed_in g.S.Starter.started
