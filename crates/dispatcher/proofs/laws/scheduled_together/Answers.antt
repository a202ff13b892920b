use Rattle.dispatcher.proofs.LawLemmas.{after_together, before_together}
use Rattle.dispatcher.proofs.laws.scheduled_together.Goals as goal

pub returns-clause-by_before : goal.returns-clause-by_before
returns-clause-by_before g c = before_together g.S.Starter.installed_in g.S.Starter.started

pub returns-clause-by_after : goal.returns-clause-by_after
returns-clause-by_after g c = after_together g.S.Starter.installed_in g.S.Starter.started
