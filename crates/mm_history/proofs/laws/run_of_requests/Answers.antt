use Rattle.mm_history.proofs.RunLemmas.{same_run, front_of_run, at_place}
use Rattle.mm_history.proofs.laws.run_of_requests.Goals as goal

pub returns-clause-decide : goal.returns-clause-decide
returns-clause-decide g c = λ start one other first second same. same_run g.M.Machine.stepped start one other first second same

pub returns-clause-fronts : goal.returns-clause-fronts
returns-clause-fronts g c = λ start kept n run. front_of_run g.M.Machine.stepped start kept n run

pub returns-clause-each : goal.returns-clause-each
returns-clause-each g c = λ start kept place entry run there. at_place g.M.Machine.stepped start kept place entry run there
