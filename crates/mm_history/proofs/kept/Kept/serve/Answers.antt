use Rattle.std.proofs.Common.{arith, rules}
use Rattle.std.proofs.lemmas.Grind.{common_steps}
use Rattle.mm_history.specs.History.{KeptState}
use Rattle.mm_history.proofs.RunLemmas.{one_more}
use Rattle.mm_history.proofs.kept.Kept.serve.Goals as goal

pub returns-clause-machine : goal.returns-clause-machine
returns-clause-machine g c = search rules

pub returns-clause-entries : goal.returns-clause-entries
returns-clause-entries g c = grind (arith, common_steps)

-- the replay goes on, by what the machine and the entries are now
pub returns-clause-stands : goal.returns-clause-stands
returns-clause-stands g c = λ start run.
    let new : KeptState _ = record { machine = c.step.new.self; entries = c.join.new.self } in
    one_more g.M.Machine.stepped start c.args.self.now new c.args.prepared.entry.request
    (returns-clause-machine g c) (returns-clause-entries g c) run
