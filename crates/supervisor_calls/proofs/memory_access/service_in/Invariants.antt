use Rattle.supervisor_calls.proofs.TableLemmas.{Searched}
use Rattle.supervisor_calls.proofs.memory_access.service_in.Given as goal

abbrev pub invariant-loop-number : goal.invariant-loop-number
invariant-loop-number l = Searched l.page l.at l.number
