use Rattle.comm_core.proofs.LawLemmas.{requests_begin, course_begins}
use Rattle.comm_core.proofs.laws.requests_stay.Goals as goal

pub returns-clause-stay : goal.returns-clause-stay
returns-clause-stay g c = requests_begin

pub returns-clause-events : goal.returns-clause-events
returns-clause-events g c = λ m words events more. course_begins g.M.Machine.stepped m words events more
