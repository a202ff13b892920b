use Rattle.protocol_db.proofs.DbLemmas.{next-rises}
use Rattle.protocol_db.proofs.LawLemmas.{new_is_fresh}
use Rattle.protocol_db.proofs.laws.new_handles.Goals as goal

pub returns-clause-fresh : goal.returns-clause-fresh
returns-clause-fresh c = new_is_fresh

pub returns-clause-rises : goal.returns-clause-rises
returns-clause-rises c = λ handle guid interface owner db. next-rises handle db.next
