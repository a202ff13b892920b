use Rattle.protocol_db.specs.Rows.{is_owned_by}
use Rattle.protocol_db.proofs.LawLemmas.{others_keep_theirs}
use Rattle.protocol_db.proofs.ListLemmas.{filter-out}
use Rattle.protocol_db.proofs.laws.after_forget.Goals as goal

pub returns-clause-none : goal.returns-clause-none
returns-clause-none c = λ owner rows. filter-out (is_owned_by owner) rows

pub returns-clause-stays : goal.returns-clause-stays
returns-clause-stays c = others_keep_theirs
