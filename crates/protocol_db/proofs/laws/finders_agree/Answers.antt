use Rattle.protocol_db.specs.Rows.{is_of_guid}
use Rattle.protocol_db.proofs.LawLemmas.{located_is_found}
use Rattle.protocol_db.proofs.ListLemmas.{find-filter}
use Rattle.protocol_db.proofs.laws.finders_agree.Goals as goal

pub returns-clause-first : goal.returns-clause-first
returns-clause-first c = λ guid rows. find-filter (is_of_guid guid) rows

pub returns-clause-each : goal.returns-clause-each
returns-clause-each c = located_is_found
