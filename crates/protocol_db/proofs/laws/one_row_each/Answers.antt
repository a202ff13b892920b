use Rattle.protocol_db.proofs.LawLemmas.{each_is_found, found_is_there, unknown_has_none}
use Rattle.protocol_db.proofs.laws.one_row_each.Goals as goal

pub returns-clause-each : goal.returns-clause-each
returns-clause-each c = each_is_found

pub returns-clause-none : goal.returns-clause-none
returns-clause-none c = unknown_has_none

pub returns-clause-there : goal.returns-clause-there
returns-clause-there c = found_is_there
