use Rattle.image_table.proofs.LawLemmas.{hold_each_byte, hold_what_lies_within}
use Rattle.image_table.proofs.laws.home_byte_by_byte.Goals as goal

pub returns-clause-part : goal.returns-clause-part
returns-clause-part c = hold_what_lies_within

pub returns-clause-each : goal.returns-clause-each
returns-clause-each c = hold_each_byte
