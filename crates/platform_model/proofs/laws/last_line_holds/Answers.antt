use Rattle.platform_model.proofs.OpeningLemmas.{last_line_holds, others_hold_zero, value_at}
use Rattle.platform_model.proofs.laws.last_line_holds.Goals as goal

pub returns-clause-value : goal.returns-clause-value
returns-clause-value c = λ before after line kind at. last_line_holds kind at before after line

pub returns-clause-zero : goal.returns-clause-zero
returns-clause-zero c = λ lines kind at. others_hold_zero kind at lines

pub returns-clause-each : goal.returns-clause-each
returns-clause-each c = λ lines kind first n k. value_at lines kind n first k
