use Rattle.supervisor_calls.proofs.LawLemmas.{passes_at_each_unit}
use Rattle.supervisor_calls.proofs.laws.passes_unit_by_unit.Goals as goal

pub returns : goal.returns
returns c = passes_at_each_unit
