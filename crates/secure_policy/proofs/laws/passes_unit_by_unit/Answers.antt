use Rattle.secure_policy.proofs.UnitLemmas.{passes_at_unit}
use Rattle.secure_policy.proofs.laws.passes_unit_by_unit.Goals as goal

pub returns : goal.returns
returns c = passes_at_unit
