use Rattle.mm_base.proofs.RangeLemmas.{overlap_is_a_unit, covers_each_unit, covered_is_within}
use Rattle.mm_base.proofs.laws.ranges_by_units.Goals as goal

pub returns-clause-overlap : goal.returns-clause-overlap
returns-clause-overlap c = overlap_is_a_unit

pub returns-clause-cover : goal.returns-clause-cover
returns-clause-cover c = covers_each_unit

pub returns-clause-within : goal.returns-clause-within
returns-clause-within c = covered_is_within
