use Rattle.image_groups.proofs.ReachLemmas.{passes_within_reach}
use Rattle.image_groups.proofs.laws.passes_within_reach.Goals as goal

pub returns : goal.returns
returns c = passes_within_reach
