use Rattle.image_groups.proofs.SameLemmas.{reach_changes_at_ends}
use Rattle.image_groups.proofs.laws.reach_changes_at_ends.Goals as goal

pub returns : goal.returns
returns c = reach_changes_at_ends
