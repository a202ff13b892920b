use Rattle.std.proofs.Common.{rules}
use Rattle.image_groups.specs.Reach.{reach}
use Rattle.mm_core.proofs.machine_core.Core.reaches.Goals as goal

pub returns : goal.returns
unfolding reach
returns c = search rules
