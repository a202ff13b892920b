use Rattle.mm_groups.proofs.CoreLemmas.{steps_stay_sound}
use Rattle.mm_groups.proofs.laws.steps_stay_sound.Goals as goal

pub returns : goal.returns
returns c = steps_stay_sound
