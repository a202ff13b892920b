use Rattle.image_groups.proofs.WorkLemmas.{images_stay_at_work}
use Rattle.image_groups.proofs.laws.images_stay_at_work.Goals as goal

pub returns : goal.returns
returns c = images_stay_at_work
