use Rattle.image_groups.proofs.FactLemmas.{closed_groups_have_facts}
use Rattle.image_groups.proofs.laws.closed_groups_have_facts.Goals as goal

pub returns : goal.returns
returns c = closed_groups_have_facts
