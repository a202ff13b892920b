use Rattle.platform_model.proofs.ByteLemmas.{number_read_back, number_others_stay}
use Rattle.platform_model.proofs.laws.writes_are_local.Goals as goal

pub returns-clause-back : goal.returns-clause-back
returns-clause-back c = number_read_back

pub returns-clause-stays : goal.returns-clause-stays
returns-clause-stays c = number_others_stay
