use Rattle.ebc_decode.proofs.WordLemmas.{two_to_eighteen}
use Rattle.ebc_decode.proofs.laws.two_to_eighteen.Goals as goal

pub returns-clause-sizes : goal.returns-clause-sizes
returns-clause-sizes c = two_to_eighteen
