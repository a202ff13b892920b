use Rattle.ebc_decode.proofs.LawLemmas.{none_begins_another}
use Rattle.ebc_decode.proofs.laws.none_begins_another.Goals as goal

pub returns : goal.returns
returns c = none_begins_another
