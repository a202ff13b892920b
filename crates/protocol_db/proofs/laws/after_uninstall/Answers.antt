use Rattle.protocol_db.proofs.LawLemmas.{others_stay, removed_gives_back, removed_is_gone}
use Rattle.protocol_db.proofs.laws.after_uninstall.Goals as goal

pub returns-clause-back : goal.returns-clause-back
returns-clause-back c = removed_gives_back

pub returns-clause-none : goal.returns-clause-none
returns-clause-none c = removed_is_gone

pub returns-clause-stays : goal.returns-clause-stays
returns-clause-stays c = λ handle other guid its rows apart. others_stay handle other guid its apart rows
