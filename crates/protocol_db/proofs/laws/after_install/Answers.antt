use Rattle.protocol_db.proofs.LawLemmas.{first_stays, installed_is_found, installed_is_last, others_are_found}
use Rattle.protocol_db.proofs.laws.after_install.Goals as goal

pub returns-clause-found : goal.returns-clause-found
returns-clause-found c = installed_is_found

pub returns-clause-last : goal.returns-clause-last
returns-clause-last c = installed_is_last

pub returns-clause-stays : goal.returns-clause-stays
returns-clause-stays c = λ handle guid interface owner other its db apart. others_are_found handle guid interface owner db other its apart

pub returns-clause-first : goal.returns-clause-first
returns-clause-first c = λ handle guid its interface owner db first found. first_stays handle guid interface owner db its first found
