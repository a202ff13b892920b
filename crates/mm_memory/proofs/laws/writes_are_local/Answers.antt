use Rattle.mm_memory.proofs.PageLemmas.{read_back, stays_apart}
use Rattle.mm_memory.proofs.laws.writes_are_local.Goals as goal

pub returns-clause-back : goal.returns-clause-back
returns-clause-back c = read_back

pub returns-clause-stays : goal.returns-clause-stays
returns-clause-stays c = stays_apart
