use Rattle.mm_core.proofs.LawLemmas.{dispatched_exactly}
use Rattle.mm_core.proofs.laws.who_is_dispatched.Goals as goal

pub returns : goal.returns
returns c = dispatched_exactly
