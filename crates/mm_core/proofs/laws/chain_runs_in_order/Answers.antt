use Rattle.mm_core.proofs.LawLemmas.{chain_runs_in_order}
use Rattle.mm_core.proofs.laws.chain_runs_in_order.Goals as goal

pub returns : goal.returns
returns c = chain_runs_in_order
