use Rattle.mm_memory.proofs.PageLemmas.{joined-pages_in}
use Rattle.mm_memory.proofs.laws.pages_are_bytes.Goals as goal

pub returns : goal.returns
returns c = joined-pages_in
