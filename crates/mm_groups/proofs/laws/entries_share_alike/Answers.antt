use Rattle.mm_groups.proofs.CoreLemmas.{entries_share_alike}
use Rattle.mm_groups.proofs.laws.entries_share_alike.Goals as goal

pub returns : goal.returns
returns c = entries_share_alike
