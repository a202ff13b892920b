use Rattle.depex.proofs.NeedLemmas.{need_is_exact}
use Rattle.depex.proofs.laws.need_is_exact.Goals as goal

pub returns : goal.returns
returns c = need_is_exact
