use Rattle.depex.proofs.EitherLemmas.{same_with_more, same_where_cut}
use Rattle.depex.proofs.laws.same_past_end.Goals as goal

pub returns-clause-added : goal.returns-clause-added
returns-clause-added c = same_with_more

pub returns-clause-cut : goal.returns-clause-cut
returns-clause-cut c = same_where_cut
