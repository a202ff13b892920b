use Rattle.page_runs.proofs.ChangeLemmas.{taken_may_be_given, comes_back, given_is_free}
use Rattle.page_runs.proofs.laws.given_back.Goals as goal

pub returns-clause-may_give : goal.returns-clause-may_give
returns-clause-may_give c = taken_may_be_given

pub returns-clause-before : goal.returns-clause-before
returns-clause-before c = comes_back

pub returns-clause-again : goal.returns-clause-again
returns-clause-again c = given_is_free
