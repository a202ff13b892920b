use Rattle.depex.proofs.EitherLemmas.{either}
use Rattle.depex.proofs.LawLemmas.{never_both, one_expression, one_fault}
use Rattle.depex.proofs.laws.expression_or_fault.Goals as goal

pub returns : goal.returns
returns c = record { either = either; never_both = never_both; one_expression = one_expression; one_fault = one_fault }
