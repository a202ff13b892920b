use Rattle.std.proofs.Common.{◌∙◌}
use Rattle.page_runs.proofs.SearchLemmas.{answers_none, answers_some}
use Rattle.page_runs.proofs.run_map.RunMap.take.Goals as goal

pub returns-in_err-start-clause-none : goal.returns-in_err-start-clause-none
returns-in_err-start-clause-none c =
    answers_none _ _ c.args.pages (c.as_slice.ensures.value ∙ c.self.view_is) c.from_residual.result (cc) c.in_err-start.ensures.none

pub returns-clause-none : goal.returns-clause-none
returns-clause-none c = answers_some _ _ c.args.pages (c.as_slice.ensures.value ∙ c.self.view_is) _ c.in_ok-start.ensures.lowest
