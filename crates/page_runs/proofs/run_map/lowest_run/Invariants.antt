use Rattle.page_runs.proofs.SearchLemmas.{FreeSoFar}
use Rattle.page_runs.proofs.run_map.lowest_run.Given as goal

abbrev pub invariant-loop-page : goal.invariant-loop-page
invariant-loop-page l = FreeSoFar l.taken l.pages l.start l.page
