use Rattle.std.proofs.Common.{ℕ, ◌+◌, sym, subst, arith}
use Rattle.page_runs.proofs.SearchLemmas.{FreeSoFar, after_taken, after_free, found, none_left}
use Rattle.page_runs.proofs.run_map.lowest_run.Goals as goal
use Rattle.page_runs.proofs.run_map.lowest_run.Goals.{then-is_taken, else-is_taken+else-page-start}

pub returns-then-page-start-clause-lowest : goal.returns-then-page-start-clause-lowest
returns-then-page-start-clause-lowest c =
    found c.args.taken.now c.args.pages c.loop-page.start c.loop-page.page c.loop-page.invariant c.if-is_taken.false (omega arith)
    (omega arith)

pub loop-page-preserved : goal.loop-page-preserved
loop-page-preserved c =
    let taken = c.args.taken.now in
    let pages = c.args.pages in
    let start = c.loop-page.start in
    let page = c.loop-page.page in
    let Kept : ℕ → Type 0 = λ from. FreeSoFar taken pages from (page + 1) in
    elim c.if-is_taken.branch [
      | then-is_taken w ↦
          subst Kept (sym w.start-is) (after_taken taken pages start page c.loop-page.invariant c.requires w.if-is_taken.true)
      | else-is_taken+else-page-start w ↦
          subst Kept (sym w.start-is) (after_free taken pages start page c.loop-page.invariant w.if-is_taken.false (omega arith))
    ]

pub returns-clause-none : goal.returns-clause-none
returns-clause-none c =
    none_left c.args.taken.now c.args.pages c.loop-page.start c.loop-page.page c.loop-page.invariant (omega arith)
