use Rattle.std.proofs.Common.{◌≡◌, ◌+◌, ◌-◌, true, false, rules, arith, tests}
use Rattle.std.proofs.lemmas.Iterator.{cases_from_all, YieldsList-from_slice}
use Rattle.page_runs.proofs.PartLemmas.{part, all_of_part}
use Rattle.page_runs.proofs.run_map.all_set.Goals as goal

pub returns-then-end-taken : goal.returns-then-end-taken
returns-then-end-taken c =
    let taken = c.args.taken.now in
    let start = c.args.start in
    let pages = c.args.pages in
    all_of_part taken start pages (start + pages - start) (omega arith) (omega arith) _
    (cases_from_all _ _ _ (λ x. x ≡ true) (λ x. x ≡ false) c.all.ensures.ran
    (YieldsList-from_slice (part taken start pages (start + pages - start) (omega arith) (omega arith)) cc)
    (λ x q k. search (rules, tests)) (λ x q k. search (rules, tests)))
