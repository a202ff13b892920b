use Rattle.std.proofs.Common.{◌≡◌, ◌/◌, ◌%◌, None, sym, ◌∙◌, arith, rules}
use Rattle.image_table.specs.HomeRanges.{Home}
use Rattle.image_table.specs.ImageTable.{home_ranges_at}
use Rattle.mm_core.proofs.EndLemmas.{pair_at, pair_past}
use Rattle.mm_core.proofs.reaching.home_range_end.Goals as goal

pub returns-in_err-range : goal.returns-in_err-range
returns-in_err-range c =
    let none : c.from_residual.result ≡ None = search rules in
    none
    ∙ pair_past (λ (home : Home). home.0) (home_ranges_at c.args.tables.now.site.images c.args.image) c.args.k (c.args.k / 2)
    (c.args.k % 2) (omega arith) (sym c.in_err-range.ensures)

pub returns : goal.returns
returns c =
    sym c.range_end.ensures
    ∙ pair_at (λ (home : Home). home.0) (home_ranges_at c.args.tables.now.site.images c.args.image) c.args.k (c.args.k / 2)
    (c.args.k % 2) _ (omega arith) (omega arith) (sym c.in_ok-range.ensures)
