use Rattle.std.proofs.Common.{ℕ, Some, sym, ap, ◌∙◌}
use Rattle.ebc_decode.specs.Decoding.{length_begun}
use Rattle.ebc_decode.proofs.DecodingLemmas.{length_tells, length_tells_none, tells_none}
use Rattle.ebc_decode.proofs.ToldLemmas.{length_found_at, length_told_at, length_none_at}
use Rattle.ebc_decode.proofs.reading.length.Goals as goal

pub returns-in_err-layout-clause-only : goal.returns-in_err-layout-clause-only
returns-in_err-layout-clause-only c =
    length_none_at c.args.first c.args.second c.of.result _ _ c.of.ensures c.in_err-layout.ensures.only

pub returns-clause-found : goal.returns-clause-found
returns-clause-found c =
    length_found_at c.args.first c.args.second c.of.result c.in_ok-layout.field-0-0 c.in_ok-layout.layout c.length.result
    c.ranges.first.fits c.ranges.second.fits c.of.ensures c.in_ok-layout.ensures.found c.in_ok-layout.ensures.fields
    c.length.ensures

pub returns-clause-only : goal.returns-clause-only
returns-clause-only c =
    length_told_at c.args.first c.args.second c.of.result c.in_ok-layout.field-0-0 c.in_ok-layout.layout c.length.result
    c.of.ensures c.in_ok-layout.ensures.only c.length.ensures

pub returns-in_err-layout-clause-value : goal.returns-in_err-layout-clause-value
returns-in_err-layout-clause-value c =
    tells_none c.from_residual.result (length_begun c.args.first c.args.second) c.from_residual.ensures.0
    (length_tells_none c.args.first c.args.second c.of.result _ c.of.ensures c.in_err-layout.ensures.only)

pub returns-clause-value : goal.returns-clause-value
returns-clause-value c =
    length_tells c.args.first c.args.second c.of.result c.in_ok-layout.field-0-0 c.in_ok-layout.layout c.of.ensures
    c.in_ok-layout.ensures.found c.in_ok-layout.ensures.fields
    ∙ ap (λ (n : ℕ). Some n) (sym c.length.ensures)
