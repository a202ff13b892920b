use Rattle.std.proofs.Common.{sym}
use Rattle.depex.proofs.WalkLemmas.{goes_on, comes_to_end}
use Rattle.depex.proofs.reading.judge_items.Goals as goal

pub loop-preserved : goal.loop-preserved
loop-preserved c =
    let on = goes_on c.args.bytes.now c.loop.walk c.next_item.new.self c.loop.invariant.bytes c.loop.invariant.under _ (sym c.if-is_some.ensures) c.in_ok-next_item.ensures in
    record { bytes = on.0; under = on.1 }

pub returns-clause-expression : goal.returns-clause-expression
returns-clause-expression c =
    comes_to_end c.args.bytes.now c.loop.walk c.next_item.new.self c.loop.invariant.bytes c.loop.invariant.under _ (sym c.if-is_some.ensures) c.in_ok-next_item.ensures
