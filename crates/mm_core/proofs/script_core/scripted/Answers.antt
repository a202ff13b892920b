use Rattle.std.proofs.Common.{arith, length, ap}
use Rattle.mm_core.proofs.ScriptLemmas.{at_first, one_more}
use Rattle.mm_core.proofs.script_core.scripted.Goals as goal

pub loop-handler-init : goal.loop-handler-init
loop-handler-init c = at_first c.args.handlers.now _ _ c.in_ok-registry.ensures c.add_built_in.ensures

pub loop-handler-preserved : goal.loop-handler-preserved
loop-handler-preserved c =
    one_more c.args.handlers.now _ _ c.loop-handler.invariant _ _ _ c.as_slice-handler-items.ensures c.loop-handler-test.true
    c.add_built_in-in-loop-handler.ensures

pub add_built_in-requires-in-loop-handler-clause-few : goal.add_built_in-requires-in-loop-handler-clause-few
add_built_in-requires-in-loop-handler-clause-few c =
    omega (arith, c.loop-handler.invariant.count, c.requires.few, ap length c.as_slice-handler-items.ensures)
