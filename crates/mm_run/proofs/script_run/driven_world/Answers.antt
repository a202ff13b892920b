use Rattle.std.proofs.Common.{IfOk, subst}
use Rattle.comm_core.specs.WorldPast.{StandsForEvents}
use Rattle.mm_core.specs.CoreState.{CoreState}
use Rattle.mm_core.specs.EntryStep.{core_step}
use Rattle.mm_run.proofs.script_run.driven_world.Goals as goal

pub returns-clause-stands : goal.returns-clause-stands
returns-clause-stands c =
    let Q : CoreState → Type 0 = λ core. IfOk c.world_from.result (StandsForEvents core_step core c.args.script.now.events) in
    subst Q c.in_ok-core.ensures c.world_from.ensures.stands
