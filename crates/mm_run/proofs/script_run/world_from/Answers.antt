use Rattle.std.proofs.Common.{[], List, ◌∙◌, ap, subst, sum_by, arith}
use Rattle.comm_core.specs.WorldPast.{StandsForEvents}
use Rattle.comm_core.specs.WorldReadiness.{rings_in}
use Rattle.comm_core.specs.declared.event.Event.{Event}
use Rattle.mm_core.specs.EntryStep.{core_step}
use Rattle.mm_run.proofs.ScriptLemmas.{all_of_world}
use Rattle.mm_run.proofs.script_run.world_from.Goals as goal

pub drive-requires-clause-there : goal.drive-requires-clause-there
drive-requires-clause-there c =
    all_of_world c.args.script.now _ _ _ c.in_ok-world.ensures.lanes c.in_ok-world.ensures.words c.as_slice.ensures c.requires.events

pub drive-requires-clause-few : goal.drive-requires-clause-few
drive-requires-clause-few c = omega (arith, ap (sum_by rings_in) c.as_slice.ensures, c.requires.rings, c.in_ok-world.ensures.entries)

pub returns-clause-stands : goal.returns-clause-stands
returns-clause-stands c =
    let Q : List Event → Type 0 = λ events. StandsForEvents core_step c.args.core events c.drive.new.world in
    subst Q c.as_slice.ensures (c.in_ok-drive.ensures.stands c.args.core [] c.in_ok-world.ensures.stands)

pub returns-clause-words : goal.returns-clause-words
returns-clause-words c = c.in_ok-drive.ensures.words ∙ c.in_ok-world.ensures.words

pub returns-clause-lanes : goal.returns-clause-lanes
returns-clause-lanes c = c.in_ok-drive.ensures.lanes ∙ c.in_ok-world.ensures.lanes
