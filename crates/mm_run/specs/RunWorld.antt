-- For what a world stands that a run hands out.
use Rattle.std.specs.Prelude.{◌≡◌, ℕ, List}
use Rattle.comm_core.specs.Capture.{trace_of, pieces, pieces_in}
use Rattle.comm_core.specs.WorldPast.{StandsForEvents}
use Rattle.comm_core.specs.WorldState.{WorldState, lane_values}
use Rattle.comm_core.specs.declared.script.Script.{Script}
use Rattle.mm_core.specs.CoreState.{CoreState}
use Rattle.mm_core.specs.EntryStep.{core_step}
use Rattle.mm_run.specs.RunHeadline.{Drives}
use Rattle.mm_run.specs.ScriptRun.{past_of, entries_of, lanes_of}
use Rattle.mm_run.specs.Sources.{NamedSource}
use Rattle.mm_run.specs.declared.command.Command.{Command}

-- The world that is handed out stands for the script's events from that core, so it was driven through every store,
-- ring and action of the script in order. Its trace and the pieces in it are those of the capture trace, and its
-- entries and lane words are those that the definitions give for the script.
pub record StandsForScript (command : Command) (sources : List NamedSource) (world : WorldState CoreState)
    : Type 0 where
  pub script : Script
  pub core : CoreState
  pub drives : Drives command sources script core
  pub stands : StandsForEvents core_step core script.events world
  pub words : world.words ≡ script.words
  pub trace : world.trace ≡ trace_of (past_of core script)
  pub pieces_are : (lane : ℕ) → pieces_in lane world.trace ≡ pieces lane (past_of core script)
  pub entries : world.entries ≡ entries_of core script
  pub lanes : lane_values world.lanes ≡ lanes_of core script
