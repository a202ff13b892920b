-- The headline of a run that drove a world through a script.
use Rattle.std.specs.Prelude.{◌≡◌, ℕ, List, Some, None}
use Rattle.std.specs.declared.option.Option.{Option}
use Rattle.mm_base.specs.declared.entry.Entry.{Entry}
use Rattle.comm_core.specs.WorldHeadline.{HasHeadline}
use Rattle.comm_core.specs.WorldState.{WorldState, lane_values}
use Rattle.comm_core.specs.declared.script.Script.{Script}
use Rattle.mm_core.specs.CoreState.{CoreState}
use Rattle.mm_core.specs.EntryStep.{core_step}
use Rattle.mm_run.specs.Run.{Shows}
use Rattle.mm_run.specs.ScriptRun.{core_of, run_report, IsTextOf}
use Rattle.mm_run.specs.ServeRun.{IsEventsOf, IsServedCore, IsServedReport}
use Rattle.mm_run.specs.Sources.{NamedSource, AllRead}
use Rattle.mm_run.specs.declared.command.Command.{Command}
use Rattle.mm_run.specs.declared.command.Command.TheVariants.{Script as ScriptCommand, Check, Boot, Serve}
use Rattle.mm_run.specs.declared.status.Status.{Status}

-- This is the script that a command's sources spell, where it drives a world.
abbrev pub IsScriptOf : Command → List (List ℕ) → Script → Type 0
IsScriptOf ScriptCommand contents script = IsTextOf contents script
IsScriptOf Check contents script = ⊥
IsScriptOf Boot contents script = ⊥
IsScriptOf Serve contents script = IsEventsOf contents script

-- This is the core that its world begins with.
abbrev pub IsCoreOf : Command → List (List ℕ) → Script → CoreState → Type 0
IsCoreOf ScriptCommand contents script core = core ≡ core_of script
IsCoreOf Check contents script core = ⊥
IsCoreOf Boot contents script core = ⊥
IsCoreOf Serve contents script core = IsServedCore contents script core

-- This is the report of a command for what its sources gave, where its world came to these entries and lanes.
abbrev pub IsReportOfWorld : Command → List (List ℕ) → Script → CoreState → List Entry → List (List ℕ) → List ℕ → Type 0
IsReportOfWorld ScriptCommand contents script core entries lanes text = text ≡ run_report entries lanes
IsReportOfWorld Check contents script core entries lanes text = ⊥
IsReportOfWorld Boot contents script core entries lanes text = ⊥
IsReportOfWorld Serve contents script core entries lanes text = IsServedReport contents script core entries lanes text

-- A command's sources were read to their ends; they spell this script, and its world begins with this core.
pub record Drives (command : Command) (sources : List NamedSource) (script : Script) (core : CoreState) : Type 0 where
  pub contents : List (List ℕ)
  pub read : AllRead sources contents
  pub script_is : IsScriptOf command contents script
  pub core_is : IsCoreOf command contents script core

-- The headline of a run, as far as it goes: the world that is handed out has the headline from the core that the
-- command's world begins with, and what was written is the report of this world.
pub record IsHeadlineOf (command : Command) (sources : List NamedSource)
    (before now : Option (List ℕ)) (status : Status) (world : WorldState CoreState) : Type 0 where
  pub script : Script
  pub core : CoreState
  pub drives : Drives command sources script core
  pub says : HasHeadline core_step core world
  pub text : List ℕ
  pub reported : IsReportOfWorld command drives.contents script core world.entries (lane_values world.lanes) text
  pub shown : Shows before now status text

-- there is a world, and this holds of it
abbrev pub OfWorld : (WorldState CoreState → Type 0) → Option (WorldState CoreState) → Type 0
OfWorld Holds None = ⊥
OfWorld Holds (Some world) = Holds world
