-- What a run of the program writes, for each of its commands.
use Rattle.std.specs.Prelude.{◌≡◌, ℕ, List}
use Rattle.std.specs.declared.option.Option.{Option}
use Rattle.mm_io.specs.Streams.{Appends, AppendsFront}
use Rattle.mm_run.specs.BootRun.{IsBootReport}
use Rattle.mm_run.specs.CheckRun.{IsCheckReport}
use Rattle.mm_run.specs.ScriptRun.{IsScriptReport}
use Rattle.mm_run.specs.ServeRun.{IsServeReport}
use Rattle.mm_run.specs.Sources.{NamedSource, AllRead}
use Rattle.mm_run.specs.declared.command.Command.{Command}
use Rattle.mm_run.specs.declared.command.Command.TheVariants.{Script, Check, Boot, Serve}
use Rattle.mm_run.specs.declared.status.Status.{Status}
use Rattle.mm_run.specs.declared.status.Status.TheVariants.{Done, WriteFault}

-- This is the report of a command for what its sources gave.
abbrev pub IsReport : Command → List (List ℕ) → List ℕ → Type 0
IsReport Script contents text = IsScriptReport contents text
IsReport Check contents text = IsCheckReport contents text
IsReport Boot contents text = IsBootReport contents text
IsReport Serve contents text = IsServeReport contents text

-- Its sources were read to their ends, and this was done with the report of the command for what they gave.
pub record Reports (command : Command) (sources : List NamedSource) (IsDoneWith : List ℕ → Type 0) : Type 0 where
  pub contents : List (List ℕ)
  pub read : AllRead sources contents
  pub text : List ℕ
  pub is : IsReport command contents text
  pub done : IsDoneWith text

-- What was written on this status: the whole text where the run ended well, or a front of it where the sink failed.
pub data Shows (before now : Option (List ℕ)) (status : Status) (text : List ℕ) : Type 0 where
  Whole : status ≡ Done → Appends before now text → Shows before now status text
  Front : status ≡ WriteFault → AppendsFront before now text → Shows before now status text
