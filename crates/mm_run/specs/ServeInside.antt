-- No public clause cites this file.
-- What the private functions of `serve` make of a volume and a script.
use Rattle.std.specs.Prelude.{◌≡◌, ℕ, List, length, Option, Some, false}
use Rattle.comm_core.specs.WorldState.{WorldState, lane_values}
use Rattle.comm_core.specs.declared.script.Script.{Script}
use Rattle.mm_base.specs.declared.entry.Entry.{Entry}
use Rattle.mm_base.specs.declared.policy.Policy.{Policy}
use Rattle.mm_base.specs.declared.volume.Volume.{Volume}
use Rattle.mm_core.specs.CoreState.{CoreState}
use Rattle.mm_text.specs.Report.{report_of, nothing_reported}
use Rattle.mm_text.specs.ScriptText.{IsScript}
use Rattle.mm_run.specs.RunInside.{IsDriven}
use Rattle.mm_run.specs.ScriptRun.{run_report}
use Rattle.mm_run.specs.ServeRun.{Booting, BootsFor, served_report}
use Rattle.mm_run.specs.Sources.{Seen, source, WasRead}
use Rattle.mm_run.specs.declared.made.Made.{Made}
use Rattle.mm_run.specs.declared.serve_run.BootParts.{BootParts}
use Rattle.mm_run.specs.declared.source_kind.SourceKind.TheVariants.{VolumeBytes, EventsText}
use Rattle.mm_run.specs.declared.status.Which.TheVariants.{First, Second}

-- the report of a boot that is told so, and of entries and lanes
abbrev pub parts_report : Volume → Option Policy → BootParts → List Entry → List (List ℕ) → List ℕ
parts_report volume policy parts entries lanes =
    report_of (record nothing_reported {
      volume = Some volume;
      words = Some parts.words;
      policy = policy;
      starts = Some parts.starts;
      waiting = Some parts.waiting;
      locked = Some parts.locked;
      closed = Some parts.closed;
      entries = Some entries;
      lanes = Some lanes;
    })

-- This core was left by a boot of a volume with the opening cells of a script, and these parts tell of it.
pub record IsBootedFor (bytes : List ℕ) (volume : Volume) (policy : Option Policy) (script : Script) (core : CoreState)
    (parts : BootParts) : Type 0 where
  pub booting : Booting
  pub boots : BootsFor bytes script booting
  pub each : length parts.words ≡ length volume.files
  pub flags : length parts.closed ≡ length parts.locked.names
  pub core_is : core ≡ booting.boot.core
  pub told : (entries : List Entry) (lanes : List (List ℕ))
      → parts_report volume policy parts entries lanes ≡ served_report booting entries lanes

-- A world was driven through a script from a core, and this is its report with what is told of the boot.
pub record IsDrivenFrom (core : CoreState) (script : Script) (volume : Volume) (policy : Option Policy) (parts : BootParts) (made : Made)
    : Type 0 where
  pub world : WorldState CoreState
  pub there : made.world ≡ Some world
  pub driven : IsDriven core script world (run_report world.entries (lane_values world.lanes))
  pub reported : made.text ≡ parts_report volume policy parts world.entries (lane_values world.lanes)

-- What was made of a volume that was booted and of a script: a world that was driven through the script from the core that the boot left,
-- and the report of both.
pub record IsServedBy (bytes : List ℕ) (script : Script) (made : Made) : Type 0 where
  pub booting : Booting
  pub boots : BootsFor bytes script booting
  pub world : WorldState CoreState
  pub there : made.world ≡ Some world
  pub driven : IsDriven booting.boot.core script world (run_report world.entries (lane_values world.lanes))
  pub reported : made.text ≡ served_report booting world.entries (lane_values world.lanes)

-- What was made of the bytes of a volume and of the second source, which was read to its end.
pub record IsMadeWith (bytes : List ℕ) (second : Seen) (made : Made) : Type 0 where
  pub events : List ℕ
  pub read : WasRead (source Second EventsText second) events
  pub script : Script
  pub says : IsScript false events script
  pub served : IsServedBy bytes script made

-- What was made of both sources.
pub record IsMadeOfBoth (first second : Seen) (made : Made) : Type 0 where
  pub bytes : List ℕ
  pub read : WasRead (source First VolumeBytes first) bytes
  pub whole : IsMadeWith bytes second made
