-- No public clause cites this file.
-- What the private functions of a run make of the bytes of a source.
use Rattle.std.specs.Prelude.{◌≡◌, ◌⊎◌, ℕ, Bool, List, true, Option, Some, None, slice_get}
use Rattle.mm_base.specs.End.{out_of_memory}
use Rattle.file_words.specs.declared.file_word.FileWord.{FileWord}
use Rattle.mm_base.specs.declared.policy.Policy.{Policy}
use Rattle.mm_base.specs.declared.volume.Volume.{Volume}
use Rattle.comm_core.specs.Capture.{trace_of}
use Rattle.comm_core.specs.WorldPast.{StandsForEvents}
use Rattle.comm_core.specs.WorldState.{WorldState, lane_values}
use Rattle.comm_core.specs.declared.script.Script.{Script}
use Rattle.mm_core.specs.CoreState.{CoreState}
use Rattle.mm_core.specs.EntryStep.{core_step}
use Rattle.mm_core.specs.declared.booted.Boot.{Boot as BootValue}
use Rattle.mm_groups.specs.Closed.{AreAloneClosed}
use Rattle.mm_text.specs.ScriptText.{IsScript}
use Rattle.volume_reader.specs.VolumeGrammar.{IsVolume}
use Rattle.mm_run.specs.BootRun.{IsVolumeBootReport, boot_report}
use Rattle.mm_run.specs.CheckRun.{IsVolumeReport}
use Rattle.mm_run.specs.ScriptRun.{core_of, past_of, entries_of, lanes_of, report_for}
use Rattle.mm_run.specs.SourceKinds.{IsFaultyAs}
use Rattle.mm_run.specs.Sources.{NamedSource, Seen, source, sources, sources_of, WasRead}
use Rattle.mm_run.specs.declared.command.Command.{Command}
use Rattle.mm_run.specs.declared.command.Command.TheVariants.{Script as ScriptCommand, Check, Boot, Serve}
use Rattle.mm_run.specs.declared.made.Made.{Made}
use Rattle.mm_run.specs.declared.source_kind.SourceKind.{SourceKind}
use Rattle.mm_run.specs.declared.source_kind.SourceKind.TheVariants.{ScriptText, VolumeBytes}
use Rattle.mm_run.specs.declared.status.Status.{Status}
use Rattle.mm_run.specs.declared.status.Status.TheVariants.{NoMemory}
use Rattle.mm_run.specs.declared.status.Which.TheVariants.{First}

-- the kind of the one source that a command has; of `serve`, of the first
abbrev pub one_kind : Command → SourceKind
one_kind ScriptCommand = ScriptText
one_kind Check = VolumeBytes
one_kind Boot = VolumeBytes
one_kind Serve = VolumeBytes

-- that source
abbrev pub one_source : Command → Seen → NamedSource
one_source command seen = source First (one_kind command) seen

-- A world was driven through a script from this core, and this is its report.
pub record IsDriven (core : CoreState) (script : Script) (world : WorldState CoreState) (text : List ℕ) : Type 0 where
  pub stands : StandsForEvents core_step core script.events world
  pub words : world.words ≡ script.words
  pub trace : world.trace ≡ trace_of (past_of core script)
  pub entries : world.entries ≡ entries_of core script
  pub lanes : lane_values world.lanes ≡ lanes_of core script
  pub reported : text ≡ report_for core script

-- What was made of a script: a world that was driven through it from its core, and its report.
pub record IsDrivenBy (script : Script) (made : Made) : Type 0 where
  pub world : WorldState CoreState
  pub there : made.world ≡ Some world
  pub driven : IsDriven (core_of script) script world made.text

-- What was made of the bytes of a script.
pub record IsMadeOfScript (bytes : List ℕ) (made : Made) : Type 0 where
  pub script : Script
  pub says : IsScript true bytes script
  pub by_script : IsDrivenBy script made

-- What was made of the bytes of a volume: its report, and no world.
pub record IsMadeOfVolume (bytes : List ℕ) (made : Made) : Type 0 where
  pub none : made.world ≡ None
  pub report : IsVolumeReport bytes made.text

-- This is the report of the boot of the volume that bytes are.
pub record IsReportOfBoot (bytes text : List ℕ) : Type 0 where
  pub volume : Volume
  pub is : IsVolume bytes volume
  pub report : IsVolumeBootReport bytes volume text

-- This is the report of a boot of a volume, with what is known of it, and with whether the group of each of its images alone is closed.
pub record IsBootText (volume : Volume) (words : List FileWord) (policy : Option Policy) (boot : BootValue) (text : List ℕ) : Type 0 where
  pub closed : List Bool
  pub closed_are : AreAloneClosed boot.core.site closed
  pub reported : text ≡ boot_report volume words policy boot closed

-- What was made of the bytes of a volume that is booted: the report of its boot, and no world.
pub record IsMadeOfBoot (bytes : List ℕ) (made : Made) : Type 0 where
  pub none : made.world ≡ None
  pub report : IsReportOfBoot bytes made.text

-- What was made of the bytes of a command's one source.
abbrev pub IsMadeOf : Command → List ℕ → Made → Type 0
IsMadeOf ScriptCommand bytes made = IsMadeOfScript bytes made
IsMadeOf Check bytes made = IsMadeOfVolume bytes made
IsMadeOf Boot bytes made = IsMadeOfBoot bytes made
IsMadeOf Serve bytes made = ⊥

-- What was made of a source that was read to its end.
pub record IsMade (command : Command) (seen : Seen) (made : Made) : Type 0 where
  pub bytes : List ℕ
  pub read : WasRead (one_source command seen) bytes
  pub of_bytes : IsMadeOf command bytes made

-- The bytes of a source have a fault with this status, or memory was refused.
abbrev pub RefusesBytes : SourceKind → List ℕ → Status → Type 0
RefusesBytes kind bytes status = IsFaultyAs kind bytes status ⊎ (status ≡ NoMemory out_of_memory)

-- A command has one source.
abbrev pub HasOneSource : Command → Type 0
HasOneSource command = slice_get (sources_of command) 1 ≡ None

-- the two sources of `serve`
abbrev pub both_sources : Seen → Seen → List NamedSource
both_sources first second = sources (sources_of Serve) first second
