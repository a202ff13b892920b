-- What the kinds of sources ask of their bytes.
use Rattle.std.specs.Prelude.{◌≡◌, ◌⊎◌, ℕ, Bool, true, false, List}
use Rattle.std.specs.declared.option.Option.{Option}
use Rattle.mm_base.specs.declared.policy.Policy.{Policy}
use Rattle.mm_base.specs.declared.policy.PolicyFault.{PolicyFault}
use Rattle.mm_base.specs.declared.volume.Volume.{Volume}
use Rattle.comm_core.specs.declared.script.Script.{Script}
use Rattle.mm_text.specs.Refusal.{IsFault}
use Rattle.mm_text.specs.ScriptText.{IsScript}
use Rattle.mm_text.specs.declared.text_end.TextFault.{TextFault}
use Rattle.volume_reader.specs.VolumeGrammar.{IsVolume, HasFault}
use Rattle.volume_reader.specs.declared.volume_fault.VolumeFault.{VolumeFault}
use Rattle.volume_policy.specs.PolicyFiles.{IsVolumePolicy, HasVolumePolicyFault}
use Rattle.mm_run.specs.declared.source_kind.SourceKind.{SourceKind}
use Rattle.mm_run.specs.declared.source_kind.SourceKind.TheVariants.{ScriptText, VolumeBytes, EventsText}
use Rattle.mm_run.specs.declared.status.BadKind.TheVariants.{Volume as VolumeIsBad, Policy as PolicyIsBad}
use Rattle.mm_run.specs.declared.status.Status.{Status}
use Rattle.mm_run.specs.declared.status.Status.TheVariants.{BadVolume, BadText}

-- the most bytes that a source of this kind may have
abbrev pub most_of : SourceKind → ℕ
most_of ScriptText = 4194304
most_of VolumeBytes = 16777216
most_of EventsText = 4194304

-- Bytes spell a script, in which handler lines may stand or not.
pub record IsGoodScript (handlers : Bool) (bytes : List ℕ) : Type 0 where
  pub script : Script
  pub is : IsScript handlers bytes script

-- They are refused as a script, and this is the status of the first refused line.
pub record IsBadScript (handlers : Bool) (bytes : List ℕ) (status : Status) : Type 0 where
  pub fault : TextFault
  pub has : IsFault handlers bytes fault
  pub status_is : status ≡ BadText fault.line fault.kind

-- Bytes are a volume, and its policy, where it has one, is lawful.
pub record IsGoodVolume (bytes : List ℕ) : Type 0 where
  pub volume : Volume
  pub is : IsVolume bytes volume
  pub policy : Option Policy
  pub policy_is : IsVolumePolicy bytes volume.files policy

-- They are no volume, and this is the status of their first fault.
pub record IsNoVolume (bytes : List ℕ) (status : Status) : Type 0 where
  pub fault : VolumeFault
  pub has : HasFault bytes fault
  pub status_is : status ≡ BadVolume fault.at (VolumeIsBad fault.kind)

-- They are a volume whose policy has a fault, and this is its status.
pub record HasBadPolicy (bytes : List ℕ) (status : Status) : Type 0 where
  pub volume : Volume
  pub is : IsVolume bytes volume
  pub fault : PolicyFault
  pub has : HasVolumePolicyFault bytes volume.files fault
  pub status_is : status ≡ BadVolume fault.at (PolicyIsBad fault.kind)

-- Bytes are as their kind asks.
abbrev pub IsGoodAs : SourceKind → List ℕ → Type 0
IsGoodAs ScriptText bytes = IsGoodScript true bytes
IsGoodAs VolumeBytes bytes = IsGoodVolume bytes
IsGoodAs EventsText bytes = IsGoodScript false bytes

-- They have a first fault, and this is its status. A volume's own fault comes before that of its policy.
abbrev pub IsFaultyAs : SourceKind → List ℕ → Status → Type 0
IsFaultyAs ScriptText bytes status = IsBadScript true bytes status
IsFaultyAs VolumeBytes bytes status = IsNoVolume bytes status ⊎ HasBadPolicy bytes status
IsFaultyAs EventsText bytes status = IsBadScript false bytes status
