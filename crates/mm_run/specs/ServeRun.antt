-- What a run of the program makes of a volume and a script: the volume is booted with the script's opening cells, and a world is driven
-- through the script's events from the core that the boot leaves.
use Rattle.std.specs.Prelude.{◌≡◌, ℕ, Bool, List, [], ◌∷◌, Option, Some, false}
use Rattle.comm_core.specs.declared.script.Script.{Script}
use Rattle.file_words.specs.Catalog.{AreWords}
use Rattle.file_words.specs.declared.file_word.FileWord.{FileWord}
use Rattle.mm_base.specs.declared.entry.Entry.{Entry}
use Rattle.mm_base.specs.declared.policy.Policy.{Policy}
use Rattle.mm_base.specs.declared.volume.Volume.{Volume}
use Rattle.mm_core.specs.Boots.{IsBoot}
use Rattle.mm_core.specs.CoreState.{CoreState}
use Rattle.mm_core.specs.declared.booted.Boot.{Boot}
use Rattle.mm_groups.specs.Closed.{AreAloneClosed}
use Rattle.mm_text.specs.Report.{report_of, nothing_reported}
use Rattle.mm_text.specs.ScriptText.{IsScript}
use Rattle.mm_run.specs.BootRun.{locked_in}
use Rattle.mm_run.specs.ScriptRun.{entries_of, lanes_of}
use Rattle.volume_policy.specs.PolicyFiles.{IsVolumePolicy}
use Rattle.volume_reader.specs.VolumeGrammar.{IsVolume}

-- What `serve` is given is a volume and the text of this script, which has no handler lines.
pub record IsEventsOf (contents : List (List ℕ)) (script : Script) : Type 0 where
  pub bytes : List ℕ
  pub events : List ℕ
  pub given : contents ≡ bytes ∷ events ∷ []
  pub says : IsScript false events script

-- a volume that was booted: what it is, the words of its files, its policy, its boot, and whether the group of each image alone is closed
pub record Booting : Type 0 where
  pub volume : Volume
  pub words : List FileWord
  pub policy : Option Policy
  pub boot : Boot
  pub closed : List Bool

-- The volume in these bytes was booted so, with the opening cells of a script.
pub record BootsFor (bytes : List ℕ) (script : Script) (booting : Booting) : Type 0 where
  pub is : IsVolume bytes booting.volume
  pub words_are : AreWords bytes booting.volume.files booting.words
  pub policy_is : IsVolumePolicy bytes booting.volume.files booting.policy
  pub boot_is : IsBoot bytes booting.volume.files script.opening.cells booting.boot
  pub closed_are : AreAloneClosed booting.boot.core.site booting.closed

-- the report of a volume that was booted, and of entries and lanes
abbrev pub served_report : Booting → List Entry → List (List ℕ) → List ℕ
served_report booting entries lanes =
    report_of (record nothing_reported {
      volume = Some booting.volume;
      words = Some booting.words;
      policy = booting.policy;
      starts = Some booting.boot.starts;
      waiting = Some booting.boot.waiting;
      locked = Some (locked_in booting.boot.core);
      closed = Some booting.closed;
      entries = Some entries;
      lanes = Some lanes;
    })

-- What `serve` is given is this volume and a script, and the volume was booted so.
pub record AreServed (contents : List (List ℕ)) (script : Script) (booting : Booting) : Type 0 where
  pub bytes : List ℕ
  pub events : List ℕ
  pub given : contents ≡ bytes ∷ events ∷ []
  pub says : IsScript false events script
  pub boots : BootsFor bytes script booting

-- The core that a world of `serve` begins with is that which the boot of the volume left.
pub record IsServedCore (contents : List (List ℕ)) (script : Script) (core : CoreState) : Type 0 where
  pub booting : Booting
  pub served : AreServed contents script booting
  pub is : core ≡ booting.boot.core

-- The report of `serve` where its world began with this core and came to these entries and lanes.
pub record IsServedReport (contents : List (List ℕ)) (script : Script) (core : CoreState) (entries : List Entry) (lanes : List (List ℕ))
    (text : List ℕ) : Type 0 where
  pub booting : Booting
  pub served : AreServed contents script booting
  pub is : core ≡ booting.boot.core
  pub reported : text ≡ served_report booting entries lanes

-- The report of `serve` for what its sources gave: that of the boot of the volume, and of the script from the core that the boot left.
pub record IsServeReport (contents : List (List ℕ)) (text : List ℕ) : Type 0 where
  pub script : Script
  pub booting : Booting
  pub served : AreServed contents script booting
  pub reported : text ≡ served_report booting (entries_of booting.boot.core script) (lanes_of booting.boot.core script)
