-- What a run of the program makes of a volume that it boots.
use Rattle.std.specs.Prelude.{◌≡◌, ℕ, Bool, List, [], ◌∷◌, length, map, Option, Some}
use Rattle.file_words.specs.Catalog.{AreWords}
use Rattle.file_words.specs.declared.file_word.FileWord.{FileWord}
use Rattle.mm_base.specs.declared.policy.Policy.{Policy}
use Rattle.mm_base.specs.declared.volume.Volume.{Volume}
use Rattle.mm_core.specs.Boots.{IsBoot}
use Rattle.mm_core.specs.CoreState.{CoreState}
use Rattle.mm_core.specs.declared.booted.Boot.{Boot}
use Rattle.mm_groups.specs.Closed.{AreAloneClosed}
use Rattle.mm_text.specs.Report.{report_of, nothing_reported}
use Rattle.mm_text.specs.declared.parts.Locked.{Locked}
use Rattle.volume_policy.specs.PolicyFiles.{IsVolumePolicy}
use Rattle.volume_reader.specs.VolumeGrammar.{IsVolume}

-- what a core has at lock: the names of its images in order, and how many handlers and interfaces there are
abbrev pub locked_in : CoreState → Locked
locked_in core = record {
  names = map (λ image. image.name) core.site.supervised.images;
  handlers = length core.site.handlers;
  protocols = length core.site.interfaces.rows;
}

-- the report of a volume, the words of its files, its policy, its boot, and whether the group of each image alone is closed
abbrev pub boot_report : Volume → List FileWord → Option Policy → Boot → List Bool → List ℕ
boot_report volume words policy boot closed =
    report_of (record nothing_reported {
      volume = Some volume;
      words = Some words;
      policy = policy;
      starts = Some boot.starts;
      waiting = Some boot.waiting;
      locked = Some (locked_in boot.core);
      closed = Some closed;
    })

-- This is the report of the boot of the volume that bytes are. No cell holds anything but zeros at the opening.
pub record IsVolumeBootReport (bytes : List ℕ) (volume : Volume) (text : List ℕ) : Type 0 where
  pub words : List FileWord
  pub are : AreWords bytes volume.files words
  pub policy : Option Policy
  pub policy_is : IsVolumePolicy bytes volume.files policy
  pub boot : Boot
  pub is : IsBoot bytes volume.files [] boot
  pub closed : List Bool
  pub closed_are : AreAloneClosed boot.core.site closed
  pub reported : text ≡ boot_report volume words policy boot closed

-- The report of `boot` for what its one source gave: that of the boot of the volume which these bytes are.
pub record IsBootReport (contents : List (List ℕ)) (text : List ℕ) : Type 0 where
  pub bytes : List ℕ
  pub given : contents ≡ bytes ∷ []
  pub volume : Volume
  pub is : IsVolume bytes volume
  pub report : IsVolumeBootReport bytes volume text
