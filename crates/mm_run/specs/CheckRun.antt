-- What a run of the program makes of a volume.
use Rattle.std.specs.Prelude.{◌≡◌, ℕ, List, [], ◌∷◌, Option, Some}
use Rattle.mm_base.specs.declared.policy.Policy.{Policy}
use Rattle.mm_base.specs.declared.volume.Volume.{Volume}
use Rattle.volume_reader.specs.VolumeGrammar.{IsVolume}
use Rattle.file_words.specs.Catalog.{AreWords}
use Rattle.file_words.specs.declared.file_word.FileWord.{FileWord}
use Rattle.mm_text.specs.Report.{report_of, nothing_reported}
use Rattle.volume_policy.specs.PolicyFiles.{IsVolumePolicy}

-- the report of a volume and the words of its files
abbrev pub volume_report : Volume → List FileWord → List ℕ
volume_report volume words =
    report_of (record nothing_reported { volume = Some volume; words = Some words })

-- This is the report of the volume that bytes are: its line, and a line for each of its files with the file's word. Its
-- policy is lawful, where it has one.
pub record IsVolumeReport (bytes text : List ℕ) : Type 0 where
  pub volume : Volume
  pub is : IsVolume bytes volume
  pub policy : Option Policy
  pub policy_is : IsVolumePolicy bytes volume.files policy
  pub words : List FileWord
  pub are : AreWords bytes volume.files words
  pub reported : text ≡ volume_report volume words

-- The report of `check` for what its one source gave.
pub record IsCheckReport (contents : List (List ℕ)) (text : List ℕ) : Type 0 where
  pub bytes : List ℕ
  pub given : contents ≡ bytes ∷ []
  pub report : IsVolumeReport bytes text
