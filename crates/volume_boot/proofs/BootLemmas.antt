-- What a boot leaves, and what it rests on.
use Rattle.std.proofs.Common.{◌≡◌, ℕ, ◌+◌, ◌-◌, ◌^◌, ◌≤◌, ◌<◌, true, List, [], length, map, Option, Some, None, refl, sym, ap, ◌∙◌, subst, arith}
use Rattle.std.specs.List.{All}
use Rattle.std.proofs.lemmas.List.Elements.{All-nil}
use Rattle.dispatcher.specs.Drivers.{NamesDiffer}
use Rattle.dispatcher.specs.declared.driver.Driver.{Driver}
use Rattle.driver_start.specs.Forms.{loadable_of}
use Rattle.driver_start.specs.Hosts.{HostState, IsOpenedWith, opening_host}
use Rattle.driver_start.specs.Starts.{DriverState, Loadable}
use Rattle.file_words.proofs.Offered.{started_differ}
use Rattle.file_words.specs.Catalog.{AreWords}
use Rattle.file_words.specs.CatalogLaws.{started_of}
use Rattle.file_words.specs.declared.file_word.FileWord.{FileWord}
use Rattle.mm_base.specs.Cells.{IsOpening}
use Rattle.mm_base.specs.Policies.{IsLawfulPolicy, IsRule}
use Rattle.mm_base.specs.declared.cells.CellWrite.{CellWrite}
use Rattle.mm_base.specs.declared.policy.Policy.{Policy}
use Rattle.mm_base.specs.declared.volume.File.{File}
use Rattle.mm_base.specs.declared.volume.Volume.{Volume}
use Rattle.volume_boot.specs.Boots.{BootDriver, BootOutcome, IsBootOf, boot_from, numbered_from, policy_or_default}
use Rattle.volume_boot.specs.BootsInside.{AreNumbered, IsKept, IsSound, boot_drivers}
use Rattle.volume_boot.proofs.FewLemmas.{few_files}
use Rattle.volume_boot.proofs.FoundLemmas.{all_sound, are_drivers, are_numbered, kept_length, loadables_are, names_differ, started_few}
use Rattle.volume_policy.specs.PolicyFiles.{IsPolicyOfFile, IsVolumePolicy, policy_file}
use Rattle.volume_reader.specs.VolumeGrammar.{IsVolume}

-- ---- the policy

policy_in_file : (bytes : List ℕ) (found : Option File) (policy : Policy) → IsPolicyOfFile bytes found (Some policy) → IsLawfulPolicy policy
policy_in_file bytes None policy is = absurd (let e : Some policy ≡ None = is in cc)
policy_in_file bytes (Some file) policy is = is.is.lawful

-- the policy of a volume is lawful, and so is the default
pub lawful_policy : (bytes : List ℕ) (files : List File) (policy : Option Policy) → IsVolumePolicy bytes files policy
    → IsLawfulPolicy (policy_or_default policy)
lawful_policy bytes files None is = record { few = omega arith; some_fuel = omega arith; most_fuel = omega arith; rules = All-nil IsRule }
lawful_policy bytes files (Some policy) is = policy_in_file bytes (policy_file files) policy is

-- a host may be opened with it
pub opened_with : (bytes : List ℕ) (files : List File) (policy : Option Policy) → IsVolumePolicy bytes files policy
    → (given : Policy) → given ≡ policy_or_default policy → (cells : List CellWrite) → IsOpening cells → IsOpenedWith given cells
opened_with bytes files policy is given same cells opening =
    record { lawful = subst IsLawfulPolicy (sym same) (lawful_policy bytes files policy is); opening = opening }

-- ---- the whole

-- what is kept of lists is kept of those that they are
pub kept_of : (bytes : List ℕ) (files : List File) (words : List FileWord) (seen : List File) (told : List FileWord) → seen ≡ files → told ≡ words
    → (scheduled : List Driver) (loaded : List DriverState) → IsKept bytes (started_of seen told) scheduled loaded
    → IsKept bytes (started_of files words) scheduled loaded
kept_of bytes files words seen told a b scheduled loaded kept =
    subst (λ (fs : List File). IsKept bytes fs scheduled loaded) (λ i. started_of (a i) (b i)) kept

pub within_of : (bytes : List ℕ) (files seen : List File) → seen ≡ files → All (λ file. file.body_at + file.body ≤ length bytes) files
    → All (λ file. file.body_at + file.body ≤ length bytes) seen
within_of bytes files seen a within = subst (All (λ (file : File). file.body_at + file.body ≤ length bytes)) (sym a) within

pub few_of : (files seen : List File) → seen ≡ files → length files < 2 ^ 32 → length seen < 2 ^ 32
few_of files seen a few = subst (λ (fs : List File). length fs < 2 ^ 32) (sym a) few

module _ (bytes : List ℕ) (volume : Volume) (is : IsVolume bytes volume) (few : length bytes ≤ 16777216) where
  pub volume_few : length volume.files < 2 ^ 32
  volume_few = let most = few_files bytes volume is few in omega (arith, most)

  module _ (words : List FileWord) (are : AreWords bytes volume.files words) (scheduled : List Driver) (loaded : List DriverState)
      (kept : IsKept bytes (started_of volume.files words) scheduled loaded) where
    abbrev boot_drivers_of : List BootDriver
    boot_drivers_of = boot_drivers kept.found

    pub scheduled_few : length scheduled < 2 ^ 32 - 1
    scheduled_few =
        let most = few_files bytes volume is few in
        let long = kept_length bytes (started_of volume.files words) scheduled loaded kept in
        let some = started_few volume.files words in
        omega (arith, most, long, some)

    pub scheduled_differ : NamesDiffer scheduled
    scheduled_differ =
        subst NamesDiffer (sym kept.holds.scheduled_are)
        (names_differ bytes 0 (started_of volume.files words) kept.found kept.are (started_differ bytes volume.files words are))

    pub scheduled_numbered : AreNumbered scheduled
    scheduled_numbered = subst AreNumbered (sym kept.holds.scheduled_are) (are_numbered boot_drivers_of)

    pub loaded_sound : All IsSound loaded
    loaded_sound = subst (All IsSound) (sym kept.holds.loaded_are) (all_sound bytes (started_of volume.files words) kept.found kept.are)

    pub is_boot : (policy : Option Policy) → IsVolumePolicy bytes volume.files policy → (given : Policy) → given ≡ policy_or_default policy
        → (cells : List CellWrite) (host : HostState) → host ≡ opening_host given cells
        → (outcome : BootOutcome) → outcome ≡ boot_from scheduled (map loadable_of loaded) host
        → IsBootOf bytes volume.files cells outcome
    is_boot policy policy_is given same cells host opens outcome comes = record {
      policy = policy;
      policy_is = policy_is;
      words = words;
      words_are = are;
      drivers = boot_drivers_of;
      drivers_are = are_drivers bytes (started_of volume.files words) kept.found kept.are;
      is =
          comes
          ∙ ap (λ (h : HostState). boot_from scheduled (map loadable_of loaded) h) (opens ∙ ap (λ (p : Policy). opening_host p cells) same)
          ∙ ap (λ (ds : List Driver). boot_from ds (map loadable_of loaded) (opening_host (policy_or_default policy) cells)) kept.holds.scheduled_are
          ∙ ap (λ (ls : List DriverState). boot_from (numbered_from 0 boot_drivers_of) (map loadable_of ls) (opening_host (policy_or_default policy) cells))
          kept.holds.loaded_are
          ∙ ap (λ (ls : List Loadable). boot_from (numbered_from 0 boot_drivers_of) ls (opening_host (policy_or_default policy) cells))
          (sym (loadables_are kept.found));
    }
