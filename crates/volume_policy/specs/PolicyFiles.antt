-- The policy of a volume. Where it stands, and what is refused of it, is this project's own; the section type is that of PI 1.8, volume 3.
use Rattle.std.specs.Prelude.{◌≡◌, ◌⊎◌, ℕ, false, true, List, find, Option, Some, None}
use Rattle.file_words.specs.Causes.{is_policy_file}
use Rattle.file_words.specs.Parts.{data_of}
use Rattle.mm_base.specs.declared.policy.Policy.{Policy}
use Rattle.mm_base.specs.declared.policy.PolicyFault.{PolicyFault}
use Rattle.mm_base.specs.declared.policy.PolicyKind.TheVariants as kinds
use Rattle.mm_base.specs.declared.volume.File.{File}
use Rattle.mm_base.specs.declared.volume.Section.{Section}
use Rattle.mm_base.specs.declared.volume.SectionFault.{SectionFault}
use Rattle.policy_blob.specs.Faults.{HasFault}
use Rattle.policy_blob.specs.Spelling.{IsPolicy}
use Rattle.volume_reader.specs.Search.{HasFirstSection}
use Rattle.volume_reader.specs.Sections.{HasRefusedSection}

-- EFI_SECTION_RAW
abbrev pub raw_type : ℕ
raw_type = 0x19

-- the policy file: the first freeform file by the policy's name
abbrev pub policy_file : List File → Option File
policy_file files = find is_policy_file files

-- The bytes of the policy in the policy file: its body is sound, none of its sections is refused, and these are the data of its first raw
-- section.
pub record HasPolicyBytes (bytes : List ℕ) (file : File) (blob : List ℕ) : Type 0 where
  pub sound : file.sound ≡ true
  pub section : Section
  pub first : HasFirstSection bytes file raw_type (Some section)
  pub is : blob ≡ data_of bytes section

-- There are none: its body isn't sound, or one of its sections is refused, or none is raw.
pub data HasNoPolicyBytes (bytes : List ℕ) (file : File) : Type 0 where
  Unsound : file.sound ≡ false → HasNoPolicyBytes bytes file
  BadSection : (fault : SectionFault) → file.sound ≡ true → HasRefusedSection bytes file fault → HasNoPolicyBytes bytes file
  NoRawSection : file.sound ≡ true → HasFirstSection bytes file raw_type None → HasNoPolicyBytes bytes file

-- The policy file has this policy.
pub record IsPolicyInFile (bytes : List ℕ) (file : File) (policy : Policy) : Type 0 where
  pub blob : List ℕ
  pub has : HasPolicyBytes bytes file blob
  pub is : IsPolicy blob policy

-- its bytes have this fault, whose place counts in them
pub record HasFaultInBytes (bytes : List ℕ) (file : File) (fault : PolicyFault) : Type 0 where
  pub blob : List ℕ
  pub has : HasPolicyBytes bytes file blob
  pub fault_is : HasFault blob fault

-- The policy file is refused: it has no bytes of a policy, or those have a fault.
abbrev pub HasFaultInFile : List ℕ → File → PolicyFault → Type 0
HasFaultInFile bytes file fault =
    (HasNoPolicyBytes bytes file × (fault ≡ record { at = 0; kind = kinds.File })) ⊎ HasFaultInBytes bytes file fault

-- The policy of a volume with these files: none where there is no policy file, else that of the policy file.
abbrev pub IsPolicyOfFile : List ℕ → Option File → Option Policy → Type 0
IsPolicyOfFile bytes None policy = policy ≡ None
IsPolicyOfFile bytes (Some file) None = ⊥
IsPolicyOfFile bytes (Some file) (Some policy) = IsPolicyInFile bytes file policy

abbrev pub IsVolumePolicy : List ℕ → List File → Option Policy → Type 0
IsVolumePolicy bytes files policy = IsPolicyOfFile bytes (policy_file files) policy

-- There is a policy file, and it is refused for this.
abbrev pub HasFaultOfFile : List ℕ → Option File → PolicyFault → Type 0
HasFaultOfFile bytes None fault = ⊥
HasFaultOfFile bytes (Some file) fault = HasFaultInFile bytes file fault

abbrev pub HasVolumePolicyFault : List ℕ → List File → PolicyFault → Type 0
HasVolumePolicyFault bytes files fault = HasFaultOfFile bytes (policy_file files) fault
