-- Laws of the policy of a volume: a volume has one policy, or none, or its policy file has one fault.
use Rattle.std.specs.Prelude.{◌≡◌, ◌⊎◌, ◌<◌, ℕ, List, All, Option}
use Rattle.mm_base.specs.declared.policy.Policy.{Policy}
use Rattle.mm_base.specs.declared.policy.PolicyFault.{PolicyFault}
use Rattle.mm_base.specs.declared.volume.File.{File}
use Rattle.volume_policy.specs.PolicyFiles.{IsVolumePolicy, HasVolumePolicyFault}

-- It has a policy, or none, or a fault,
abbrev pub PolicyOrFault : Type 0
PolicyOrFault =
    (bytes : List ℕ) (files : List File)
    → All (λ byte. byte < 256) bytes
    → ((policy : Option Policy) × IsVolumePolicy bytes files policy) ⊎ ((fault : PolicyFault) × HasVolumePolicyFault bytes files fault)

-- never both,
abbrev pub NeverBoth : Type 0
NeverBoth =
    (bytes : List ℕ) (files : List File) (policy : Option Policy) (fault : PolicyFault)
    → IsVolumePolicy bytes files policy → HasVolumePolicyFault bytes files fault → ⊥

-- and only one.
abbrev pub OnePolicy : Type 0
OnePolicy =
    (bytes : List ℕ) (files : List File) (one other : Option Policy)
    → IsVolumePolicy bytes files one → IsVolumePolicy bytes files other → one ≡ other

abbrev pub OneFault : Type 0
OneFault =
    (bytes : List ℕ) (files : List File) (one other : PolicyFault)
    → HasVolumePolicyFault bytes files one → HasVolumePolicyFault bytes files other → one ≡ other
