-- Laws of policies: bytes are one policy, or have one fault, and not both; and a policy has one spelling.
use Rattle.std.specs.Prelude.{◌≡◌, ◌⊎◌, ◌<◌, ℕ, List, All}
use Rattle.mm_base.specs.Policies.{IsLawfulPolicy}
use Rattle.mm_base.specs.declared.policy.Policy.{Policy}
use Rattle.mm_base.specs.declared.policy.PolicyFault.{PolicyFault}
use Rattle.policy_blob.specs.Faults.{HasFault}
use Rattle.policy_blob.specs.Spelling.{IsPolicy, spelled}

-- bytes are a policy, or have a fault
abbrev pub PolicyOrFault : Type 0
PolicyOrFault =
    (bytes : List ℕ)
    → All (λ byte. byte < 256) bytes
    → ((policy : Policy) × IsPolicy bytes policy) ⊎ ((fault : PolicyFault) × HasFault bytes fault)

-- and never both
abbrev pub NeverBoth : Type 0
NeverBoth = (bytes : List ℕ) (policy : Policy) (fault : PolicyFault) → IsPolicy bytes policy → HasFault bytes fault → ⊥

-- they are one policy at most, and have one fault at most
abbrev pub OnePolicy : Type 0
OnePolicy = (bytes : List ℕ) (one other : Policy) → IsPolicy bytes one → IsPolicy bytes other → one ≡ other

abbrev pub OneFault : Type 0
OneFault = (bytes : List ℕ) (one other : PolicyFault) → HasFault bytes one → HasFault bytes other → one ≡ other

-- A lawful policy has bytes, and no others.
abbrev pub HasBytes : Type 0
HasBytes = (policy : Policy) → IsLawfulPolicy policy → IsPolicy (spelled policy) policy

abbrev pub OneSpelling : Type 0
OneSpelling = (one other : List ℕ) (policy : Policy) → IsPolicy one policy → IsPolicy other policy → one ≡ other
