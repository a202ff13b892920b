-- No public clause cites this file.
-- What parts of the reader find.
use Rattle.std.specs.Prelude.{◌≡◌, ℕ, List, take, drop, All}
use Rattle.courses.specs.FirstCheck.{FailsFirst}
use Rattle.mm_base.specs.Checks.{Check}
use Rattle.mm_base.specs.Policies.{IsRule}
use Rattle.mm_base.specs.declared.policy.PolicyFault.{PolicyFault}
use Rattle.mm_base.specs.declared.policy.PolicyKind.{PolicyKind}
use Rattle.mm_base.specs.declared.policy.Rule.{Rule}
use Rattle.policy_blob.specs.Faults.{kind_said, action_said, rights_said, base_said, length_said}
use Rattle.policy_blob.specs.Spelling.{kind_number, action_number, bytes_of_rules}

-- A fault is of the first of these checks that fails.
abbrev pub IsFirstOf : List (Check PolicyKind) → PolicyFault → Type 0
IsFirstOf checks fault = FailsFirst checks fault.kind fault.at

-- A rule says what its bytes say.
pub record Says (bytes : List ℕ) (rule : Rule) : Type 0 where
  pub kind : kind_number rule.kind ≡ kind_said bytes
  pub action : action_number rule.allow ≡ action_said bytes
  pub rights : rule.rights ≡ rights_said bytes
  pub owner : rule.owner.0 ≡ take 16 (drop 8 bytes)
  pub base : rule.range.base ≡ base_said bytes
  pub length : rule.range.length ≡ length_said bytes

-- These are the rules whose bytes are these, each of them lawful.
pub record AreRules (bytes : List ℕ) (rules : List Rule) : Type 0 where
  pub spells : bytes ≡ bytes_of_rules rules
  pub lawful : All IsRule rules
