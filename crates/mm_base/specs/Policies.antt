-- Which policies are lawful: the limits of what a platform maker may write into one. They are this project's own.
use Rattle.std.specs.Prelude.{◌≡◌, ℕ, ◌+◌, ◌^◌, ◌≤◌, ◌<◌, Bool, true, false, length, All}
use Rattle.mm_base.specs.Guid.{IsGuid}
use Rattle.mm_base.specs.declared.policy.Policy.{Policy}
use Rattle.mm_base.specs.declared.policy.Rule.{Rule}

-- An allow rule has the right to read, the right to write or both; a deny rule has none.
abbrev pub AreRights : Bool → ℕ → Type 0
AreRights true rights = (1 ≤ rights) × (rights ≤ 3)
AreRights false rights = rights ≡ 0

-- A rule has rights of its action, the GUID of an owner, and a range that isn't empty, has a length of 64 bits, and ends at 2 ^ 64
-- or before.
pub record IsRule (rule : Rule) : Type 0 where
  pub rights : AreRights rule.allow rule.rights
  pub owner : IsGuid rule.owner
  pub some : 1 ≤ rule.range.length
  pub most : rule.range.length < 2 ^ 64
  pub fits : rule.range.base + rule.range.length ≤ 2 ^ 64

-- A policy has at most 1,024 rules, and fuel from 1 to 1,000,000.
pub record IsLawfulPolicy (policy : Policy) : Type 0 where
  pub few : length policy.rules ≤ 1024
  pub some_fuel : 1 ≤ policy.fuel
  pub most_fuel : policy.fuel ≤ 1000000
  pub rules : All IsRule policy.rules
