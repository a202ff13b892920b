-- The bytes of a policy. The form is this project's own. All numbers stand with the lowest byte first.
use Rattle.std.specs.Prelude.{◌≡◌, ℕ, Bool, true, false, List, ◌++◌, length, codes}
use Rattle.std.specs.Int.{to_le_bytes, w16, w32, w64}
use Rattle.std.specs.List.{flat_map}
use Rattle.mm_base.specs.Policies.{IsLawfulPolicy}
use Rattle.mm_base.specs.declared.access.Kind.{Kind}
use Rattle.mm_base.specs.declared.access.Kind.TheVariants.{Memory, Io, Msr, Saved}
use Rattle.mm_base.specs.declared.policy.Policy.{Policy}
use Rattle.mm_base.specs.declared.policy.Rule.{Rule}

-- the four letters that a policy begins with
abbrev pub signature : List ℕ
signature = codes "MMSP"

-- the number of a kind
abbrev pub kind_number : Kind → ℕ
kind_number Memory = 1
kind_number Io = 2
kind_number Msr = 3
kind_number Saved = 4

-- the number of an action: 0 for a rule that denies, 1 for one that allows
abbrev pub action_number : Bool → ℕ
action_number false = 0
action_number true = 1

-- The 40 bytes of a rule: 2 of its kind, 2 of its action, 4 of its rights, the 16 of its owner's GUID, 8 of the base of its range, and 8
-- of the length.
abbrev pub rule_bytes : Rule → List ℕ
rule_bytes rule =
    to_le_bytes w16 (kind_number rule.kind) ++ to_le_bytes w16 (action_number rule.allow) ++ to_le_bytes w32 rule.rights
    ++ rule.owner.0 ++ to_le_bytes w64 rule.range.base ++ to_le_bytes w64 rule.range.length

-- The 16 bytes in front of the rules: the signature, 2 of the version, which is 1, 2 that are 0, 4 of how many rules there are, and 4 of
-- the fuel.
abbrev pub header_bytes : Policy → List ℕ
header_bytes policy =
    signature ++ to_le_bytes w16 1 ++ to_le_bytes w16 0 ++ to_le_bytes w32 (length policy.rules) ++ to_le_bytes w32 policy.fuel

-- the bytes of rules, one after another
abbrev pub bytes_of_rules : List Rule → List ℕ
bytes_of_rules rules = flat_map rule_bytes rules

-- the bytes of a policy
abbrev pub spelled : Policy → List ℕ
spelled policy = header_bytes policy ++ bytes_of_rules policy.rules

-- The bytes are those of this policy, which is lawful, and nothing stands behind them.
pub record IsPolicy (bytes : List ℕ) (policy : Policy) : Type 0 where
  pub spells : bytes ≡ spelled policy
  pub lawful : IsLawfulPolicy policy
