-- The first fault of bytes that are no policy. Which checks there are, and their order, is this project's own.
use Rattle.std.specs.Prelude.{ℕ, zero, suc, ◌+◌, ◌*◌, ◌^◌, Bool, true, false, ◌==◌, ◌&&◌, nat_le, List, [], ◌∷◌, ◌++◌, length, take, drop}
use Rattle.std.specs.Str.{bytes_eq}
use Rattle.courses.specs.FirstCheck.{FailsFirst}
use Rattle.mm_base.specs.Checks.{Check}
use Rattle.mm_base.specs.Numbers.{number_in}
use Rattle.mm_base.specs.declared.policy.PolicyFault.{PolicyFault}
use Rattle.mm_base.specs.declared.policy.PolicyKind.{PolicyKind}
use Rattle.mm_base.specs.declared.policy.PolicyKind.TheVariants.{Short, Magic, Version, Reserved, Count, Fuel, Kind, Action, Rights, Length, Trailing}
use Rattle.policy_blob.specs.Spelling.{signature}

-- how many rules the header says that there are
abbrev pub rule_count : List ℕ → ℕ
rule_count bytes = number_in bytes 8 4

-- the fuel that it says
abbrev pub fuel_said : List ℕ → ℕ
fuel_said bytes = number_in bytes 12 4

-- where the rules end
abbrev pub rules_end : List ℕ → ℕ
rules_end bytes = 16 + 40 * rule_count bytes

-- The checks of the header, in order: its 16 bytes are there; the signature; the version is 1; the reserved field is 0; there are at most
-- 1,024 rules; the fuel is from 1 to 1,000,000; and all rules are there. Bytes that are missing are told at the end.
abbrev pub header_checks : List ℕ → List (Check PolicyKind)
header_checks bytes =
    record { kind = Short; at = length bytes; passes = nat_le 16 (length bytes) }
    ∷ record { kind = Magic; at = 0; passes = bytes_eq (take 4 bytes) signature }
    ∷ record { kind = Version; at = 4; passes = number_in bytes 4 2 == 1 }
    ∷ record { kind = Reserved; at = 6; passes = number_in bytes 6 2 == 0 }
    ∷ record { kind = Count; at = 8; passes = nat_le (rule_count bytes) 1024 }
    ∷ record { kind = Fuel; at = 12; passes = nat_le 1 (fuel_said bytes) && nat_le (fuel_said bytes) 1000000 }
    ∷ record { kind = Short; at = length bytes; passes = nat_le (rules_end bytes) (length bytes) }
    ∷ []

-- the fields of a rule's bytes
abbrev pub kind_said : List ℕ → ℕ
kind_said rule = number_in rule 0 2

abbrev pub action_said : List ℕ → ℕ
action_said rule = number_in rule 2 2

abbrev pub rights_said : List ℕ → ℕ
rights_said rule = number_in rule 4 4

abbrev pub base_said : List ℕ → ℕ
base_said rule = number_in rule 24 8

abbrev pub length_said : List ℕ → ℕ
length_said rule = number_in rule 32 8

-- whether a number is that of a kind
abbrev pub is_kind : ℕ → Bool
is_kind number = nat_le 1 number && nat_le number 4

-- whether rights are those of an action: a rule that allows has the right to read, the right to write or both; one that denies has none
abbrev pub are_rights : Bool → ℕ → Bool
are_rights true rights = nat_le 1 rights && nat_le rights 3
are_rights false rights = rights == 0

-- whether a range isn't empty, and ends at 2 ^ 64 or before
abbrev pub is_range : ℕ → ℕ → Bool
is_range base length = nat_le 1 length && nat_le (base + length) (2 ^ 64)

-- the checks of a rule, whose bytes begin at this place: its kind, its action, its rights and its range, each at its field
abbrev pub rule_checks : ℕ → List ℕ → List (Check PolicyKind)
rule_checks at rule =
    record { kind = Kind; at = at; passes = is_kind (kind_said rule) }
    ∷ record { kind = Action; at = at + 2; passes = nat_le (action_said rule) 1 }
    ∷ record { kind = Rights; at = at + 4; passes = are_rights (action_said rule == 1) (rights_said rule) }
    ∷ record { kind = Length; at = at + 32; passes = is_range (base_said rule) (length_said rule) }
    ∷ []

-- the checks of so many rules, which stand one after another from this place on, each in 40 bytes
abbrev pub checks_of_rules : ℕ → ℕ → List ℕ → List (Check PolicyKind)
checks_of_rules at zero bytes = []
checks_of_rules at (suc n) bytes = rule_checks at (take 40 bytes) ++ checks_of_rules (at + 40) n (drop 40 bytes)

-- the last check: nothing stands behind the rules
abbrev pub last_check : List ℕ → Check PolicyKind
last_check bytes = record { kind = Trailing; at = rules_end bytes; passes = length bytes == rules_end bytes }

-- all checks, in order
unfoldable pub checks : List ℕ → List (Check PolicyKind)
checks bytes = header_checks bytes ++ checks_of_rules 16 (rule_count bytes) (drop 16 bytes) ++ last_check bytes ∷ []

-- The bytes have this fault: it is of the first check that fails, and names its place.
abbrev pub HasFault : List ℕ → PolicyFault → Type 0
HasFault bytes fault = FailsFirst (checks bytes) fault.kind fault.at
