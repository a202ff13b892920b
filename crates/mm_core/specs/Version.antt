-- The version handler, which is this project's own: the GUID that it is registered for, and the number that it answers.
use Rattle.std.specs.Prelude.{ℕ, [], ◌∷◌}
use Rattle.mm_base.specs.declared.guid.Guid.{Guid}

-- 4d4d5631-0001-4000-8000-000000000001, as it is stored
abbrev pub version_guid : Guid
version_guid = record {
  0 = 0x31 ∷ 0x56 ∷ 0x4d ∷ 0x4d ∷ 0x01 ∷ 0 ∷ 0 ∷ 0x40 ∷ 0x80 ∷ 0 ∷ 0 ∷ 0 ∷ 0 ∷ 0 ∷ 0 ∷ 0x01 ∷ [];
}

-- 10008 (hexadecimal), which is this project's own word for PI 1.8
abbrev pub version_number : ℕ
version_number = 0x10008
