-- A GUID and its text hold the same.
use Rattle.std.specs.Prelude.{◌≡◌, ◌<◌, Some, length, All}
use Rattle.mm_base.specs.declared.guid.Guid.{Guid}
use Rattle.mm_base.specs.Guid.{guid_from_text, guid_text}

-- a GUID is read back from its text
abbrev pub GuidComesBack : Type 0
GuidComesBack =
    (guid : Guid) → length guid.0 ≡ 16 → All (λ byte. byte < 256) guid.0 → guid_from_text (guid_text guid) ≡ Some guid
