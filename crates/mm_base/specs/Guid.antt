-- GUIDs and their text.
use Rattle.std.specs.Prelude.{◌≡◌, ℕ, List, Option, option_map, Bool, length}
use Rattle.std.specs.Str.{bytes_eq}
use Rattle.uuid.specs.Text.{parsed, hyphenated_text, lower}
use Rattle.uuid.specs.Parts.{swap_fields}
use Rattle.mm_base.specs.declared.guid.Guid.{Guid}

-- The GUID that a text spells, in any form that RFC 9562's readers know. A GUID is stored with its first three
-- fields low byte first, and written with the high byte first.
abbrev pub guid_from_text : List ℕ → Option Guid
guid_from_text text = option_map (λ bytes. record { 0 = swap_fields bytes }) (parsed text)

-- the text of a GUID: 36 bytes, lower case, with hyphens
abbrev pub guid_text : Guid → List ℕ
guid_text guid = hyphenated_text lower (swap_fields guid.0)

-- It has the 16 bytes that each GUID has.
abbrev pub IsGuid : Guid → Type 0
IsGuid guid = length guid.0 ≡ 16

-- whether two GUIDs have the same bytes
abbrev pub same_guid : Guid → Guid → Bool
same_guid a b = bytes_eq a.0 b.0
