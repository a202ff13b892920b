-- No public clause cites this file.
-- An instruction's bytes as two bytes and up to two fields.
use Rattle.std.specs.Prelude.{ℕ, ◌+◌, ◌*◌, ◌^◌, ◌<◌, List, [], ◌∷◌, ◌++◌, Option, Some, None}
use Rattle.ebc_decode.specs.declared.operand.FieldWidth.{FieldWidth}
use Rattle.ebc_decode.specs.declared.operand.Field.{Field}
use Rattle.ebc_decode.specs.declared.writing.Parts.{Parts}
use Rattle.ebc_decode.specs.Bytes.{little}
use Rattle.ebc_decode.specs.Spelling.{bytes_in}

-- the bytes of a field with its width, if it is there
abbrev pub bytes_of_field : Option Field → List ℕ
bytes_of_field None = []
bytes_of_field (Some field) = little (bytes_in field.width) field.raw

-- A field fits its width.
abbrev pub Fits : Option Field → Type 0
Fits None = Unit {0}
Fits (Some field) = field.raw < 256 ^ bytes_in field.width

-- the bytes of the parts
abbrev pub bytes_of_parts : Parts → List ℕ
bytes_of_parts parts = parts.first ∷ parts.second ∷ (bytes_of_field parts.one ++ bytes_of_field parts.other)

-- Both fields fit their widths.
pub record AllFit (parts : Parts) : Type 0 where
  pub one : Fits parts.one
  pub other : Fits parts.other

-- how many bytes a field has, and its number, 0 where it isn't there
abbrev pub field_size : Option Field → ℕ
field_size None = 0
field_size (Some field) = bytes_in field.width

abbrev pub field_number : Option Field → ℕ
field_number None = 0
field_number (Some field) = field.raw

-- the number that two fields spell
abbrev pub joined_number : Option Field → Option Field → ℕ
joined_number one other = field_number one + 256 ^ field_size one * field_number other

-- a field of this width, if it is there
abbrev pub field_if : FieldWidth → Option ℕ → Option Field
field_if width None = None
field_if width (Some raw) = Some (record { width = width; raw = raw })
