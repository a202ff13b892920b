-- Numbers as bytes, and what bytes begin with.
use Rattle.std.specs.Prelude.{◌≡◌, ℕ, zero, suc, ◌/◌, ◌%◌, List, [], ◌∷◌, ◌++◌, Option, Some, None}

-- the lowest n bytes of a number, the lowest of them first
unfoldable pub little : ℕ → ℕ → List ℕ
little zero number = []
little (suc n) number = (number % 256) ∷ little n (number / 256)

-- the n bytes of a field, if there is one
abbrev pub field_bytes : ℕ → Option ℕ → List ℕ
field_bytes n None = []
field_bytes n (Some raw) = little n raw

-- Bytes begin with others; what stands after these is free.
pub record BeginsWith (bytes front : List ℕ) : Type 0 where
  pub rest : List ℕ
  pub are : bytes ≡ front ++ rest
