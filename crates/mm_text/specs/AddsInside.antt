-- No public clause cites this file.
-- Texts that grow.
use Rattle.std.specs.Prelude.{◌≡◌, ℕ, List, ◌++◌}

-- the new text is the old one with this text behind it
pub record Adds (old text new : List ℕ) : Type 0 where
  pub is : new ≡ old ++ text
