-- No public clause cites this file.
--
-- What contracts see of the buffer of an entry.
use Rattle.std.specs.Prelude.{ℕ, List}
use Rattle.mm_core.specs.Message.{Message}

-- the reply so far, the message after it, and how many bytes there is place for in all
pub record BufferState : Type 0 where
  pub front : List ℕ
  pub message : Message
  pub room : ℕ
