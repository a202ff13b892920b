-- What contracts see of the memory of one entry, which is taken before the entry's first load.
use Rattle.std.specs.Prelude.{ℕ, ◌≤◌, length}
use Rattle.mm_base.specs.declared.entry.Entry.{Entry}
use Rattle.mm_base.specs.Room.{RoomState}

-- The entry so far; the request's bytes while they are captured; and how much the rest may have: the reply in bytes,
-- the invocations of both chains together, and the second buffer for the reply in bytes.
pub record PreparedState : Type 0 where
  pub entry : Entry
  pub captured : RoomState ℕ
  pub reply : ℕ
  pub calls : ℕ
  pub second : ℕ

-- The rooms have place for any outcome of at most this many invocations, whose reply is no longer than the request.
pub record Suffices (most : ℕ) (p : PreparedState) : Type 0 where
  pub calls : most ≤ p.calls
  pub reply : length p.entry.request.bytes ≤ p.reply
  pub second : length p.entry.request.bytes ≤ p.second
