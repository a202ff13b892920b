-- The chain rule of MmiManage: what a handler's status makes of the chain's result, and where the chain stops.
--
-- By PI a handler returns SUCCESS where it handled and quiesced the interrupt, so that no other need be called;
-- SOURCE_QUIESCED where it quiesced it, and SOURCE_PENDING where it is still pending, and others are still to be
-- called; INTERRUPT_PENDING where it could not be quiesced. A chain's result begins as NOT_FOUND. That any other status
-- leaves the result is this project's own rule.
use Rattle.std.specs.Prelude.{ℕ, Bool, if◌then◌else◌, ◌==◌, ◌&&◌, ◌||◌, not}
use Rattle.mm_base.specs.Statuses.{success, interrupt_pending, source_pending, source_quiesced}

-- after these a GUID has been dealt with, well or badly
abbrev pub is_final : ℕ → Bool
is_final status = (status == success) || (status == interrupt_pending)

-- The chain of a GUID stops at the first such status. The root chain never stops, since each of its handlers looks
-- after a source of its own.
abbrev pub stops : Bool → ℕ → Bool
stops root status = not root && is_final status

-- the interrupt was quiesced
abbrev pub is_quiesced : ℕ → Bool
is_quiesced status = (status == success) || (status == source_quiesced)

-- The result after a handler's status: the status itself where it stops the chain; else SUCCESS where the interrupt was
-- quiesced; else SOURCE_PENDING where that is the status and the result is not SUCCESS; else what it was.
abbrev pub result_after : Bool → ℕ → ℕ → ℕ
result_after root so_far status =
    if stops root status then status
    else if is_quiesced status then success
    else if (status == source_pending) && not (so_far == success) then status
    else so_far
