-- No public clause cites this file.
--
-- The parts of an entry step, for a request that is taken for a shape.
use Rattle.std.specs.Prelude.{ℕ, List}
use Rattle.mm_base.specs.declared.entry.Request.{Request}
use Rattle.mm_base.specs.declared.entry.Shape.{Shape}
use Rattle.mm_core.specs.CoreState.{CoreState}
use Rattle.mm_core.specs.EntryStep.{chain_runs, status_as, reply_as}
use Rattle.mm_core.specs.HandlerChain.{live_after}
use Rattle.mm_core.specs.Message.{Invoked}

-- the runs of the GUID's handlers
unfoldable pub chain_in : CoreState → Request → Shape → List Invoked
chain_in core request shape = chain_runs core.site request core.live shape

-- the status of the entry
unfoldable pub status_in : CoreState → Request → Shape → ℕ
status_in core request shape = status_as (chain_in core request shape) shape

-- the reply
unfoldable pub reply_in : CoreState → Request → Shape → List ℕ
reply_in core request shape = reply_as request (chain_in core request shape) shape

-- the core after them
unfoldable pub after_chain : CoreState → Request → Shape → CoreState
after_chain core request shape = record core { live = live_after core.live (chain_in core request shape) }
