-- A message while handlers work on it, what an invocation leaves, and the status that it counts as.
use Rattle.std.specs.Prelude.{ℕ, List, []}
use Rattle.mm_base.specs.Statuses.{access_denied, timeout, aborted, out_of_resources}
use Rattle.mm_base.specs.declared.invocation.Invocation.{Invocation}
use Rattle.mm_base.specs.declared.invocation.Ended.{Ended}
use Rattle.mm_base.specs.declared.invocation.Ended.TheVariants.{Returned, Denied, Fuel, Fault, NoMemory}
use Rattle.supervisor_calls.specs.Tables.{Live}

-- A message while handlers work on it. Its buffer keeps its length, whatever the size becomes.
pub record Message : Type 0 where
  pub buffer : List ℕ
  pub size : ℕ

-- what a root handler is given: no buffer and no size
abbrev pub no_message : Message
no_message = record { buffer = []; size = 0 }

-- what an invocation leaves: how it ended, with its records; the message; and what a step may change
pub record Invoked : Type 0 where
  pub invocation : Invocation
  pub message : Message
  pub live : Live

-- The status that an invocation counts as in its chain: what it returned, or the status for how it was stopped.
abbrev pub status_of : Ended → ℕ
status_of (Returned status) = status
status_of (Denied why at) = access_denied
status_of (Fuel at) = timeout
status_of (Fault kind at) = aborted
status_of (NoMemory refused) = out_of_resources
