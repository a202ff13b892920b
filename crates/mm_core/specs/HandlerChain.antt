-- A chain of handlers, as MmiManage calls them (PI 1.8, volume 4): in order of registration, each with the message that
-- the one before left.
use Rattle.std.specs.Prelude.{ℕ, Bool, if◌then◌else◌, List, [], ◌∷◌, map, find, unwrap_or}
use Rattle.mm_base.specs.declared.cells.Saved.{Saved}
use Rattle.mm_base.specs.declared.handler.Handler.{Handler}
use Rattle.mm_base.specs.declared.invocation.Invocation.{Invocation}
use Rattle.mmi_registry.specs.ChainRule.{is_final, stops}
use Rattle.mmi_registry.specs.ChainLaws.{best_of}
use Rattle.mm_core.specs.CoreState.{Site}
use Rattle.mm_core.specs.Invoked.{invoked}
use Rattle.mm_core.specs.Message.{Message, Invoked, no_message, status_of}
use Rattle.supervisor_calls.specs.Tables.{Live}

-- What handlers leave, one after another, if none stops the chain. A root handler is given no message, and none of
-- another.
abbrev pub runs_of : Bool → Site → Saved → List Handler → Message → Live → List Invoked
runs_of root site saved [] message live = []
runs_of root site saved (handler ∷ handlers) message live =
    let run = invoked site saved handler (if root then no_message else message) live in
    run ∷ runs_of root site saved handlers run.message run.live

-- the runs up to the first whose status stops the chain, and that one
abbrev pub through_stop : Bool → List Invoked → List Invoked
through_stop root [] = []
through_stop root (run ∷ runs) =
    run ∷ (if stops root (status_of run.invocation.ended) then [] else through_stop root runs)

-- the invocations of runs, and the statuses that they count as
abbrev pub invocations_of : List Invoked → List Invocation
invocations_of runs = map (λ run. run.invocation) runs

abbrev pub statuses_of : List Invoked → List ℕ
statuses_of runs = map (λ run. status_of run.invocation.ended) runs

-- What the chain of a GUID comes to: the first SUCCESS or INTERRUPT_PENDING, and where there is none the best that any
-- of its handlers says.
abbrev pub result_of : List Invoked → ℕ
result_of runs = unwrap_or (find is_final (statuses_of runs)) (best_of (statuses_of runs))

-- the message that runs leave of this one
abbrev pub message_after : Message → List Invoked → Message
message_after message [] = message
message_after message (run ∷ runs) = message_after run.message runs

-- what runs leave of what a step may change
abbrev pub live_after : Live → List Invoked → Live
live_after live [] = live
live_after live (run ∷ runs) = live_after run.live runs
