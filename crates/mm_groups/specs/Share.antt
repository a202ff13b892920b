-- What is left of a request for a group, and the group's share of an outcome. This is this project's own.
use Rattle.std.specs.Prelude.{ℕ, Bool, false, if◌then◌else◌, List, [], filter, Option, Some, None}
use Rattle.std.specs.List.{list_all}
use Rattle.std.specs.Option.{option_map_or}
use Rattle.image_groups.specs.Erasing.{erase, projected_registers}
use Rattle.image_groups.specs.Groups.{Group, is_handler_of}
use Rattle.mm_base.specs.declared.entry.Outcome.{Outcome}
use Rattle.mm_base.specs.declared.entry.Request.{Request}
use Rattle.mm_base.specs.declared.entry.Shape.{Shape}
use Rattle.mm_base.specs.declared.entry.Shape.TheVariants.{BadLength, BadHeader, NoHandler, Dispatched}
use Rattle.mm_base.specs.declared.guid.Guid.{Guid}
use Rattle.mm_base.specs.declared.handler.Handler.{Handler}
use Rattle.mm_base.specs.declared.invocation.Invocation.{Invocation}
use Rattle.mm_core.specs.CoreState.{CoreState, Site}
use Rattle.mm_core.specs.EntryStep.{shape_of}
use Rattle.mmi_registry.specs.Handlers.{chain_of, handler_at}

-- whether the handlers of a GUID are code of the group's images, all of them
abbrev pub is_served_by : Group → Site → Guid → Bool
is_served_by group site guid = list_all (is_handler_of group) (chain_of (Some guid) site.handlers)

-- whether what was taken for this is addressed to the group: dispatched to handlers of its images
abbrev pub is_addressed : Group → Site → Shape → Bool
is_addressed group site BadLength = false
is_addressed group site BadHeader = false
is_addressed group site (NoHandler guid) = false
is_addressed group site (Dispatched guid) = is_served_by group site guid

-- What a group may learn of a request: all of one that is addressed to it, and of any other one that it took place; of the saved registers
-- in both cases those that are granted to it.
abbrev pub projected : Group → Site → Request → Request
projected group site request =
    let saved = projected_registers group site.supervised request.saved in
    if is_addressed group site (shape_of site request)
    then record { lane = request.lane; length = request.length; bytes = request.bytes; saved = saved }
    else record { lane = 0; length = 0; bytes = []; saved = saved }

-- whether an invocation is of a handler that is code of the group's images
abbrev pub is_of_group : Group → List Handler → Invocation → Bool
is_of_group group handlers invocation = option_map_or (is_handler_of group) (handler_at invocation.handler handlers) false

-- those of them that are, in order, with their ends, denials and cell writes
abbrev pub own_invocations : Group → Site → List Invocation → List Invocation
own_invocations group site invocations = filter (is_of_group group site.handlers) invocations

-- what was answered
pub record Answer : Type 0 where
  pub shape : Shape
  pub status : ℕ
  pub reply : List ℕ

-- what a group gets of an outcome: what was answered, where the request was addressed to it, and the invocations of its handlers
pub record Share : Type 0 where
  pub answer : Option Answer
  pub chain : List Invocation
  pub root : List Invocation

abbrev pub share_of : Group → Site → Outcome → Share
share_of group site outcome = record {
  answer = if is_addressed group site outcome.shape
      then Some (record { shape = outcome.shape; status = outcome.status; reply = outcome.reply }) else None;
  chain = own_invocations group site outcome.chain;
  root = own_invocations group site outcome.root;
}

-- a core with all that isn't granted to a group erased
abbrev pub erased_core : Group → CoreState → CoreState
erased_core group core = record { site = core.site; live = erase group core.site.supervised core.live }
