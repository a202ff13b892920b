-- The law of the headline.
use Rattle.std.specs.Prelude.{List}
use Rattle.mm_base.specs.declared.entry.Outcome.{Outcome}
use Rattle.mm_base.specs.declared.entry.Request.{Request}
use Rattle.comm_core.specs.WorldHeadline.{HasHeadline}
use Rattle.comm_core.specs.WorldPast.{StandsForEvents}
use Rattle.comm_core.specs.WorldState.{WorldState}
use Rattle.comm_core.specs.declared.event.Event.{Event}

-- Every world that stands for any list of events has the headline.
abbrev pub EachHasHeadline : {M : Type 0} → (M → Request → Outcome × M) → Type 0
EachHasHeadline {M} step =
    (machine : M) (events : List Event) (w : WorldState M)
    → StandsForEvents step machine events w
    → HasHeadline step machine w
