-- The headline of a world.
use Rattle.mm_base.specs.declared.entry.Outcome.{Outcome}
use Rattle.mm_base.specs.declared.entry.Request.{Request}
use Rattle.comm_core.specs.Headline.{Headline}
use Rattle.comm_core.specs.WorldState.{WorldState, lane_values}

-- the headline of a world's words, lane values, machine, entries and trace
abbrev pub HasHeadline : {M : Type 0} → (M → Request → Outcome × M) → M → WorldState M → Type 0
HasHeadline step machine w = Headline step machine w.words (lane_values w.lanes) w.machine w.entries w.trace
