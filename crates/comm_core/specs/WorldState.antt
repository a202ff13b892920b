-- What contracts see of a world: the words and the processors of its lanes, its machine with the entries so far, and
-- the trace.
use Rattle.std.specs.Prelude.{ℕ, List, map}
use Rattle.mm_base.specs.declared.entry.Entry.{Entry}
use Rattle.comm_core.specs.Processor.{ProcessorState}
use Rattle.comm_core.specs.declared.trace.Trace.{Trace}

-- What contracts see of one lane: the values of all its words (the length, the status, and then the data), and its
-- processor.
pub record LaneState : Type 0 where
  pub values : List ℕ
  pub processor : ProcessorState

-- What contracts see of a world: how many data words each of its lanes has, its lanes, its machine, its entries in
-- recorded order, and its trace.
pub record WorldState (M : Type 0) : Type 0 where
  pub words : ℕ
  pub lanes : List LaneState
  pub machine : M
  pub entries : List Entry
  pub trace : List Trace

-- the values of all words of each lane
abbrev pub lane_values : List LaneState → List (List ℕ)
lane_values lanes = map (λ seen. seen.values) lanes
