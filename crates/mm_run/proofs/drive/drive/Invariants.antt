use Rattle.std.proofs.Common.{◌≡◌, ◌+◌, ◌≤◌, ◌++◌, List, length, take, drop, sum_by}
use Rattle.comm_core.specs.WorldPast.{StandsForEvents}
use Rattle.comm_core.specs.WorldReadiness.{entries_asked, rings_in}
use Rattle.comm_core.specs.declared.event.Event.{Event}
use Rattle.mm_run.proofs.drive.drive.Given as goal

-- the world stands for what it stood for and the events so far, and has a place for an entry of each ring that is left
abbrev pub invariant-loop-event : goal.invariant-loop-event
invariant-loop-event g l = record {
  stood : (machine : _) (so_far : List Event) → StandsForEvents g.M.Machine.stepped machine so_far l.fn.world → StandsForEvents g.M.Machine.stepped machine (so_far ++ take l.event-index l.events) l.world;
  words : l.world.words ≡ l.fn.world.words;
  lanes : length l.world.lanes ≡ length l.fn.world.lanes;
  few : entries_asked l.world + sum_by rings_in (drop l.event-index l.events) ≤ 8192;
}
