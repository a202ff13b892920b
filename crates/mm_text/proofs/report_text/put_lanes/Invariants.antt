use Rattle.std.proofs.Common.{◌≡◌, ◌++◌, drop}
use Rattle.mm_text.specs.Report.{lanes_lines}
use Rattle.mm_text.proofs.report_text.put_lanes.Given as goal

-- the text so far, with the lines of the lanes that are left, is the whole text
abbrev pub invariant-loop-l : goal.invariant-loop-l
invariant-loop-l l = l.page ++ lanes_lines l.l (drop l.l l.lanes) ≡ l.fn.page ++ lanes_lines 0 l.lanes
