use Rattle.std.proofs.Common.{ℕ, ◌+◌, ◌<◌, ◌≤◌}
use Rattle.pe_loader.specs.Sections.{part_of}
use Rattle.pe_loader.specs.LayoutInside.{EndBefore}
use Rattle.pe_loader.proofs.sections.are_in_order.Given as goal

abbrev pub invariant-loop-k : goal.invariant-loop-k
invariant-loop-k l = record {
  ended : EndBefore l.bytes l.layout l.k l.highest;
  order : (i j : ℕ) → i < j → j < l.k → (part_of l.bytes l.layout i).at + (part_of l.bytes l.layout i).length ≤ (part_of l.bytes l.layout j).at;
}
