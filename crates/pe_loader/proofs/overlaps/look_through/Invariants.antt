use Rattle.std.proofs.Common.{◌≡◌, ◌+◌, length}
use Rattle.pe_loader.specs.Sections.{part_of}
use Rattle.pe_loader.proofs.OverlapLemmas.{Marked}
use Rattle.pe_loader.proofs.overlaps.look_through.Given as goal

abbrev pub invariant-loop-k : goal.invariant-loop-k
invariant-loop-k l = record {
  marked : Marked (part_of l.bytes l.layout) l.marks l.from (l.from + length l.fn.marks) l.k l.next l.limit;
  long : length l.marks ≡ length l.fn.marks;
}
