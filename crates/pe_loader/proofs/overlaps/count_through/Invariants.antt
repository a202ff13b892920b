use Rattle.std.proofs.Common.{◌≡◌, ◌-◌, length}
use Rattle.pe_loader.specs.Sections.{part_of}
use Rattle.pe_loader.proofs.OverlapLemmas.{ApartTo}
use Rattle.pe_loader.proofs.overlaps.count_through.Given as goal

abbrev pub invariant-loop-from : goal.invariant-loop-from
invariant-loop-from l = record {
  apart : ApartTo (part_of l.bytes l.layout) l.count l.first l.from;
  long : length l.marks ≡ length l.fn.marks;
}

abbrev pub decreases-loop-from : goal.decreases-loop-from
decreases-loop-from l = l.limit - l.from
