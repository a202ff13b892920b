use Rattle.std.proofs.Common.{◌≡◌, ◌≤◌, ◌-◌, length}
use Rattle.mm_io.specs.Streams.{Gives}
use Rattle.mm_io.proofs.reading.read_all.Given as goal

abbrev pub invariant-loop-bytes : goal.invariant-loop-bytes
invariant-loop-bytes g l = record {
  gave : Gives (g.S.Source.left l.fn.source) (g.S.Source.left l.source) l.bytes;
  later : g.S.Source.fault_count l.fn.source ≤ g.S.Source.fault_count l.source;
  block : length l.block ≡ 4096;
  most : l.most ≡ l.fn.limit;
  fits : length l.bytes ≤ l.most;
}

abbrev pub decreases-loop-bytes : goal.decreases-loop-bytes
decreases-loop-bytes g l = l.most - length l.bytes
