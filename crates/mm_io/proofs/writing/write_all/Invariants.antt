use Rattle.std.proofs.Common.{◌≤◌, ◌-◌, length, take}
use Rattle.mm_io.specs.Streams.{Appends}
use Rattle.mm_io.proofs.writing.write_all.Given as goal

abbrev pub invariant-loop-done : goal.invariant-loop-done
invariant-loop-done g l = record {
  wrote : Appends (g.K.Sink.written l.fn.sink) (g.K.Sink.written l.sink) (take l.done l.bytes);
  within : l.done ≤ length l.bytes;
  later : g.K.Sink.fault_count l.fn.sink ≤ g.K.Sink.fault_count l.sink;
}

abbrev pub decreases-loop-done : goal.decreases-loop-done
decreases-loop-done g l = length l.bytes - l.done
