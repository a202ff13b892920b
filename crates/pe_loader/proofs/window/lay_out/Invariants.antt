use Rattle.std.proofs.Common.{◌≡◌, length}
use Rattle.pe_loader.proofs.LoadLemmas.{LaidIn}
use Rattle.pe_loader.proofs.window.lay_out.Given as goal

abbrev pub invariant-loop-k : goal.invariant-loop-k
invariant-loop-k l = record {
  laid : LaidIn l.bytes l.layout l.k l.window.begin l.room;
  long : length l.room ≡ length l.fn.room;
}
