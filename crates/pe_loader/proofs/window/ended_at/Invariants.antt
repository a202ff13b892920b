use Rattle.pe_loader.specs.LayoutInside.{EndBefore}
use Rattle.pe_loader.proofs.window.ended_at.Given as goal

abbrev pub invariant-loop-k : goal.invariant-loop-k
invariant-loop-k l = EndBefore l.bytes l.layout l.k l.at
