use Rattle.pe_loader.specs.WindowsInside.{HasNoMark}
use Rattle.pe_loader.proofs.overlaps.has_mark.Given as goal

abbrev pub invariant-loop-place : goal.invariant-loop-place
invariant-loop-place l = HasNoMark l.marks l.span.begin l.place
