use Rattle.pe_loader.proofs.SectionLemmas.{Scanned}
use Rattle.pe_loader.proofs.sections.first_look.Given as goal

abbrev pub invariant-loop-k : goal.invariant-loop-k
invariant-loop-k l = Scanned l.bytes l.layout l.k l.highest l.ordered
