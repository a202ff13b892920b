use Rattle.pe_loader.proofs.ApplyLemmas.{Applied}
use Rattle.pe_loader.proofs.applying.apply_entries.Given as goal

abbrev pub invariant-loop-k : goal.invariant-loop-k
invariant-loop-k l = Applied l.fn.out l.out l.difference l.page l.at l.count l.k
