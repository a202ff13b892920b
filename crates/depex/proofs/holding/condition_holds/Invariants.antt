use Rattle.std.proofs.Common.{drop}
use Rattle.depex.proofs.WorkLemmas.{Working}
use Rattle.depex.proofs.holding.condition_holds.Given as goal

abbrev pub invariant-loop-item : goal.invariant-loop-item
invariant-loop-item g l = Working (g.I.Installed.installed l.installed) l.items (drop l.item-index l.items) l.operands
