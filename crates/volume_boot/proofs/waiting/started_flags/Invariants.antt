use Rattle.std.proofs.Common.{drop}
use Rattle.volume_boot.proofs.WaitingLemmas.{Marked}
use Rattle.volume_boot.proofs.waiting.started_flags.Given as goal

abbrev pub invariant-loop-start : goal.invariant-loop-start
invariant-loop-start l = Marked l.flags.items l.count (drop l.start-index l.starts) l.starts
