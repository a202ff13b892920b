use Rattle.std.proofs.Common.{drop}
use Rattle.dispatcher.specs.FamiliesInside.{Taking}
use Rattle.dispatcher.proofs.families.Families.take_round.Given as goal

abbrev pub invariant-loop-place : goal.invariant-loop-place
invariant-loop-place g l =
    Taking (g.I.Installed.installed l.installed) l.self.drivers.now l.place-items (drop l.place-index l.place-items) l.scheduled.items l.still.items
