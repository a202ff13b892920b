use Rattle.std.proofs.Common.{◌++◌, length, reverse}
use Rattle.dispatcher.specs.FamiliesInside.{Doing, costs, listed_for}
use Rattle.dispatcher.specs.Rounds.{family}
use Rattle.dispatcher.proofs.families.Families.schedule.Given as goal

abbrev pub invariant-loop-step : goal.invariant-loop-step
invariant-loop-step l =
    Doing (listed_for l.self.before) (listed_for l.self.after) (length l.self.drivers.now) (reverse l.steps.items) l.scheduled.items
    (l.fn.scheduled.items ++ family (listed_for l.self.before) (listed_for l.self.after) (length l.self.drivers.now) l.fn.member)

abbrev pub decreases-loop-step : goal.decreases-loop-step
decreases-loop-step l =
    costs (listed_for l.self.before) (listed_for l.self.after) (length l.self.drivers.now) (reverse l.steps.items)
