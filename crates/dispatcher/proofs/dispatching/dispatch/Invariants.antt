use Rattle.std.proofs.Common.{◌≡◌}
use Rattle.dispatcher.specs.RoundsInside.{Going}
use Rattle.dispatcher.proofs.dispatching.dispatch.Given as goal

abbrev pub invariant-loop-round : goal.invariant-loop-round
invariant-loop-round g l = record {
  drivers : l.families.drivers.now ≡ l.drivers;
  going : Going g.S.Starter.installed_in g.S.Starter.started l.drivers (g.S.Starter.state l.fn.starter) l.round l.waiting.items l.starts (g.S.Starter.state l.starter);
}
