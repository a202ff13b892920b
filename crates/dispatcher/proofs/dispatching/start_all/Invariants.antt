use Rattle.std.proofs.Common.{◌≡◌, ◌++◌, take}
use Rattle.dispatcher.specs.Rounds.{after_starts}
use Rattle.dispatcher.specs.RoundsInside.{started_in}
use Rattle.dispatcher.proofs.dispatching.start_all.Given as goal

abbrev pub invariant-loop-member : goal.invariant-loop-member
invariant-loop-member g l = record {
  items : l.starts ≡ l.fn.starts ++ started_in l.round (take l.member-index l.members);
  after : g.S.Starter.state l.starter ≡ after_starts g.S.Starter.started (started_in l.round (take l.member-index l.members)) (g.S.Starter.state l.fn.starter);
}
