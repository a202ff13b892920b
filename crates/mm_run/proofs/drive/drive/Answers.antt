use Rattle.std.proofs.Common.{◌++◌, List, take, ◌∙◌, subst}
use Rattle.comm_core.specs.Capture.{course}
use Rattle.comm_core.specs.WorldPast.{StandsAt}
use Rattle.comm_core.specs.WorldReadiness.{entries_asked}
use Rattle.comm_core.specs.declared.event.Event.{Event}
use Rattle.mm_run.proofs.DriveLemmas.{one_more, few_more}
use Rattle.mm_run.proofs.drive.drive.Goals as goal

pub loop-event-preserved : goal.loop-event-preserved
loop-event-preserved g c =
    let inv = c.loop-event.invariant in
    let step = g.M.Machine.stepped in
    let i = c.loop-event.event-index in
    let events = c.args.events.now in
    record {
      stood = λ machine so_far s.
          let P : List Event → Type 0 = λ es. StandsAt step machine (course step machine c.event.new.self.words es) c.event.new.self in
          subst P (one_more so_far events i _ c.loop-event-test.true) (c.in_ok-event.ensures.stands machine (so_far ++ take i events) (inv.stood machine so_far s));
      words = c.event.ensures.words ∙ inv.words;
      lanes = c.event.ensures.lanes ∙ inv.lanes;
      few = few_more events i (entries_asked c.loop-event.world) (entries_asked c.event.new.self) 8192 _ c.loop-event-test.true c.event.ensures.entries inv.few;
    }
