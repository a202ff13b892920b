use Rattle.std.proofs.Common.{ℕ, ◌+◌, ◌≡◌, Vec, length, get_or, drop, sym, ap, subst}
use Rattle.std.specs.declared.alloc.Global.{Global}
use Rattle.dispatcher.specs.FamiliesInside.{Fits, Taking, listed_for}
use Rattle.dispatcher.specs.declared.driver.Member.{Member}
use Rattle.dispatcher.proofs.TakingLemmas.{at_place, first_place, family_put, scheduled_fits, stays, taken}
use Rattle.dispatcher.proofs.families.Families.take_round.Goals as goal
use Rattle.dispatcher.proofs.families.Families.take_round.Goals.{then-condition_holds+in_ok-schedule, else-condition_holds+in_ok-push}

pub schedule-requires : goal.schedule-requires
schedule-requires g c =
    let self = c.args.self.now in
    let drivers = self.drivers.now in
    let items = c.as_slice-place-items.result.now in
    let driver = get_or drivers (get_or items c.loop-place.place-index 0) c.index-self-place.result in
    let is : driver ≡ get_or drivers (get_or items c.loop-place.place-index 0) driver =
    ap (get_or drivers (get_or items c.loop-place.place-index 0)) c.index-self-place.is in
    let here = at_place drivers c.args.waiting.now.items items c.loop-place.place-index driver c.as_slice-place-items.ensures.value c.requires.each c.loop-place-test.true is in
    subst (Fits (listed_for self.before) (listed_for self.after) (length drivers)) (sym c.member.ensures)
    (scheduled_fits drivers self.before self.after self.before_tells self.after_tells c.requires.names (get_or items c.loop-place.place-index 0) driver here.0 here.1)

pub loop-place-preserved : goal.loop-place-preserved
loop-place-preserved g c =
    let self = c.args.self.now in
    let drivers = self.drivers.now in
    let installed = g.I.Installed.installed c.args.installed.now in
    let items = c.as_slice-place-items.result.now in
    let index = c.loop-place.place-index in
    let place = get_or items index 0 in
    let driver = get_or drivers (get_or items c.loop-place.place-index 0) c.index-self-place.result in
    let is : driver ≡ get_or drivers (get_or items c.loop-place.place-index 0) driver =
    ap (get_or drivers (get_or items c.loop-place.place-index 0)) c.index-self-place.is in
    let here = at_place drivers c.args.waiting.now.items items index driver c.as_slice-place-items.ensures.value c.requires.each c.loop-place-test.true is in
    let first = first_place items index c.loop-place-test.true in
    let scheduled = c.loop-place.scheduled.items in
    let still = c.loop-place.still.items in
    let later = drop (index + 1) items in
    elim c.if-condition_holds.branch [
      | then-condition_holds+in_ok-schedule w ↦
          subst (λ (places : Vec ℕ Global). Taking installed drivers items later c.if-condition_holds.scheduled.items places.items) (sym w.still-is)
          (taken installed drivers items (drop index items) later place driver scheduled still first here.0 c.loop-place.invariant c.if-condition_holds.scheduled.items c.condition_holds.result c.condition_holds.ensures w.if-condition_holds.true
          (family_put drivers self.before self.after self.before_tells self.after_tells driver w.member.result scheduled w.schedule.new.scheduled.items c.if-condition_holds.scheduled.items
          w.member.ensures (ap (λ (members : Vec Member Global). members.items) w.scheduled-is) w.in_ok-schedule.ensures))
      | else-condition_holds+in_ok-push w ↦
          subst (λ (members : Vec Member Global). Taking installed drivers items later members.items c.if-condition_holds.still.items) (sym w.scheduled-is)
          (stays installed drivers items (drop index items) later place driver scheduled still first here.0 c.loop-place.invariant c.if-condition_holds.still.items w.push.new.self.items c.condition_holds.result here.1
          c.condition_holds.ensures w.if-condition_holds.false (ap (λ (places : Vec ℕ Global). places.items) w.still-is) w.in_ok-push.ensures.items)
    ]
