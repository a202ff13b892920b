use Rattle.std.proofs.Common.{◌≡◌, true, [], ◌∷◌, List, sym, subst}
use Rattle.comm_core.specs.Capture.{Mark, course, outcomes_of, rests}
use Rattle.comm_core.specs.declared.event.Event.TheVariants.{Run}
use Rattle.comm_core.proofs.CourseLemmas.{IsBounded, course_placed, runs_to_rest}
use Rattle.comm_core.proofs.LawLemmas.{after_events-append}
use Rattle.comm_core.proofs.laws.run_rests.Goals as goal

pub returns : goal.returns
returns g c = λ m words events lane.
    let step = g.M.Machine.stepped in
    let past = course step m words events in
    let bounded : IsBounded step = λ n q. (g.met.M.Machine.within n q).reply in
    let P : List Mark → Type 0 = λ now. rests words (outcomes_of step m now) lane now ≡ true in
    subst P (sym (after_events-append step m words events (Run lane ∷ []) []))
    (runs_to_rest step m words lane past bounded (course_placed step m words lane events bounded))
