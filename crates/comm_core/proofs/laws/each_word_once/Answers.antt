use Rattle.comm_core.specs.Capture.{course, outcomes_of}
use Rattle.comm_core.proofs.CourseLemmas.{course_placed}
use Rattle.comm_core.proofs.LawLemmas.{served, whole_of_rest, older_rests, each_begins}
use Rattle.comm_core.proofs.laws.each_word_once.Goals as goal

pub returns-clause-served : goal.returns-clause-served
returns-clause-served g c = λ m words events lane k piece h r.
    let step = g.M.Machine.stepped in
    let past = course step m words events in
    let p = course_placed step m words lane events (λ n q. (g.met.M.Machine.within n q).reply) in
    served words (outcomes_of step m past) lane piece (whole_of_rest words (outcomes_of step m past) lane past p.place k piece p.stands h r)

pub returns-clause-older : goal.returns-clause-older
returns-clause-older g c = λ m words events lane k piece h.
    let step = g.M.Machine.stepped in
    let past = course step m words events in
    let p = course_placed step m words lane events (λ n q. (g.met.M.Machine.within n q).reply) in
    older_rests words (outcomes_of step m past) lane past p.place k piece p.stands h

pub returns-clause-begins : goal.returns-clause-begins
returns-clause-begins g c = λ m words events lane k piece h.
    let step = g.M.Machine.stepped in
    let past = course step m words events in
    let p = course_placed step m words lane events (λ n q. (g.met.M.Machine.within n q).reply) in
    each_begins words (outcomes_of step m past) lane past p.place k piece p.stands h
