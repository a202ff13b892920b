use Rattle.std.proofs.Common.{◌≡◌, ◌∙◌, inl, inr, subst, sym}
use Rattle.std.specs.declared.option.Option.{Option}
use Rattle.comm_core.specs.WorldState.{WorldState}
use Rattle.mm_core.specs.CoreState.{CoreState}
use Rattle.mm_io.specs.Streams.{Appends, AppendsFront}
use Rattle.mm_run.specs.RunHeadline.{IsHeadlineOf, OfWorld}
use Rattle.mm_run.specs.RunInside.{both_sources}
use Rattle.mm_run.specs.RunWorld.{StandsForScript}
use Rattle.mm_run.specs.Sources.{RunStops, Seen, seen}
use Rattle.mm_run.specs.declared.status.Status.{Status}
use Rattle.mm_run.specs.declared.command.Command.TheVariants.{Serve}
use Rattle.mm_run.proofs.ServeLemmas.{both_headline, both_not_bad, both_report, both_stand, run_bad, run_good}
use Rattle.mm_run.proofs.top_call.serve_both.Goals as goal

pub returns-in-Ok-clause-done : goal.returns-in-Ok-clause-done
returns-in-Ok-clause-done g c = λ is.
    both_report _ _ c.in-Ok.made c.in-Ok.ensures.ok (Appends (g.K.Sink.written c.args.out.now) (g.K.Sink.written c.write.new.out))
    (c.write.ensures.done is)

pub returns-in-Ok-clause-front : goal.returns-in-Ok-clause-front
returns-in-Ok-clause-front g c = λ is.
    both_report _ _ c.in-Ok.made c.in-Ok.ensures.ok (AppendsFront (g.K.Sink.written c.args.out.now) (g.K.Sink.written c.write.new.out))
    (c.write.ensures.front is)

pub returns-in-Ok-clause-headline : goal.returns-in-Ok-clause-headline
returns-in-Ok-clause-headline g c = λ _.
    let first : Seen = seen g.V.Source.left g.V.Source.fault_count c.args.first.now c.make_of_both.new.first in
    let second : Seen = seen g.S.Source.left g.S.Source.fault_count c.args.second.now c.make_of_both.new.second in
    let P : Option (WorldState CoreState) → Type 0 =
    OfWorld
    (IsHeadlineOf Serve (both_sources first second) (g.K.Sink.written c.args.out.now) (g.K.Sink.written c.write.new.out) c.write.result.status) in
    subst P (sym c.write.ensures.world)
    (both_headline first second c.in-Ok.made c.in-Ok.ensures.ok _ _ c.write.result.status c.write.ensures.status c.write.ensures.done
    c.write.ensures.front)

pub returns-in-Ok-clause-stands : goal.returns-in-Ok-clause-stands
returns-in-Ok-clause-stands g c = λ _.
    let first : Seen = seen g.V.Source.left g.V.Source.fault_count c.args.first.now c.make_of_both.new.first in
    let second : Seen = seen g.S.Source.left g.S.Source.fault_count c.args.second.now c.make_of_both.new.second in
    let P : Option (WorldState CoreState) → Type 0 = OfWorld (StandsForScript Serve (both_sources first second)) in
    subst P (sym c.write.ensures.world) (both_stand first second c.in-Ok.made c.in-Ok.ensures.ok)

-- what was made can't have been bad
pub returns-in-Ok-clause-faulty : goal.returns-in-Ok-clause-faulty
returns-in-Ok-clause-faulty g c = λ status bad. absurd (both_not_bad _ _ c.in-Ok.made c.in-Ok.ensures.ok status bad)

pub returns-in-Err-clause-refusal : goal.returns-in-Err-clause-refusal
returns-in-Err-clause-refusal g c = λ wrote.
    let first : Seen = seen g.V.Source.left g.V.Source.fault_count c.args.first.now c.make_of_both.new.first in
    let second : Seen = seen g.S.Source.left g.S.Source.fault_count c.args.second.now c.make_of_both.new.second in
    subst (λ (status : Status). RunStops (both_sources first second) (c.make_of_both.new.second ≡ c.args.second.now) status)
    (sym c.refused.ensures.status) c.in-Err.ensures.err

-- good bytes that can be read are refused out of memory alone
pub returns-in-Err-clause-complete : goal.returns-in-Err-clause-complete
returns-in-Err-clause-complete g c = λ holds quiet.
    let first : Seen = seen g.V.Source.left g.V.Source.fault_count c.args.first.now c.make_of_both.new.first in
    let second : Seen = seen g.S.Source.left g.S.Source.fault_count c.args.second.now c.make_of_both.new.second in
    inr (c.refused.ensures.status
    ∙ run_good (both_sources first second) (c.make_of_both.new.second ≡ c.args.second.now) c.in-Err.status c.in-Err.ensures.err holds)

-- bad ones are refused for that, or out of memory
pub returns-in-Err-clause-faulty : goal.returns-in-Err-clause-faulty
returns-in-Err-clause-faulty g c = λ status bad.
    let first : Seen = seen g.V.Source.left g.V.Source.fault_count c.args.first.now c.make_of_both.new.first in
    let second : Seen = seen g.S.Source.left g.S.Source.fault_count c.args.second.now c.make_of_both.new.second in
    elim (run_bad (both_sources first second) (c.make_of_both.new.second ≡ c.args.second.now) c.in-Err.status status c.in-Err.ensures.err bad) [
      | inl at_fault ↦ inl (c.refused.ensures.status ∙ at_fault)
      | inr wanting ↦ inr (c.refused.ensures.status ∙ wanting)
    ]
