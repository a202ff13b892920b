use Rattle.std.proofs.Common.{◌∙◌, [], ◌∷◌, inl, inr, subst, sym}
use Rattle.std.specs.declared.option.Option.{Option}
use Rattle.comm_core.specs.WorldState.{WorldState}
use Rattle.mm_core.specs.CoreState.{CoreState}
use Rattle.mm_io.specs.Streams.{Appends, AppendsFront}
use Rattle.mm_run.specs.RunHeadline.{IsHeadlineOf, OfWorld}
use Rattle.mm_run.specs.RunWorld.{StandsForScript}
use Rattle.mm_run.specs.RunInside.{one_source}
use Rattle.mm_run.specs.Sources.{Seen, seen}
use Rattle.mm_run.proofs.RunLemmas.{made_headline, made_stands, made_not_bad, made_reports, stopped_good, stopped_bad}
use Rattle.mm_run.proofs.top_call.serve_one.Goals as goal

pub returns-in-Ok-clause-done : goal.returns-in-Ok-clause-done
returns-in-Ok-clause-done g c = λ is.
    made_reports c.args.command _ c.in-Ok.made
    (Appends (g.K.Sink.written c.args.out.now) (g.K.Sink.written c.write.new.out)) c.in-Ok.ensures.ok (c.write.ensures.done is)

pub returns-in-Ok-clause-front : goal.returns-in-Ok-clause-front
returns-in-Ok-clause-front g c = λ is.
    made_reports c.args.command _ c.in-Ok.made
    (AppendsFront (g.K.Sink.written c.args.out.now) (g.K.Sink.written c.write.new.out)) c.in-Ok.ensures.ok (c.write.ensures.front is)

pub returns-in-Ok-clause-headline : goal.returns-in-Ok-clause-headline
returns-in-Ok-clause-headline g c = λ is _.
    let first : Seen = seen g.V.Source.left g.V.Source.fault_count c.args.first.now c.make.new.first in
    let P : Option (WorldState CoreState) → Type 0 =
    OfWorld
    (IsHeadlineOf c.args.command (one_source c.args.command first ∷ []) (g.K.Sink.written c.args.out.now) (g.K.Sink.written c.write.new.out)
    c.write.result.status) in
    subst P (sym c.write.ensures.world)
    (made_headline c.args.command first _ _ c.write.result.status c.in-Ok.made c.in-Ok.ensures.ok is c.write.ensures.status
    c.write.ensures.done c.write.ensures.front)

pub returns-in-Ok-clause-stands : goal.returns-in-Ok-clause-stands
returns-in-Ok-clause-stands g c = λ is _.
    let first : Seen = seen g.V.Source.left g.V.Source.fault_count c.args.first.now c.make.new.first in
    let P : Option (WorldState CoreState) → Type 0 = OfWorld (StandsForScript c.args.command (one_source c.args.command first ∷ [])) in
    subst P (sym c.write.ensures.world) (made_stands c.args.command first c.in-Ok.made c.in-Ok.ensures.ok is)

-- what was made can't have been bad
pub returns-in-Ok-clause-faulty : goal.returns-in-Ok-clause-faulty
returns-in-Ok-clause-faulty g c = λ status bad. absurd (made_not_bad c.args.command _ c.in-Ok.made status c.in-Ok.ensures.ok bad)

-- good bytes that can be read are refused out of memory alone
pub returns-in-Err-clause-complete : goal.returns-in-Err-clause-complete
returns-in-Err-clause-complete g c = λ holds quiet.
    inr (c.refused.ensures.status ∙ stopped_good _ c.in-Err.status c.in-Err.ensures.err holds)

-- bad ones are refused for that, or out of memory
pub returns-in-Err-clause-faulty : goal.returns-in-Err-clause-faulty
returns-in-Err-clause-faulty g c = λ status bad.
    elim (stopped_bad _ c.in-Err.status status c.in-Err.ensures.err bad) [
      | inl at_fault ↦ inl (c.refused.ensures.status ∙ at_fault)
      | inr wanting ↦ inr (c.refused.ensures.status ∙ wanting)
    ]
