use Rattle.std.proofs.Common.{◌≡◌, ◌⊎◌, List, None, true, false, inl, refl, sym}
use Rattle.mm_base.specs.End.{out_of_memory}
use Rattle.mm_io.specs.Causes.{Rose}
use Rattle.mm_io.specs.Streams.{Appends, AppendsFront}
use Rattle.mm_run.specs.Command.{drives}
use Rattle.mm_run.specs.Run.{Reports}
use Rattle.mm_run.specs.RunHeadline.{IsHeadlineOf, OfWorld}
use Rattle.mm_run.specs.RunShare.{IsSharedOut}
use Rattle.mm_run.specs.RunWorld.{StandsForScript}
use Rattle.mm_run.specs.Sources.{NamedSource, RunStops, AllHoldGood, FirstBad}
use Rattle.mm_run.specs.declared.command.Command.{Command}
use Rattle.mm_run.specs.declared.status.Status.TheVariants.{Done, NoMemory}
use Rattle.mm_run.proofs.RunLemmas.{none_unnamed, of_command, serve_drives, served_all, served_both, untouched_by_command, untouched_by_none}
use Rattle.mm_run.proofs.ShareLemmas.{shared_by}
use Rattle.mm_run.proofs.top_call.run.Goals as goal

pub returns-in-None-source-clause-refusal : goal.returns-in-None-source-clause-refusal
returns-in-None-source-clause-refusal g c = λ command form wrote.
    let P : Command → List NamedSource → Type 0 = λ command all.
    RunStops all (c.args.second.now ≡ c.args.second.now) c.serve_one.result.status in
    served_all P c.args.words.now.items c.as_slice.result.now c.in-Some.command command _ _ c.in-Some.ensures
    c.as_slice.ensures.value form (sym c.in-None-source.ensures) (inl (c.serve_one.ensures.refusal wrote, refl))

pub returns-in-None-source-clause-done : goal.returns-in-None-source-clause-done
returns-in-None-source-clause-done g c = λ command form is.
    let P : Command → List NamedSource → Type 0 = λ command all.
    Reports command all (Appends (g.K.Sink.written c.args.out.now) (g.K.Sink.written c.serve_one.new.out)) in
    served_all P c.args.words.now.items c.as_slice.result.now c.in-Some.command command _ _ c.in-Some.ensures
    c.as_slice.ensures.value form (sym c.in-None-source.ensures) (c.serve_one.ensures.done is)

pub returns-in-None-source-clause-front : goal.returns-in-None-source-clause-front
returns-in-None-source-clause-front g c = λ command form is.
    let P : Command → List NamedSource → Type 0 = λ command all.
    Reports command all (AppendsFront (g.K.Sink.written c.args.out.now) (g.K.Sink.written c.serve_one.new.out)) in
    served_all P c.args.words.now.items c.as_slice.result.now c.in-Some.command command _ _ c.in-Some.ensures
    c.as_slice.ensures.value form (sym c.in-None-source.ensures) (c.serve_one.ensures.front is)

pub returns-in-None-source-clause-complete : goal.returns-in-None-source-clause-complete
returns-in-None-source-clause-complete g c = λ command form.
    let P : Command → List NamedSource → Type 0 = λ command all.
    AllHoldGood all
    → (Rose (g.K.Sink.fault_count c.args.out.now) (g.K.Sink.fault_count c.serve_one.new.out) → ⊥)
    → (c.serve_one.result.status ≡ Done) ⊎ (c.serve_one.result.status ≡ NoMemory out_of_memory) in
    served_all P c.args.words.now.items c.as_slice.result.now c.in-Some.command command _ _ c.in-Some.ensures
    c.as_slice.ensures.value form (sym c.in-None-source.ensures) c.serve_one.ensures.complete

pub returns-in-None-source-clause-faulty : goal.returns-in-None-source-clause-faulty
returns-in-None-source-clause-faulty g c = λ command status form.
    let P : Command → List NamedSource → Type 0 = λ command all.
    FirstBad all status → (c.serve_one.result.status ≡ status) ⊎ (c.serve_one.result.status ≡ NoMemory out_of_memory) in
    served_all P c.args.words.now.items c.as_slice.result.now c.in-Some.command command _ _ c.in-Some.ensures
    c.as_slice.ensures.value form (sym c.in-None-source.ensures) (c.serve_one.ensures.faulty status)

pub returns-in-None-source-clause-headline : goal.returns-in-None-source-clause-headline
returns-in-None-source-clause-headline g c = λ command form is wrote.
    let P : Command → List NamedSource → Type 0 = λ command all.
    drives command ≡ true
    → OfWorld
    (IsHeadlineOf command all (g.K.Sink.written c.args.out.now) (g.K.Sink.written c.serve_one.new.out) c.serve_one.result.status)
    c.serve_one.result.world in
    served_all P c.args.words.now.items c.as_slice.result.now c.in-Some.command command _ _ c.in-Some.ensures
    c.as_slice.ensures.value form (sym c.in-None-source.ensures) (λ is. c.serve_one.ensures.headline is wrote) is

pub returns-in-None-source-clause-stands : goal.returns-in-None-source-clause-stands
returns-in-None-source-clause-stands g c = λ command form is wrote.
    let P : Command → List NamedSource → Type 0 = λ command all.
    drives command ≡ true → OfWorld (StandsForScript command all) c.serve_one.result.world in
    served_all P c.args.words.now.items c.as_slice.result.now c.in-Some.command command _ _ c.in-Some.ensures
    c.as_slice.ensures.value form (sym c.in-None-source.ensures) (λ is. c.serve_one.ensures.stands is wrote) is

pub returns-in-None-source-clause-share : goal.returns-in-None-source-clause-share
returns-in-None-source-clause-share g c = λ command form is wrote.
    let P : Command → List NamedSource → Type 0 = λ command all.
    drives command ≡ true → OfWorld (IsSharedOut command all) c.serve_one.result.world in
    served_all P c.args.words.now.items c.as_slice.result.now c.in-Some.command command _ _ c.in-Some.ensures
    c.as_slice.ensures.value form (sym c.in-None-source.ensures)
    (λ is. shared_by _ _ (g.K.Sink.written c.args.out.now) (g.K.Sink.written c.serve_one.new.out) c.serve_one.result.status c.serve_one.result.world
    (c.serve_one.ensures.headline is wrote)) is

pub returns-in-None-source-clause-worldless : goal.returns-in-None-source-clause-worldless
returns-in-None-source-clause-worldless g c = λ command form.
    let P : Command → Type 0 = λ command. drives command ≡ false → c.serve_one.result.world ≡ None in
    of_command P c.args.words.now.items c.as_slice.result.now c.in-Some.command command c.in-Some.ensures c.as_slice.ensures.value form
    c.serve_one.ensures.worldless

pub returns-in-None-source-clause-untouched : goal.returns-in-None-source-clause-untouched
returns-in-None-source-clause-untouched g c =
    untouched_by_command c.args.words.now.items c.as_slice.result.now c.in-Some.command _ _ c.in-Some.ensures c.as_slice.ensures.value (sym c.in-None-source.ensures) refl

pub returns-in-None-clause-untouched : goal.returns-in-None-clause-untouched
returns-in-None-clause-untouched g c =
    untouched_by_none c.args.words.now.items c.as_slice.result.now _ _ c.in-None.ensures c.as_slice.ensures.value refl refl

pub returns-in-Some-source-clause-refusal : goal.returns-in-Some-source-clause-refusal
returns-in-Some-source-clause-refusal g c = λ command form wrote.
    let P : Command → List NamedSource → Type 0 = λ command all.
    RunStops all (c.serve_both.new.second ≡ c.args.second.now) c.serve_both.result.status in
    served_both P c.args.words.now.items c.as_slice.result.now c.in-Some.command command _ _ _ c.in-Some.ensures
    c.as_slice.ensures.value form c.in-Some-source.ensures (c.serve_both.ensures.refusal wrote)

pub returns-in-Some-source-clause-done : goal.returns-in-Some-source-clause-done
returns-in-Some-source-clause-done g c = λ command form is.
    let P : Command → List NamedSource → Type 0 = λ command all.
    Reports command all (Appends (g.K.Sink.written c.args.out.now) (g.K.Sink.written c.serve_both.new.out)) in
    served_both P c.args.words.now.items c.as_slice.result.now c.in-Some.command command _ _ _ c.in-Some.ensures
    c.as_slice.ensures.value form c.in-Some-source.ensures (c.serve_both.ensures.done is)

pub returns-in-Some-source-clause-front : goal.returns-in-Some-source-clause-front
returns-in-Some-source-clause-front g c = λ command form is.
    let P : Command → List NamedSource → Type 0 = λ command all.
    Reports command all (AppendsFront (g.K.Sink.written c.args.out.now) (g.K.Sink.written c.serve_both.new.out)) in
    served_both P c.args.words.now.items c.as_slice.result.now c.in-Some.command command _ _ _ c.in-Some.ensures
    c.as_slice.ensures.value form c.in-Some-source.ensures (c.serve_both.ensures.front is)

pub returns-in-Some-source-clause-complete : goal.returns-in-Some-source-clause-complete
returns-in-Some-source-clause-complete g c = λ command form.
    let P : Command → List NamedSource → Type 0 = λ command all.
    AllHoldGood all
    → (Rose (g.K.Sink.fault_count c.args.out.now) (g.K.Sink.fault_count c.serve_both.new.out) → ⊥)
    → (c.serve_both.result.status ≡ Done) ⊎ (c.serve_both.result.status ≡ NoMemory out_of_memory) in
    served_both P c.args.words.now.items c.as_slice.result.now c.in-Some.command command _ _ _ c.in-Some.ensures
    c.as_slice.ensures.value form c.in-Some-source.ensures c.serve_both.ensures.complete

pub returns-in-Some-source-clause-faulty : goal.returns-in-Some-source-clause-faulty
returns-in-Some-source-clause-faulty g c = λ command status form.
    let P : Command → List NamedSource → Type 0 = λ command all.
    FirstBad all status → (c.serve_both.result.status ≡ status) ⊎ (c.serve_both.result.status ≡ NoMemory out_of_memory) in
    served_both P c.args.words.now.items c.as_slice.result.now c.in-Some.command command _ _ _ c.in-Some.ensures
    c.as_slice.ensures.value form c.in-Some-source.ensures (c.serve_both.ensures.faulty status)

pub returns-in-Some-source-clause-headline : goal.returns-in-Some-source-clause-headline
returns-in-Some-source-clause-headline g c = λ command form is wrote.
    let P : Command → List NamedSource → Type 0 = λ command all.
    drives command ≡ true
    → OfWorld
    (IsHeadlineOf command all (g.K.Sink.written c.args.out.now) (g.K.Sink.written c.serve_both.new.out) c.serve_both.result.status)
    c.serve_both.result.world in
    served_both P c.args.words.now.items c.as_slice.result.now c.in-Some.command command _ _ _ c.in-Some.ensures
    c.as_slice.ensures.value form c.in-Some-source.ensures (λ is. c.serve_both.ensures.headline wrote) is

pub returns-in-Some-source-clause-stands : goal.returns-in-Some-source-clause-stands
returns-in-Some-source-clause-stands g c = λ command form is wrote.
    let P : Command → List NamedSource → Type 0 = λ command all.
    drives command ≡ true → OfWorld (StandsForScript command all) c.serve_both.result.world in
    served_both P c.args.words.now.items c.as_slice.result.now c.in-Some.command command _ _ _ c.in-Some.ensures
    c.as_slice.ensures.value form c.in-Some-source.ensures (λ is. c.serve_both.ensures.stands wrote) is

pub returns-in-Some-source-clause-share : goal.returns-in-Some-source-clause-share
returns-in-Some-source-clause-share g c = λ command form is wrote.
    let P : Command → List NamedSource → Type 0 = λ command all.
    drives command ≡ true → OfWorld (IsSharedOut command all) c.serve_both.result.world in
    served_both P c.args.words.now.items c.as_slice.result.now c.in-Some.command command _ _ _ c.in-Some.ensures
    c.as_slice.ensures.value form c.in-Some-source.ensures
    (λ is. shared_by _ _ (g.K.Sink.written c.args.out.now) (g.K.Sink.written c.serve_both.new.out) c.serve_both.result.status c.serve_both.result.world
    (c.serve_both.ensures.headline wrote)) is

pub returns-in-Some-source-clause-worldless : goal.returns-in-Some-source-clause-worldless
returns-in-Some-source-clause-worldless g c = λ command form none.
    absurd (serve_drives c.args.words.now.items c.as_slice.result.now c.in-Some.command command _ c.in-Some.ensures c.as_slice.ensures.value form
    c.in-Some-source.ensures none)

pub returns-in-Some-source-clause-untouched : goal.returns-in-Some-source-clause-untouched
returns-in-Some-source-clause-untouched g c =
    none_unnamed c.args.words.now.items c.as_slice.result.now c.in-Some.command _ _ _ c.in-Some.ensures c.as_slice.ensures.value
    c.in-Some-source.ensures
