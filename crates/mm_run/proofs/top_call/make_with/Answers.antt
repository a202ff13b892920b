use Rattle.std.proofs.Common.{inl, List, ℕ, [], ◌∷◌, subst}
use Rattle.mm_run.proofs.RunLemmas.{refused_bytes}
use Rattle.mm_run.proofs.ServeLemmas.{err_told, text_refused}
use Rattle.mm_run.specs.RunInside.{RefusesBytes}
use Rattle.mm_run.specs.Sources.{NamedSource, RunStops, seen, source}
use Rattle.mm_run.specs.Status.{status_of_text}
use Rattle.mm_run.specs.declared.source_kind.SourceKind.TheVariants.{EventsText}
use Rattle.mm_run.specs.declared.status.Which.TheVariants.{Second}
use Rattle.mm_run.proofs.top_call.make_with.Goals as goal

pub returns-in_err-text-clause-err : goal.returns-in_err-text-clause-err
returns-in_err-text-clause-err g c =
    let s : NamedSource = source Second EventsText (seen g.S.Source.left g.S.Source.fault_count c.args.second.now c.read.new.source) in
    err_told c.from_residual.result c.in_err-text.field-0.0 (RunStops (s ∷ []) (Unit {0})) c.from_residual.ensures.1
    (inl (c.in_err-text.ensures.err, tt))

pub returns-in_err-script-clause-err : goal.returns-in_err-script-clause-err
returns-in_err-script-clause-err g c =
    let s : NamedSource = source Second EventsText (seen g.S.Source.left g.S.Source.fault_count c.args.second.now c.read.new.source) in
    let status = status_of_text c.in_err-script.field-0.0 in
    let refused = text_refused c.as_slice.result.now c.in_err-script.field-0.0 c.in_err-script.ensures.fault in
    err_told c.from_residual-in_err-script.result status (RunStops (s ∷ []) (Unit {0})) c.from_residual-in_err-script.ensures.1
    (inl (
      refused_bytes s c.in_ok-text.text status c.in_ok-text.ensures.ok
          (subst (λ (bytes : List ℕ). RefusesBytes EventsText bytes status) c.as_slice.ensures refused),
      tt,
    ))
