use Rattle.std.proofs.Common.{◌≡◌, inl, List, ℕ, refl, subst, sym}
use Rattle.mm_run.proofs.ServeLemmas.{err_told, first_stops, later_stops}
use Rattle.mm_run.specs.RunInside.{both_sources, RefusesBytes}
use Rattle.mm_run.specs.Sources.{RunStops, Seen, WasRead, seen, source}
use Rattle.mm_run.specs.declared.source_kind.SourceKind.TheVariants.{VolumeBytes}
use Rattle.mm_run.specs.declared.status.Which.TheVariants.{First}
use Rattle.mm_run.proofs.top_call.make_of_both.Goals as goal

pub returns-in_err-bytes-clause-err : goal.returns-in_err-bytes-clause-err
returns-in_err-bytes-clause-err g c =
    let first : Seen = seen g.V.Source.left g.V.Source.fault_count c.args.first.now c.read.new.source in
    let second : Seen = seen g.S.Source.left g.S.Source.fault_count c.args.second.now c.args.second.now in
    err_told c.from_residual.result c.in_err-bytes.field-0.0 (RunStops (both_sources first second) (c.args.second.now ≡ c.args.second.now))
    c.from_residual.ensures.1 (inl (c.in_err-bytes.ensures.err, refl))

pub returns-in_err-volume-clause-err : goal.returns-in_err-volume-clause-err
returns-in_err-volume-clause-err g c =
    let first : Seen = seen g.V.Source.left g.V.Source.fault_count c.args.first.now c.read.new.source in
    let second : Seen = seen g.S.Source.left g.S.Source.fault_count c.args.second.now c.args.second.now in
    let status = c.in_err-volume.field-0.0 in
    err_told c.from_residual-in_err-volume.result status (RunStops (both_sources first second) (c.args.second.now ≡ c.args.second.now))
    c.from_residual-in_err-volume.ensures.1
    (first_stops first second (c.args.second.now ≡ c.args.second.now) c.in_ok-bytes.bytes status c.in_ok-bytes.ensures.ok
    (subst (λ (bytes : List ℕ). RefusesBytes VolumeBytes bytes status) c.as_slice.ensures c.in_err-volume.ensures.err) refl)

pub returns-clause-err : goal.returns-clause-err
returns-clause-err g c =
    let first : Seen = seen g.V.Source.left g.V.Source.fault_count c.args.first.now c.read.new.source in
    let second : Seen = seen g.S.Source.left g.S.Source.fault_count c.args.second.now c.make_with.new.second in
    later_stops first second (c.make_with.new.second ≡ c.args.second.now) c.make_with.result
    (record {
      bytes = c.as_slice.result.now;
      read = subst (λ (bytes : List ℕ). WasRead (source First VolumeBytes first) bytes) (sym c.as_slice.ensures) c.in_ok-bytes.ensures.ok;
      good = record {
        volume = c.in_ok-volume.volume;
        is = c.in_ok-volume.ensures.volume;
        policy = c.in_ok-volume.policy;
        policy_is = c.in_ok-volume.ensures.policy;
      };
    }) c.make_with.ensures.err
