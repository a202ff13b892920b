use Rattle.std.proofs.Common.{IfErr, subst, sym}
use Rattle.mm_run.specs.RunInside.{one_source}
use Rattle.mm_run.specs.Sources.{Seen, seen, StopsRun}
use Rattle.mm_run.specs.declared.command.Command.{Command}
use Rattle.mm_run.specs.declared.command.Command.TheVariants.{Script as ScriptCommand, Check, Boot}
use Rattle.mm_run.proofs.RunLemmas.{refused_by_bytes}
use Rattle.mm_run.proofs.top_call.make.Goals as goal

pub returns-in_ok-text-in-Script-clause-err : goal.returns-in_ok-text-in-Script-clause-err
returns-in_ok-text-in-Script-clause-err g c =
    let first : Seen = seen g.V.Source.left g.V.Source.fault_count c.args.first.now c.read.new.source in
    let P : Command → Type 0 = λ command. IfErr c.run_script.result (StopsRun (one_source command first)) in
    subst P (sym c.in-Script.is)
    (refused_by_bytes (one_source ScriptCommand first) c.in_ok-text-in-Script.text c.as_slice.result.now c.run_script.result c.in_ok-text-in-Script.ensures.ok
    c.as_slice.ensures c.run_script.ensures.err)

pub returns-in_ok-volume-in-Check-clause-err : goal.returns-in_ok-volume-in-Check-clause-err
returns-in_ok-volume-in-Check-clause-err g c =
    let first : Seen = seen g.V.Source.left g.V.Source.fault_count c.args.first.now c.read-in-Check.new.source in
    let P : Command → Type 0 = λ command. IfErr c.check_volume.result (StopsRun (one_source command first)) in
    subst P (sym c.in-Check.is)
    (refused_by_bytes (one_source Check first) c.in_ok-volume-in-Check.volume c.as_slice-in-Check.result.now c.check_volume.result c.in_ok-volume-in-Check.ensures.ok
    c.as_slice-in-Check.ensures c.check_volume.ensures.err)

pub returns-in_ok-volume-in-Boot-clause-err : goal.returns-in_ok-volume-in-Boot-clause-err
returns-in_ok-volume-in-Boot-clause-err g c =
    let first : Seen = seen g.V.Source.left g.V.Source.fault_count c.args.first.now c.read-in-Boot.new.source in
    let P : Command → Type 0 = λ command. IfErr c.boot_bytes.result (StopsRun (one_source command first)) in
    subst P (sym c.in-Boot.is)
    (refused_by_bytes (one_source Boot first) c.in_ok-volume-in-Boot.volume c.as_slice-in-Boot.result.now c.boot_bytes.result c.in_ok-volume-in-Boot.ensures.ok
    c.as_slice-in-Boot.ensures c.boot_bytes.ensures.err)
