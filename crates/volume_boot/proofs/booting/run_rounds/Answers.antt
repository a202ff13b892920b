use Rattle.std.proofs.Common.{◌≡◌, List, map, ap, ◌∙◌}
use Rattle.driver_start.specs.Forms.{loadable_of}
use Rattle.driver_start.specs.Starts.{DriverState}
use Rattle.volume_boot.specs.Boots.{boot_from, waiting_of}
use Rattle.volume_boot.proofs.RoundLemmas.{comes_to, not_gone}
use Rattle.volume_boot.proofs.booting.run_rounds.Goals as goal

pub into_parts-host-requires : goal.into_parts-host-requires
into_parts-host-requires c =
    not_gone c.as_slice.result.now c.args.drivers.now.scheduled c.args.host c.new-starter.result c.new-starter.ensures c.in_ok-started.started
    c.dispatch.new.starter c.in_ok-started.ensures.after

pub returns-clause-value : goal.returns-clause-value
returns-clause-value c =
    comes_to c.as_slice.result.now c.args.drivers.now.scheduled c.args.host c.new-starter.result c.new-starter.ensures c.in_ok-started.started
    c.dispatch.new.starter c.in_ok-started.ensures.after c.in_ok-started.ensures.value c.into_parts-host.result.0 c.into_parts-host.result.1
    c.into_parts-host.ensures c.lock_tables-tables.result c.lock_tables-tables.ensures.value c.in_ok-waiting.waiting
    (c.in_ok-waiting.ensures ∙ (λ i. waiting_of (c.as_slice-3.ensures i) (c.as_slice-2.ensures i)))
    ∙ ap (λ (ds : List DriverState). boot_from c.args.drivers.now.scheduled (map loadable_of ds) c.args.host) c.as_slice.ensures.value
