use Rattle.std.proofs.Common.{true, ◌∙◌, ap}
use Rattle.supervisor_calls.specs.Domains.{DomainState}
use Rattle.driver_start.proofs.RunLemmas.{not_refused, run_told}
use Rattle.driver_start.proofs.invoking.invoke_entry.Goals as goal

pub returns : goal.returns
returns g c =
    let told =
    run_told c.args.region c.args.entry c.args.tables c.args.records c.fuel-fuel.result c.images-image.result c.stack-stack.result c.service_page.result
    c.enter-domain.result c.run-ended.new.bus c.run-ended.result c.fuel-fuel.ensures c.images-image.ensures.value c.stack-stack.ensures
    c.service_page.ensures c.enter-domain.ensures c.requires.blank
    (not_refused true c.run-ended.result c.run-ended.ensures c.in_ok-ended.ensures.ok) in
    record {
      tables = c.leave-tables.ensures.tables ∙ ap (λ (d : DomainState). d.tables) told.1;
      records = c.leave-tables.ensures.records ∙ ap (λ (d : DomainState). d.records) told.1;
      ended = c.in_ok-ended.ensures.value ∙ told.0;
    }
