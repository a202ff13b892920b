use Rattle.std.proofs.Common.{ap, ◌∙◌}
use Rattle.supervisor_calls.specs.Domains.{DomainState}
use Rattle.mm_core.proofs.CodeLemmas.{run_told}
use Rattle.mm_core.proofs.code.run_code.Goals as goal

pub returns : goal.returns
returns c =
    let told =
    run_told c.args.saved c.args.handler.now c.args.code.image c.args.code.address c.args.region c.args.tables c.fuel-fuel.result c.stack-stack.result
    c.arguments_of-arguments.result c.args.records c.enter_locked-domain.result c.run-ended.new.bus c.run-ended.result c.fuel-fuel.ensures
    c.stack-stack.ensures c.arguments_of-arguments.ensures c.requires.blank c.enter_locked-domain.ensures c.run-ended.ensures in
    record {
      tables = c.leave-tables.ensures.tables ∙ ap (λ (d : DomainState). d.tables) told.1;
      records = c.leave-tables.ensures.records ∙ ap (λ (d : DomainState). d.records) told.1;
      ended = told.0;
    }
