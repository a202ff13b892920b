use Rattle.std.proofs.Common.{◌∙◌}
use Rattle.std.proofs.lemmas.Result.{IfErr-weaker, on_ok_weaker}
use Rattle.pe_loader.proofs.SectionLemmas.{passed_all, passed_some}
use Rattle.pe_loader.proofs.sections.check_sections.Goals as goal

pub entry-requires-clause-within : goal.entry-requires-clause-within
entry-requires-clause-within c = c.count_passed-passed.ensures.few

pub returns-clause-ok : goal.returns-clause-ok
returns-clause-ok c =
    on_ok_weaker _ (λ e. passed_all c.args.bytes.now c.args.layout.now c.count_passed-passed.result c.count_passed-passed.ensures e) c.check.ensures.ok

pub returns-clause-fault : goal.returns-clause-fault
returns-clause-fault c =
    IfErr-weaker _ _ _ (λ fault e. passed_some c.args.bytes.now c.args.layout.now c.count_passed-passed.result _ fault c.count_passed-passed.ensures e.0 (e.1 ∙ c.fault.ensures) c.entry.ensures.place)
    c.check.ensures.fault
