use Rattle.std.proofs.Common.{◌≡◌, None, subst}
use Rattle.std.proofs.lemmas.Result.{IfErr-weaker, on_ok_weaker}
use Rattle.mm_base.specs.Checks.{first_failing}
use Rattle.pe_loader.specs.Headers.{FailsFirst}
use Rattle.pe_loader.specs.Sections.{section_checks}
use Rattle.pe_loader.specs.declared.layout.Layout.{Layout}
use Rattle.pe_loader.proofs.inspecting.check_table.Goals as goal

pub returns-clause-ok : goal.returns-clause-ok
returns-clause-ok c =
    let P : Layout → Type 0 = λ layout. first_failing (section_checks c.args.bytes.now layout) ≡ None in
    on_ok_weaker _ (λ e. subst P c.of.ensures.layout e) c.check_sections.ensures.ok

pub returns-clause-fault : goal.returns-clause-fault
returns-clause-fault c =
    IfErr-weaker _ _ _ (λ fault e. subst (λ (layout : Layout). FailsFirst (section_checks c.args.bytes.now layout) fault) c.of.ensures.layout e) c.check_sections.ensures.fault
