use Rattle.std.proofs.Common.{rules}
use Rattle.std.proofs.lemmas.Result.{IfErr-weaker, on_ok_weaker}
use Rattle.pe_loader.specs.Headers.{FailsFirst}
use Rattle.pe_loader.specs.Sections.{checks}
use Rattle.pe_loader.proofs.HeaderLemmas.{has_headers}
use Rattle.pe_loader.proofs.ImageLemmas.{checks_by_headers, checks_by_sections, checks_by_entry, checks_pass, laid_out_of}
use Rattle.pe_loader.proofs.inspecting.check_headers_and_sections.Goals as goal

pub returns-in_err-check_header-clause-fault : goal.returns-in_err-check_header-clause-fault
returns-in_err-check_header-clause-fault c =
    let known : FailsFirst (checks c.args.bytes.now) c.in_err-check_header.field-0.0 =
    checks_by_headers c.args.bytes.now _ c.in_err-check_header.ensures.fault in
    search rules

pub check_table-requires-clause-headers : goal.check_table-requires-clause-headers
check_table-requires-clause-headers c = has_headers c.args.bytes.now c.in_ok-check_header.ensures.ok

pub returns-in_err-check_table-clause-fault : goal.returns-in_err-check_table-clause-fault
returns-in_err-check_table-clause-fault c =
    let known : FailsFirst (checks c.args.bytes.now) c.in_err-check_table.field-0.0 =
    checks_by_sections c.args.bytes.now _ c.in_ok-check_header.ensures.ok c.in_err-check_table.ensures.fault in
    search rules

pub check_entry-requires-clause-headers : goal.check_entry-requires-clause-headers
check_entry-requires-clause-headers c = has_headers c.args.bytes.now c.in_ok-check_header.ensures.ok

pub returns-clause-ok : goal.returns-clause-ok
returns-clause-ok c =
    on_ok_weaker _ (λ e. checks_pass c.args.bytes.now c.in_ok-check_header.ensures.ok c.in_ok-check_table.ensures.ok e) c.check_entry.ensures.ok

pub returns-clause-laid_out : goal.returns-clause-laid_out
returns-clause-laid_out c =
    let bytes = c.args.bytes.now in
    on_ok_weaker _ (λ e. laid_out_of bytes (checks_pass bytes c.in_ok-check_header.ensures.ok c.in_ok-check_table.ensures.ok e)) c.check_entry.ensures.ok

pub returns-clause-fault : goal.returns-clause-fault
returns-clause-fault c =
    IfErr-weaker _ _ _ (λ fault fails. checks_by_entry c.args.bytes.now fault c.in_ok-check_header.ensures.ok c.in_ok-check_table.ensures.ok fails) c.check_entry.ensures.fault
