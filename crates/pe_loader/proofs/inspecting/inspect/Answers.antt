use Rattle.std.proofs.Common.{IfOk, IfErr, Ok, rules}
use Rattle.pe_loader.specs.Images.{IsImageOf, HasFault}
use Rattle.pe_loader.proofs.ImageLemmas.{headers_there, told_found, told_first}
use Rattle.pe_loader.proofs.inspecting.inspect.Goals as goal

pub check_relocs-requires-clause-headers : goal.check_relocs-requires-clause-headers
check_relocs-requires-clause-headers c = headers_there c.args.bytes.now c.in_ok-check_headers_and_sections.ensures.ok

pub image_of-requires-clause-headers : goal.image_of-requires-clause-headers
image_of-requires-clause-headers c = headers_there c.args.bytes.now c.in_ok-check_headers_and_sections.ensures.ok

pub returns-in_err-check_relocs-clause-found : goal.returns-in_err-check_relocs-clause-found
returns-in_err-check_relocs-clause-found c =
    let bytes = c.args.bytes.now in
    let result = c.from_residual-in_err-check_relocs.result in
    let ok : IfOk result (IsImageOf bytes) = search rules in
    let err : IfErr result (HasFault bytes) = search rules in
    told_found bytes result ok err

pub returns-clause-first : goal.returns-clause-first
returns-clause-first c =
    let bytes = c.args.bytes.now in
    let read = c.in_ok-check_relocs.ensures.ok in
    told_first bytes (Ok c.image_of.result)
    (read.0, record { passes = c.in_ok-check_headers_and_sections.ensures.ok; says = c.image_of.ensures; relocations = read.1 }) tt
