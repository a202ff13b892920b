use Rattle.std.proofs.Common.{IfOk, IfErr, Ok, rules}
use Rattle.volume_reader.specs.Sections.{HasRefusedSection}
use Rattle.volume_reader.proofs.SearchLemmas.{IsAny, any_is, any_found, any_first}
use Rattle.volume_reader.proofs.section_search.any_of.Goals as goal

pub returns-in_err-found-clause-found : goal.returns-in_err-found-clause-found
returns-in_err-found-clause-found c =
    let bytes = c.args.bytes.now in
    let file = c.args.file.now in
    let ok : IfOk c.from_residual.result (IsAny bytes file c.args.kind) = search rules in
    let err : IfErr c.from_residual.result (HasRefusedSection bytes file) = search rules in
    any_found bytes file c.args.kind c.from_residual.result ok err

pub returns-in_err-found-clause-first : goal.returns-in_err-found-clause-first
returns-in_err-found-clause-first c =
    let bytes = c.args.bytes.now in
    let file = c.args.file.now in
    let ok : IfOk c.from_residual.result (IsAny bytes file c.args.kind) = search rules in
    let err : IfErr c.from_residual.result (HasRefusedSection bytes file) = search rules in
    any_first bytes file c.args.kind c.from_residual.result ok err

pub returns-clause-found : goal.returns-clause-found
returns-clause-found c =
    let bytes = c.args.bytes.now in
    let file = c.args.file.now in
    let is = any_is bytes file c.args.kind c.in_ok-found.found c.is_some.result c.in_ok-found.ensures.ok c.is_some.ensures in
    any_found bytes file c.args.kind (Ok c.is_some.result) is tt

pub returns-clause-first : goal.returns-clause-first
returns-clause-first c =
    let bytes = c.args.bytes.now in
    let file = c.args.file.now in
    let is = any_is bytes file c.args.kind c.in_ok-found.found c.is_some.result c.in_ok-found.ensures.ok c.is_some.ensures in
    any_first bytes file c.args.kind (Ok c.is_some.result) is tt
