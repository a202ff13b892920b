use Rattle.std.proofs.Common.{IfOk, IfErr, Ok, rules}
use Rattle.depex.specs.Expressions.{IsExpression, HasFault}
use Rattle.depex.specs.Keeping.{expression_of}
use Rattle.mm_base.specs.End.{EndsBy}
use Rattle.depex.proofs.LawLemmas.{kept_is, told_found, told_first}
use Rattle.depex.proofs.reading.parse.Goals as goal

pub returns-in_err-kept-clause-found : goal.returns-in_err-kept-clause-found
returns-in_err-kept-clause-found c =
    let bytes = c.args.bytes.now in
    let result = c.from_residual.result in
    let ok : IfOk result (IsExpression bytes) = search rules in
    let err : IfErr result (EndsBy (HasFault bytes)) = search rules in
    told_found bytes result ok err

pub returns-in_err-kept-clause-first : goal.returns-in_err-kept-clause-first
returns-in_err-kept-clause-first c =
    let bytes = c.args.bytes.now in
    let result = c.from_residual.result in
    let ok : IfOk result (IsExpression bytes) = search rules in
    let err : IfErr result (EndsBy (HasFault bytes)) = search rules in
    told_first bytes result ok err

pub returns-clause-expression : goal.returns-clause-expression
returns-clause-expression c = kept_is c.args.bytes.now c.in_ok-kept.kept c.in_ok-kept.ensures.expression

pub returns-clause-found : goal.returns-clause-found
returns-clause-found c =
    let is = kept_is c.args.bytes.now c.in_ok-kept.kept c.in_ok-kept.ensures.expression in
    told_found c.args.bytes.now (Ok (expression_of c.in_ok-kept.kept)) is tt

pub returns-clause-first : goal.returns-clause-first
returns-clause-first c =
    let is = kept_is c.args.bytes.now c.in_ok-kept.kept c.in_ok-kept.ensures.expression in
    told_first c.args.bytes.now (Ok (expression_of c.in_ok-kept.kept)) is tt
