use Rattle.std.proofs.Common.{◌≡◌, get_or, take, drop, length, ◌-◌, refl, arith, rules}
use Rattle.std.proofs.lemmas.Bool.Decides.{nat_tests}
use Rattle.depex.specs.Expressions.{Before, After}
use Rattle.depex.specs.FindingInside.{IsName}
use Rattle.depex.proofs.WalkLemmas.{opcode_and_rest, before_is, after_is}
use Rattle.depex.proofs.reading.read_kept.Goals as goal

pub returns-in_ok-map_err-in-0-clause-expression : goal.returns-in_ok-map_err-in-0-clause-expression
returns-in_ok-map_err-in-0-clause-expression c =
    let bytes = c.args.bytes.now in
    let opcode : get_or bytes 0 0 ≡ 0 = grind (arith, nat_tests) in
    let first = opcode_and_rest bytes 0 (omega arith) opcode in
    let name : IsName (take (length bytes - 1) (drop 1 bytes)) c.in_ok-map_err-in-0.field-0 = search rules in
    (Before c.in_ok-map_err-in-0.field-0, before_is bytes _ _ first name, refl)

pub returns-in_ok-map_err-in-1-clause-expression : goal.returns-in_ok-map_err-in-1-clause-expression
returns-in_ok-map_err-in-1-clause-expression c =
    let bytes = c.args.bytes.now in
    let opcode : get_or bytes 0 0 ≡ 1 = grind (arith, nat_tests) in
    let first = opcode_and_rest bytes 1 (omega arith) opcode in
    let name : IsName (take (length bytes - 1) (drop 1 bytes)) c.in_ok-map_err-in-1.field-0 = search rules in
    (After c.in_ok-map_err-in-1.field-0, after_is bytes _ _ first name, refl)
