use Rattle.std.proofs.Common.{◌≡◌, get_or, arith}
use Rattle.std.proofs.lemmas.Bool.Decides.{nat_tests}
use Rattle.depex.proofs.WalkLemmas.{opcode_and_rest, begins_before, begins_after}
use Rattle.depex.proofs.reading.judge_parts.Goals as goal

pub returns-in-0-clause-expression : goal.returns-in-0-clause-expression
returns-in-0-clause-expression c =
    let bytes = c.args.bytes.now in
    let opcode : get_or bytes 0 0 ≡ 0 = grind (arith, nat_tests) in
    begins_before bytes _ _ (opcode_and_rest bytes 0 (omega arith) opcode) c.judge_name.ensures.name

pub returns-in-1-clause-expression : goal.returns-in-1-clause-expression
returns-in-1-clause-expression c =
    let bytes = c.args.bytes.now in
    let opcode : get_or bytes 0 0 ≡ 1 = grind (arith, nat_tests) in
    begins_after bytes _ _ (opcode_and_rest bytes 1 (omega arith) opcode) c.judge_name-in-1.ensures.name
