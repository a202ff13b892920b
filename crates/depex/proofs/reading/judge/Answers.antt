use Rattle.depex.proofs.LawLemmas.{judged_found, judged_first}
use Rattle.depex.proofs.reading.judge.Goals as goal

pub returns-clause-found : goal.returns-clause-found
returns-clause-found c =
    judged_found c.args.bytes.now c.judge_parts.result c.judge_parts.ensures.expression c.judge_parts.ensures.fault

pub returns-clause-first : goal.returns-clause-first
returns-clause-first c =
    judged_first c.args.bytes.now c.judge_parts.result c.judge_parts.ensures.expression c.judge_parts.ensures.fault
