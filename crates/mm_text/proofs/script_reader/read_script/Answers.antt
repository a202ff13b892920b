use Rattle.std.proofs.lemmas.Result.{IfOk-weaker}
use Rattle.mm_text.specs.Limits.{IsWithinLimits}
use Rattle.mm_text.specs.ScriptText.{IsScript}
use Rattle.mm_text.proofs.LimitLemmas.{script-within}
use Rattle.mm_text.proofs.ReaderLemmas.{found-only, first-only}
use Rattle.mm_text.proofs.script_reader.read_script.Goals as goal

pub returns-clause-found : goal.returns-clause-found
returns-clause-found c = found-only c.args.handlers c.args.bytes.now c.script_in.result c.script_in.ensures.script c.script_in.ensures.fault

pub returns-clause-first : goal.returns-clause-first
returns-clause-first c = first-only c.args.handlers c.args.bytes.now c.script_in.result c.script_in.ensures.script c.script_in.ensures.fault

pub returns-clause-within : goal.returns-clause-within
returns-clause-within c =
    IfOk-weaker c.script_in.result (IsScript c.args.handlers c.args.bytes.now) IsWithinLimits (script-within c.args.handlers c.args.bytes.now) c.script_in.ensures.script
