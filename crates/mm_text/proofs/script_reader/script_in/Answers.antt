use Rattle.std.proofs.Common.{sym, ◌∙◌}
use Rattle.mm_text.proofs.ReaderLemmas.{script-read}
use Rattle.mm_text.proofs.script_reader.script_in.Goals as goal

pub returns-clause-script : goal.returns-clause-script
returns-clause-script c = script-read c.args.handlers c.args.bytes.now _ _ c.in_ok-builder.ensures.told (sym c.is_empty.ensures ∙ c.if-is_empty.false) c.finish.ensures
