use Rattle.mm_text.proofs.TextLemmas.{either-or, never-both, script-unique, fault-unique}
use Rattle.mm_text.proofs.laws.script_or_fault.Goals as goal

pub returns : goal.returns
returns c = record {
  either = either-or;
  never_both = never-both;
  one_script = script-unique;
  one_fault = fault-unique;
}
