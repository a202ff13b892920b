use Rattle.file_words.proofs.PartsLemmas.{parts_or_cause, never_parts_and_cause, one_parts, one_expression_of, one_cause}
use Rattle.std.proofs.Common.{[]}
use Rattle.file_words.proofs.laws.parts_or_cause.Goals as goal

pub returns : goal.returns
returns c = record {
  either = parts_or_cause;
  never_both = never_parts_and_cause;
  one_value = one_parts;
  one_expression = one_expression_of;
  one_fault = λ bytes file one other a b. one_cause bytes [] file one other a b;
}
