use Rattle.std.proofs.Common.{◌∙◌, arith}
use Rattle.std.proofs.lemmas.Bool.Decides.{nat_tests}
use Rattle.mm_text.specs.LineReaderInside.{form_behind, step_in}
use Rattle.mm_text.specs.declared.line.Keyword.TheVariants as keyword
use Rattle.mm_text.proofs.ReadLemmas.{judged_one, judged_two, step_form, steps_form, judged_refused, not_step}
use Rattle.mm_text.proofs.line_reader.read_step.Goals as goal

pub returns-in-len1 : goal.returns-in-len1
returns-in-len1 c =
    c.step_line.ensures ∙ judged_one (λ w. w.now) c.args.words.now _ (form_behind keyword.Step) step_in step_form (omega arith) (omega arith)

pub returns-in-len2 : goal.returns-in-len2
returns-in-len2 c =
    c.steps_line.ensures ∙ judged_two (λ w. w.now) c.args.words.now _ _ (form_behind keyword.Step) step_in steps_form (omega arith) (omega arith)

pub returns-in_default : goal.returns-in_default
returns-in_default c =
    judged_refused _ _ (not_step (λ w. w.now) c.args.words.now (λ same. grind (arith, nat_tests)) (λ same. grind (arith, nat_tests)))
