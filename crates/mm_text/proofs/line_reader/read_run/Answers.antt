use Rattle.std.proofs.Common.{◌∙◌, arith}
use Rattle.std.proofs.lemmas.Bool.Decides.{nat_tests}
use Rattle.mm_text.specs.LineReaderInside.{form_behind, run_in}
use Rattle.mm_text.specs.declared.line.Keyword.TheVariants as keyword
use Rattle.mm_text.proofs.ReadLemmas.{judged_one, run_form, judged_refused, not_run}
use Rattle.mm_text.proofs.line_reader.read_run.Goals as goal

pub returns-in-len1 : goal.returns-in-len1
returns-in-len1 c =
    c.run_line.ensures ∙ judged_one (λ w. w.now) c.args.words.now _ (form_behind keyword.Run) run_in run_form (omega arith) (omega arith)

pub returns-in_default : goal.returns-in_default
returns-in_default c = judged_refused _ _ (not_run (λ w. w.now) c.args.words.now (λ same. grind (arith, nat_tests)))
