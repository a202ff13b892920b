use Rattle.std.proofs.Common.{◌∙◌, arith}
use Rattle.std.proofs.lemmas.Bool.Decides.{nat_tests}
use Rattle.mm_text.specs.LineReaderInside.{form_behind, handler_in}
use Rattle.mm_text.specs.declared.line.Keyword.TheVariants as keyword
use Rattle.mm_text.proofs.ReadLemmas.{judged_two, handler_form, judged_refused, not_handler}
use Rattle.mm_text.proofs.line_reader.read_handler.Goals as goal

pub returns-in-len2 : goal.returns-in-len2
returns-in-len2 c =
    c.handler_line.ensures ∙ judged_two (λ w. w.now) c.args.words.now _ _ (form_behind keyword.Handler) handler_in handler_form (omega arith) (omega arith)

pub returns-in_default : goal.returns-in_default
returns-in_default c = judged_refused _ _ (not_handler (λ w. w.now) c.args.words.now (λ same. grind (arith, nat_tests)))
