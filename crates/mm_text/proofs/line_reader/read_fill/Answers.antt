use Rattle.std.proofs.Common.{sym, arith}
use Rattle.std.proofs.lemmas.Bool.Decides.{nat_tests}
use Rattle.mm_text.specs.LineReaderInside.{form_behind, fill_in}
use Rattle.mm_text.specs.declared.line.Keyword.TheVariants as keyword
use Rattle.mm_text.proofs.ReadLemmas.{judged_two, fill_form, judged_refused, not_fill, given_as}
use Rattle.mm_text.proofs.line_reader.read_fill.Goals as goal

pub returns-in-len2 : goal.returns-in-len2
returns-in-len2 c =
    given_as _ _ _
    (judged_two (λ w. w.now) c.args.words.now _ _ (form_behind keyword.Fill) fill_in fill_form (omega arith) (omega arith)) c.fill_line.ensures

pub returns-in_default : goal.returns-in_default
returns-in_default c = sym (judged_refused _ _ (not_fill (λ w. w.now) c.args.words.now (λ same. grind (arith, nat_tests))))
