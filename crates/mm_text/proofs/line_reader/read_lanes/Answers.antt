use Rattle.std.proofs.Common.{◌∙◌, arith}
use Rattle.std.proofs.lemmas.Bool.Decides.{nat_tests}
use Rattle.mm_text.specs.LineReaderInside.{form_behind, lanes_in}
use Rattle.mm_text.specs.declared.line.Keyword.TheVariants as keyword
use Rattle.mm_text.proofs.ReadLemmas.{judged_two, lanes_form, judged_refused, not_lanes}
use Rattle.mm_text.proofs.line_reader.read_lanes.Goals as goal

pub returns-in-len2 : goal.returns-in-len2
returns-in-len2 c =
    c.lanes_line.ensures ∙ judged_two (λ w. w.now) c.args.words.now _ _ (form_behind keyword.Lanes) lanes_in lanes_form (omega arith) (omega arith)

pub returns-in_default : goal.returns-in_default
returns-in_default c = judged_refused _ _ (not_lanes (λ w. w.now) c.args.words.now (λ same. grind (arith, nat_tests)))
