use Rattle.std.proofs.Common.{◌∙◌, arith}
use Rattle.std.proofs.lemmas.Bool.Decides.{nat_tests}
use Rattle.mm_text.specs.LineReaderInside.{form_behind, poke_in}
use Rattle.mm_text.specs.declared.line.Keyword.TheVariants as keyword
use Rattle.mm_text.proofs.ReadLemmas.{judged_three, poke_form, judged_refused, not_poke}
use Rattle.mm_text.proofs.line_reader.read_poke.Goals as goal

pub returns-in-len3 : goal.returns-in-len3
returns-in-len3 c =
    c.poke_line.ensures ∙ judged_three (λ w. w.now) c.args.words.now _ _ _ (form_behind keyword.Poke) poke_in poke_form (omega arith) (omega arith)

pub returns-in_default : goal.returns-in_default
returns-in_default c = judged_refused _ _ (not_poke (λ w. w.now) c.args.words.now (λ same. grind (arith, nat_tests)))
