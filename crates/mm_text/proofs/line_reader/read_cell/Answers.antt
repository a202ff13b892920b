use Rattle.std.proofs.Common.{◌∙◌, arith}
use Rattle.std.proofs.lemmas.Bool.Decides.{nat_tests}
use Rattle.mm_text.proofs.ReadLemmas.{judged_cell, judged_refused, not_cell}
use Rattle.mm_text.proofs.line_reader.read_cell.Goals as goal

pub returns-in-len3 : goal.returns-in-len3
returns-in-len3 c = c.cell_line.ensures ∙ judged_cell (λ w. w.now) c.args.words.now _ _ _ (omega arith) (omega arith)

pub returns-in_default : goal.returns-in_default
returns-in_default c = judged_refused _ _ (not_cell (λ w. w.now) c.args.words.now (λ same. grind (arith, nat_tests)))
