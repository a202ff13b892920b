use Rattle.std.proofs.Common.{◌<◌, length, sym, ◌∙◌, arith}
use Rattle.std.proofs.lemmas.Result.{on_ok_weaker}
use Rattle.std.proofs.lemmas.Bool.Decides.{nat_tests}
use Rattle.mm_text.proofs.PageLemmas.{as_known, words-digits, bytes_text-words}
use Rattle.mm_text.proofs.report_text.put_words.Goals as goal

pub returns-else-is_empty : goal.returns-else-is_empty
returns-else-is_empty c =
    let some : 0 < length c.args.words.now = grind (arith, nat_tests) in
    on_ok_weaker _ (λ adds. as_known _ adds (sym (words-digits _) ∙ sym (bytes_text-words _ some))) c.put_each_word.ensures
