use Rattle.std.proofs.Common.{◌+◌, ◌∙◌, sym, ap, arith, map, Some}
use Rattle.std.specs.List.{slice_get}
use Rattle.mm_base.specs.Numbers.{word_in}
use Rattle.comm_core.specs.Piece.{answer, store}
use Rattle.comm_core.specs.declared.action.Action.TheVariants.{Store}
use Rattle.comm_core.proofs.AnswerLemmas.{length-answer_dispatched, answer-word, answer-length, answer-status}
use Rattle.comm_core.proofs.answer.answer_at.Goals as goal

pub returns-then-n-words : goal.returns-then-n-words
returns-then-n-words c =
    let r = c.args.receipt.now in
    answer-word r c.args.n c.if-not-receipt.false (omega (arith, c.reply_words-words.ensures))
    ∙ ap (λ v. Some (Store (2 + c.args.n) v)) (ap (λ bytes. word_in bytes c.args.n) (sym c.as_slice.ensures) ∙ sym c.word_at-value.ensures)

pub returns-then-n-words-2 : goal.returns-then-n-words-2
returns-then-n-words-2 c =
    let r = c.args.receipt.now in
    ap (slice_get (map store (answer r))) (c.if-n-words-2.true ∙ c.reply_words-words.ensures)
    ∙ answer-length r c.if-not-receipt.false ∙ ap (λ n. Some (Store 0 n)) (sym c.len.ensures)

pub returns : goal.returns
returns c =
    let r = c.args.receipt.now in
    answer-status r c.args.n
    (omega (arith, length-answer_dispatched r c.if-not-receipt.false, c.reply_words-words.ensures, c.requires.there))
