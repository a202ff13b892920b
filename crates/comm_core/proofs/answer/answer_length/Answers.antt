use Rattle.std.proofs.Common.{arith}
use Rattle.comm_core.proofs.AnswerLemmas.{length-answer_dispatched}
use Rattle.comm_core.proofs.answer.answer_length.Goals as goal

pub returns-then-receipt : goal.returns-then-receipt
returns-then-receipt c = omega (arith, length-answer_dispatched c.args.receipt.now c.if-receipt.true, c.reply_words.ensures)
