use Rattle.std.proofs.Common.{sym}
use Rattle.mm_text.proofs.PageLemmas.{◌▸◌, adds_nothing}
use Rattle.mm_text.specs.Report.{register_line}
use Rattle.mm_text.proofs.entry_text.put_registers.Goals as goal

pub returns-then-are_zero : goal.returns-then-are_zero
unfolding register_line
returns-then-are_zero c = rw (sym c.if-are_zero.ensures) (adds_nothing c.args.page.now)

pub returns : goal.returns
unfolding register_line
returns c =
    rw (sym c.if-are_zero.ensures) (c.in_ok-put.ensures ▸ c.in_ok-put_register_words.ensures ▸ c.in_ok-put-2.ensures)
