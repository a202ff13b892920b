use Rattle.std.proofs.Common.{◌≡◌, ◌++◌, drop}
use Rattle.mm_text.specs.Report.{register_words}
use Rattle.mm_text.proofs.entry_text.put_register_words.Given as goal

-- the text so far, with the words of the registers that are left, is the whole text
abbrev pub invariant-loop-r : goal.invariant-loop-r
invariant-loop-r l = l.page ++ register_words l.r (drop l.r l.values) ≡ l.fn.page ++ register_words 0 l.values
