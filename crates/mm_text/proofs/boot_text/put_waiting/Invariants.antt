use Rattle.std.proofs.Common.{◌≡◌, ◌++◌, drop}
use Rattle.mm_text.specs.BootLines.{waiting_lines}
use Rattle.mm_text.proofs.boot_text.put_waiting.Given as goal

-- the text so far, with the lines of the drivers that are left, is the whole text
abbrev pub invariant-loop-name : goal.invariant-loop-name
invariant-loop-name l = l.page ++ waiting_lines (drop l.name-index l.names) ≡ l.fn.page ++ waiting_lines l.names
