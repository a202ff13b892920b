use Rattle.std.proofs.Common.{◌≡◌, ◌++◌, drop}
use Rattle.std.specs.List.{flat_map}
use Rattle.mm_text.specs.BootLines.{start_lines}
use Rattle.mm_text.proofs.boot_text.put_starts.Given as goal

-- the text so far, with the lines of the starts that are left, is the whole text
abbrev pub invariant-loop-start : goal.invariant-loop-start
invariant-loop-start l = l.page ++ flat_map start_lines (drop l.start-index l.starts) ≡ l.fn.page ++ flat_map start_lines l.starts
