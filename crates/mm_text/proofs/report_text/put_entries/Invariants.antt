use Rattle.std.proofs.Common.{◌≡◌, ◌++◌, drop, map}
use Rattle.mm_text.specs.Report.{entries_lines}
use Rattle.mm_text.proofs.report_text.put_entries.Given as goal

-- the text so far, with the lines of the entries that are left, is the whole text
abbrev pub invariant-loop-k : goal.invariant-loop-k
invariant-loop-k l =
    l.page ++ entries_lines l.k (drop l.k (map (λ entry. entry.now) l.entries))
    ≡ l.fn.page ++ entries_lines 0 (map (λ entry. entry.now) l.entries)
