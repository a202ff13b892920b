use Rattle.std.proofs.Common.{◌≡◌, ◌≤◌, ◌-◌, drop}
use Rattle.mm_core.proofs.PageLemmas.{copied}
use Rattle.mm_core.proofs.page.copy_back.Given as goal

-- the first bytes of the message are those of memory
abbrev pub invariant-loop-at : goal.invariant-loop-at
invariant-loop-at g l =
    (l.at ≤ l.count)
    × (l.buffer ≡ record l.fn.buffer { message = copied (drop l.place l.tables.live.memory) l.fn.buffer.message l.at })

abbrev pub decreases-loop-at : goal.decreases-loop-at
decreases-loop-at g l = l.count - l.at
