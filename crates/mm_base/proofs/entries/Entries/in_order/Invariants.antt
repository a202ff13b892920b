use Rattle.std.proofs.Common.{◌≡◌, ◌++◌, map, reverse}
use Rattle.mm_base.specs.Chain.{entries_of}
use Rattle.mm_base.proofs.entries.Entries.in_order.Given as goal

-- the entries that are left, and those that were met, turned round, are all
abbrev pub invariant-loop-chain : goal.invariant-loop-chain
invariant-loop-chain l = entries_of l.chain ++ reverse (map (λ entry. entry.now) l.order.items) ≡ l.self
