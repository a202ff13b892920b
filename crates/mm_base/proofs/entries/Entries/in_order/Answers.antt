use Rattle.std.proofs.Common.{map, ap, ◌∙◌}
use Rattle.mm_base.proofs.ListLemmas.{map-reverse}
use Rattle.mm_base.proofs.entries.Entries.in_order.Goals as goal

pub returns : goal.returns
returns c =
    ap (map (λ entry. entry.now)) c.reverse.ensures.items ∙ map-reverse (λ entry. entry.now) c.loop-chain.order.items
    ∙ (rw c.in_default.is at c.loop-chain.invariant)
