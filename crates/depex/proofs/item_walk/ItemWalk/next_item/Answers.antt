use Rattle.depex.proofs.WalkLemmas.{near_more}
use Rattle.depex.proofs.item_walk.ItemWalk.next_item.Goals as goal

pub invariant_of-self : goal.invariant_of-self
invariant_of-self c =
    near_more c.self.inside.bytes.now c.self.inside.at c.self.inside.operands c.in-Next.item c.takes.result c.len.result
    c.self.invariant c.in-Next.ensures c.takes.ensures c.len.ensures
