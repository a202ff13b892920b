use Rattle.std.proofs.Common.{rules, ◌≡◌, length}
use Rattle.std.proofs.lemmas.List.{with_items_is}
use Rattle.pool_tree.specs.TreeInside.{part_bytes}
use Rattle.pool_tree.proofs.ArenaLemmas.{pool_gives, gives-lowest, gives-joins, gives-none, gives-unchanged}
use Rattle.pool_tree.proofs.pool.PoolTree.alloc.Goals as goal

pub returns : goal.returns
returns c =
    let long : length c.take.new.nodes ≡ c.self.inside.nodes.len = search rules in
    let gives = pool_gives c.self.inside.nodes.items c.as_mut_slice.result.now c.take.new.nodes _ c.args.self.now
    c.as_mut_slice.ensures.value (with_items_is c.self.inside.nodes c.take.new.nodes long) c.self.view_is
    (part_bytes c.level_for-wanted.result) c.take.result c.take.ensures.gives in
    let is_size = c.level_for-wanted.ensures.size in
    record {
      lowest = gives-lowest _ _ c.args.n (part_bytes c.level_for-wanted.result) is_size c.take.result gives;
      joins = gives-joins _ _ c.args.n (part_bytes c.level_for-wanted.result) is_size c.take.result gives;
      none = gives-none _ _ c.args.n (part_bytes c.level_for-wanted.result) is_size c.take.result gives;
      unchanged = gives-unchanged _ _ c.args.n (part_bytes c.level_for-wanted.result) is_size c.take.result gives;
    }
