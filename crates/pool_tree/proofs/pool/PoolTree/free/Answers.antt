use Rattle.std.proofs.Common.{rules, ◌≡◌, length}
use Rattle.std.proofs.lemmas.List.{with_items_is}
use Rattle.pool_tree.proofs.ArenaLemmas.{pool_frees, frees-ok, frees-not_live, frees-err}
use Rattle.pool_tree.proofs.pool.PoolTree.free.Goals as goal

pub returns : goal.returns
returns c =
    let long : length c.give.new.nodes ≡ c.self.inside.nodes.len = search rules in
    let frees = pool_frees c.self.inside.nodes.items c.as_mut_slice.result.now c.give.new.nodes _ c.args.self.now
    c.as_mut_slice.ensures.value (with_items_is c.self.inside.nodes c.give.new.nodes long) c.self.view_is
    c.args.place c.give.result c.give.ensures.frees in
    record {
      ok = frees-ok c.args.place _ _ c.give.result frees;
      not_live = frees-not_live c.args.place _ _ c.give.result frees;
      err = frees-err c.args.place _ _ c.give.result frees;
    }
