use Rattle.std.proofs.Common.{◌<◌, length, arith}
use Rattle.supervisor_calls.proofs.HoldingSteps.{has_pool, block_is_taken}
use Rattle.supervisor_calls.proofs.tables.Tables.take_block.Goals as goal

pub index_mut-requires : goal.index_mut-requires
index_mut-requires g c =
    let there : c.args.image < length c.self.inside.pools.items =
    has_pool _ c.args.self.now c.args.image c.self.view_is c.self.invariant.keeps c.requires.there in
    omega (arith, there, c.self.inside.pools.ok.0)

pub returns : goal.returns
returns g c =
    let there = has_pool _ c.args.self.now c.args.image c.self.view_is c.self.invariant.keeps c.requires.there in
    let a = c.alloc.ensures in
    block_is_taken _ c.args.self.now c.args.image c.args.n c.index_mut.result.now c.alloc.new.self c.alloc.result c.self.view_is there
    c.index_mut.ensures.value (record { lowest = a.lowest; joins = a.joins; none = a.none; unchanged = a.unchanged })
