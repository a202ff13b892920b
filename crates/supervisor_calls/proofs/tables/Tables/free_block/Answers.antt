use Rattle.std.proofs.Common.{◌<◌, length, refl, ◌∙◌, arith}
use Rattle.supervisor_calls.proofs.HoldingSteps.{has_pool, block_is_freed, none_is_freed}
use Rattle.supervisor_calls.proofs.tables.Tables.free_block.Goals as goal

pub index_mut-requires : goal.index_mut-requires
index_mut-requires g c =
    let there : c.args.image < length c.self.inside.pools.items =
    has_pool _ c.args.self.now c.args.image c.self.view_is c.self.invariant.keeps c.requires.there in
    omega (arith, there, c.self.inside.pools.ok.0)

pub returns-then-address-base : goal.returns-then-address-base
returns-then-address-base g c =
    none_is_freed c.before.args.self.now c.before.args.self.now c.before.args.image c.before.args.base c.before.args.address refl c.if-address-base.true

pub returns : goal.returns
returns g c =
    let there = has_pool _ c.args.self.now c.args.image c.self.view_is c.self.invariant.keeps c.requires.there in
    let f = c.free.ensures in
    let freed =
    block_is_freed _ c.args.self.now c.args.image c.args.base c.args.address c.index_mut.result.now c.free.new.self c.free.result c.self.view_is there
    c.index_mut.ensures.value c.if-address-base.false (record { ok = f.ok; not_live = f.not_live; err = f.err }) in
    (c.is_ok.ensures.value ∙ freed.0, freed.1)
