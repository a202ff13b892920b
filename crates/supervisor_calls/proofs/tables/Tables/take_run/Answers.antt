use Rattle.std.proofs.Common.{◌≡◌, ◌<◌, ◌∙◌, List, Bool, length, refl, ap, arith}
use Rattle.supervisor_calls.proofs.HoldingSteps.{has_reserve, run_is_taken, none_is_taken, takes_as_long, reserve_keeps}
use Rattle.supervisor_calls.proofs.tables.Tables.take_run.Goals as goal

pub index_mut-requires : goal.index_mut-requires
index_mut-requires g c =
    let there : c.args.image < length c.self.inside.reserves.items =
    has_reserve _ c.args.self.now c.args.image c.self.view_is c.self.invariant.keeps c.requires.there in
    omega (arith, there, c.self.inside.reserves.ok.0)

pub returns-then-pages : goal.returns-then-pages
returns-then-pages g c =
    let keeps = c.keeps.ensures.tables in
    let there : c.args.image < length c.args.self.now.live.reserves = omega (arith, keeps.reserves, c.requires.there) in
    none_is_taken c.args.self.now c.args.self.now c.args.image c.args.pages refl there keeps.sixteen c.if-pages.true

pub invariant_of-self : goal.invariant_of-self
invariant_of-self g c =
    let there = has_reserve _ c.args.self.now c.args.image c.self.view_is c.self.invariant.keeps c.requires.there in
    let e = c.take.ensures in
    let as_long : length c.take.new.self ≡ length c.index_mut.result.now =
    takes_as_long c.args.pages c.index_mut.result.now c.take.new.self c.take.result
    (record { lowest = e.lowest; taken = e.taken; none = e.none; unchanged = e.unchanged }) in
    let long : length c.index_mut.result.now ≡ 16 =
    ap (λ (r : List Bool). length r) c.index_mut.ensures.value ∙ c.self.invariant.keeps.sixteen c.args.image c.index_mut.result.now there in
    record {
      pools = c.self.invariant.pools;
      reserves = c.self.invariant.reserves;
      keeps = reserve_keeps _ c.args.image c.take.new.self c.self.invariant.keeps (as_long ∙ long);
    }

pub returns : goal.returns
returns g c =
    let there = has_reserve _ c.args.self.now c.args.image c.self.view_is c.self.invariant.keeps c.requires.there in
    let e = c.take.ensures in
    run_is_taken _ c.args.self.now c.args.image c.args.pages c.index_mut.result.now c.take.new.self c.take.result c.self.view_is there
    c.index_mut.ensures.value c.requires.some (record { lowest = e.lowest; taken = e.taken; none = e.none; unchanged = e.unchanged })
