use Rattle.std.proofs.Common.{◌≡◌, ◌-◌, ◌+◌, ◌*◌, ◌≤◌, ◌∙◌, refl, length, ap, arith}
use Rattle.mm_base.specs.Numbers.{overwritten}
use Rattle.supervisor_calls.specs.Loading.{with_memory}
use Rattle.driver_start.proofs.LoadLemmas.{services_before, services_step}
use Rattle.driver_start.proofs.loading.load_services.Goals as goal

pub loop-number-preserved : goal.loop-number-preserved
loop-number-preserved g c =
    let k = c.loop-number.number in
    let fits : c.args.page - 0x80000000 + 8 * (k + 1) ≤ length c.args.tables.now.live.memory =
    omega (arith, c.requires.low, c.requires.high, c.loop-number-test.true, c.keeps.ensures.tables.memory) in
    record {
      at_is = refl;
      written =
          services_step c.args.page c.args.tables.now c.loop-number.tables c.load.new.self (c.args.page - 0x80000000) k c.service_entry.result
          c.service_slot.result c.to_le_bytes-entry.result c.loop-number.invariant.written c.service_entry.ensures c.service_slot.ensures
          c.to_le_bytes-entry.ensures fits c.load.ensures;
    }

pub returns : goal.returns
returns g c =
    let twenty : c.loop-number.number ≡ 20 = omega (arith, c.loop-number-test.false, c.loop-number.auto.number-end) in
    c.loop-number.invariant.written
    ∙ ap (λ k. with_memory (overwritten c.args.tables.now.live.memory (c.args.page - 0x80000000) (services_before c.args.page k)) c.args.tables.now) twenty
