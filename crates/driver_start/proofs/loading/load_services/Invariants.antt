use Rattle.std.proofs.Common.{◌≡◌, ◌-◌}
use Rattle.mm_base.specs.Numbers.{overwritten}
use Rattle.supervisor_calls.specs.Loading.{with_memory}
use Rattle.driver_start.proofs.LoadLemmas.{services_before}
use Rattle.driver_start.proofs.loading.load_services.Given as goal

abbrev pub invariant-loop-number : goal.invariant-loop-number
invariant-loop-number g l = record {
  at_is : l.at ≡ l.fn.page - 0x80000000;
  written : l.tables ≡ with_memory (overwritten l.fn.tables.live.memory (l.fn.page - 0x80000000) (services_before l.fn.page l.number)) l.fn.tables;
}
