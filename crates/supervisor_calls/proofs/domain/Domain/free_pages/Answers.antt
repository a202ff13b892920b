use Rattle.std.proofs.Common.{◌≡◌, ℕ, ◌≤◌, ◌∙◌, Bool, if◌then◌else◌, Result, sym, ap, arith}
use Rattle.mm_base.specs.Statuses.{success, not_found}
use Rattle.mm_base.specs.declared.bus.Served.{Served}
use Rattle.mm_base.specs.declared.bus.Served.TheVariants.{Status}
use Rattle.supervisor_calls.specs.ServicesInside.{spoken}
use Rattle.supervisor_calls.proofs.ReleaseLemmas.{pages_are_released}
use Rattle.supervisor_calls.proofs.domain.Domain.free_pages.Goals as goal
use Rattle.supervisor_calls.proofs.domain.Domain.free_pages.Goals.{then-give_run, else-give_run}

pub returns : goal.returns
returns g c =
    let some : 1 ≤ c.args.pages = omega arith in
    let released =
    pages_are_released _ c.args.self.now c.self.view_is c.keeps.ensures.tables c.keeps.ensures.placed c.self.invariant c.region.result
    c.reserve-base.result c.args.address c.args.pages c.region.ensures.value c.reserve-base.ensures some c.if-address-ne0.false
    c.give_run.result c.give_run.new.self c.give_run.ensures in
    let status = λ (b : Bool). Status (if b then success else not_found) in
    let told : spoken c.if-give_run.result ≡ status c.give_run.result = elim c.if-give_run.branch [
      | then-give_run w ↦ ap (λ (r : Result ℕ Served). spoken r) w.result-is ∙ sym (ap status w.if-give_run.true)
      | else-give_run w ↦ ap (λ (r : Result ℕ Served). spoken r) w.result-is ∙ sym (ap status w.if-give_run.false)
    ] in
    (told ∙ released.0, released.1)
