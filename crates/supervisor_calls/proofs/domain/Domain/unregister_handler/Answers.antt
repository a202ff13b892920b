use Rattle.std.proofs.Common.{◌<◌, ap, sym, subst, arith}
use Rattle.supervisor_calls.specs.Domains.{DomainState}
use Rattle.supervisor_calls.proofs.ListingLemmas.{AreBelow, unknown_handle}
use Rattle.supervisor_calls.proofs.domain.Domain.unregister_handler.Goals as goal

pub returns-then-handle-next_number : goal.returns-then-handle-next_number
returns-then-handle-next_number g c =
    let handle = c.args.handle in
    let next = c.next_number.ensures.value in
    let over : c.self.inside.tables.registry.next < handle = omega (arith, c.if-handle-next_number.true, next) in
    let P : DomainState → Type 0 = λ domain. AreBelow domain.tables.registry.next domain.tables.registry.handlers in
    let Q : DomainState → Type 0 = λ domain. domain.tables.registry.next < handle in
    let below = subst P c.self.view_is c.next_number.ensures.numbered.below in
    let is = unknown_handle c.args.self.now.image handle c.args.self.now (subst Q c.self.view_is over) below in
    (ap (λ p. p.0) (sym is), ap (λ p. p.1) (sym is))
