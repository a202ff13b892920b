use Rattle.supervisor_calls.proofs.LockLemmas.{still_locked}
use Rattle.supervisor_calls.proofs.locked_domain.LockedDomainBus.service.Goals as goal

pub invariant_of-self : goal.invariant_of-self
invariant_of-self g c =
    still_locked c.args.number c.args.stack c.self.inside.domain c.call.new.self c.call.result
    c.self.invariant c.call.ensures.answer c.call.ensures.memory
