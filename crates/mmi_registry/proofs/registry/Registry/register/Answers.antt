use Rattle.std.proofs.Common.{◌<◌, length, sym, ap, ◌∙◌, arith}
use Rattle.mm_base.specs.declared.handler.Handler.{Handler}
use Rattle.mmi_registry.proofs.RegistryLemmas.{IsRegistry-push, place_for}
use Rattle.mmi_registry.proofs.registry.Registry.register.Goals as goal

pub push_reserved-requires : goal.push_reserved-requires
push_reserved-requires c =
    let handler : Handler = record { number = c.self.inside.next; guid = c.args.guid; body = c.args.body } in
    let place : length c.self.inside.handlers.items < c.self.inside.handlers.cap =
    place_for c.self.inside.handlers.items handler _ _
    (IsRegistry-push _ _ _ c.deref.ensures.value (ap (λ r. r.handlers) c.self.view_is) handler _ c.self.invariant
    c.requires.admissible (sym c.has_used_quota.ensures ∙ c.if-has_used_quota.false) c.requires.room) in
    omega (arith, c.deref.ensures.len, ap length c.deref.ensures.value)

pub invariant_of-self : goal.invariant_of-self
invariant_of-self c =
    let handler : Handler = record { number = c.self.inside.next; guid = c.args.guid; body = c.args.body } in
    rw (c.push_reserved.ensures.items, c.push_reserved.ensures.capacity)
    (IsRegistry-push _ _ _ c.deref.ensures.value (ap (λ r. r.handlers) c.self.view_is) handler _ c.self.invariant
    c.requires.admissible (sym c.has_used_quota.ensures ∙ c.if-has_used_quota.false) c.requires.room)
