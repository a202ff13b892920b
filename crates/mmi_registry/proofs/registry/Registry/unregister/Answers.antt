use Rattle.std.proofs.Common.{◌≡◌, ◌+◌, ◌==◌, not, true, Some, List, length, sym, ap, ◌∙◌}
use Rattle.mm_base.specs.declared.handler.Handler.{Handler}
use Rattle.mmi_registry.specs.Handlers.{is_of, handler_at, without_image}
use Rattle.mmi_registry.proofs.RegistryLemmas.{IsRegistry-filter}
use Rattle.mmi_registry.proofs.NumberLemmas.{without_number-alone, without_image-without_number}
use Rattle.mmi_registry.proofs.registry.Registry.unregister.Goals as goal

pub invariant_of-self : goal.invariant_of-self
invariant_of-self c =
    rw (c.remove_number.ensures.items, c.remove_number.ensures.room)
    (IsRegistry-filter _ _ _ c.self.invariant (λ handler. not (handler.number == c.args.number)))

pub returns-in-Some-clause-alone : goal.returns-in-Some-clause-alone
returns-in-Some-clause-alone c =
    let items : List Handler = c.self.inside.handlers.items in
    let found : handler_at c.args.number items ≡ Some c.in-Some.handler =
    ap (handler_at c.args.number) (sym c.deref.ensures.value) ∙ sym c.find_number.ensures ∙ c.in-Some.is in
    ap (λ r. length r.handlers) (sym c.self.view_is)
    ∙ without_number-alone c.args.number c.in-Some.handler items c.self.inside.next c.self.invariant.numbered found
    ∙ ap (λ left. length left + 1) (sym c.remove_number.ensures.items)

pub returns-in-Some-clause-others : goal.returns-in-Some-clause-others
returns-in-Some-clause-others c =
    let items : List Handler = c.self.inside.handlers.items in
    let found : handler_at c.args.number items ≡ Some c.in-Some.handler =
    ap (handler_at c.args.number) (sym c.deref.ensures.value) ∙ sym c.find_number.ensures ∙ c.in-Some.is in
    let mine : is_of c.args.image c.in-Some.handler ≡ true = sym c.is_owned.ensures ∙ c.if-is_owned.true in
    ap (without_image c.args.image) c.remove_number.ensures.items
    ∙ without_image-without_number c.args.image c.args.number c.in-Some.handler mine items c.self.invariant.numbered.rising found
    ∙ ap (λ r. without_image c.args.image r.handlers) c.self.view_is
