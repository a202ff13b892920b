use Rattle.std.proofs.Common.{◌<◌, not, List, sym, ap, subst}
use Rattle.std.specs.List.{All}
use Rattle.mm_base.specs.declared.handler.Handler.{Handler}
use Rattle.mmi_registry.specs.Handlers.{is_of, without_image}
use Rattle.mmi_registry.proofs.RegistryLemmas.{IsRegistry-filter, IsRegistry-back}
use Rattle.mmi_registry.proofs.registry.Registry.forget.Goals as goal

pub invariant_of-self : goal.invariant_of-self
invariant_of-self c =
    let Below : List Handler → Type 0 = λ handlers. All (λ handler. handler.number < c.args.next) (without_image c.args.image handlers) in
    rw (c.remove_image.ensures.items, c.remove_image.ensures.room)
    (IsRegistry-back _ _ _ (IsRegistry-filter _ _ _ c.self.invariant (λ handler. not (is_of c.args.image handler))) c.args.next
    (subst Below (sym (ap (λ r. r.handlers) c.self.view_is)) c.requires.over))
