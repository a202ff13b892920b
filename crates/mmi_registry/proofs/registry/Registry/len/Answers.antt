use Rattle.std.proofs.Common.{◌≤◌, List, length, ap, subst}
use Rattle.mm_base.specs.declared.handler.Handler.{Handler}
use Rattle.mmi_registry.proofs.RoomLemmas.{length-room}
use Rattle.mmi_registry.proofs.registry.Registry.len.Goals as goal

pub returns-clause-most : goal.returns-clause-most
returns-clause-most c =
    let Few : List Handler → Type 0 = λ handlers. length handlers ≤ 321 in
    subst Few (ap (λ r. r.handlers) c.self.view_is) (length-room c.self.inside.handlers.items c.self.invariant.few)
